-- Why what was reached has to lead nowhere else: a step that a weaker statement of locality would allow.
use Rattle.std.specs.Prelude.{◌≡◌, ◌⊎◌, ◌<◌, ℕ, zero, suc, [], ◌∷◌, length, codes, List, refl, slice_get, Option, Some, None, option_and_then}
use Rattle.std.proofs.Common.{arith, subst, inl, inr}
use Rattle.kishu_meaning.specs.values.Values.{Value, node, list, State, find}
use Rattle.kishu_objects.specs.Lists.{In}
use Rattle.kishu_objects.specs.Locality.{Reached, Leaves, LeavesAlone}
use Rattle.kishu_objects.specs.Shape.{node_at, child, reached}
use Rattle.kishu_objects.specs.Picture.{order, leads, picture}
use Rattle.kishu_objects.specs.Groups.{groups_of}
use Rattle.kishu_history.specs.Changed.{changed}
use Rattle.kishu_history.specs.Touched.{classes, stored_among}

abbrev x : List ℕ
x = codes "x"

abbrev y : List ℕ
y = codes "y"

abbrev z : List ℕ
z = codes "z"

-- L = []; x = [L]; y = L; z = []
abbrev before : State
before = record { names = (x, node 0) ∷ (y, node 1) ∷ (z, node 2) ∷ []; nodes = list (node 1 ∷ []) ∷ list [] ∷ list [] ∷ [] }

-- Afterwards x is [], and L holds z. No cell that accesses x alone does this, since it can't come to z.
abbrev behind : State
behind = record { names = (x, node 0) ∷ (y, node 1) ∷ (z, node 2) ∷ []; nodes = list [] ∷ list (node 2 ∷ []) ∷ list [] ∷ [] }

-- Yet the other names keep their values, the one node that x didn't reach stays, and x doesn't reach it afterwards.
other_names_stay : find y before.names ∷ find z before.names ∷ [] ≡ find y behind.names ∷ find z behind.names ∷ []
other_names_stay = refl

x_reached : order before (x ∷ []) ≡ 0 ∷ 1 ∷ []
x_reached = refl

z_stays : node_at before.nodes 2 ≡ node_at behind.nodes 2
z_stays = refl

x_reaches : order behind (x ∷ []) ≡ 0 ∷ []
x_reaches = refl

-- What x had reached leads out of what it had reached:
leads_out : leads behind.nodes 1 ≡ 2 ∷ []
leads_out = refl

-- so the classes of the touched names are no groups, and what changed isn't told among them.
groups_before : groups_of before ≡ (x ∷ y ∷ []) ∷ (z ∷ []) ∷ []
groups_before = refl

groups_behind : groups_of behind ≡ (x ∷ []) ∷ (y ∷ z ∷ []) ∷ []
groups_behind = refl

classes_behind : classes (groups_of before) (x ∷ []) behind ≡ (x ∷ []) ∷ (y ∷ []) ∷ []
classes_behind = refl

changed_behind : changed behind before ≡ (x ∷ []) ∷ (y ∷ z ∷ []) ∷ []
changed_behind = refl

told_behind : stored_among (groups_of before) (picture before) (x ∷ []) behind ≡ (x ∷ []) ∷ (y ∷ []) ∷ []
told_behind = refl

-- ---- both statements of this step

-- nothing, or one of the nodes 0 and 1
abbrev Low : Option Value → Type 0
Low v = (v ≡ None) ⊎ ((v ≡ Some (node 0)) ⊎ (v ≡ Some (node 1)))

low_child : (c : ℕ) (v : Option Value) → Low v → Low (option_and_then (child before.nodes c) v)
low_child c v (inl e) = rw e (inl refl)
low_child zero v (inr (inl e)) = rw e (inr (inr refl))
low_child (suc c) v (inr (inl e)) = rw e (inl refl)
low_child c v (inr (inr e)) = rw e (inl refl)

-- Before, x reaches the nodes 0 and 1 alone.
low_before : (path : List ℕ) → Low (reached before x path)
low_before [] = inr (inl refl)
low_before (c ∷ path) = low_child c (reached before x path) (low_before path)

not_low : (i : ℕ) → Low (Some (node (suc (suc i)))) → ⊥
not_low i (inl e) = absurd (cc)
not_low i (inr (inl e)) = absurd (let f : suc (suc i) ≡ 0 = cc in omega (arith, f))
not_low i (inr (inr e)) = absurd (let f : suc (suc i) ≡ 1 = cc in omega (arith, f))

-- Afterwards it reaches the node 0 alone.
abbrev Lowest : Option Value → Type 0
Lowest v = (v ≡ None) ⊎ (v ≡ Some (node 0))

lowest_child : (c : ℕ) (v : Option Value) → Lowest v → Lowest (option_and_then (child behind.nodes c) v)
lowest_child c v (inl e) = rw e (inl refl)
lowest_child c v (inr e) = rw e (inl refl)

lowest_behind : (path : List ℕ) → Lowest (reached behind x path)
lowest_behind [] = inr refl
lowest_behind (c ∷ path) = lowest_child c (reached behind x path) (lowest_behind path)

not_lowest : (i : ℕ) → Lowest (Some (node (suc i))) → ⊥
not_lowest i (inl e) = absurd (cc)
not_lowest i (inr e) = absurd (let f : suc i ≡ 0 = cc in omega (arith, f))

one_name : (y : List ℕ) → In y (x ∷ []) → y ≡ x
one_name y (inl e) = e
one_name y (inr m) = absurd m

reached_zero : Reached (x ∷ []) before 0
reached_zero = (x, inl refl, ([], refl))

reached_one : Reached (x ∷ []) before 1
reached_one = (x, inl refl, (0 ∷ [], refl))

old_nodes : (i : ℕ) → i < length before.nodes → (Reached (x ∷ []) before i → ⊥) → slice_get before.nodes i ≡ slice_get behind.nodes i
old_nodes zero l n = absurd (n reached_zero)
old_nodes (suc zero) l n = absurd (n reached_one)
old_nodes (suc (suc zero)) l n = refl
old_nodes (suc (suc (suc i))) l n = absurd (omega arith)

apart_behind : (i : ℕ) → i < length before.nodes → (Reached (x ∷ []) before i → ⊥) → Reached (x ∷ []) behind i → ⊥
apart_behind zero l n r = n reached_zero
apart_behind (suc i) l n r = not_lowest i (subst (λ v. Lowest v) (subst (λ y. reached behind y r.2.0 ≡ Some (node (suc i))) (one_name r.0 r.1) r.2.1) (lowest_behind r.2.0))

-- Seen from outside alone the step is allowed,
allowed_from_outside : LeavesAlone (x ∷ []) before behind
allowed_from_outside = record { names = λ y n. refl; nodes = old_nodes; apart = apart_behind }

two_unreached : Reached (x ∷ []) before 2 → ⊥
two_unreached r = not_low 0 (subst (λ v. Low v) (subst (λ y. reached before y r.2.0 ≡ Some (node 2)) (one_name r.0 r.1) r.2.1) (low_before r.2.0))

-- and what holds of runs refuses it.
refused : Leaves (x ∷ []) before behind → ⊥
refused leaves = elim (leaves.goes_on 1 2 (inr reached_one) (inl refl)) [ inl l ↦ absurd (omega (arith, l)) | inr r ↦ two_unreached r ]
