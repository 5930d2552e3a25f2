-- Values that are nodes, and those that aren't.
use Rattle.std.proofs.Common.{◌≡◌, ap, subst, refl, arith, ℕ, zero, suc, ◌-◌, ◌==◌, Bool, true, false, List, [], ◌∷◌, Result, Err, Option, Some, None}
use Rattle.std.specs.Prelude.{slice_get}
use Rattle.std.specs.List.{list_any}
use Rattle.kishu_meaning.specs.moments.Counting.{Count}
use Rattle.kishu_meaning.specs.comparing.Equal.{node_in}
use Rattle.kishu_meaning.specs.values.Values.{Value, none, bool, integer, text, range, builtin, class, node, Node}
use Rattle.kishu_meaning.specs.comparing.Show.{again, contents_repr, made, repr_at, repr_by, repr_nodes, repr_text, show_at, show_by, show_nodes, exception_text}
use Rattle.kishu_show.specs.declared.draft.Draft.{Draft}
use Rattle.kishu_show.specs.declared.fault.ShowFault.{ShowFault}
use Rattle.kishu_show.specs.declared.fault.ShowFault.TheVariants as faults
use Rattle.kishu_show.specs.Shown.{Makes, onto}

pub plain_repr : (nodes : ℕ → Count (List ℕ)) (v : Value) → None ≡ node_in v → made (repr_text v) ≡ repr_by nodes v
plain_repr nodes none h = refl
plain_repr nodes (bool b) h = refl
plain_repr nodes (integer z) h = refl
plain_repr nodes (text cs) h = refl
plain_repr nodes (range a b c) h = refl
plain_repr nodes (builtin n) h = refl
plain_repr nodes (class n) h = refl
plain_repr nodes (node i) h = absurd cc

pub node_repr : (nodes : ℕ → Count (List ℕ)) (v : Value) (i : ℕ) → Some i ≡ node_in v → nodes i ≡ repr_by nodes v
node_repr nodes none i h = absurd cc
node_repr nodes (bool b) i h = absurd cc
node_repr nodes (integer z) i h = absurd cc
node_repr nodes (text cs) i h = absurd cc
node_repr nodes (range a b c) i h = absurd cc
node_repr nodes (builtin n) i h = absurd cc
node_repr nodes (class n) i h = absurd cc
node_repr nodes (node j) i h = let e : i ≡ j = cc in ap nodes e

pub plain_show : (nodes others : ℕ → Count (List ℕ)) (v : Value) → None ≡ node_in v → show_by others v ≡ show_by nodes v
plain_show nodes others none h = refl
plain_show nodes others (bool b) h = refl
plain_show nodes others (integer z) h = refl
plain_show nodes others (text cs) h = refl
plain_show nodes others (range a b c) h = refl
plain_show nodes others (builtin n) h = refl
plain_show nodes others (class n) h = refl
plain_show nodes others (node i) h = absurd cc

pub node_show : (nodes : ℕ → Count (List ℕ)) (v : Value) (i : ℕ) → Some i ≡ node_in v → nodes i ≡ show_by nodes v
node_show nodes none i h = absurd cc
node_show nodes (bool b) i h = absurd cc
node_show nodes (integer z) i h = absurd cc
node_show nodes (text cs) i h = absurd cc
node_show nodes (range a b c) i h = absurd cc
node_show nodes (builtin n) i h = absurd cc
node_show nodes (class n) i h = absurd cc
node_show nodes (node j) i h = let e : i ≡ j = cc in ap nodes e

-- ---- a node, where there is room for one

pub within : (ns : List Node) (r : Result (Unit {0}) ShowFault) (d e : Draft) (room : ℕ) (v : Value) (i : ℕ) (around : List ℕ) → Some i ≡ node_in v → (room ≡ 0 → ⊥)
    → Makes r e (onto d (repr_at (repr_nodes ns (room - 1) (i ∷ around)) (list_any (λ j. i == j) around) (slice_get ns i))) → Makes r e (onto d (repr_by (repr_nodes ns room around) v))
within ns r d e zero v i around is some h = absurd (some refl)
within ns r d e (suc room) v i around is some h =
    let q : suc room - 1 ≡ room = omega arith in
    subst (λ m. Makes r e (onto d m)) (node_repr (repr_nodes ns (suc room) around) v i is) (rw q at h)

pub too_deep : (ns : List Node) (d : Draft) (v : Value) (i : ℕ) (around : List ℕ) → Some i ≡ node_in v → Makes (Err faults.Depth) d (onto d (repr_by (repr_nodes ns 0 around) v))
too_deep ns d v i around is = subst (λ m. Makes (Err faults.Depth) d (onto d m)) (node_repr (repr_nodes ns 0 around) v i is) refl

pub within_show : (ns : List Node) (r : Result (Unit {0}) ShowFault) (d e : Draft) (room : ℕ) (v : Value) (i : ℕ) → Some i ≡ node_in v → (room ≡ 0 → ⊥)
    → Makes r e (onto d (show_at (exception_text (repr_nodes ns (room - 1) []) (show_nodes ns (room - 1))) (repr_at (repr_nodes ns (room - 1) (i ∷ [])) false (slice_get ns i)) (slice_get ns i))) → Makes r e (onto d (show_by (show_nodes ns room) v))
within_show ns r d e zero v i is some h = absurd (some refl)
within_show ns r d e (suc room) v i is some h =
    let q : suc room - 1 ≡ room = omega arith in
    subst (λ m. Makes r e (onto d m)) (node_show (show_nodes ns (suc room)) v i is) (rw q at h)

pub too_deep_show : (ns : List Node) (d : Draft) (v : Value) (i : ℕ) → Some i ≡ node_in v → Makes (Err faults.Depth) d (onto d (show_by (show_nodes ns 0) v))
too_deep_show ns d v i is = subst (λ m. Makes (Err faults.Depth) d (onto d m)) (node_show (show_nodes ns 0) v i is) refl

-- ---- a node that is there

pub shown_again : (nodes : ℕ → Count (List ℕ)) (r : Result (Unit {0}) ShowFault) (d e : Draft) (n : Node) (b : Bool) (o : Option Node) → Some n ≡ o → b ≡ true → Makes r e (onto d (made (again n))) → Makes r e (onto d (repr_at nodes b o))
shown_again nodes r d e n true (Some m) h k g = let q : n ≡ m = cc in subst (λ x. Makes r e (onto d (made (again x)))) q g
shown_again nodes r d e n false (Some m) h k g = absurd cc
shown_again nodes r d e n b None h k g = absurd cc

pub shown_inside : (nodes : ℕ → Count (List ℕ)) (r : Result (Unit {0}) ShowFault) (d e : Draft) (n : Node) (b : Bool) (o : Option Node) → Some n ≡ o → b ≡ false → Makes r e (onto d (contents_repr nodes n)) → Makes r e (onto d (repr_at nodes b o))
shown_inside nodes r d e n false (Some m) h k g = let q : n ≡ m = cc in subst (λ x. Makes r e (onto d (contents_repr nodes x))) q g
shown_inside nodes r d e n true (Some m) h k g = absurd cc
shown_inside nodes r d e n b None h k g = absurd cc
