-- A walk that notes what it meets, node after node, comes to the order.
use Rattle.std.specs.Prelude.{◌≡◌, ℕ, zero, suc, ◌<◌, ◌≤◌, nat_eq, true, false, if◌then◌else◌, List, [], ◌∷◌, ◌++◌, length, flat_map, take, drop, slice_get, Some}
use Rattle.std.specs.List.{list_any}
use Rattle.std.proofs.Common.{refl, ap, sym, ◌∙◌, subst, arith, inl, inr, append_assoc, append-nil}
use Rattle.std.proofs.lemmas.Bool.{cases_Bool}
use Rattle.std.proofs.lemmas.List.{take_all, take-append-le, take-append-drop}
use Rattle.kishu_meaning.specs.values.Values.{Node, Names, State}
use Rattle.kishu_objects.specs.Lists.{In}
use Rattle.kishu_objects.specs.Picture.{firsts, leads, roots, met, order}
use Rattle.kishu_objects.specs.Sound.{IsSound}
use Rattle.kishu_objects_laws.specs.ListLaws.{Begins, begins_both, same_or_not, flat_append, few, firsts_in, in_firsts, in_left, in_at}
use Rattle.kishu_objects_laws.specs.OrderLaws.{rounds, round_begins, order_end, order_distinct, rounds_below, roots_below}
use Rattle.kishu_objects_laws.specs.ReadingLaws.{push_new, push_old, begins_on, begins_short}

-- the state of names and nodes
abbrev pub live : Names → List Node → State
live names nodes = record { names = names; nodes = nodes }

-- ---- noting one more

-- the list with a number behind, where it isn't there yet
abbrev pub noted : List ℕ → ℕ → List ℕ
noted ks i = if list_any (nat_eq i) ks then ks else ks ++ i ∷ []

any_in : (i : ℕ) (ks : List ℕ) → list_any (nat_eq i) ks ≡ true → In i ks
any_in i [] e = absurd (cc)
any_in i (k ∷ ks) e = elim (same_or_not i k) [ inl f ↦ inl f.0 | inr n ↦ inr (any_in i ks (rw n.1 at e)) ]

not_any : (i : ℕ) (ks : List ℕ) → list_any (nat_eq i) ks ≡ false → In i ks → ⊥
not_any i [] e h = h
not_any i (k ∷ ks) e h = elim (same_or_not i k) [
  | inl f ↦ (let g : true ≡ false = rw f.1 at e in cc)
  | inr n ↦ elim h [ inl f ↦ n.0 f | inr m ↦ not_any i ks (rw n.1 at e) m ]
]

-- Noting one more is to go on with the firsts.
pub noted_firsts : (xs : List ℕ) (i : ℕ) → noted (firsts xs) i ≡ firsts (xs ++ i ∷ [])
noted_firsts xs i = elim (cases_Bool (list_any (nat_eq i) (firsts xs))) [
  | inl e ↦ rw e (sym (push_old xs i (in_firsts i xs (any_in i (firsts xs) e))))
  | inr e ↦ rw e (sym (push_new xs i (λ h. not_any i (firsts xs) e (firsts_in i xs h))))
]

-- ---- the walk

-- i nodes of the list were walked
pub record IsWalked (s : State) (names : List (List ℕ)) (found : List ℕ) (i : ℕ) : Type 0 where
  pub within : i ≤ length found
  pub met : found ≡ met s.nodes (roots s names) (take i found)
  pub ahead : Begins found (order s names)

module _ (s : State) (sound : IsSound s) (names : List (List ℕ)) where
  ahead_of : (seen : List ℕ) → Begins seen (order s names) → Begins (met s.nodes (roots s names) seen) (order s names)
  ahead_of seen b = subst (λ z. Begins (met s.nodes (roots s names) seen) z) (sym (order_end s sound names)) (round_begins s.nodes (roots s names) seen (order s names) b)

  -- A walk that has noted the names' nodes has walked none.
  pub walk_starts : (found : List ℕ) → found ≡ firsts (roots s names) → IsWalked s names found 0
  walk_starts found e =
      let m : found ≡ met s.nodes (roots s names) (take 0 found) = e ∙ ap firsts (sym (append-nil (roots s names))) in
      record { within = omega arith; met = m; ahead = subst (λ z. Begins z (order s names)) (sym m) (ahead_of [] (order s names, refl)) }

  take_more : {A : Type 0} (xs : List A) (i : ℕ) (x : A) → slice_get xs i ≡ Some x → (take (suc i) xs ≡ take i xs ++ x ∷ []) × (suc i ≤ length xs)
  take_more [] i x e = absurd (cc)
  take_more (y ∷ ys) zero x e = (let f : y ≡ x = cc in ap (λ z. z ∷ []) f, omega arith)
  take_more (y ∷ ys) (suc i) x e = (let r = take_more ys i x e in (ap (λ z. y ∷ z) r.0, omega (arith, r.1)))

  -- A walk that notes where the next node leads has walked one more.
  pub walk_goes_on : (found more : List ℕ) (i k : ℕ) → IsWalked s names found i → slice_get found i ≡ Some k
      → ((seq : List ℕ) → found ≡ firsts seq → more ≡ firsts (seq ++ leads s.nodes k)) → IsWalked s names more (suc i)
  walk_goes_on found more i k w at step =
      let t = take_more found i k at in
      let from = roots s names in
      let e : more ≡ met s.nodes from (take (suc i) found) =
      step (from ++ flat_map (leads s.nodes) (take i found)) w.met
      ∙ ap firsts (append_assoc from (flat_map (leads s.nodes) (take i found)) (leads s.nodes k) ∙ ap (λ z. from ++ (flat_map (leads s.nodes) (take i found) ++ z)) (sym (append-nil (leads s.nodes k)))
      ∙ ap (λ z. from ++ z) (sym (flat_append (leads s.nodes) (take i found) (k ∷ [])) ∙ ap (flat_map (leads s.nodes)) (sym t.0))) in
      let longer : Begins found more = subst (λ z. Begins z more) (sym w.met) (subst (λ z. Begins (met s.nodes from (take i found)) z) (sym e) (round_begins s.nodes from (take i found) (take (suc i) found) (k ∷ [], t.0))) in
      let same : take (suc i) more ≡ take (suc i) found = ap (take (suc i)) longer.1 ∙ take-append-le (suc i) found longer.0 (t.1) in
      let front : Begins (take (suc i) found) found = (drop (suc i) found, sym (take-append-drop (suc i) found)) in
      record {
        within = (let l = begins_short found more longer in omega (arith, l, t.1));
        met = e ∙ ap (met s.nodes from) (sym same);
        ahead = subst (λ z. Begins z (order s names)) (sym e) (ahead_of (take (suc i) found) (begins_on (take (suc i) found) found (order s names) front w.ahead));
      }

  within : (found : List ℕ) → found ≡ met s.nodes (roots s names) found → (k : ℕ) → Begins (rounds s.nodes (roots s names) k) found
  within found still zero = (found, refl)
  within found still (suc k) = subst (λ z. Begins (rounds s.nodes (roots s names) (suc k)) z) (sym still) (round_begins s.nodes (roots s names) (rounds s.nodes (roots s names) k) found (within found still k))

  -- A walk that has walked all that it found has found the order.
  pub walk_ends : (found : List ℕ) (i : ℕ) → IsWalked s names found i → length found ≤ i → found ≡ order s names
  walk_ends found i w l =
      begins_both found (order s names) w.ahead (within found (w.met ∙ ap (met s.nodes (roots s names)) (take_all i found l)) (length s.nodes))

  -- no more are found than there are nodes
  pub walk_short : (found : List ℕ) (i : ℕ) → IsWalked s names found i → length found ≤ length s.nodes
  walk_short found i w =
      let k = few (length s.nodes) (order s names) (order_distinct s names) (rounds_below s.nodes (roots s names) (length s.nodes) (roots_below s sound names) sound.nodes (length s.nodes)) in
      let l = begins_short found (order s names) w.ahead in
      omega (arith, k, l)

-- ---- noting many

-- the list after noting each of a list, one after another
abbrev pub noted_all : List ℕ → List ℕ → List ℕ
noted_all ks [] = ks
noted_all ks (i ∷ is) = noted_all (noted ks i) is

pub noted_all_append : (ks xs ys : List ℕ) → noted_all ks (xs ++ ys) ≡ noted_all (noted_all ks xs) ys
noted_all_append ks [] ys = refl
noted_all_append ks (x ∷ xs) ys = noted_all_append (noted ks x) xs ys

-- Noting a list is to go on with the firsts.
pub noted_all_firsts : (seq xs : List ℕ) → noted_all (firsts seq) xs ≡ firsts (seq ++ xs)
noted_all_firsts seq [] = ap firsts (sym (append-nil seq))
noted_all_firsts seq (x ∷ xs) = ap (λ ks. noted_all ks xs) (noted_firsts seq x) ∙ noted_all_firsts (seq ++ x ∷ []) xs ∙ ap firsts (append_assoc seq (x ∷ []) xs)

-- walked on by a node
pub walk_more : (s : State) → IsSound s → (names : List (List ℕ)) (found : List ℕ) (i k : ℕ) → IsWalked s names found i → slice_get found i ≡ Some k → IsWalked s names (noted_all found (leads s.nodes k)) (suc i)
walk_more s sound names found i k w at =
    walk_goes_on s sound names found (noted_all found (leads s.nodes k)) i k w at (λ seq e. ap (λ z. noted_all z (leads s.nodes k)) e ∙ noted_all_firsts seq (leads s.nodes k))

-- begun with the names' nodes
pub walk_begins : (s : State) → IsSound s → (names : List (List ℕ)) → IsWalked s names (noted_all [] (roots s names)) 0
walk_begins s sound names = walk_starts s sound names (noted_all [] (roots s names)) (noted_all_firsts [] (roots s names))

-- what was found is there
pub walk_inside : (s : State) → IsSound s → (names : List (List ℕ)) (found : List ℕ) (i j k : ℕ) → IsWalked s names found i → slice_get found j ≡ Some k → k < length s.nodes
walk_inside s sound names found i j k w at =
    rounds_below s.nodes (roots s names) (length s.nodes) (roots_below s sound names) sound.nodes (length s.nodes) k
    (subst (λ z. In k z) (sym w.ahead.1) (in_left k found w.ahead.0 (in_at found j k at)))
