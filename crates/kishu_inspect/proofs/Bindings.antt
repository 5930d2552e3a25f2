-- What is told of a heap and names.
use Rattle.std.proofs.Common.{◌≡◌, ◌<◌, ℕ, length, zero, suc, List, [], ◌∷◌, ◌++◌, map, Some, inl, inr, refl, sym, ap, ◌∙◌, subst}
use Rattle.std.specs.Prelude.{◌==◌, not, filter, slice_get}
use Rattle.kishu_meaning.specs.values.Values.{Node, State}
use Rattle.kishu_names.specs.Namespace.{Namespace}
use Rattle.kishu_objects.specs.Lists.{In, AllDiffer}
use Rattle.kishu_objects.specs.Picture.{firsts, listed, order, place, renumbered, roots, whole}
use Rattle.kishu_objects.specs.Shape.{each_child, node_at}
use Rattle.kishu_objects_laws.specs.ListLaws.{same_or_not}
use Rattle.kishu_objects.specs.Sound.{IsSound}
use Rattle.kishu_objects_laws.specs.OrderLaws.{order_distinct, roots_below, rounds_below}
use Rattle.kishu_objects_laws.specs.WalkLaws.{noted_all, noted_all_firsts}
use Rattle.kishu_model.specs.Answers.{inspected}
use Rattle.kishu_model.specs.requests.Inspect.{node_texts, told_at}
use Rattle.kishu_picture.specs.Held.{held}
use Rattle.kishu_inspect.specs.Told.{names_told, rows_told}

-- ---- the places of nodes

kept : (i : ℕ) (xs : List ℕ) → (In i xs → ⊥) → filter (λ k. not (i == k)) xs ≡ xs
kept i [] other = refl
kept i (k ∷ ks) other = elim (same_or_not i k) [
  | inl e ↦ absurd (other (inl e.0))
  | inr n ↦ rw n.1 (ap (λ (l : List ℕ). k ∷ l) (kept i ks (λ m. other (inr m))))
]

firsts_same : (xs : List ℕ) → AllDiffer xs → firsts xs ≡ xs
firsts_same [] differ = refl
firsts_same (i ∷ is) differ =
    ap (λ (l : List ℕ). i ∷ filter (λ k. not (i == k)) l) (firsts_same is differ.1)
    ∙ ap (λ (l : List ℕ). i ∷ l) (kept i is differ.0)

-- ---- the nodes that are met are nodes of the heap

pub met_below : (s : State) → IsSound s → (names : List (List ℕ)) (i : ℕ) → In i (order s names) → i < length s.nodes
met_below s sound names =
    rounds_below s.nodes (roots s names) (length s.nodes) (roots_below s sound names) sound.nodes (length s.nodes)

-- ---- one node

pub node_is : (nodes : List Node) (k : ℕ) (n : Node) → slice_get nodes k ≡ Some n → node_at nodes k ≡ n
node_is [] k n e = absurd (cc)
node_is (m ∷ nodes) zero n e = cc
node_is (m ∷ nodes) (suc k) n e = node_is nodes k n e

pub row_told : (found : List ℕ) (nodes : List Node) (i : ℕ) (rest : List ℕ) (n : Node) → slice_get nodes i ≡ Some n
    → rows_told found nodes (i ∷ rest) ≡ node_texts (each_child (renumbered (place found)) n) ∷ rows_told found nodes rest
row_told found nodes i rest n is =
    ap (λ (m : Node). node_texts (each_child (renumbered (place found)) m) ∷ rows_told found nodes rest)
    (node_is nodes i n is)

-- ---- what is put behind

behind : {A B : Type 0} (f : A → B) (old : List A) (a : A) (rest : List B)
    → map f (old ++ a ∷ []) ++ rest ≡ map f old ++ (f a ∷ rest)
behind f [] a rest = refl
behind f (x ∷ old) a rest = ap (λ l. f x ∷ l) (behind f old a rest)

pub more_told : {A B : Type 0} (f : A → B) (old new : List A) (a : A) (b : B) (rest all : List B)
    → map f old ++ (b ∷ rest) ≡ all → new ≡ old ++ a ∷ [] → f a ≡ b → map f new ++ rest ≡ all
more_told f old new a b rest all before is told =
    ap (λ l. map f l ++ rest) is ∙ behind f old a rest ∙ ap (λ c. map f old ++ (c ∷ rest)) told ∙ before

-- ---- the whole

twice : (found : List ℕ) (nodes : List Node) (is : List ℕ)
    → rows_told found nodes is ≡ map node_texts (map (λ i. each_child (renumbered (place found)) (node_at nodes i)) is)
twice found nodes [] = refl
twice found nodes (i ∷ is) =
    ap (λ (l : List (List (List ℕ))). node_texts (each_child (renumbered (place found)) (node_at nodes i)) ∷ l)
    (twice found nodes is)

module _ (nodes : List Node) (names : Namespace) (commit : ℕ) (found ids : List ℕ) (all : List (List ℕ))
    (found_is : found ≡ noted_all [] ids) (ids_are : ids ≡ order (held nodes names) all)
    (all_are : all ≡ listed (held nodes names))
  where
    abbrev state : State
    state = held nodes names

    abbrev met : List ℕ
    met = order state (listed state)

    ids_met : ids ≡ met
    ids_met = ids_are ∙ ap (order state) all_are

    pub found_ids : found ≡ ids
    found_ids = found_is ∙ noted_all_firsts [] ids
        ∙ firsts_same ids (subst AllDiffer (sym ids_met) (order_distinct state (listed state)))

    found_met : found ≡ met
    found_met = found_ids ∙ ids_met

    pub state_told : (ns : List (List ℕ × List ℕ)) (rs : List (List (List ℕ)))
        → ns ≡ names_told found names all → rs ≡ rows_told found nodes found
        → Some (inspected commit ns rs) ≡ Some (told_at commit (whole state))
    state_told ns rs ns_are rs_are =
        let same_names : ns ≡ names_told met names (listed state) =
        ns_are ∙ ap (λ (f : List ℕ). names_told f names all) found_met ∙ ap (names_told met names) all_are in
        let same_rows : rs ≡ map node_texts (whole state).nodes =
        rs_are ∙ ap (λ (f : List ℕ). rows_told f nodes f) found_met ∙ twice met nodes met in
        cc (same_names, same_rows)
