-- One node in the place of another is a change of that node.
use Rattle.std.proofs.Common.{◌≡◌, ap, refl, arith, ℕ, zero, suc, ◌+◌, ◌<◌, List, [], ◌∷◌, ◌++◌, length, map}
use Rattle.std.specs.Prelude.{slice_set, slice_index_or, Option, Some, None, option_map, option_to_list, MatchOption}
use Rattle.kishu_meaning.specs.values.Values.{Node}
use Rattle.kishu_meaning.specs.values.Nodes.{changed, last_of, without_last}
use Rattle.kishu_heap.specs.declared.node.Node as rust
use Rattle.kishu_heap.specs.Cells.{node_of}

pub changed_set : (ns : List rust.Node) (i : ℕ) (m d : rust.Node) (f : Node → Node) → i < length ns → node_of m ≡ f (node_of (slice_index_or ns i d)) → map node_of (slice_set ns i m) ≡ changed f i (map node_of ns)
changed_set [] i m d f p h = absurd (omega arith)
changed_set (n ∷ ns) zero m d f p h = ap (λ x. x ∷ map node_of ns) h
changed_set (n ∷ ns) (suc i) m d f p h = ap (λ xs. node_of n ∷ xs) (changed_set ns i m d f (omega arith) h)

pub unchanged_set : (ns : List rust.Node) (i : ℕ) (m d : rust.Node) → i < length ns → node_of m ≡ node_of (slice_index_or ns i d) → map node_of (slice_set ns i m) ≡ map node_of ns
unchanged_set [] i m d p h = absurd (omega arith)
unchanged_set (n ∷ ns) zero m d p h = ap (λ x. x ∷ map node_of ns) h
unchanged_set (n ∷ ns) (suc i) m d p h = ap (λ xs. node_of n ∷ xs) (unchanged_set ns i m d (omega arith) h)

-- ---- a list's items

pub map_set : {A B : Type 0} (f : A → B) (xs : List A) (i : ℕ) (x : A) → map f (slice_set xs i x) ≡ slice_set (map f xs) i (f x)
map_set f [] i x = refl
map_set f (y ∷ ys) zero x = refl
map_set f (y ∷ ys) (suc i) x = ap (λ zs. f y ∷ zs) (map_set f ys i x)

last_added : {A B : Type 0} (f : A → B) (xs : List A) (x : A) → Some (f x) ≡ last_of (map f (xs ++ x ∷ []))
last_added f [] x = refl
last_added f (y ∷ []) x = refl
last_added f (y ∷ (z ∷ zs)) x = last_added f (z ∷ zs) x

without_added : {A B : Type 0} (f : A → B) (xs : List A) (x : A) → map f xs ≡ without_last (map f (xs ++ x ∷ []))
without_added f [] x = refl
without_added f (y ∷ []) x = refl
without_added f (y ∷ (z ∷ zs)) x = ap (λ ws. f y ∷ ws) (without_added f (z ∷ zs) x)

-- what is taken off the end is the last item
pub last_popped : {A B : Type 0} (f : A → B) (xs ys : List A) (n m : ℕ) (r : Option A) → length xs ≡ n → xs ≡ ys ++ option_to_list r → MatchOption r ((n ≡ 0) × (m ≡ 0)) (λ _. m + 1 ≡ n) → option_map f r ≡ last_of (map f xs)
last_popped f xs ys n m (Some x) l e h = rw e (last_added f ys x)
last_popped f [] ys n m None l e h = refl
last_popped f (x ∷ xs) ys n m None l e h = absurd (omega (arith, h.0))

pub rest_popped : {A B : Type 0} (f : A → B) (xs ys : List A) (n m : ℕ) (r : Option A) → length xs ≡ n → xs ≡ ys ++ option_to_list r → MatchOption r ((n ≡ 0) × (m ≡ 0)) (λ _. m + 1 ≡ n) → map f ys ≡ without_last (map f xs)
rest_popped f xs ys n m (Some x) l e h = rw e (without_added f ys x)
rest_popped f [] [] n m None l e h = refl
rest_popped f [] (y ∷ ys) n m None l e h = absurd (cc)
rest_popped f (x ∷ xs) ys n m None l e h = absurd (omega (arith, h.0))
