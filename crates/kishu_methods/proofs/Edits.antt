-- The items of a list in the code, changed as the definition says.
use Rattle.std.proofs.Common.{◌≡◌, ◌∙◌, ap, refl, ℕ, Bool, true, IsTrue, List, [], ◌∷◌, ◌++◌, map, reverse, rules}
use Rattle.std.specs.List.{list_all, insert, remove}
use Rattle.std.proofs.lemmas.List.{map-append}
use mathlib.Core.List.{reverse-cons}
use Rattle.kishu_meaning.specs.declared.value.Value as rust
use Rattle.kishu_meaning.specs.values.Values.{Value, value_of}
use Rattle.kishu_methods.proofs.Changes.{both, first, second, all_append, map_insert, map_remove}

pub map_reverse : {A B : Type 0} (f : A → B) (xs : List A) → map f (reverse xs) ≡ reverse (map f xs)
map_reverse f [] = search rules
map_reverse f (x ∷ xs) = rw (reverse-cons x xs, reverse-cons (f x) (map f xs)) (map-append f (reverse xs) (x ∷ []) ∙ ap (λ ys. ys ++ f x ∷ []) (map_reverse f xs))

pub all_reverse : {X : Type 0} (p : X → Bool) (xs : List X) → IsTrue (list_all p xs) → IsTrue (list_all p (reverse xs))
all_reverse p [] a = search rules
all_reverse p (x ∷ xs) a = rw (reverse-cons x xs) (all_append p (reverse xs) (x ∷ []) (all_reverse p xs (second (p x) _ a)) (both (p x) true (first (p x) _ a) refl))

pub seen_reversed : (xs ys : List rust.Value) (vs : List Value) → ys ≡ reverse xs → map value_of xs ≡ vs → map value_of ys ≡ reverse vs
seen_reversed xs ys vs e h = ap (map value_of) e ∙ map_reverse value_of xs ∙ ap reverse h

pub seen_inserted : (xs ys : List rust.Value) (vs : List Value) (i : ℕ) (x : rust.Value) (v : Value) → ys ≡ insert xs i x → map value_of xs ≡ vs → value_of x ≡ v → map value_of ys ≡ insert vs i v
seen_inserted xs ys vs i x v e h s = ap (map value_of) e ∙ map_insert value_of xs i x ∙ rw (h, s) refl

pub seen_removed : (xs ys : List rust.Value) (vs : List Value) (i : ℕ) → ys ≡ remove xs i → map value_of xs ≡ vs → map value_of ys ≡ remove vs i
seen_removed xs ys vs i e h = ap (map value_of) e ∙ map_remove value_of xs i ∙ rw h refl
