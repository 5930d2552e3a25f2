-- Lists that are put together of others: what differs in them, and what they sum to.
use Rattle.std.specs.Prelude.{◌≡◌, ◌≤◌, ◌+◌, ◌*◌, ℕ, List, [], ◌∷◌, ◌++◌, length, map, flat_map}
use Rattle.std.specs.List.{sum_by}
use Rattle.std.proofs.Common.{refl, ap, sym, ◌∙◌, subst, arith, inl, inr, length-append}
use Rattle.std.proofs.lemmas.List.Sums.{sum_by-append, sum_by-cons}
use Rattle.kishu_objects.specs.Lists.{In, AllDiffer}
use Rattle.kishu_objects_laws.specs.ListLaws.{in_cases, flat_in}
use Rattle.kishu_history_laws.specs.Choices.{in_map}

-- ---- what differs

differ_append : {A : Type 0} (xs ys : List A) → AllDiffer xs → AllDiffer ys → ((a : A) → In a xs → In a ys → ⊥) → AllDiffer (xs ++ ys)
differ_append [] ys d e apart = e
differ_append (x ∷ xs) ys d e apart = (
  λ m. elim (in_cases x xs ys m) [ inl n ↦ d.0 n | inr n ↦ apart x (inl refl) n ],
  differ_append xs ys d.1 e (λ a m n. apart a (inr m) n),
)

-- Where lists differ inside, and no two of them share an item, all their items differ.
pub differ_flat : {A B : Type 0} (f : A → List B) (xs : List A) → AllDiffer xs → ((a : A) → In a xs → AllDiffer (f a)) → ((a b : A) (z : B) → In a xs → In b xs → In z (f a) → In z (f b) → a ≡ b) → AllDiffer (flat_map f xs)
differ_flat f [] d each apart = tt
differ_flat f (x ∷ xs) d each apart = differ_append (f x) (flat_map f xs) (each x (inl refl)) (differ_flat f xs d.1 (λ a m. each a (inr m)) (λ a b z m n. apart a b z (inr m) (inr n)))
    (λ z m n. let k = flat_in f z xs n in d.0 (subst (λ y. In y xs) (sym (apart x k.0 z (inl refl) (inr k.1) m k.2)) k.1))

-- Items that differ by what they are called differ.
pub differ_map : {A B : Type 0} (f : A → B) (xs : List A) → AllDiffer (map f xs) → AllDiffer xs
differ_map f [] d = tt
differ_map f (x ∷ xs) d = ((λ m. d.0 (in_map f xs x m)), differ_map f xs d.1)

-- ---- sums

pub sum_flat : {A B : Type 0} (h : B → ℕ) (f : A → List B) (xs : List A) → sum_by h (flat_map f xs) ≡ sum_by (λ a. sum_by h (f a)) xs
sum_flat h f [] = refl
sum_flat h f (x ∷ xs) = sum_by-append h (f x) (flat_map f xs) ∙ ap (λ n. sum_by h (f x) + n) (sum_flat h f xs) ∙ sym (sum_by-cons (λ a. sum_by h (f a)) x xs)

pub flat_length : {A B : Type 0} (f : A → List B) (xs : List A) → length (flat_map f xs) ≡ sum_by (λ a. length (f a)) xs
flat_length f [] = refl
flat_length f (x ∷ xs) =
    let a = length-append (f x) (flat_map f xs) in
    let b = flat_length f xs in
    let c = sum_by-cons (λ a. length (f a)) x xs in
    omega (arith, a, b, c)

-- a sum over what is looked up of each
pub sum_map : {A B : Type 0} (h : B → ℕ) (f : A → B) (xs : List A) → sum_by h (map f xs) ≡ sum_by (λ a. h (f a)) xs
sum_map h f [] = refl
sum_map h f (x ∷ xs) = sum_by-cons h (f x) (map f xs) ∙ ap (λ n. h (f x) + n) (sum_map h f xs) ∙ sym (sum_by-cons (λ a. h (f a)) x xs)

-- two functions that agree on the items
pub sum_alike : {A : Type 0} (f g : A → ℕ) (xs : List A) → ((a : A) → f a ≡ g a) → sum_by f xs ≡ sum_by g xs
sum_alike f g [] e = refl
sum_alike f g (x ∷ xs) e = sum_by-cons f x xs ∙ ap (λ n. n + sum_by f xs) (e x) ∙ ap (λ n. g x + n) (sum_alike f g xs e) ∙ sym (sum_by-cons g x xs)

-- eight for each item, and two sums besides
pub sum_eight : {A : Type 0} (f g : A → ℕ) (xs : List A) → sum_by (λ a. 8 + (f a + g a)) xs ≡ 8 * length xs + (sum_by f xs + sum_by g xs)
sum_eight f g [] = omega arith
sum_eight f g (x ∷ xs) =
    let a = sum_by-cons (λ a. 8 + (f a + g a)) x xs in
    let b = sum_by-cons f x xs in
    let c = sum_by-cons g x xs in
    let d = sum_eight f g xs in
    omega (arith, a, b, c, d)

-- Where each item counts, there are no more items than they sum to.
pub no_fewer : {A : Type 0} (f : A → ℕ) (xs : List A) → ((a : A) → In a xs → 1 ≤ f a) → length xs ≤ sum_by f xs
no_fewer f [] some = omega arith
no_fewer f (x ∷ xs) some =
    let a = sum_by-cons f x xs in
    let b = some x (inl refl) in
    let c = no_fewer f xs (λ a m. some a (inr m)) in
    omega (arith, a, b, c)

-- An item counts in a sum.
pub sum_in : {A : Type 0} (f : A → ℕ) (xs : List A) (a : A) → In a xs → f a ≤ sum_by f xs
sum_in f [] a m = absurd m
sum_in f (x ∷ xs) a (inl e) = (let b = sum_by-cons f x xs in let c = ap f e in omega (arith, b, c))
sum_in f (x ∷ xs) a (inr m) = (let b = sum_by-cons f x xs in let c = sum_in f xs a m in omega (arith, b, c))
