-- Sorting goes along with a view of the items, and keeps what holds of each.
use Rattle.std.proofs.Common.{◌≡◌, ◌∙◌, ap, refl, Bool, true, false, cond, IsTrue, List, [], ◌∷◌, map, Some, None, Result, Ok, Err, OnOk}
use Rattle.std.specs.List.{list_all}
use Rattle.std.specs.List.Sorted.{IsSortedByKey, IsStableByKey, IsSortedByClosure, IsStableByClosure}
use Rattle.std.specs.Fn.{Called}
use Rattle.std.proofs.lemmas.Fn.{always_returns_same}
use denote.Ref.{Bor}
use denote.Param.Members.{Mut}
use Rattle.std.specs.Cmp.{IsTotalOrder}
use Rattle.std.specs.Cmp.Lexicographic.{slice_cmp}
use Rattle.std.specs.Ordering.{is_lt, int_cmp, nat_cmp}
use Rattle.std.specs.declared.cmp.Ordering.{Ordering}
use Rattle.kishu_meaning.specs.declared.value.Value as rust
use Rattle.kishu_meaning.specs.values.Values.{Value, value_of}
use Rattle.kishu_meaning.specs.items.Sorting.{placed, sorted, sorted_by, is_number, is_text, number_key, text_key, in_order}
use Rattle.kishu_meaning_laws.specs.SortingLaws.{keys_in_order, sorted_by_only}
use Rattle.kishu_items.specs.Holding.{both, first, second}

module _ {A B : Type 0} (f : A → B) (lt : B → B → Bool) where
  either_placed : (b : Bool) (x y : A) (ys more : List A) (zs : List B) → map f more ≡ zs → map f (cond b (y ∷ more) (x ∷ y ∷ ys)) ≡ cond b (f y ∷ zs) (f x ∷ f y ∷ map f ys)
  either_placed true x y ys more zs h = ap (λ ws. f y ∷ ws) h
  either_placed false x y ys more zs h = refl

  map_placed : (x : A) (ys : List A) → map f (placed (λ a b. lt (f a) (f b)) x ys) ≡ placed lt (f x) (map f ys)
  map_placed x [] = refl
  map_placed x (y ∷ ys) = either_placed (lt (f y) (f x)) x y ys _ _ (map_placed x ys)

  pub map_sorted : (xs : List A) → map f (sorted (λ a b. lt (f a) (f b)) xs) ≡ sorted lt (map f xs)
  map_sorted [] = refl
  map_sorted (x ∷ xs) = map_placed x (sorted (λ a b. lt (f a) (f b)) xs) ∙ ap (placed lt (f x)) (map_sorted xs)

module _ {A : Type 0} (lt : A → A → Bool) (p : A → Bool) where
  either_all : (b : Bool) (x y : A) (ys more : List A) → IsTrue (p x) → IsTrue (list_all p (y ∷ ys)) → IsTrue (list_all p more) → IsTrue (list_all p (cond b (y ∷ more) (x ∷ y ∷ ys)))
  either_all true x y ys more h a m = both (p y) _ (first (p y) _ a) m
  either_all false x y ys more h a m = both (p x) _ h a

  all_placed : (x : A) (ys : List A) → IsTrue (p x) → IsTrue (list_all p ys) → IsTrue (list_all p (placed lt x ys))
  all_placed x [] h a = both (p x) true h refl
  all_placed x (y ∷ ys) h a = either_all (lt y x) x y ys _ h a (all_placed x ys h (second (p y) _ a))

  pub all_sorted : (xs : List A) → IsTrue (list_all p xs) → IsTrue (list_all p (sorted lt xs))
  all_sorted [] a = refl
  all_sorted (x ∷ xs) a = all_placed x (sorted lt xs) (first (p x) _ a) (all_sorted xs (second (p x) _ a))

-- what a stable sort by a key of the values makes
pub sorts : {E K : Type 0} (R : K → K → Ordering) → IsTotalOrder R → (key : Value → K) (xs ys : List rust.Value) (r : Result (Unit {0}) E)
    → OnOk r (IsSortedByKey (λ v. key (value_of v)) R ys) → IsStableByKey (λ v. key (value_of v)) R xs ys → OnOk r (map value_of ys ≡ sorted_by R key (map value_of xs))
sorts R o key xs ys (Ok u) h stable = ap (map value_of) (sorted_by_only R o (λ v. key (value_of v)) xs ys h stable) ∙ map_sorted value_of (λ a b. is_lt (R (key a) (key b))) xs
sorts R o key xs ys (Err e) h stable = tt

-- by the order that a closure answers by
pub sorts_by : {E K F : Type 0} {g : Mut F (Bor rust.Value × (Bor rust.Value × Unit {0})) Ordering} {f : F} (R : K → K → Ordering) → IsTotalOrder R → (key : Value → K) (xs ys : List rust.Value) (r : Result (Unit {0}) E)
    → OnOk r (IsSortedByClosure g f ys) → IsStableByClosure g f xs ys
    → ((a : Bor rust.Value × (Bor rust.Value × Unit {0})) (answer : Ordering) (f' : F) → Called g f a answer f' → (answer ≡ R (key (value_of a.0.now)) (key (value_of a.1.0.now))) × (f' ≡ f))
    → OnOk r (map value_of ys ≡ sorted_by R key (map value_of xs))
sorts_by {g = g} {f = f} R o key xs ys (Err e) up stable h = tt
sorts_by {E = E} {g = g} {f = f} R o key xs ys (Ok u) up stable h =
    let lt : rust.Value → rust.Value → Bool = λ a b. is_lt (R (key (value_of a)) (key (value_of b))) in
    let weak = keys_in_order R o (λ v. key (value_of v)) in
    let answers = always_returns_same g (λ a r. is_lt r ≡ lt a.0.now a.1.0.now) f (λ a r f' k. (ap is_lt (h a r f' k).0, (h a r f' k).1)) in
    sorts {E = E} R o key xs ys (Ok u) (up lt weak answers) (stable lt weak answers)

-- ---- values that are put in order

pub numbers_in_order : (vs ws : List Value) → list_all is_number vs ≡ true → ws ≡ sorted_by int_cmp number_key vs → Some ws ≡ in_order vs
numbers_in_order vs ws h e = rw (h, e) refl

pub texts_in_order : (vs ws : List Value) → list_all is_number vs ≡ false → list_all is_text vs ≡ true → ws ≡ sorted_by (slice_cmp nat_cmp) text_key vs → Some ws ≡ in_order vs
texts_in_order vs ws n h e = rw (n, h, e) refl

pub others_in_order : (vs : List Value) → list_all is_number vs ≡ false → list_all is_text vs ≡ false → None ≡ in_order vs
others_in_order vs n h = rw (n, h) refl
