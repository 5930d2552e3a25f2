-- A list in order, in which what ties stands as before, is the sorted one. So what a stable sort promises says which list it makes.
use Rattle.std.specs.Prelude.{◌≡◌, zero, suc, ◌+◌, ◌<◌, Bool, true, false, not, ◌&&◌, cond, List, [], ◌∷◌, length, drop, filter, slice_index_or}
use Rattle.std.specs.declared.cmp.Ordering.{Ordering}
use Rattle.std.specs.declared.cmp.Ordering.TheVariants.{Less, Equal, Greater}
use Rattle.std.specs.Ordering.{is_lt, is_gt, nat_cmp, int_cmp, ordering_reverse}
use Rattle.std.specs.List.Sorted.{IsSortedBy, IsSortedByKey, IsStableBy, IsStableByKey, ties}
use Rattle.std.specs.Cmp.{IsStrictWeakOrder, IsTotalOrder, upto, int_cmp_total}
use Rattle.std.specs.Cmp.Lexicographic.{slice_cmp, nat_list_cmp_total}
use Rattle.std.proofs.Common.{refl, sym, ap, ap₂, subst, ◌∙◌, arith}
use Rattle.kishu_meaning.specs.values.Values.{Value}
use Rattle.kishu_meaning.specs.items.Sorting.{placed, sorted, sorted_by, number_key, text_key}

first_false : (a b : Bool) → (not a && not b) ≡ true → a ≡ false
first_false true b e = sym e
first_false false b e = refl

second_false : (a b : Bool) → (not a && not b) ≡ true → b ≡ false
second_false a false e = refl
second_false true true e = sym e
second_false false true e = sym e

both_false : (a b : Bool) → a ≡ false → b ≡ false → (not a && not b) ≡ true
both_false a b e f = ap₂ (λ x y. not x && not y) e f

true_not_false : true ≡ false → ⊥
true_not_false e = cc

no_first : {A : Type 0} {x : A} {xs : List A} → [] ≡ x ∷ xs → ⊥
no_first e = cc

module _ {A : Type 0} (lt : A → A → Bool) (o : IsStrictWeakOrder lt) where
  not_self : (x : A) (b : Bool) → lt x x ≡ b → lt x x ≡ false
  not_self x true e = o.one_way x x e
  not_self x false e = e

  not_less : (x : A) → lt x x ≡ false
  not_less x = not_self x (lt x x) refl

  -- ---- lists in order

  -- None of these is less than x.
  abbrev NoneBelow : A → List A → Type 0
  NoneBelow x [] = Unit {0}
  NoneBelow x (y ∷ ys) = (lt y x ≡ false) × NoneBelow x ys

  abbrev Ascends : List A → Type 0
  Ascends [] = Unit {0}
  Ascends (x ∷ xs) = NoneBelow x xs × Ascends xs

  none_below : (x y : A) (zs : List A) → lt y x ≡ false → NoneBelow y zs → NoneBelow x zs
  none_below x y [] e h = tt
  none_below x y (z ∷ zs) e h = (o.chain z y x h.0 e, none_below x y zs e h.1)

  tail_sorted : (x : A) (xs : List A) → IsSortedBy lt (x ∷ xs) → IsSortedBy lt xs
  tail_sorted x xs h k d from within =
      subst (λ n. lt (slice_index_or (x ∷ xs) n d) (slice_index_or xs k d) ≡ false) {x = suc k + 1} {y = suc (k + 1)} (omega arith) (h (suc k) d (omega arith) (omega (arith, within)))

  in_order_from : (x y : A) (ys : List A) → lt y x ≡ false → Ascends (y ∷ ys) → Ascends (x ∷ y ∷ ys)
  in_order_from x y ys e h = ((e, none_below x y ys e h.0), h)

  ascends : (xs : List A) → IsSortedBy lt xs → Ascends xs
  ascends [] h = tt
  ascends (x ∷ []) h = (tt, tt)
  ascends (x ∷ (y ∷ ys)) h = in_order_from x y ys (h 0 x (omega arith) (omega arith)) (ascends (y ∷ ys) (tail_sorted x (y ∷ ys) h))

  -- ---- the sorted list is in order

  either_below : (b : Bool) (y x z : A) (zs : List A) → lt x y ≡ false → NoneBelow y (z ∷ zs) → NoneBelow y (placed lt x zs) → NoneBelow y (cond b (z ∷ placed lt x zs) (x ∷ z ∷ zs))
  either_below true y x z zs e h further = (h.0, further)
  either_below false y x z zs e h further = (e, h)

  none_below_placed : (y x : A) (zs : List A) → lt x y ≡ false → NoneBelow y zs → NoneBelow y (placed lt x zs)
  none_below_placed y x [] e h = (e, tt)
  none_below_placed y x (z ∷ zs) e h = either_below (lt z x) y x z zs e h (none_below_placed y x zs e h.1)

  either_ascends : (b : Bool) (x z : A) (zs : List A) → lt z x ≡ b → Ascends (z ∷ zs) → Ascends (placed lt x zs) → Ascends (cond b (z ∷ placed lt x zs) (x ∷ z ∷ zs))
  either_ascends true x z zs e h further = (none_below_placed z x zs (o.one_way z x e) h.0, further)
  either_ascends false x z zs e h further = in_order_from x z zs e h

  placed_ascends : (x : A) (zs : List A) → Ascends zs → Ascends (placed lt x zs)
  placed_ascends x [] h = (tt, tt)
  placed_ascends x (z ∷ zs) h = either_ascends (lt z x) x z zs refl h (placed_ascends x zs h.1)

  sorted_ascends : (xs : List A) → Ascends (sorted lt xs)
  sorted_ascends [] = tt
  sorted_ascends (x ∷ xs) = placed_ascends x (sorted lt xs) (sorted_ascends xs)

  -- ---- what ties with w stands in it as before

  not_both : (w x z : A) → lt z x ≡ true → ties lt w z ≡ true → ties lt w x ≡ true → true ≡ false
  not_both w x z e tz tx = sym e ∙ o.chain z w x (second_false (lt w z) (lt z w) tz) (first_false (lt w x) (lt x w) tx)

  exchanged : (a b : Bool) (x z : A) (kept : List A) → (a ≡ true → b ≡ true → true ≡ false) → cond b (z ∷ cond a (x ∷ kept) kept) (cond a (x ∷ kept) kept) ≡ cond a (x ∷ cond b (z ∷ kept) kept) (cond b (z ∷ kept) kept)
  exchanged true true x z kept h = absurd (true_not_false (h refl refl))
  exchanged true false x z kept h = refl
  exchanged false true x z kept h = refl
  exchanged false false x z kept h = refl

  either_kept : (b : Bool) (w x z : A) (zs : List A) → lt z x ≡ b → filter (ties lt w) (placed lt x zs) ≡ filter (ties lt w) (x ∷ zs)
      → filter (ties lt w) (cond b (z ∷ placed lt x zs) (x ∷ z ∷ zs)) ≡ filter (ties lt w) (x ∷ z ∷ zs)
  either_kept true w x z zs e further =
      ap (λ kept. cond (ties lt w z) (z ∷ kept) kept) further
      ∙ exchanged (ties lt w x) (ties lt w z) x z (filter (ties lt w) zs) (λ tx tz. not_both w x z e tz tx)
  either_kept false w x z zs e further = refl

  placed_kept : (w x : A) (zs : List A) → filter (ties lt w) (placed lt x zs) ≡ filter (ties lt w) (x ∷ zs)
  placed_kept w x [] = refl
  placed_kept w x (z ∷ zs) = either_kept (lt z x) w x z zs refl (placed_kept w x zs)

  sorted_kept : (w : A) (xs : List A) → filter (ties lt w) (sorted lt xs) ≡ filter (ties lt w) xs
  sorted_kept w [] = refl
  sorted_kept w (x ∷ xs) = placed_kept w x (sorted lt xs) ∙ ap (λ kept. cond (ties lt w x) (x ∷ kept) kept) (sorted_kept w xs)

  -- ---- there is no other

  ties_itself : (x : A) → ties lt x x ≡ true
  ties_itself x = both_false (lt x x) (lt x x) (not_less x) (not_less x)

  -- one that passes, and isn't less than x
  abbrev Passing : (A → Bool) → A → Type 0
  Passing p x = (u : A) × (p u ≡ true) × (lt u x ≡ false)

  either_passes : (b : Bool) (p : A → Bool) (x y : A) (kept : List A) (z : A) (rest : List A) → p y ≡ b → lt y x ≡ false
      → cond b (y ∷ kept) kept ≡ z ∷ rest → (kept ≡ z ∷ rest → Passing p x) → Passing p x
  either_passes true p x y kept z rest e below is further = (y, e, below)
  either_passes false p x y kept z rest e below is further = further is

  passing : (p : A → Bool) (x : A) (ys : List A) → NoneBelow x ys → (z : A) (rest : List A) → filter p ys ≡ z ∷ rest → Passing p x
  passing p x [] h z rest is = absurd cc
  passing p x (y ∷ ys) h z rest is = either_passes (p y) p x y (filter p ys) z rest refl h.0 is (passing p x ys h.1 z rest)

  -- The first of one list isn't less than that of another where it ties with one in the other.
  first_not_less : (z y : A) (ys : List A) → NoneBelow y ys → (rest : List A) → filter (ties lt z) (y ∷ ys) ≡ z ∷ rest → lt z y ≡ false
  first_not_less z y ys h rest is =
      (let u = passing (ties lt z) y (y ∷ ys) (not_less y, h) z rest is in o.chain z u.0 y (first_false (lt z u.0) (lt u.0 z) u.1) u.2)

  keeps_itself : (z : A) (zs : List A) → filter (ties lt z) (z ∷ zs) ≡ z ∷ filter (ties lt z) zs
  keeps_itself z zs = ap (λ b. cond b (z ∷ filter (ties lt z) zs) (filter (ties lt z) zs)) (ties_itself z)

  keeps_tied : (y z : A) (zs : List A) → ties lt y z ≡ true → filter (ties lt y) (z ∷ zs) ≡ z ∷ filter (ties lt y) zs
  keeps_tied y z zs e = ap (λ b. cond b (z ∷ filter (ties lt y) zs) (filter (ties lt y) zs)) e

  tails_alike : (b : Bool) (y z : A) (kept kept' : List A) → cond b (y ∷ kept) kept ≡ cond b (z ∷ kept') kept' → kept ≡ kept'
  tails_alike true y z kept kept' e = ap (drop 1) e
  tails_alike false y z kept kept' e = e

  abbrev Alike : List A → List A → Type 0
  Alike ys zs = (w : A) → filter (ties lt w) ys ≡ filter (ties lt w) zs

  same_first : (y z : A) (ys zs : List A) → NoneBelow y ys → NoneBelow z zs → Alike (y ∷ ys) (z ∷ zs) → y ≡ z
  same_first y z ys zs hy hz same =
      (let zy = first_not_less z y ys hy (filter (ties lt z) zs) (same z ∙ keeps_itself z zs) in
      let yz = first_not_less y z zs hz (filter (ties lt y) ys) (sym (same y) ∙ keeps_itself y ys) in
      ap (λ l. slice_index_or l 0 y) (sym (keeps_itself y ys) ∙ same y ∙ keeps_tied y z zs (both_false (lt y z) (lt z y) yz zy)))

  tails : (y z : A) (ys zs : List A) → y ≡ z → Alike (y ∷ ys) (z ∷ zs) → Alike ys zs
  tails y z ys zs e same w =
      tails_alike (ties lt w y) y z (filter (ties lt w) ys) (filter (ties lt w) zs)
      (same w ∙ ap (λ v. cond (ties lt w v) (z ∷ filter (ties lt w) zs) (filter (ties lt w) zs)) (sym e))

  only_one : (ys zs : List A) → Ascends ys → Ascends zs → Alike ys zs → ys ≡ zs
  only_one [] [] hy hz same = refl
  only_one [] (z ∷ zs) hy hz same = absurd (no_first (same z ∙ keeps_itself z zs))
  only_one (y ∷ ys) [] hy hz same = absurd (no_first (sym (same y) ∙ keeps_itself y ys))
  only_one (y ∷ ys) (z ∷ zs) hy hz same =
      (let e = same_first y z ys zs hy.0 hz.0 same in ap₂ (λ u us. u ∷ us) e (only_one ys zs hy.1 hz.1 (tails y z ys zs e same)))

  -- What a stable sort makes of xs is the sorted list.
  pub sorted_only : (xs ys : List A) → IsSortedBy lt ys → IsStableBy lt xs ys → ys ≡ sorted lt xs
  sorted_only xs ys h stable = only_one ys (sorted lt xs) (ascends ys h) (sorted_ascends xs) (λ w. stable w ∙ sym (sorted_kept w xs))

  -- ---- and it is what a stable sort promises

  ascends_by_place : (xs : List A) → Ascends xs → IsSortedBy lt xs
  ascends_by_place [] h k d from within = absurd (omega (arith, within))
  ascends_by_place (x ∷ xs) h zero d from within = next x xs h.0 d within
    where
      next : (x : A) (ys : List A) → NoneBelow x ys → (d : A) → 0 + 1 < length (x ∷ ys) → lt (slice_index_or (x ∷ ys) 1 d) x ≡ false
      next x [] h d within = absurd (omega (arith, within))
      next x (y ∷ ys) h d within = h.0
  ascends_by_place (x ∷ xs) h (suc k) d from within =
      subst (λ n. lt (slice_index_or (x ∷ xs) n d) (slice_index_or xs k d) ≡ false) {x = suc (k + 1)} {y = suc k + 1} (omega arith) (ascends_by_place xs h.1 k d (omega arith) (omega (arith, within)))

  pub sorted_is_sorted : (xs : List A) → IsSortedBy lt (sorted lt xs)
  sorted_is_sorted xs = ascends_by_place (sorted lt xs) (sorted_ascends xs)

  pub sorted_is_stable : (xs : List A) → IsStableBy lt xs (sorted lt xs)
  sorted_is_stable xs w = sorted_kept w xs

-- ---- keys by which a list can be sorted

turned_order : (r : Ordering) → is_lt (ordering_reverse r) ≡ is_gt r
turned_order Less = refl
turned_order Equal = refl
turned_order Greater = refl

not_greater : (r : Ordering) → is_lt r ≡ true → is_gt r ≡ false
not_greater Less e = refl
not_greater Equal e = refl
not_greater Greater e = sym e

module _ {A K : Type 0} (R : K → K → Ordering) (o : IsTotalOrder R) (key : A → K) where
  turned : (a b : A) → is_lt (R (key a) (key b)) ≡ is_gt (R (key b) (key a))
  turned a b = ap is_lt (o.antisymm (key a) (key b)) ∙ turned_order (R (key b) (key a))

  pub keys_in_order : IsStrictWeakOrder (λ a b. is_lt (R (key a) (key b)))
  keys_in_order = record {
    one_way = λ a b e. turned b a ∙ not_greater (R (key a) (key b)) e;
    chain = λ a b c e f. turned a c ∙ upto o (key c) (key b) (key a) (sym (turned b c) ∙ f) (sym (turned a b) ∙ e);
  }

-- What a stable sort by the key makes of xs is the list that is sorted by it.
pub sorted_by_only : {A K : Type 0} (R : K → K → Ordering) → IsTotalOrder R → (key : A → K) (xs ys : List A) → IsSortedByKey key R ys → IsStableByKey key R xs ys → ys ≡ sorted_by R key xs
sorted_by_only R o key = sorted_only (λ a b. is_lt (R (key a) (key b))) (keys_in_order R o key)

pub numbers_sorted : (xs ys : List Value) → IsSortedByKey number_key int_cmp ys → IsStableByKey number_key int_cmp xs ys → ys ≡ sorted_by int_cmp number_key xs
numbers_sorted = sorted_by_only int_cmp int_cmp_total number_key

pub texts_sorted : (xs ys : List Value) → IsSortedByKey text_key (slice_cmp nat_cmp) ys → IsStableByKey text_key (slice_cmp nat_cmp) xs ys → ys ≡ sorted_by (slice_cmp nat_cmp) text_key xs
texts_sorted = sorted_by_only (slice_cmp nat_cmp) nat_list_cmp_total text_key
