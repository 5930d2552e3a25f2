-- A binary search finds where a name stands in the record, and the record stays in order.
use Rattle.std.proofs.Common.{◌≡◌, ◌∙◌, ap, sym, refl, subst, arith, ℕ, zero, suc, ◌<◌, ◌≤◌, List, [], ◌∷◌, length, map}
use Rattle.std.specs.Prelude.{insert, slice_index_or, Ok, Err, Result}
use Rattle.std.specs.List.{AllByRecursion, AllWithin, HoldsAt}
use Rattle.std.specs.List.Sorted.{IsStrictlySortedBy, IsNonDecreasingBy, IsPartitionPoint, IsBinarySearchResult, IsSearchInRange}
use Rattle.std.specs.Cmp.Lexicographic.{slice_cmp, nat_list_cmp_total}
use Rattle.std.specs.Ordering.{is_eq, nat_cmp, match_ordering, ordering_index, ordering_reverse}
use Rattle.std.specs.Rc.{rc_str_bytes}
use Rattle.std.specs.declared.alloc.Global.{Global}
use Rattle.std.specs.declared.cmp.Ordering.{Ordering}
use Rattle.std.specs.declared.cmp.Ordering.TheVariants.{Less, Equal, Greater}
use Rattle.std.specs.declared.rc.RcStr.{RcStr}
use Rattle.std.proofs.lemmas.Map.Text.{is_eq-slice_cmp}
use Rattle.std.proofs.lemmas.Slice.Eq.{bytes_eq-Decides}
use Rattle.std.specs.Map.{keys_of}
use Rattle.kishu_meaning.specs.declared.value.Value as rust
use Rattle.kishu_meaning.specs.moments.Accesses.{with_access}
use Rattle.kishu_names.specs.Namespace.{names_of}
use Rattle.kishu_names.specs.Record.{Rises, texts_of}

abbrev Name : Type 0
Name = List ℕ

abbrev by_text : Name → Name → Ordering
by_text = slice_cmp nat_cmp

-- ---- the order of names

reversed : (x y : Name) (o : Ordering) → by_text x y ≡ o → by_text y x ≡ ordering_reverse o
reversed x y o h = nat_list_cmp_total.antisymm y x ∙ ap ordering_reverse h

pub tied : (x y : Name) → by_text x y ≡ Equal → x ≡ y
tied x y h = (bytes_eq-Decides x y).0 (sym (is_eq-slice_cmp x y) ∙ ap is_eq h)

itself : (x y : Name) → x ≡ y → by_text x y ≡ Equal → by_text y x ≡ Equal
itself x y e h = reversed x y Equal h

at_most_two : (o : Ordering) → ordering_index o ≤ 2
at_most_two Less = omega arith
at_most_two Equal = omega arith
at_most_two Greater = omega arith

-- a lower name lies no higher beside a third one
no_higher_by : (x y z : Name) (o : Ordering) → by_text y z ≡ o → by_text x y ≡ Less → ordering_index (by_text x z) ≤ ordering_index o
no_higher_by x y z Less h l = rw (nat_list_cmp_total.trans x y z l h) (omega arith)
no_higher_by x y z Equal h l = rw (sym (ap (by_text x) (tied y z h)) ∙ l) (omega arith)
no_higher_by x y z Greater h l = at_most_two (by_text x z)

no_higher : (x y z : Name) → by_text x y ≡ Less → ordering_index (by_text x z) ≤ ordering_index (by_text y z)
no_higher x y z l = no_higher_by x y z (by_text y z) refl l

-- ---- the places of a record

module _ (z : Name) where
  abbrev against : RcStr Global → Ordering
  against y = by_text (rc_str_bytes y) z

  later : (x : RcStr Global) (xs : List (RcStr Global)) (j : ℕ) (d : RcStr Global) → AllByRecursion (λ y. by_text (rc_str_bytes x) y ≡ Less) (texts_of xs) → j < length xs
      → ordering_index (against x) ≤ ordering_index (against (slice_index_or xs j d))
  later x [] j d a p = absurd (omega arith)
  later x (y ∷ ys) zero d a p = no_higher (rc_str_bytes x) (rc_str_bytes y) z a.0
  later x (y ∷ ys) (suc j) d a p = later x ys j d a.1 (omega arith)

  pub rises_by : (xs : List (RcStr Global)) → Rises (texts_of xs) → IsNonDecreasingBy (λ y. ordering_index (against y)) xs
  unfolding IsStrictlySortedBy
  rises_by [] r i j d p q = absurd (omega arith)
  rises_by (x ∷ xs) r zero zero d p q = omega arith
  rises_by (x ∷ xs) r zero (suc j) d p q = later x xs j d r.0 (omega arith)
  rises_by (x ∷ xs) r (suc i) zero d p q = absurd (omega arith)
  rises_by (x ∷ xs) r (suc i) (suc j) d p q = rises_by xs r.1 i j d (omega arith) (omega arith)

  -- what stands there already
  found_at : (x : Name) (xs : List Name) (o : Ordering) → by_text z x ≡ o → (o ≡ Less → ⊥) → (o ≡ Greater → with_access z xs ≡ xs)
      → match_ordering o (z ∷ x ∷ xs) (x ∷ xs) (x ∷ with_access z xs) ≡ x ∷ xs
  found_at x xs Less h n e = absurd (n refl)
  found_at x xs Equal h n e = refl
  found_at x xs Greater h n e = rw (e refl) refl

  lower : (x : RcStr Global) (xs : List (RcStr Global)) (j : ℕ) (d : RcStr Global) → AllByRecursion (λ y. by_text (rc_str_bytes x) y ≡ Less) (texts_of xs) → j < length xs
      → against (slice_index_or xs j d) ≡ Equal → against x ≡ Less
  lower x [] j d a p h = absurd (omega arith)
  lower x (y ∷ ys) zero d a p h = sym (ap (by_text (rc_str_bytes x)) (tied (rc_str_bytes y) z h)) ∙ a.0
  lower x (y ∷ ys) (suc j) d a p h = lower x ys j d a.1 (omega arith) h

  pub is_there : (xs : List (RcStr Global)) (i : ℕ) (d : RcStr Global) → Rises (texts_of xs) → i < length xs → against (slice_index_or xs i d) ≡ Equal → with_access z (texts_of xs) ≡ texts_of xs
  unfolding IsStrictlySortedBy
  is_there [] i d r p h = absurd (omega arith)
  is_there (x ∷ xs) zero d r p h = rw (reversed (rc_str_bytes x) z Equal h) refl
  is_there (x ∷ xs) (suc i) d r p h = rw (reversed (rc_str_bytes x) z Less (lower x xs i d r.0 (omega arith) h), is_there xs i d r.1 (omega arith) h) refl

  -- where it is missing
  tail_within : (P : RcStr Global → Type 0) (x : RcStr Global) (xs : List (RcStr Global)) (low high : ℕ) → AllWithin P (x ∷ xs) (suc low) (suc high) → AllWithin P xs low high
  tail_within P x xs low high a k d p q = a (suc k) d (omega arith) (omega arith)

  from_first : (P : RcStr Global → Type 0) (x : RcStr Global) (xs : List (RcStr Global)) (high : ℕ) → AllWithin P (x ∷ xs) 0 (suc high) → AllWithin P xs 0 high
  from_first P x xs high a k d p q = a (suc k) d (omega arith) (omega arith)

  pub goes_in : (xs : List (RcStr Global)) (i : ℕ) (t : RcStr Global) → rc_str_bytes t ≡ z → i ≤ length xs → IsPartitionPoint (λ y. against y ≡ Less) (λ y. against y ≡ Greater) xs i
      → texts_of (insert xs i t) ≡ with_access z (texts_of xs)
  goes_in [] zero t e p b = rw e refl
  goes_in [] (suc i) t e p b = absurd (omega arith)
  goes_in (x ∷ xs) zero t e p b = rw (reversed (rc_str_bytes x) z Greater (b.1 0 x (omega arith) (omega arith)), e) refl
  goes_in (x ∷ xs) (suc i) t e p b =
      let l = reversed (rc_str_bytes x) z Less (b.0 0 x (omega arith) (omega arith)) in
      let rest = goes_in xs i t e (omega arith) (from_first (λ y. against y ≡ Less) x xs i b.0, tail_within (λ y. against y ≡ Greater) x xs i (length xs) b.1) in
      rw (l, sym rest) refl

-- ---- the record stays in order

kept_by : (z : Name) (P : Name → Type 0) (x : Name) (xs : List Name) (o : Ordering) → P z → P x → AllByRecursion P xs → AllByRecursion P (with_access z xs) → AllByRecursion P (match_ordering o (z ∷ x ∷ xs) (x ∷ xs) (x ∷ with_access z xs))
kept_by z P x xs Less p q a r = (p, (q, a))
kept_by z P x xs Equal p q a r = (q, a)
kept_by z P x xs Greater p q a r = (q, r)

all_with : (z : Name) (P : Name → Type 0) (xs : List Name) → P z → AllByRecursion P xs → AllByRecursion P (with_access z xs)
all_with z P [] p a = (p, tt)
all_with z P (x ∷ xs) p a = kept_by z P x xs (by_text z x) p a.0 a.1 (all_with z P xs p a.1)

all_above : (z x : Name) (xs : List Name) → by_text z x ≡ Less → AllByRecursion (λ y. by_text x y ≡ Less) xs → AllByRecursion (λ y. by_text z y ≡ Less) xs
all_above z x [] h a = tt
all_above z x (y ∷ ys) h a = (nat_list_cmp_total.trans z x y h a.0, all_above z x ys h a.1)

rises_at : (z x : Name) (xs : List Name) (o : Ordering) → by_text z x ≡ o → Rises (x ∷ xs) → Rises (with_access z xs) → Rises (match_ordering o (z ∷ x ∷ xs) (x ∷ xs) (x ∷ with_access z xs))
unfolding IsStrictlySortedBy
rises_at z x xs Less h r s = ((h, all_above z x xs h r.0), r)
rises_at z x xs Equal h r s = r
rises_at z x xs Greater h r s = (all_with z (λ y. by_text x y ≡ Less) xs (reversed z x Greater h) r.0, s)

pub rises_with : (z : Name) (xs : List Name) → Rises xs → Rises (with_access z xs)
unfolding IsStrictlySortedBy
rises_with z [] r = (tt, tt)
rises_with z (x ∷ xs) r = rises_at z x xs (by_text z x) refl r (rises_with z xs r.1)

-- ---- what a binary search says of a record

abbrev pub Noted : Name → List (RcStr Global) → Result ℕ ℕ → Type 0
Noted z xs (Ok i) = with_access z (texts_of xs) ≡ texts_of xs
Noted z xs (Err i) = (t : RcStr Global) → rc_str_bytes t ≡ z → texts_of (insert xs i t) ≡ with_access z (texts_of xs)

pub there : (z : Name) (xs : List (RcStr Global)) (i : ℕ) → Rises (texts_of xs) → i < length xs → HoldsAt (λ y. against z y ≡ Equal) xs i → with_access z (texts_of xs) ≡ texts_of xs
there z [] i r p h = absurd (omega arith)
there z (x ∷ xs) i r p h = is_there z (x ∷ xs) i x r p (h x)

pub noted : (z : Name) (xs : List (RcStr Global)) (r : Result ℕ ℕ) → Rises (texts_of xs) → IsSearchInRange r (length xs) → IsBinarySearchResult (λ y. against z y) xs r → Noted z xs r
noted z xs (Ok i) s p h = there z xs i s p h
noted z xs (Err i) s p h = λ t e. goes_in z xs i t e p (h (rises_by z xs s))

-- ---- names of a map

pub names_of_entries : (es : List (RcStr Global × rust.Value)) → map (λ b. b.0) (names_of es) ≡ texts_of (keys_of es)
names_of_entries [] = refl
names_of_entries (e ∷ es) = ap (λ ns. rc_str_bytes e.0 ∷ ns) (names_of_entries es)

pub rises_nil : Rises []
unfolding IsStrictlySortedBy
rises_nil = tt

-- ---- the keys of a map of texts are in order

above_keys : (x : RcStr Global) (xs : List (RcStr Global)) → AllByRecursion (λ y. by_text (rc_str_bytes x) (rc_str_bytes y) ≡ Less) xs → AllByRecursion (λ y. by_text (rc_str_bytes x) y ≡ Less) (texts_of xs)
above_keys x [] a = tt
above_keys x (y ∷ ys) a = (a.0, above_keys x ys a.1)

rises_keys : (xs : List (RcStr Global)) → IsStrictlySortedBy (λ x y. by_text (rc_str_bytes x) (rc_str_bytes y)) xs → Rises (texts_of xs)
unfolding IsStrictlySortedBy
rises_keys [] r = tt
rises_keys (x ∷ xs) r = (above_keys x xs r.0, rises_keys xs r.1)

pub rises_entries : (es : List (RcStr Global × rust.Value)) → IsStrictlySortedBy (λ x y. by_text (rc_str_bytes x) (rc_str_bytes y)) (keys_of es) → Rises (map (λ b. b.0) (names_of es))
rises_entries es r = subst Rises (sym (names_of_entries es)) (rises_keys (keys_of es) r)
