-- Names, and what is found under them.
use Rattle.std.specs.Prelude.{◌≡◌, ℕ, true, false, List, [], ◌∷◌, map, Some, ◌⊎◌}
use Rattle.std.specs.List.{AllByRecursion}
use Rattle.std.specs.Str.{bytes_eq}
use Rattle.std.specs.Cmp.Lexicographic.{bytes_decides, slice_cmp}
use Rattle.std.specs.List.Sorted.{IsStrictlySortedBy}
use Rattle.std.specs.Ordering.{nat_cmp, ordering_reverse, match_ordering, is_eq}
use Rattle.std.specs.declared.cmp.Ordering.TheVariants.{Less, Greater, Equal}
use Rattle.std.proofs.Common.{refl, ap, sym, ◌∙◌, subst, inl, inr, Ordering}
use Rattle.std.proofs.lemmas.Bool.{cases_Bool}
use Rattle.std.proofs.lemmas.Cmp.{nat_list_cmp_total}
use Rattle.std.proofs.lemmas.Map.Text.{is_eq-slice_cmp}
use Rattle.kishu_meaning.specs.values.Values.{Value, Names, find, bind}
use Rattle.kishu_objects.specs.Lists.{In, Rise, AllDiffer}

-- ---- what is found is there

-- Two names are one or they are not, and the test says which.
pub same_text : (x y : List ℕ) → ((x ≡ y) × (bytes_eq x y ≡ true)) ⊎ ((x ≡ y → ⊥) × (bytes_eq x y ≡ false))
same_text x y = elim (cases_Bool (bytes_eq x y)) [
  | inl e ↦ inl ((bytes_decides x y).0 e, e)
  | inr n ↦ inr ((λ e. true_false (sym ((bytes_decides x y).1 e) ∙ n)), n)
]
  where
    true_false : true ≡ false → ⊥
    true_false e = cc

-- what is found under a name stands there with it
pub find_in : (x : List ℕ) (ns : Names) (v : Value) → find x ns ≡ Some v → In (x, v) ns
find_in x [] v e = absurd (cc)
find_in x (b ∷ ns) v e = elim (same_text x b.0) [
  | inl f ↦ (let g : Some b.1 ≡ Some v = rw f.1 at e in inl (pair_same x v b f.0 (cc)))
  | inr n ↦ (let g : find x ns ≡ Some v = rw n.1 at e in inr (find_in x ns v g))
]
  where
    pair_same : (x : List ℕ) (v : Value) (b : List ℕ × Value) → x ≡ b.0 → b.1 ≡ v → (x, v) ≡ b
    pair_same x v b e f = ap {B = List ℕ × Value} (λ y. (y, v)) e ∙ ap {B = List ℕ × Value} (λ w. (b.0, w)) (sym f)

-- a name under which something is found is listed
pub found_listed : (ns : Names) (x : List ℕ) (v : Value) → find x ns ≡ Some v → In x (map (λ (b : List ℕ × Value). b.0) ns)
found_listed [] x v e = absurd (cc)
found_listed (b ∷ ns) x v e = elim (same_text x b.0) [ inl f ↦ inl f.0 | inr n ↦ (let g : find x ns ≡ Some v = rw n.1 at e in inr (found_listed ns x v g)) ]

-- under a listed name something is found
pub listed_found : (ns : Names) (x : List ℕ) → In x (map (λ (b : List ℕ × Value). b.0) ns) → (v : Value) × (find x ns ≡ Some v)
listed_found [] x m = absurd m
listed_found (b ∷ ns) x m = elim (same_text x b.0) [
  | inl f ↦ (b.1, rw f.1 refl)
  | inr n ↦ elim m [
    | inl e ↦ absurd (n.0 e)
    | inr k ↦ (let r = listed_found ns x k in (r.0, rw n.1 r.1))
  ]
]

-- ---- lists of names that rise and have the same members are equal

-- A name before all of a list is before each of it.
pub below_in : (x y : List ℕ) (ys : List (List ℕ)) → AllByRecursion (λ z. slice_cmp nat_cmp y z ≡ Less) ys → In x ys → slice_cmp nat_cmp y x ≡ Less
below_in x y [] h m = absurd m
below_in x y (z ∷ ys) h (inl e) = ap (slice_cmp nat_cmp y) e ∙ h.0
below_in x y (z ∷ ys) h (inr m) = below_in x y ys h.1 m

-- No two names are each before the other.
pub not_both : (x y : List ℕ) → slice_cmp nat_cmp x y ≡ Less → slice_cmp nat_cmp y x ≡ Less → ⊥
not_both x y a b = apart (sym a ∙ nat_list_cmp_total.antisymm x y ∙ ap ordering_reverse b)
  where
    apart : Less ≡ Greater → ⊥
    apart e = cc

-- Two lists of names that rise and have the same members are one.
pub rise_same : (xs ys : List (List ℕ)) → Rise xs → Rise ys → ((x : List ℕ) → In x xs → In x ys) → ((y : List ℕ) → In y ys → In y xs) → xs ≡ ys
unfolding IsStrictlySortedBy
rise_same [] [] a b f g = refl
rise_same [] (y ∷ ys) a b f g = absurd (g y (inl refl))
rise_same (x ∷ xs) [] a b f g = absurd (f x (inl refl))
rise_same (x ∷ xs) (y ∷ ys) a b f g =
    let e : x ≡ y = elim (f x (inl refl)) [
      | inl e ↦ e
      | inr m ↦ elim (g y (inl refl)) [ inl e ↦ sym e | inr n ↦ absurd (not_both x y (below_in y x xs a.0 n) (below_in x y ys b.0 m)) ]
    ] in
    let down : (z : List ℕ) → In z xs → In z ys = λ z m. elim (f z (inr m)) [
      | inl h ↦ (let k = below_in z x xs a.0 m in let r : slice_cmp nat_cmp x x ≡ Less = subst (λ w. slice_cmp nat_cmp x w ≡ Less) (h ∙ sym e) k in absurd (not_both x x r r))
      | inr n ↦ n
    ] in
    let up : (z : List ℕ) → In z ys → In z xs = λ z m. elim (g z (inr m)) [
      | inl h ↦ (let k = below_in z y ys b.0 m in let r : slice_cmp nat_cmp y y ≡ Less = subst (λ w. slice_cmp nat_cmp y w ≡ Less) (h ∙ e) k in absurd (not_both y y r r))
      | inr n ↦ n
    ] in
    let rest = rise_same xs ys a.1 b.1 down up in
    ap (λ l. x ∷ l) rest ∙ ap (λ z. z ∷ ys) e

-- Names that rise differ.
pub rise_differ : (xs : List (List ℕ)) → Rise xs → AllDiffer xs
unfolding IsStrictlySortedBy
rise_differ [] r = tt
rise_differ (x ∷ xs) r = ((λ m. let l = below_in x x xs r.0 m in not_both x x l l), rise_differ xs r.1)

-- ---- what was bound is found

find_here : (x : List ℕ) (v : Value) (ns : Names) → find x ((x, v) ∷ ns) ≡ Some v
find_here x v ns = (let e = (bytes_decides x x).1 refl in rw e refl)

find_past : (x y : List ℕ) (v : Value) (ns : Names) → (x ≡ y → ⊥) → find x ((y, v) ∷ ns) ≡ find x ns
find_past x y v ns n = elim (same_text x y) [ inl e ↦ absurd (n e.0) | inr m ↦ rw m.1 refl ]

order_of : (x y : List ℕ) (o : Ordering) → o ≡ slice_cmp nat_cmp x y → bytes_eq x y ≡ is_eq o
order_of x y o e = sym (ap is_eq e ∙ is_eq-slice_cmp x y)

bind_here : (x : List ℕ) (v : Value) (b : List ℕ × Value) (ns : Names) → find x (bind x v ns) ≡ Some v → (o : Ordering) → o ≡ slice_cmp nat_cmp x b.0 → find x (match_ordering o ((x, v) ∷ b ∷ ns) ((x, v) ∷ ns) (b ∷ bind x v ns)) ≡ Some v
bind_here x v b ns rest Less e = find_here x v (b ∷ ns)
bind_here x v b ns rest Equal e = find_here x v ns
bind_here x v b ns rest Greater e = (let f = order_of x b.0 Greater e in rw f rest)

-- under a name that was bound stands its value
pub find_bind : (x : List ℕ) (v : Value) (ns : Names) → find x (bind x v ns) ≡ Some v
find_bind x v [] = find_here x v []
find_bind x v (b ∷ ns) = bind_here x v b ns (find_bind x v ns) (slice_cmp nat_cmp x b.0) refl

bind_past : (x y : List ℕ) (v : Value) (b : List ℕ × Value) (ns : Names) → (x ≡ y → ⊥) → find x (bind y v ns) ≡ find x ns → (o : Ordering) → o ≡ slice_cmp nat_cmp y b.0 → find x (match_ordering o ((y, v) ∷ b ∷ ns) ((y, v) ∷ ns) (b ∷ bind y v ns)) ≡ find x (b ∷ ns)
bind_past x y v b ns n rest Less e = find_past x y v (b ∷ ns) n
bind_past x y v b ns n rest Equal e =
    let f : y ≡ b.0 = (bytes_decides y b.0).0 (order_of y b.0 Equal e) in
    find_past x y v ns n ∙ sym (find_past x b.0 b.1 ns (λ g. n (g ∙ sym f)))
bind_past x y v b ns n rest Greater e = elim (same_text x b.0) [ inl f ↦ rw f.1 refl | inr m ↦ rw m.1 rest ]

-- under another what stood there
pub find_bind_other : (x y : List ℕ) (v : Value) (ns : Names) → (x ≡ y → ⊥) → find x (bind y v ns) ≡ find x ns
find_bind_other x y v [] n = find_past x y v [] n
find_bind_other x y v (b ∷ ns) n = bind_past x y v b ns n (find_bind_other x y v ns n) (slice_cmp nat_cmp y b.0) refl
