-- Names that are bound and unbound keep their order, and what is found under them.
use Rattle.std.specs.Prelude.{◌≡◌, ℕ, ◌⊎◌, List, [], ◌∷◌, map, Some, None}
use Rattle.std.specs.List.Sorted.{IsStrictlySortedBy}
use Rattle.std.specs.Ordering.{nat_cmp, match_ordering}
use Rattle.std.specs.declared.cmp.Ordering.TheVariants.{Less, Equal, Greater}
use Rattle.std.specs.Cmp.Lexicographic.{slice_cmp}
use Rattle.std.proofs.Common.{refl, ap, sym, ◌∙◌, subst, inl, inr, Ordering}
use Rattle.kishu_meaning.specs.moments.Accesses.{unbind}
use Rattle.kishu_meaning.specs.values.Values.{Value, Names, find, bind}
use Rattle.kishu_objects.specs.Lists.{In, Rise}
use Rattle.kishu_objects.specs.Picture.{named, renumbered}
use Rattle.kishu_objects.specs.Loading.{bind_all}
use Rattle.kishu_objects_laws.specs.NameLaws.{find_bind, find_bind_other, same_text, below_in, not_both, found_listed}
use Rattle.kishu_history.specs.Checkout.{unbind_all}
use Rattle.kishu_history_laws.specs.Choices.{AllBelow}
use Rattle.kishu_history_laws.specs.tables.TableLaws.{less_reversed, below_more, equal_names}

abbrev pub keys : Names → List (List ℕ)
keys ns = map (λ (b : List ℕ × Value). b.0) ns

-- ---- order

below_bind_by : (x y : List ℕ) (v : Value) (b : List ℕ × Value) (ns : Names) (o : Ordering) → slice_cmp nat_cmp x y ≡ Less → AllBelow x (keys (b ∷ ns)) → AllBelow x (keys (bind y v ns)) → AllBelow x (keys (match_ordering o ((y, v) ∷ b ∷ ns) ((y, v) ∷ ns) (b ∷ bind y v ns)))
below_bind_by x y v b ns Less l h rest = (l, h)
below_bind_by x y v b ns Equal l h rest = (l, h.1)
below_bind_by x y v b ns Greater l h rest = (h.0, rest)

below_bind : (x y : List ℕ) (v : Value) (ns : Names) → slice_cmp nat_cmp x y ≡ Less → AllBelow x (keys ns) → AllBelow x (keys (bind y v ns))
below_bind x y v [] l h = (l, tt)
below_bind x y v (b ∷ ns) l h = below_bind_by x y v b ns (slice_cmp nat_cmp y b.0) l h (below_bind x y v ns l h.1)

rise_bind_by : (y : List ℕ) (v : Value) (b : List ℕ × Value) (ns : Names) (o : Ordering) → o ≡ slice_cmp nat_cmp y b.0 → Rise (keys (b ∷ ns)) → Rise (keys (bind y v ns)) → Rise (keys (match_ordering o ((y, v) ∷ b ∷ ns) ((y, v) ∷ ns) (b ∷ bind y v ns)))
unfolding IsStrictlySortedBy
rise_bind_by y v b ns Less e r rest = ((sym e, below_more y b.0 (keys ns) (sym e) r.0), r)
rise_bind_by y v b ns Equal e r rest = (subst (λ z. AllBelow z (keys ns)) (sym (equal_names y b.0 e)) r.0, r.1)
rise_bind_by y v b ns Greater e r rest = (below_bind b.0 y v ns (less_reversed y b.0 e) r.0, rest)

pub rise_bind : (y : List ℕ) (v : Value) (ns : Names) → Rise (keys ns) → Rise (keys (bind y v ns))
unfolding IsStrictlySortedBy
rise_bind y v [] r = (tt, tt)
rise_bind y v (b ∷ ns) r = rise_bind_by y v b ns (slice_cmp nat_cmp y b.0) refl r (rise_bind y v ns r.1)

below_unbind : (x y : List ℕ) (ns : Names) → AllBelow x (keys ns) → AllBelow x (keys (unbind y ns))
below_unbind x y [] h = tt
below_unbind x y (b ∷ ns) h = elim (same_text y b.0) [ inl e ↦ rw e.1 h.1 | inr n ↦ rw n.1 (h.0, below_unbind x y ns h.1) ]

pub rise_unbind : (y : List ℕ) (ns : Names) → Rise (keys ns) → Rise (keys (unbind y ns))
unfolding IsStrictlySortedBy
rise_unbind y [] r = tt
rise_unbind y (b ∷ ns) r = elim (same_text y b.0) [ inl e ↦ rw e.1 r.1 | inr n ↦ rw n.1 (below_unbind b.0 y ns r.0, rise_unbind y ns r.1) ]

pub rise_unbind_all : (xs : List (List ℕ)) (ns : Names) → Rise (keys ns) → Rise (keys (unbind_all xs ns))
rise_unbind_all [] ns r = r
rise_unbind_all (x ∷ xs) ns r = rise_unbind_all xs (unbind x ns) (rise_unbind x ns r)

pub rise_bind_all : (bs ns : Names) → Rise (keys ns) → Rise (keys (bind_all bs ns))
rise_bind_all [] ns r = r
rise_bind_all (b ∷ bs) ns r = rise_bind_all bs (bind b.0 b.1 ns) (rise_bind b.0 b.1 ns r)

-- ---- what is found

find_head : (x : List ℕ) (b : List ℕ × Value) (ns : Names) → (x ≡ b.0 → ⊥) → find x (b ∷ ns) ≡ find x ns
find_head x b ns n = elim (same_text x b.0) [ inl e ↦ absurd (n e.0) | inr m ↦ rw m.1 refl ]

find_none_in : (x : List ℕ) (ns : Names) → (In x (keys ns) → ⊥) → find x ns ≡ None
find_none_in x [] n = refl
find_none_in x (b ∷ ns) n = find_head x b ns (λ e. n (inl e)) ∙ find_none_in x ns (λ m. n (inr m))

pub find_unbind : (x : List ℕ) (ns : Names) → Rise (keys ns) → find x (unbind x ns) ≡ None
unfolding IsStrictlySortedBy
find_unbind x [] r = refl
find_unbind x (b ∷ ns) r = elim (same_text x b.0) [
  | inl e ↦ rw e.1 (find_none_in x ns (λ m. let l = below_in x b.0 (keys ns) r.0 m in let k = subst (λ z. slice_cmp nat_cmp b.0 z ≡ Less) e.0 l in not_both b.0 b.0 k k))
  | inr n ↦ rw n.1 (find_head x b (unbind x ns) n.0 ∙ find_unbind x ns r.1)
]

pub find_unbind_other : (x y : List ℕ) (ns : Names) → (x ≡ y → ⊥) → find x (unbind y ns) ≡ find x ns
find_unbind_other x y [] n = refl
find_unbind_other x y (b ∷ ns) n = elim (same_text y b.0) [
  | inl e ↦ rw e.1 (sym (find_head x b ns (λ f. n (f ∙ sym e.0))))
  | inr m ↦ rw m.1 (elim (same_text x b.0) [ inl f ↦ rw f.1 refl | inr k ↦ rw k.1 (find_unbind_other x y ns n) ])
]

none_stays : (x : List ℕ) (ys : List (List ℕ)) (ns : Names) → Rise (keys ns) → find x ns ≡ None → find x (unbind_all ys ns) ≡ None
none_stays x [] ns r e = e
none_stays x (y ∷ ys) ns r e = none_stays x ys (unbind y ns) (rise_unbind y ns r) (elim (same_text x y) [
  | inl f ↦ subst (λ z. find z (unbind y ns) ≡ None) (sym f.0) (find_unbind y ns r)
  | inr n ↦ find_unbind_other x y ns n.0 ∙ e
])

pub find_unbind_all : (x : List ℕ) (ys : List (List ℕ)) (ns : Names) → Rise (keys ns) → In x ys → find x (unbind_all ys ns) ≡ None
find_unbind_all x [] ns r m = absurd m
find_unbind_all x (y ∷ ys) ns r (inl e) = none_stays x ys (unbind y ns) (rise_unbind y ns r) (subst (λ z. find z (unbind y ns) ≡ None) (sym e) (find_unbind y ns r))
find_unbind_all x (y ∷ ys) ns r (inr m) = find_unbind_all x ys (unbind y ns) (rise_unbind y ns r) m

pub find_unbind_others : (x : List ℕ) (ys : List (List ℕ)) (ns : Names) → (In x ys → ⊥) → find x (unbind_all ys ns) ≡ find x ns
find_unbind_others x [] ns n = refl
find_unbind_others x (y ∷ ys) ns n = find_unbind_others x ys (unbind y ns) (λ m. n (inr m)) ∙ find_unbind_other x y ns (λ e. n (inl e))

-- what is found was bound now, or stood there
pub found_bound : (f : ℕ → ℕ) (bs ns : Names) (x : List ℕ) (v : Value) → find x (bind_all (map (named f) bs) ns) ≡ Some v → ((b : List ℕ × Value) × In b bs × (x ≡ b.0) × (v ≡ renumbered f b.1)) ⊎ (find x ns ≡ Some v)
found_bound f [] ns x v e = inr e
found_bound f (b ∷ bs) ns x v e = elim (found_bound f bs (bind b.0 (renumbered f b.1) ns) x v e) [
  | inl k ↦ inl (k.0, inr k.1, k.2, k.3)
  | inr h ↦ elim (same_text x b.0) [
    | inl g ↦ inl (b, inl refl, g.0, one (sym h ∙ ap (λ z. find z (bind b.0 (renumbered f b.1) ns)) g.0 ∙ find_bind b.0 (renumbered f b.1) ns))
    | inr n ↦ inr (sym (find_bind_other x b.0 (renumbered f b.1) ns n.0) ∙ h)
  ]
]
  where
    one : {u w : Value} → Some u ≡ Some w → u ≡ w
    one e = cc

-- what stands in a list that rises is found
pub in_find : (ns : Names) (b : List ℕ × Value) → Rise (keys ns) → In b ns → find b.0 ns ≡ Some b.1
unfolding IsStrictlySortedBy
in_find [] b r m = absurd m
in_find (c ∷ ns) b r (inl e) = (let f : b.0 ≡ c.0 = ap (λ z. z.0) e in let g : b.1 ≡ c.1 = ap (λ z. z.1) e in elim (same_text b.0 c.0) [ inl h ↦ rw h.1 (ap Some (sym g)) | inr n ↦ absurd (n.0 f) ])
in_find (c ∷ ns) b r (inr m) = find_head b.0 c ns (λ e. let l = below_in b.0 c.0 (keys ns) r.0 (found_listed ns b.0 b.1 (in_find ns b r.1 m)) in let k = subst (λ z. slice_cmp nat_cmp c.0 z ≡ Less) e l in not_both c.0 c.0 k k) ∙ in_find ns b r.1 m
