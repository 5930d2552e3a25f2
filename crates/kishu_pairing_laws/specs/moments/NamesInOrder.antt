-- Names that stand in order stay so, and are found as they were bound.
use Rattle.std.specs.Prelude.{Some, List, ℕ, ◌≡◌, [], ◌∷◌, None}
use Rattle.std.specs.Cmp.Lexicographic.{slice_cmp, bytes_decides}
use Rattle.std.specs.List.{AllByRecursion}
use Rattle.std.specs.List.Sorted.{IsStrictlySortedBy}
use Rattle.std.specs.Ordering.{nat_cmp, ordering_reverse, match_ordering}
use Rattle.std.specs.declared.cmp.Ordering.TheVariants.{Less, Greater, Equal}
use Rattle.std.proofs.Common.{ap, ◌∙◌, Ordering, sym, subst, refl, inl, inr}
use Rattle.std.proofs.lemmas.Cmp.{nat_list_cmp_total}
use Rattle.kishu_meaning.specs.moments.Accesses.{unbind}
use Rattle.kishu_meaning.specs.values.Values.{Value, Names, bind, find}
use Rattle.kishu_objects.specs.Lists.{In, Rise}
use Rattle.kishu_objects_laws.specs.NameLaws.{same_text, below_in, not_both}
use Rattle.kishu_pairing_laws.specs.World.{titles}
use Rattle.kishu_pairing_laws.specs.moments.Accesses.{order_of}

abbrev Above : List ℕ → List (List ℕ) → Type 0
Above x = AllByRecursion (λ z. slice_cmp nat_cmp x z ≡ Less)

above_more : (x y : List ℕ) (zs : List (List ℕ)) → slice_cmp nat_cmp x y ≡ Less → Above y zs → Above x zs
above_more x y [] e a = tt
above_more x y (z ∷ zs) e a = (nat_list_cmp_total.trans x y z e a.0, above_more x y zs e a.1)

less_of : (x y : List ℕ) → slice_cmp nat_cmp x y ≡ Greater → slice_cmp nat_cmp y x ≡ Less
less_of x y e = nat_list_cmp_total.antisymm y x ∙ ap ordering_reverse e

above_step : (y x : List ℕ) (v : Value) (b : List ℕ × Value) (ns : Names) (o : Ordering) → slice_cmp nat_cmp y x ≡ Less → Above y (titles (b ∷ ns)) → Above y (titles (bind x v ns)) → Above y (titles (match_ordering o ((x, v) ∷ b ∷ ns) ((x, v) ∷ ns) (b ∷ bind x v ns)))
above_step y x v b ns Less e a h = (e, a)
above_step y x v b ns Equal e a h = (e, a.1)
above_step y x v b ns Greater e a h = (a.0, h)

above_bind : (y x : List ℕ) (v : Value) (ns : Names) → slice_cmp nat_cmp y x ≡ Less → Above y (titles ns) → Above y (titles (bind x v ns))
above_bind y x v [] e a = (e, tt)
above_bind y x v (b ∷ ns) e a = above_step y x v b ns (slice_cmp nat_cmp x b.0) e a (above_bind y x v ns e a.1)

rise_step : (x : List ℕ) (v : Value) (b : List ℕ × Value) (ns : Names) (o : Ordering) → o ≡ slice_cmp nat_cmp x b.0 → Rise (titles (b ∷ ns)) → Rise (titles (bind x v ns)) → Rise (titles (match_ordering o ((x, v) ∷ b ∷ ns) ((x, v) ∷ ns) (b ∷ bind x v ns)))
unfolding IsStrictlySortedBy
rise_step x v b ns Less e r h = ((sym e, above_more x b.0 (titles ns) (sym e) r.0), r)
rise_step x v b ns Equal e r h = (subst (λ y. Above y (titles ns)) (sym ((bytes_decides x b.0).0 (order_of x b.0 Equal e))) r.0, r.1)
rise_step x v b ns Greater e r h = (above_bind b.0 x v ns (less_of x b.0 (sym e)) r.0, h)

pub rise_bind : (x : List ℕ) (v : Value) (ns : Names) → Rise (titles ns) → Rise (titles (bind x v ns))
unfolding IsStrictlySortedBy
rise_bind x v [] r = (tt, tt)
rise_bind x v (b ∷ ns) r = rise_step x v b ns (slice_cmp nat_cmp x b.0) refl r (rise_bind x v ns r.1)

above_unbind : (y x : List ℕ) (ns : Names) → Above y (titles ns) → Above y (titles (unbind x ns))
above_unbind y x [] a = tt
above_unbind y x (b ∷ ns) a = elim (same_text x b.0) [ inl e ↦ rw e.1 a.1 | inr n ↦ rw n.1 (a.0, above_unbind y x ns a.1) ]

pub rise_unbind : (x : List ℕ) (ns : Names) → Rise (titles ns) → Rise (titles (unbind x ns))
unfolding IsStrictlySortedBy
rise_unbind x [] r = tt
rise_unbind x (b ∷ ns) r = elim (same_text x b.0) [ inl e ↦ rw e.1 r.1 | inr n ↦ rw n.1 (above_unbind b.0 x ns r.0, rise_unbind x ns r.1) ]

pub find_none : (x : List ℕ) (ns : Names) → (In x (titles ns) → ⊥) → find x ns ≡ None
find_none x [] h = refl
find_none x (b ∷ ns) h = elim (same_text x b.0) [ inl e ↦ absurd (h (inl e.0)) | inr n ↦ rw n.1 (find_none x ns (λ m. h (inr m))) ]

pub not_above : (x y : List ℕ) (ns : Names) → x ≡ y → Above y (titles ns) → In x (titles ns) → ⊥
not_above x y ns e a m = (let l : slice_cmp nat_cmp x x ≡ Less = subst (λ z. slice_cmp nat_cmp z x ≡ Less) (sym e) (below_in x y (titles ns) a m) in not_both x x l l)

pub find_unbind : (x : List ℕ) (ns : Names) → Rise (titles ns) → find x (unbind x ns) ≡ None
unfolding IsStrictlySortedBy
find_unbind x [] r = refl
find_unbind x (b ∷ ns) r = elim (same_text x b.0) [ inl e ↦ rw e.1 (find_none x ns (not_above x b.0 ns e.0 r.0)) | inr n ↦ rw n.1 (rw n.1 (find_unbind x ns r.1)) ]

pub found_here : (x : List ℕ) (v : Value) (ns : Names) → find x ((x, v) ∷ ns) ≡ Some v
found_here x v ns = elim (same_text x x) [ inl e ↦ rw e.1 refl | inr n ↦ absurd (n.0 refl) ]

pub found_past : (x y : List ℕ) (v : Value) (ns : Names) → (y ≡ x → ⊥) → find y ((x, v) ∷ ns) ≡ find y ns
found_past x y v ns h = elim (same_text y x) [ inl e ↦ absurd (h e.0) | inr n ↦ rw n.1 refl ]

pub find_unbind_other : (x y : List ℕ) (ns : Names) → (y ≡ x → ⊥) → find y (unbind x ns) ≡ find y ns
find_unbind_other x y [] h = refl
find_unbind_other x y (b ∷ ns) h = elim (same_text x b.0) [
  | inl e ↦ rw e.1 (sym (found_past b.0 y b.1 ns (λ f. h (f ∙ sym e.0))))
  | inr n ↦ rw n.1 (elim (same_text y b.0) [ inl f ↦ rw f.1 refl | inr m ↦ rw m.1 (find_unbind_other x y ns h) ])
]
