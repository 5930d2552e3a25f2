-- The nodes that the classes of names reach are no more than those that the names reach, since no two classes share one.
use Rattle.std.specs.Prelude.{◌≡◌, ◌<◌, ◌≤◌, ℕ, ⊤, suc, zero, List, [], ◌∷◌, ◌++◌, length, flat_map, slice_get, slice_index_or, Some, Contains}
use Rattle.std.proofs.Common.{◌∙◌, refl, sym, subst, inl, inr, arith, length-append}
use Rattle.std.proofs.lemmas.List.Sums.{sum_by-cons}
use Rattle.kishu_meaning.specs.values.Values.{State}
use Rattle.kishu_objects.specs.Groups.{AreApart, Touch, groups}
use Rattle.kishu_objects.specs.Lists.{In, AllDiffer, Rise}
use Rattle.kishu_objects.specs.Picture.{order}
use Rattle.kishu_objects.specs.Sound.{IsSound}
use Rattle.kishu_objects_laws.specs.GroupLaws.{group_is, class_in, groups_apart}
use Rattle.kishu_objects_laws.specs.ListLaws.{in_cases, flat_in, at_in, in_contains}
use Rattle.kishu_objects_laws.specs.OrderLaws.{order_distinct, order_reached, reached_order}
use Rattle.kishu_history_laws.specs.tables.TableLaws.{rise_differ}
use Rattle.kishu_store.specs.Groups.{Group}
use Rattle.kishu_delta.specs.Reaches.{nodes_among}

-- the other numbers, where one is taken out
taken : (x : ℕ) (ys : List ℕ) → In x ys → (zs : List ℕ) × (length ys ≡ suc (length zs)) × ((a : ℕ) → (a ≡ x → ⊥) → In a ys → In a zs)
taken x [] m = absurd m
taken x (y ∷ ys) (inl e) = (ys, refl, (λ a n h. elim h [ inl q ↦ absurd (n (q ∙ sym e)) | inr k ↦ k ]))
taken x (y ∷ ys) (inr m) =
    let k = taken x ys m in (
      y ∷ k.0,
      (let e = k.1 in omega (arith, e)),
      (λ a n h. elim h [ inl q ↦ inl q | inr r ↦ inr (k.2 a n r) ]),
    )

-- Numbers that differ, each of which is in a list, are no more than that list's.
few_inside : (xs ys : List ℕ) → AllDiffer xs → ((a : ℕ) → In a xs → In a ys) → length xs ≤ length ys
few_inside [] ys d h = omega arith
few_inside (x ∷ xs) ys d h =
    let k = taken x ys (h x (inl refl)) in
    let rest = few_inside xs k.0 d.1 (λ a m. k.2 a (λ e. d.0 (subst (λ z. In z xs) e m)) (h a (inr m))) in
    let e = k.1 in
    omega (arith, rest, e)

both_differ : {A : Type 0} (xs ys : List A) → AllDiffer xs → AllDiffer ys → ((a : A) → In a xs → In a ys → ⊥) → AllDiffer (xs ++ ys)
both_differ [] ys d e n = e
both_differ (x ∷ xs) ys d e n = (
  λ h. elim (in_cases x xs ys h) [ inl m ↦ d.0 m | inr m ↦ n x (inl refl) m ],
  both_differ xs ys d.1 e (λ a m. n a (inr m)),
)

module _ (s : State) where
  abbrev all_orders : List Group → List ℕ
  all_orders gs = flat_map (λ g. order s g) gs

  counted : (gs : List Group) → nodes_among s gs ≡ length (all_orders gs)
  counted [] = refl
  counted (g ∷ gs) =
      let a = sum_by-cons (λ (h : Group). length (order s h)) g gs in
      let b = length-append (order s g) (all_orders gs) in
      let c = counted gs in
      omega (arith, a, b, c)

  -- Each group is apart from those behind it.
  abbrev ApartFrom : Group → List Group → Type 0
  ApartFrom g gs = (h : Group) → In h gs → (x y : List ℕ) → In x g → In y h → Touch s x y → ⊥

  abbrev EachApart : List Group → Type 0
  EachApart [] = ⊤
  EachApart (g ∷ gs) = ApartFrom g gs × EachApart gs

  orders_differ : (gs : List Group) → EachApart gs → AllDiffer (all_orders gs)
  orders_differ [] a = tt
  orders_differ (g ∷ gs) a =
      both_differ (order s g) (all_orders gs) (order_distinct s g) (orders_differ gs a.1) (λ i m n.
      let x = order_reached s g i m in
      let h = flat_in (λ (k : Group). order s k) i gs n in
      let y = order_reached s h.0 i h.2 in
      a.0 h.0 h.1 x.0 y.0 x.1 y.1 (i, x.2, y.2))

  stands_at : (gs : List Group) (p : ℕ) (k d : Group) → slice_get gs p ≡ Some k → (p < length gs) × (slice_index_or gs p d ≡ k)
  stands_at [] p k d e = absurd (cc)
  stands_at (g ∷ gs) zero k d e = (omega arith, cc)
  stands_at (g ∷ gs) (suc p) k d e = (let r = stands_at gs p k d e in (omega arith, r.1))

  each_apart : (gs : List Group) → AreApart s gs → EachApart gs
  each_apart [] a = tt
  each_apart (g ∷ gs) a = (
    (λ h m x y n o t.
        let p = at_in gs h m in
        let r = stands_at gs p.0 h [] p.1 in
        a zero (suc p.0) [] (omega arith) (omega (arith, r.0)) x y (in_contains g x n) (subst (λ (k : Group). Contains k y) (sym r.1) (in_contains h y o)) t),
    each_apart gs (λ i j d l m. a (suc i) (suc j) d (omega (arith, l)) (omega (arith, m))),
  )

  module _ (sound : IsSound s) (of : List (List ℕ)) where
    inside : (i : ℕ) → In i (all_orders (groups s of)) → In i (order s of)
    inside i m =
        let g = flat_in (λ (k : Group). order s k) i (groups s of) m in
        let x = order_reached s g.0 i g.2 in
        let k = group_is s sound of g.0 g.1 in
        let n = class_in s sound of k.0 x.0 k.1 (subst (λ (h : Group). In x.0 h) k.2 x.1) in
        reached_order s sound of x.0 n x.2.0 i x.2.1

    -- The classes of names reach, one after another, at most as many nodes as the names.
    pub classes_reach : Rise of → nodes_among s (groups s of) ≤ length (order s of)
    classes_reach rise =
        let apart = groups_apart s sound of (rise_differ of rise) in
        let few = few_inside (all_orders (groups s of)) (order s of) (orders_differ (groups s of) (each_apart (groups s of) apart)) inside in
        let c = counted (groups s of) in
        omega (arith, few, c)
