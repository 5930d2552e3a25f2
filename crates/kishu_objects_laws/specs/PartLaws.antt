-- Names that no other name touches have the groups that they have among all names.
use Rattle.std.specs.Prelude.{◌≡◌, ℕ, Bool, true, false, ◌&&◌, List, [], ◌∷◌, filter}
use Rattle.std.proofs.Common.{refl, ap, sym, ◌∙◌, subst, inl, inr}
use Rattle.std.proofs.lemmas.Bool.{cases_Bool}
use Rattle.kishu_meaning.specs.values.Values.{State}
use Rattle.kishu_objects.specs.Lists.{In}
use Rattle.kishu_objects.specs.Sound.{IsSound}
use Rattle.kishu_objects.specs.Groups.{Touch, Linked, itself, further, class_of, begins_with, groups}
use Rattle.kishu_objects_laws.specs.ListLaws.{in_flat, contains_in, in_contains, in_filter, filter_in, true_not_false}
use Rattle.kishu_objects_laws.specs.GroupLaws.{class_end, class_linked, linked_class, class_in, tests, group_is, own_group, in_own, turned}

-- two choices of one list with the same members are equal
choices_same : {A : Type 0} (p q : A → Bool) (xs : List A) → ((a : A) → In a xs → p a ≡ true → q a ≡ true) → ((a : A) → In a xs → q a ≡ true → p a ≡ true) → filter p xs ≡ filter q xs
choices_same p q [] f g = refl
choices_same p q (x ∷ xs) f g =
    let rest = choices_same p q xs (λ a m. f a (inr m)) (λ a m. g a (inr m)) in
    elim (cases_Bool (p x)) [
      | inl e ↦ (let h = f x (inl refl) e in rw (e, h) (ap (λ l. x ∷ l) rest))
      | inr e ↦ elim (cases_Bool (q x)) [
        | inl h ↦ absurd (true_not_false (sym (g x (inl refl) h) ∙ e))
        | inr h ↦ rw (e, h) rest
      ]
    ]

twice_chosen : {A : Type 0} (p q : A → Bool) (xs : List A) → filter p (filter q xs) ≡ filter (λ a. q a && p a) xs
twice_chosen p q [] = refl
twice_chosen p q (x ∷ xs) =
    let rest = twice_chosen p q xs in
    elim (cases_Bool (q x)) [
      | inl e ↦ elim (cases_Bool (p x)) [ inl f ↦ rw (e, f) (ap (λ l. x ∷ l) rest) | inr f ↦ rw (e, f) rest ]
      | inr e ↦ rw e rest
    ]

both_true : (a b : Bool) → (a && b) ≡ true → (a ≡ true) × (b ≡ true)
both_true true b e = (refl, e)
both_true false b e = absurd (true_not_false (sym e))

module _ (s : State) (sound : IsSound s) (of : List (List ℕ)) (test : List ℕ → Bool)
    (apart : (x y : List ℕ) → In x of → In y of → test x ≡ true → test y ≡ false → Touch s x y → ⊥) where
  abbrev part : List (List ℕ)
  part = filter test of

  part_in : (x : List ℕ) → In x part → In x of
  part_in x m = (filter_in test of x m).0

  -- what is linked among all names is linked among the part
  stays_in : (x y : List ℕ) → In x part → Linked s of x y → Linked s part x y × In y part
  stays_in x y m itself = (itself, m)
  stays_in x y m (further z w l c t) =
      let k = stays_in x z m l in
      let o = contains_in of y c in
      let inside : In y part = elim (cases_Bool (test y)) [
        | inl e ↦ in_filter test of y o e
        | inr e ↦ (let f = filter_in test of z k.1 in absurd (apart z y f.0 o f.1 e t))
      ] in
      (further z y k.0 (in_contains part y inside) t, inside)

  goes_out : (x y : List ℕ) → Linked s part x y → Linked s of x y
  goes_out x y itself = itself
  goes_out x y (further z w l c t) = further z y (goes_out x z l) (in_contains of y (part_in y (contains_in part y c))) t

  -- A name of the part has among all the class that it has among the part.
  pub class_part : (x : List ℕ) → In x part → class_of s of x ≡ class_of s part x
  class_part x m =
      let o = part_in x m in
      class_end s sound of x o
      ∙ choices_same (tests s sound of x) (λ y. test y && tests s sound part x y) of
      (λ y n e.
      let h : In y (class_of s of x) = subst (λ z. In y z) (sym (class_end s sound of x o)) (in_filter (tests s sound of x) of y n e) in
      let k = stays_in x y m (class_linked s sound of x o y h) in
      let f = (filter_in test of y k.1).1 in
      let g = (filter_in (tests s sound part x) part y (subst (λ z. In y z) (class_end s sound part x m) (linked_class s sound part x m y k.0))).1 in
      rw (f, g) refl)
      (λ y n e.
      let both = both_true (test y) (tests s sound part x y) e in
      let inside = in_filter test of y n both.0 in
      let h : In y (class_of s part x) = subst (λ z. In y z) (sym (class_end s sound part x m)) (in_filter (tests s sound part x) part y inside both.1) in
      let k = linked_class s sound of x o y (goes_out x y (class_linked s sound part x m y h)) in
      (filter_in (tests s sound of x) of y (subst (λ z. In y z) (class_end s sound of x o) k)).1)
      ∙ sym (twice_chosen (tests s sound part x) test of)
      ∙ sym (class_end s sound part x m)

  -- The groups of the part are those groups of all that have a name of the part.
  pub part_groups : (g : List (List ℕ)) → In g (groups s part) → In g (groups s of) × ((x : List ℕ) → In x g → In x part)
  part_groups g h =
      let k = group_is s sound part g h in
      let e : g ≡ class_of s of k.0 = k.2 ∙ sym (class_part k.0 k.1) in (
        in_flat (own_group s sound of) g k.0 of (part_in k.0 k.1) (subst (λ z. In z (own_group s sound of k.0)) (sym e) (in_own s sound of k.0 (ap (begins_with k.0) (sym e) ∙ k.3))),
        λ x m. class_in s sound part k.0 x k.1 (subst (λ z. In x z) k.2 m),
      )

  -- A group that has a name of the part is a group of the part.
  pub groups_part : (g : List (List ℕ)) (x : List ℕ) → In g (groups s of) → In x g → In x part → In g (groups s part)
  groups_part g x h m n =
      let k = group_is s sound of g h in
      let l = class_linked s sound of k.0 k.1 x (subst (λ z. In x z) k.2 m) in
      let b = (stays_in x k.0 n (turned s sound of k.0 x k.1 l)).1 in
      let e : g ≡ class_of s part k.0 = k.2 ∙ class_part k.0 b in
      in_flat (own_group s sound part) g k.0 part b (subst (λ z. In z (own_group s sound part k.0)) (sym e) (in_own s sound part k.0 (ap (begins_with k.0) (sym e) ∙ k.3)))
