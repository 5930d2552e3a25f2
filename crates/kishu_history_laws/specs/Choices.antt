-- Lists that are chosen from others, and lists that rise.
use Rattle.std.specs.Prelude.{◌≡◌, ℕ, Bool, true, false, not, ◌&&◌, ◌⊎◌, List, [], ◌∷◌, map, filter}
use Rattle.std.specs.Bool.{Decides}
use Rattle.std.specs.List.{list_any, AllByRecursion}
use Rattle.std.specs.List.Sorted.{IsStrictlySortedBy}
use Rattle.std.specs.Ordering.{nat_cmp}
use Rattle.std.specs.declared.cmp.Ordering.TheVariants.{Less}
use Rattle.std.specs.Cmp.Lexicographic.{slice_cmp}
use Rattle.std.specs.Str.{bytes_eq}
use Rattle.std.proofs.Common.{refl, ap, sym, ◌∙◌, subst, inl, inr}
use Rattle.std.proofs.lemmas.Bool.{cases_Bool}
use Rattle.std.proofs.lemmas.Slice.Eq.{bytes_eq-Decides}
use Rattle.kishu_language.specs.tokens.Names.{is_among}
use Rattle.kishu_objects.specs.Lists.{In, Rise}
use Rattle.kishu_objects_laws.specs.NameLaws.{below_in, not_both}
use Rattle.kishu_history.specs.Changed.{Group, is_group, is_one_of}
use Rattle.kishu_history_laws.specs.states.AlikeLaws.{not_true, all_decide}

-- ---- tests over lists

pub any_in : {A : Type 0} (test : A → Bool) (xs : List A) → list_any test xs ≡ true → (a : A) × In a xs × (test a ≡ true)
any_in test [] e = absurd (not_true e)
any_in test (x ∷ xs) e = elim (cases_Bool (test x)) [
  | inl h ↦ (x, inl refl, h)
  | inr n ↦ (let f : list_any test xs ≡ true = rw n at e in let k = any_in test xs f in (k.0, inr k.1, k.2))
]

pub in_any : {A : Type 0} (test : A → Bool) (xs : List A) (a : A) → In a xs → test a ≡ true → list_any test xs ≡ true
in_any test [] a h e = absurd h
in_any test (x ∷ xs) a (inl f) e = (let g : test x ≡ true = ap test (sym f) ∙ e in rw g refl)
in_any test (x ∷ xs) a (inr h) e = elim (cases_Bool (test x)) [ inl g ↦ rw g refl | inr n ↦ rw n (in_any test xs a h e) ]

pub any_decides : {A : Type 0} (test : A → A → Bool) → ((a b : A) → Decides (test a b) (a ≡ b)) → (x : A) (xs : List A) → Decides (list_any (test x) xs) (In x xs)
any_decides test d x xs = (
  λ e. let k = any_in (test x) xs e in subst (λ a. In a xs) (sym ((d x k.0).0 k.2)) k.1,
  λ h. in_any (test x) xs x h ((d x x).1 refl),
)

pub group_decides : (g h : Group) → Decides (is_group g h) (g ≡ h)
group_decides = all_decide bytes_eq bytes_eq-Decides

pub one_of_decides : (g : Group) (gs : List Group) → Decides (is_one_of g gs) (In g gs)
one_of_decides = any_decides is_group group_decides

pub among_decides : (x : List ℕ) (xs : List (List ℕ)) → Decides (is_among x xs) (In x xs)
among_decides = any_decides bytes_eq bytes_eq-Decides

-- what a test that decides tells
pub told : {P : Type 0} (r : Bool) → Decides r P → P ⊎ (P → ⊥)
told true d = inl (d.0 refl)
told false d = inr (λ p. not_true (d.1 p))

pub not_told : {P : Type 0} (r : Bool) → Decides r P → (P → ⊥) → r ≡ false
not_told true d n = absurd (n (d.0 refl))
not_told false d n = refl

pub one_truth : (a b : Bool) → (a ≡ true → b ≡ true) → (b ≡ true → a ≡ true) → a ≡ b
one_truth true b f g = sym (f refl)
one_truth false true f g = g refl
one_truth false false f g = refl

pub false_no : {P : Type 0} (r : Bool) → Decides r P → r ≡ false → P → ⊥
false_no r d e p = not_true (sym e ∙ d.1 p)

pub not_false : (b : Bool) → not b ≡ true → b ≡ false
not_false true e = absurd (not_true e)
not_false false e = refl

-- ---- choices

pub filter_same : {A : Type 0} (p q : A → Bool) (xs : List A) → ((a : A) → In a xs → p a ≡ q a) → filter p xs ≡ filter q xs
filter_same p q [] h = refl
filter_same p q (x ∷ xs) h =
    let rest = filter_same p q xs (λ a m. h a (inr m)) in
    let e = h x (inl refl) in
    elim (cases_Bool (q x)) [ inl f ↦ rw (e, f) (ap (λ l. x ∷ l) rest) | inr f ↦ rw (e, f) rest ]

pub filter_twice : {A : Type 0} (p q : A → Bool) (xs : List A) → filter p (filter q xs) ≡ filter (λ a. q a && p a) xs
filter_twice p q [] = refl
filter_twice p q (x ∷ xs) =
    let rest = filter_twice p q xs in
    elim (cases_Bool (q x)) [
      | inl e ↦ elim (cases_Bool (p x)) [ inl f ↦ rw (e, f) (ap (λ l. x ∷ l) rest) | inr f ↦ rw (e, f) rest ]
      | inr e ↦ rw e rest
    ]

pub filter_map : {A B : Type 0} (f : A → B) (p : B → Bool) (xs : List A) → filter p (map f xs) ≡ map f (filter (λ a. p (f a)) xs)
filter_map f p [] = refl
filter_map f p (x ∷ xs) = elim (cases_Bool (p (f x))) [ inl e ↦ rw e (ap (λ l. f x ∷ l) (filter_map f p xs)) | inr e ↦ rw e (filter_map f p xs) ]

pub in_map : {A B : Type 0} (f : A → B) (xs : List A) (a : A) → In a xs → In (f a) (map f xs)
in_map f [] a h = absurd h
in_map f (x ∷ xs) a (inl e) = inl (ap f e)
in_map f (x ∷ xs) a (inr h) = inr (in_map f xs a h)

-- ---- lists that rise

abbrev pub AllBelow : List ℕ → List (List ℕ) → Type 0
AllBelow x ys = AllByRecursion (λ z. slice_cmp nat_cmp x z ≡ Less) ys

pub all_chosen : (test : List ℕ → Bool) (x : List ℕ) (ys : List (List ℕ)) → AllBelow x ys → AllBelow x (filter test ys)
all_chosen test x [] h = tt
all_chosen test x (y ∷ ys) h = elim (cases_Bool (test y)) [ inl e ↦ rw e (h.0, all_chosen test x ys h.1) | inr e ↦ rw e (all_chosen test x ys h.1) ]

pub rise_chosen : (test : List ℕ → Bool) (xs : List (List ℕ)) → Rise xs → Rise (filter test xs)
unfolding IsStrictlySortedBy
rise_chosen test [] r = r
rise_chosen test (x ∷ xs) r = elim (cases_Bool (test x)) [ inl e ↦ rw e (all_chosen test x xs r.0, rise_chosen test xs r.1) | inr e ↦ rw e (rise_chosen test xs r.1) ]

-- lists that rise by a name of each item and have the same members are one
module _ {A : Type 0} (f : A → List ℕ) where
  pub rise_one : (xs ys : List A) → Rise (map f xs) → Rise (map f ys) → ((x : A) → In x xs → In x ys) → ((y : A) → In y ys → In y xs) → xs ≡ ys
  unfolding IsStrictlySortedBy
  rise_one [] [] a b to from = refl
  rise_one [] (y ∷ ys) a b to from = absurd (from y (inl refl))
  rise_one (x ∷ xs) [] a b to from = absurd (to x (inl refl))
  rise_one (x ∷ xs) (y ∷ ys) a b to from =
      let e : x ≡ y = elim (to x (inl refl)) [
        | inl e ↦ e
        | inr m ↦ elim (from y (inl refl)) [ inl e ↦ sym e | inr n ↦ absurd (not_both (f x) (f y) (below_in (f y) (f x) (map f xs) a.0 (in_map f xs y n)) (below_in (f x) (f y) (map f ys) b.0 (in_map f ys x m))) ]
      ] in
      let down : (z : A) → In z xs → In z ys = λ z m. elim (to z (inr m)) [
        | inl h ↦ (let k = below_in (f z) (f x) (map f xs) a.0 (in_map f xs z m) in let r : slice_cmp nat_cmp (f x) (f x) ≡ Less = subst (λ w. slice_cmp nat_cmp (f x) (f w) ≡ Less) (h ∙ sym e) k in absurd (not_both (f x) (f x) r r))
        | inr n ↦ n
      ] in
      let up : (z : A) → In z ys → In z xs = λ z m. elim (from z (inr m)) [
        | inl h ↦ (let k = below_in (f z) (f y) (map f ys) b.0 (in_map f ys z m) in let r : slice_cmp nat_cmp (f y) (f y) ≡ Less = subst (λ w. slice_cmp nat_cmp (f y) (f w) ≡ Less) (h ∙ e) k in absurd (not_both (f y) (f y) r r))
        | inr n ↦ n
      ] in
      let rest = rise_one xs ys a.1 b.1 down up in
      ap (λ l. x ∷ l) rest ∙ ap (λ z. z ∷ ys) e
