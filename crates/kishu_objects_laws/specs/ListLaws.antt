-- Laws of lists: members, numbers without repeats, how a list goes on, and lists that correspond.
use Rattle.std.specs.Prelude.{◌≡◌, ℕ, zero, suc, ◌+◌, ◌<◌, ◌≤◌, ◌==◌, true, false, not, ◌⊎◌, List, [], ◌∷◌, ◌++◌, length, filter, flat_map, slice_get, Some, Bool, Contains, map}
use Rattle.std.specs.List.{AllZip, list_any}
use Rattle.std.proofs.Common.{inl, inr, refl, ap, sym, ◌∙◌, subst, arith, append_assoc, append-nil, length-append}
use Rattle.std.proofs.lemmas.Bool.{cases_eq, cases_Bool}
use Rattle.std.proofs.lemmas.Bool.Decides.{nat_tests}
use Rattle.std.proofs.lemmas.List.Elements.{filter-append}
use Rattle.kishu_objects.specs.Lists.{In, AllDiffer}
use Rattle.kishu_objects.specs.Picture.{firsts, place}

-- ---- members

-- what is in the front is in the whole
pub in_left : {A : Type 0} (a : A) (xs ys : List A) → In a xs → In a (xs ++ ys)
in_left a [] ys h = absurd h
in_left a (x ∷ xs) ys (inl e) = inl e
in_left a (x ∷ xs) ys (inr h) = inr (in_left a xs ys h)

-- what is in the rest
pub in_right : {A : Type 0} (a : A) (xs ys : List A) → In a ys → In a (xs ++ ys)
in_right a [] ys h = h
in_right a (x ∷ xs) ys h = inr (in_right a xs ys h)

-- What is in two lists, one behind the other, is in one of them.
pub in_cases : {A : Type 0} (a : A) (xs ys : List A) → In a (xs ++ ys) → In a xs ⊎ In a ys
in_cases a [] ys h = inr h
in_cases a (x ∷ xs) ys (inl e) = inl (inl e)
in_cases a (x ∷ xs) ys (inr h) = elim (in_cases a xs ys h) [ inl l ↦ inl (inr l) | inr r ↦ inr r ]

-- what one of the lists has is in all of them together
pub in_flat : {A B : Type 0} (f : A → List B) (b : B) (a : A) (xs : List A) → In a xs → In b (f a) → In b (flat_map f xs)
in_flat f b a [] h k = absurd h
in_flat f b a (x ∷ xs) (inl e) k = in_left b (f x) (flat_map f xs) (subst (λ c. In b (f c)) e k)
in_flat f b a (x ∷ xs) (inr h) k = in_right b (f x) (flat_map f xs) (in_flat f b a xs h k)

-- what is in all of them together, one of them has
pub flat_in : {A B : Type 0} (f : A → List B) (b : B) (xs : List A) → In b (flat_map f xs) → (a : A) × In a xs × In b (f a)
flat_in f b [] h = absurd h
flat_in f b (x ∷ xs) h = elim (in_cases b (f x) (flat_map f xs) h) [ inl l ↦ (x, inl refl, l) | inr r ↦ (let k = flat_in f b xs r in (k.0, inr k.1, k.2)) ]

-- what stands at a place is in the list
pub in_at : {A : Type 0} (xs : List A) (k : ℕ) (a : A) → slice_get xs k ≡ Some a → In a xs
in_at [] k a e = absurd (cc)
in_at (x ∷ xs) zero a e = inl (cc)
in_at (x ∷ xs) (suc k) a e = inr (in_at xs k a e)

-- what is in the list stands at a place
pub at_in : {A : Type 0} (xs : List A) (a : A) → In a xs → (k : ℕ) × (slice_get xs k ≡ Some a)
at_in [] a h = absurd h
at_in (x ∷ xs) a (inl e) = (0, ap Some (sym e))
at_in (x ∷ xs) a (inr h) = (let r = at_in xs a h in (suc r.0, r.1))

-- ---- the numbers without one

-- Two numbers are one or they are not, and the test says which.
pub same_or_not : (i k : ℕ) → ((i ≡ k) × ((i == k) ≡ true)) ⊎ ((i ≡ k → ⊥) × ((i == k) ≡ false))
same_or_not i k = elim (cases_eq i k) [ inl e ↦ inl (e, grind (arith, nat_tests)) | inr n ↦ inr (n, grind (arith, nat_tests)) ]

-- the list without a number
abbrev pub without : ℕ → List ℕ → List ℕ
without i = filter (λ k. not (i == k))

-- What is left is in the list and another number.
pub in_without : (i a : ℕ) (xs : List ℕ) → In a (without i xs) → (i ≡ a → ⊥) × In a xs
in_without i a [] h = absurd h
in_without i a (x ∷ xs) h = elim (same_or_not i x) [
  | inl e ↦ (let k = in_without i a xs (rw e.1 at h) in (k.0, inr k.1))
  | inr n ↦ (
      let k : In a (x ∷ without i xs) = rw n.1 at h in
      elim k [ inl e ↦ ((λ f. n.0 (f ∙ e)), inl e) | inr m ↦ (let r = in_without i a xs m in (r.0, inr r.1)) ])
]

-- Another number is left.
pub without_in : (i a : ℕ) (xs : List ℕ) → (i ≡ a → ⊥) → In a xs → In a (without i xs)
without_in i a [] ne h = h
without_in i a (x ∷ xs) ne (inl e) = elim (same_or_not i x) [
  | inl f ↦ absurd (ne (f.0 ∙ sym e))
  | inr n ↦ rw n.1 (inl e)
]
without_in i a (x ∷ xs) ne (inr h) = elim (same_or_not i x) [
  | inl f ↦ rw f.1 (without_in i a xs ne h)
  | inr n ↦ rw n.1 (inr (without_in i a xs ne h))
]

pub without_none : (i : ℕ) (xs : List ℕ) → (In i xs → ⊥) → without i xs ≡ xs
without_none i [] h = refl
without_none i (x ∷ xs) h = elim (same_or_not i x) [
  | inl f ↦ absurd (h (inl f.0))
  | inr n ↦ rw n.1 (ap (λ l. x ∷ l) (without_none i xs (λ k. h (inr k))))
]

pub distinct_without : (i : ℕ) (xs : List ℕ) → AllDiffer xs → AllDiffer (without i xs)
distinct_without i [] d = tt
distinct_without i (x ∷ xs) d = elim (same_or_not i x) [
  | inl f ↦ rw f.1 (distinct_without i xs d.1)
  | inr n ↦ rw n.1 ((λ h. d.0 (in_without i x xs h).1), distinct_without i xs d.1)
]

-- Without a number a list of different ones is shorter by one at most.
pub length_without : (i : ℕ) (xs : List ℕ) → AllDiffer xs → length xs ≤ suc (length (without i xs))
length_without i [] d = omega arith
length_without i (x ∷ xs) d = elim (same_or_not i x) [
  | inl f ↦ rw f.1 (let e = without_none i xs (λ h. d.0 (subst (λ k. In k xs) f.0 h)) in rw e (omega arith))
  | inr n ↦ rw n.1 (let k = length_without i xs d.1 in omega arith)
]

-- no more different numbers than there are below a bound
pub few : (n : ℕ) (xs : List ℕ) → AllDiffer xs → ((a : ℕ) → In a xs → a < n) → length xs ≤ n
few zero [] d h = omega arith
few zero (x ∷ xs) d h = absurd (let k = h x (inl refl) in omega arith)
few (suc n) xs d h =
    let small : (a : ℕ) → In a (without n xs) → a < n = λ a m. let k = in_without n a xs m in let b = h a k.1 in let c = k.0 in elim (cases_eq n a) [ inl e ↦ absurd (c e) | inr f ↦ omega arith ] in
    let rest = few n (without n xs) (distinct_without n xs d) small in
    let long = length_without n xs d in
    omega arith

-- ---- each at its first place

-- The firsts have nothing that the list lacks.
pub in_firsts : (a : ℕ) (xs : List ℕ) → In a (firsts xs) → In a xs
in_firsts a [] h = h
in_firsts a (x ∷ xs) (inl e) = inl e
in_firsts a (x ∷ xs) (inr h) = inr (in_firsts a xs (in_without x a (firsts xs) h).1)

-- The firsts have all that the list has.
pub firsts_in : (a : ℕ) (xs : List ℕ) → In a xs → In a (firsts xs)
firsts_in a [] h = h
firsts_in a (x ∷ xs) (inl e) = inl e
firsts_in a (x ∷ xs) (inr h) = elim (cases_eq x a) [ inl e ↦ inl (sym e) | inr n ↦ inr (without_in x a (firsts xs) n (firsts_in a xs h)) ]

-- The firsts have each number once.
pub distinct_firsts : (xs : List ℕ) → AllDiffer (firsts xs)
distinct_firsts [] = tt
distinct_firsts (x ∷ xs) = ((λ h. (in_without x x (firsts xs) h).0 refl), distinct_without x (firsts xs) (distinct_firsts xs))

-- ---- how a list goes on

-- The one is the front of the other.
abbrev pub Begins : List ℕ → List ℕ → Type 0
Begins xs ys = (zs : List ℕ) × (ys ≡ xs ++ zs)

-- Where a list goes on, its firsts go on.
pub begins_firsts : (xs zs : List ℕ) → Begins (firsts xs) (firsts (xs ++ zs))
begins_firsts [] zs = (firsts zs, refl)
begins_firsts (x ∷ xs) zs =
    let k = begins_firsts xs zs in
    (without x k.0, ap (λ l. x ∷ l) (ap (without x) k.1 ∙ filter-append (λ j. not (x == j)) (firsts xs) k.0))

pub flat_append : {A B : Type 0} (f : A → List B) (xs ys : List A) → flat_map f (xs ++ ys) ≡ flat_map f xs ++ flat_map f ys
flat_append f [] ys = refl
flat_append f (x ∷ xs) ys = ap (λ l. f x ++ l) (flat_append f xs ys) ∙ sym (append_assoc (f x) (flat_map f xs) (flat_map f ys))

-- Two lists, each the front of the other, are one.
pub begins_both : (xs ys : List ℕ) → Begins xs ys → Begins ys xs → xs ≡ ys
begins_both xs ys a b =
    let n : length ys ≡ length xs + length a.0 = ap length a.1 ∙ length-append xs a.0 in
    let m : length xs ≡ length ys + length b.0 = ap length b.1 ∙ length-append ys b.0 in
    let none : length a.0 ≡ 0 = omega arith in
    sym (a.1 ∙ ends_none xs a.0 none)
  where
    ends_none : (xs zs : List ℕ) → length zs ≡ 0 → xs ++ zs ≡ xs
    ends_none xs [] e = append-nil xs
    ends_none xs (z ∷ zs) e = absurd (omega arith)

-- ---- lists that correspond

module _ (P : ℕ → ℕ → Type 0) where
  -- Two pairs of corresponding lists correspond, one behind the other.
  pub zip_append : (xs ys us vs : List ℕ) → AllZip P xs ys → AllZip P us vs → AllZip P (xs ++ us) (ys ++ vs)
  zip_append [] [] us vs h k = k
  zip_append (x ∷ xs) (y ∷ ys) us vs h k = (h.0, zip_append xs ys us vs h.1 k)
  zip_append [] (y ∷ ys) us vs h k = absurd h
  zip_append (x ∷ xs) [] us vs h k = absurd h

  -- Lists that are made of corresponding things correspond.
  pub zip_flat : {A B : Type 0} (R : A → B → Type 0) (f : A → List ℕ) (g : B → List ℕ) → ((a : A) (b : B) → R a b → AllZip P (f a) (g b)) → (xs : List A) (ys : List B) → AllZip R xs ys → AllZip P (flat_map f xs) (flat_map g ys)
  zip_flat R f g each [] [] h = tt
  zip_flat R f g each (x ∷ xs) (y ∷ ys) h = zip_append (f x) (g y) (flat_map f xs) (flat_map g ys) (each x y h.0) (zip_flat R f g each xs ys h.1)
  zip_flat R f g each [] (y ∷ ys) h = absurd h
  zip_flat R f g each (x ∷ xs) [] h = absurd h

  module _ (one_right : (i j k : ℕ) → P i j → P i k → j ≡ k) (one_left : (i j k : ℕ) → P i k → P j k → i ≡ j) where
    -- Corresponding lists without corresponding numbers correspond.
    pub zip_without : (i j : ℕ) (xs ys : List ℕ) → P i j → AllZip P xs ys → AllZip P (without i xs) (without j ys)
    zip_without i j [] [] p h = tt
    zip_without i j (x ∷ xs) (y ∷ ys) p h = elim (same_or_not i x) [
      | inl e ↦ elim (same_or_not j y) [
        | inl f ↦ rw (e.1, f.1) (zip_without i j xs ys p h.1)
        | inr n ↦ absurd (n.0 (one_right i j y p (subst (λ k. P k y) (sym e.0) h.0)))
      ]
      | inr m ↦ elim (same_or_not j y) [
        | inl f ↦ absurd (m.0 (one_left i x j p (subst (λ k. P x k) (sym f.0) h.0)))
        | inr n ↦ rw (m.1, n.1) (h.0, zip_without i j xs ys p h.1)
      ]
    ]
    zip_without i j [] (y ∷ ys) p h = absurd h
    zip_without i j (x ∷ xs) [] p h = absurd h

    -- Firsts of corresponding lists correspond.
    pub zip_firsts : (xs ys : List ℕ) → AllZip P xs ys → AllZip P (firsts xs) (firsts ys)
    zip_firsts [] [] h = tt
    zip_firsts (x ∷ xs) (y ∷ ys) h = (h.0, zip_without x y (firsts xs) (firsts ys) h.0 (zip_firsts xs ys h.1))
    zip_firsts [] (y ∷ ys) h = absurd h
    zip_firsts (x ∷ xs) [] h = absurd h

    -- Corresponding numbers stand at one place of corresponding lists.
    pub zip_place : (i j : ℕ) (xs ys : List ℕ) → P i j → AllZip P xs ys → place xs i ≡ place ys j
    zip_place i j [] [] p h = refl
    zip_place i j (x ∷ xs) (y ∷ ys) p h = elim (same_or_not x i) [
      | inl e ↦ elim (same_or_not y j) [
        | inl f ↦ rw (e.1, f.1) refl
        | inr n ↦ absurd (n.0 (one_right i y j (subst (λ k. P k y) e.0 h.0) p))
      ]
      | inr m ↦ elim (same_or_not y j) [
        | inl f ↦ absurd (m.0 (one_left x i j (subst (λ k. P x k) f.0 h.0) p))
        | inr n ↦ rw (m.1, n.1) (ap suc (zip_place i j xs ys p h.1))
      ]
    ]
    zip_place i j [] (y ∷ ys) p h = absurd h
    zip_place i j (x ∷ xs) [] p h = absurd h

-- ---- places

-- What is in the list stands at its place.
pub at_place : (xs : List ℕ) (i : ℕ) → In i xs → slice_get xs (place xs i) ≡ Some i
at_place [] i h = absurd h
at_place (x ∷ xs) i (inl e) = elim (same_or_not x i) [ inl f ↦ rw f.1 (ap Some f.0) | inr n ↦ absurd (n.0 (sym e)) ]
at_place (x ∷ xs) i (inr h) = elim (same_or_not x i) [ inl f ↦ rw f.1 (ap Some f.0) | inr n ↦ rw n.1 (at_place xs i h) ]

-- Where numbers differ, each stands at its place alone.
pub place_at : (xs : List ℕ) (k i : ℕ) → AllDiffer xs → slice_get xs k ≡ Some i → place xs i ≡ k
place_at [] k i d e = absurd (cc)
place_at (x ∷ xs) zero i d e = elim (same_or_not x i) [ inl f ↦ rw f.1 refl | inr n ↦ absurd (n.0 (cc)) ]
place_at (x ∷ xs) (suc k) i d e = elim (same_or_not x i) [ inl f ↦ absurd (d.0 (in_at xs k x (e ∙ ap Some (sym f.0)))) | inr n ↦ rw n.1 (ap suc (place_at xs k i d.1 e)) ]

-- what is in the list of what f gives is given for something
pub map_in : {A B : Type 0} (f : A → B) (xs : List A) (b : B) → In b (map f xs) → (a : A) × In a xs × (b ≡ f a)
map_in f [] b h = absurd h
map_in f (x ∷ xs) b (inl e) = (x, inl refl, e)
map_in f (x ∷ xs) b (inr h) = (let k = map_in f xs b h in (k.0, inr k.1, k.2))

-- ---- members at their places

-- from the library's word, which says it by places
pub contains_in : {A : Type 0} (xs : List A) (x : A) → Contains xs x → In x xs
contains_in [] x h = absurd (omega (arith, h.1))
contains_in (y ∷ ys) x (zero, l, e) = inl (sym e)
contains_in (y ∷ ys) x (suc k, l, e) = inr (contains_in ys x (k, omega arith, e))

pub in_contains : {A : Type 0} (xs : List A) (x : A) → In x xs → Contains xs x
in_contains [] x h = absurd h
in_contains (y ∷ ys) x (inl e) = (0, omega arith, sym e)
in_contains (y ∷ ys) x (inr h) = (let k = in_contains ys x h in (suc k.0, omega (arith, k.1), k.2))

-- ---- tests over lists

pub true_not_false : true ≡ false → ⊥
true_not_false e = cc

-- Where a test holds of any, there is one of which it holds.
pub any_in : {A : Type 0} (test : A → Bool) (xs : List A) → list_any test xs ≡ true → (a : A) × In a xs × (test a ≡ true)
any_in test [] e = absurd (true_not_false (sym e))
any_in test (x ∷ xs) e = elim (cases_Bool (test x)) [
  | inl h ↦ (x, inl refl, h)
  | inr n ↦ (let f : list_any test xs ≡ true = rw n at e in let k = any_in test xs f in (k.0, inr k.1, k.2))
]

-- The test holds of any, where it holds of one in the list.
pub in_any : {A : Type 0} (test : A → Bool) (xs : List A) (a : A) → In a xs → test a ≡ true → list_any test xs ≡ true
in_any test [] a h e = absurd h
in_any test (x ∷ xs) a (inl f) e = (let g : test x ≡ true = ap test (sym f) ∙ e in rw g refl)
in_any test (x ∷ xs) a (inr h) e = elim (cases_Bool (test x)) [ inl g ↦ rw g refl | inr n ↦ rw n (in_any test xs a h e) ]

-- What is in the list and passes the test is chosen.
pub in_filter : {A : Type 0} (test : A → Bool) (xs : List A) (a : A) → In a xs → test a ≡ true → In a (filter test xs)
in_filter test [] a h e = h
in_filter test (x ∷ xs) a (inl f) e = (let g : test x ≡ true = ap test (sym f) ∙ e in rw g (inl f))
in_filter test (x ∷ xs) a (inr h) e = elim (cases_Bool (test x)) [ inl g ↦ rw g (inr (in_filter test xs a h e)) | inr n ↦ rw n (in_filter test xs a h e) ]

-- What is chosen is in the list and passes.
pub filter_in : {A : Type 0} (test : A → Bool) (xs : List A) (a : A) → In a (filter test xs) → In a xs × (test a ≡ true)
filter_in test [] a h = absurd h
filter_in test (x ∷ xs) a h = elim (cases_Bool (test x)) [
  | inl g ↦ (
      let k : In a (x ∷ filter test xs) = rw g at h in
      elim k [ inl e ↦ (inl e, ap test e ∙ g) | inr m ↦ (let r = filter_in test xs a m in (inr r.0, r.1)) ]
      )
  | inr n ↦ (let k : In a (filter test xs) = rw n at h in let r = filter_in test xs a k in (inr r.0, r.1))
]

-- no more are chosen than there are
pub filter_short : {A : Type 0} (test : A → Bool) (xs : List A) → length (filter test xs) ≤ length xs
filter_short test [] = omega arith
filter_short test (x ∷ xs) = (let k = filter_short test xs in elim (cases_Bool (test x)) [ inl g ↦ rw g (omega arith) | inr n ↦ rw n (omega arith) ])

-- A test that holds of more chooses the same, or more.
pub filter_grows : {A : Type 0} (p q : A → Bool) (xs : List A) → ((a : A) → In a xs → p a ≡ true → q a ≡ true) → (filter p xs ≡ filter q xs) ⊎ (suc (length (filter p xs)) ≤ length (filter q xs))
filter_grows p q [] h = inl refl
filter_grows p q (x ∷ xs) h =
    let rest = filter_grows p q xs (λ a m. h a (inr m)) in
    elim (cases_Bool (p x)) [
      | inl e ↦ (let f = h x (inl refl) e in rw (e, f) (elim rest [ inl g ↦ inl (ap (λ l. x ∷ l) g) | inr l ↦ inr (omega arith) ]))
      | inr e ↦ elim (cases_Bool (q x)) [
        | inl f ↦ rw (e, f) (elim rest [ inl g ↦ inr (let k = ap length g in omega arith) | inr l ↦ inr (omega arith) ])
        | inr f ↦ rw (e, f) rest
      ]
    ]

-- Two tests with one answer on all of the list choose the same.
pub filter_same : {A : Type 0} (p q : A → Bool) (xs : List A) → ((a : A) → In a xs → p a ≡ q a) → filter p xs ≡ filter q xs
filter_same p q [] h = refl
filter_same p q (x ∷ xs) h =
    let rest = filter_same p q xs (λ a m. h a (inr m)) in
    let e = h x (inl refl) in
    elim (cases_Bool (q x)) [ inl f ↦ rw (e, f) (ap (λ l. x ∷ l) rest) | inr f ↦ rw (e, f) rest ]

-- Chosen ones of different ones differ.
pub differ_filter : {A : Type 0} (test : A → Bool) (xs : List A) → AllDiffer xs → AllDiffer (filter test xs)
differ_filter test [] d = tt
differ_filter test (x ∷ xs) d = elim (cases_Bool (test x)) [
  | inl e ↦ rw e ((λ h. d.0 (filter_in test xs x h).0), differ_filter test xs d.1)
  | inr n ↦ rw n (differ_filter test xs d.1)
]

pub one_answer : (a b : Bool) → (a ≡ true → b ≡ true) → (b ≡ true → a ≡ true) → a ≡ b
one_answer true b f g = sym (f refl)
one_answer false true f g = g refl
one_answer false false f g = refl
