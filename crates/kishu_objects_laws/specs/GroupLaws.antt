-- Groups are classes: they cut the names, no two share a node, and states that are the same have the same groups.
use Rattle.std.specs.Prelude.{◌≡◌, ℕ, zero, suc, ◌<◌, ◌≤◌, ◌==◌, ◌⊎◌, Bool, true, false, if◌then◌else◌, List, [], ◌∷◌, ◌++◌, length, flat_map, slice_get, slice_index_or, Some}
use Rattle.std.specs.List.{list_any}
use Rattle.std.specs.Str.{bytes_eq}
use Rattle.std.specs.Cmp.Lexicographic.{bytes_decides}
use Rattle.std.proofs.Common.{refl, ap, sym, ◌∙◌, subst, arith, inl, inr}
use Rattle.std.proofs.lemmas.Bool.{cases_Bool}
use Rattle.std.proofs.lemmas.Bool.Decides.{nat_tests}
use Rattle.kishu_meaning.specs.values.Values.{node, State, find}
use Rattle.kishu_objects.specs.Lists.{In, AllDiffer}
use Rattle.kishu_objects.specs.Shape.{reached}
use Rattle.kishu_objects.specs.Same.{SameOn}
use Rattle.kishu_objects.specs.Picture.{times, order, listed}
use Rattle.kishu_objects.specs.Sound.{IsSound}
use Rattle.kishu_objects.specs.Groups.{Reaches, Touch, Linked, itself, further, AreApart, is_in, touches, near, class_of, begins_with, groups, Cuts, groups_of}
use Rattle.kishu_objects_laws.specs.ListLaws.{in_flat, flat_in, in_at, same_or_not, contains_in, in_contains, true_not_false, any_in, in_any, in_filter, filter_in, filter_short, filter_grows, filter_same, one_answer, differ_filter}
use Rattle.kishu_objects_laws.specs.NameLaws.{found_listed}
use Rattle.kishu_objects_laws.specs.OrderLaws.{order_reached, reached_order, step_from}

-- ---- what touches

module _ (s : State) (sound : IsSound s) where
  touches_itself : (x : List ℕ) → touches s x x ≡ true
  touches_itself x = (let e = (bytes_decides x x).1 refl in rw e refl)

  touch_touches : (x y : List ℕ) → Touch s x y → touches s x y ≡ true
  touch_touches x y h =
      let a = reached_order s sound (x ∷ []) x (inl refl) h.1.0 h.0 h.1.1 in
      let b = reached_order s sound (y ∷ []) y (inl refl) h.2.0 h.0 h.2.1 in
      let e : list_any (λ i. is_in i (order s (y ∷ []))) (order s (x ∷ [])) ≡ true =
      in_any (λ i. is_in i (order s (y ∷ []))) (order s (x ∷ [])) h.0 a (in_any (λ k. h.0 == k) (order s (y ∷ [])) h.0 b (grind (arith, nat_tests))) in
      elim (cases_Bool (bytes_eq x y)) [ inl g ↦ rw g refl | inr n ↦ rw (n, e) refl ]

  alone : (x y : List ℕ) (i : ℕ) → (z : List ℕ) × In z (y ∷ []) × Reaches s z i → Reaches s y i
  alone x y i (z, inl e, r) = subst (λ w. Reaches s w i) e r
  alone x y i (z, inr m, r) = absurd m

  -- names that the test says to touch are one, or share a node
  pub touches_touch : (x y : List ℕ) → touches s x y ≡ true → (x ≡ y) ⊎ Touch s x y
  touches_touch x y e = elim (cases_Bool (bytes_eq x y)) [
    | inl g ↦ inl ((bytes_decides x y).0 g)
    | inr n ↦ (
        let f : list_any (λ i. is_in i (order s (y ∷ []))) (order s (x ∷ [])) ≡ true = rw n at e in
        let k = any_in (λ i. is_in i (order s (y ∷ []))) (order s (x ∷ [])) f in
        let m = any_in (λ j. k.0 == j) (order s (y ∷ [])) k.2 in
        let q : k.0 ≡ m.0 = same k.0 m.0 m.2 in
        inr (k.0, alone x x k.0 (order_reached s (x ∷ []) k.0 k.1), alone x y k.0 (order_reached s (y ∷ []) k.0 (subst (λ j. In j (order s (y ∷ []))) (sym q) m.1)))
        )
  ]
    where
      same : (a b : ℕ) → (a == b) ≡ true → a ≡ b
      same a b e = elim (same_or_not a b) [ inl f ↦ f.0 | inr n ↦ absurd (true_not_false (sym e ∙ n.1)) ]

  -- ---- the class of a name

  module _ (of : List (List ℕ)) where
    abbrev classes : List ℕ → ℕ → List (List ℕ)
    classes x k = times k (near s of) (x ∷ [])

    near_in : (xs : List (List ℕ)) (x y : List ℕ) → In y of → In x xs → touches s x y ≡ true → In y (near s of xs)
    near_in xs x y m n e = in_filter (λ z. list_any (λ w. touches s w z) xs) of y m (in_any (λ w. touches s w y) xs x n e)

    in_near : (xs : List (List ℕ)) (y : List ℕ) → In y (near s of xs) → In y of × ((x : List ℕ) × In x xs × (touches s x y ≡ true))
    in_near xs y h = let k = filter_in (λ z. list_any (λ w. touches s w z) xs) of y h in (k.0, any_in (λ w. touches s w y) xs k.1)

    near_more : (xs ys : List (List ℕ)) → ((x : List ℕ) → In x xs → In x ys) → (y : List ℕ) → In y (near s of xs) → In y (near s of ys)
    near_more xs ys h y m = let k = in_near xs y m in near_in ys k.1.0 y k.0 (h k.1.0 k.1.1) k.1.2

    module _ (x : List ℕ) (has : In x of) where
      classes_grow : (k : ℕ) (y : List ℕ) → In y (classes x k) → In y (classes x (suc k))
      classes_grow zero y (inl e) = near_in (x ∷ []) x y (subst (λ z. In z of) (sym e) has) (inl refl) (subst (λ z. touches s x z ≡ true) (sym e) (touches_itself x))
      classes_grow zero y (inr h) = absurd h
      classes_grow (suc k) y h = near_more (classes x k) (classes x (suc k)) (classes_grow k) y h

      pub begins : (k : ℕ) → In x (classes x k)
      begins zero = inl refl
      begins (suc k) = classes_grow k x (begins k)

      some_long : (xs : List (List ℕ)) → In x xs → 1 ≤ length xs
      some_long [] h = absurd h
      some_long (y ∷ ys) h = omega arith

      still_or_longer : (k : ℕ) → (classes x k ≡ classes x (suc k)) ⊎ (suc k ≤ length (classes x (suc k)))
      still_or_longer zero = inr (some_long (classes x 1) (begins 1))
      still_or_longer (suc k) = elim (still_or_longer k) [
        | inl e ↦ inl (ap (near s of) e)
        | inr l ↦ elim (filter_grows (λ y. list_any (λ z. touches s z y) (classes x k)) (λ y. list_any (λ z. touches s z y) (classes x (suc k))) of
            (λ a m e. let r = any_in (λ z. touches s z a) (classes x k) e in in_any (λ z. touches s z a) (classes x (suc k)) r.0 (classes_grow k r.0 r.1) r.2)) [
              | inl e ↦ inl e
              | inr m ↦ inr (omega arith)
            ]
      ]

      -- one more round comes to no others
      pub class_end : class_of s of x ≡ near s of (class_of s of x)
      class_end = elim (still_or_longer (length of)) [
        | inl e ↦ e
        | inr l ↦ absurd (let k = filter_short (λ y. list_any (λ z. touches s z y) (classes x (length of))) of in omega arith)
      ]

      link : (k : ℕ) (y : List ℕ) → In y (classes x k) → Linked s of x y
      link zero y (inl e) = subst (λ z. Linked s of x z) (sym e) itself
      link zero y (inr h) = absurd h
      link (suc k) y h =
          let r = in_near (classes x k) y h in
          let l = link k r.1.0 r.1.1 in
          elim (touches_touch r.1.0 y r.1.2) [ inl e ↦ subst (λ z. Linked s of x z) e l | inr t ↦ further r.1.0 y l (in_contains of y r.0) t ]

      -- What is in the class of a name is linked to it.
      pub class_linked : (y : List ℕ) → In y (class_of s of x) → Linked s of x y
      class_linked = link (length of)

      -- What is linked to a name is in its class.
      pub linked_class : (y : List ℕ) → Linked s of x y → In y (class_of s of x)
      linked_class y itself = begins (length of)
      linked_class y (further z w l c t) = subst (λ xs. In y xs) (sym class_end) (near_in (class_of s of x) z y (contains_in of y c) (linked_class z l) (touch_touches z y t))

    -- ---- classes are equal or apart

    -- linked, and on
    pub joined : (x y z : List ℕ) → Linked s of x y → Linked s of y z → Linked s of x z
    joined x y z a itself = a
    joined x y z a (further w v l c t) = further w z (joined x y w a l) c t

    turned_touch : (x y : List ℕ) → Touch s x y → Touch s y x
    turned_touch x y t = (t.0, t.2, t.1)

    linked_in : (x y : List ℕ) → In x of → Linked s of x y → In y of
    linked_in x y m itself = m
    linked_in x y m (further z w l c t) = contains_in of y c

    -- linked, and back
    pub turned : (x y : List ℕ) → In x of → Linked s of x y → Linked s of y x
    turned x y m itself = itself
    turned x y m (further z w l c t) = joined y z x (further y z itself (in_contains of z (linked_in x z m l)) (turned_touch z y t)) (turned x z m l)

    -- whether a name touches one of the class
    abbrev pub tests : List ℕ → List ℕ → Bool
    tests x = λ y. list_any (λ z. touches s z y) (class_of s of x)

    -- a name of the list that touches one of the class is in it
    pub in_class : (x y : List ℕ) → In x of → In y of → tests x y ≡ true → In y (class_of s of x)
    in_class x y m n e = subst (λ xs. In y xs) (sym (class_end x m)) (in_filter (tests x) of y n e)

    -- each name of the class touches one of it
    pub class_test : (x y : List ℕ) → In x of → In y (class_of s of x) → tests x y ≡ true
    class_test x y m h = (filter_in (tests x) of y (subst (λ xs. In y xs) (class_end x m) h)).1

    -- a class has names of the list alone
    pub class_in : (x y : List ℕ) → In x of → In y (class_of s of x) → In y of
    class_in x y m h = (filter_in (tests x) of y (subst (λ xs. In y xs) (class_end x m) h)).0

    -- Linked names have one class.
    pub one_class : (x y : List ℕ) → In x of → In y of → Linked s of x y → class_of s of x ≡ class_of s of y
    one_class x y m n l =
        class_end x m ∙ filter_same (tests x) (tests y) of (λ a k. one_answer (tests x a) (tests y a)
        (λ e. class_test y a n (linked_class y n a (joined y x a (turned x y m l) (class_linked x m a (in_class x a m k e)))))
        (λ e. class_test x a m (linked_class x m a (joined x y a l (class_linked y n a (in_class y a n k e))))))
        ∙ sym (class_end y n)

    -- ---- the groups

    -- the class of a name, where it begins with it
    abbrev pub own_group : List ℕ → List (List (List ℕ))
    own_group x = if begins_with x (class_of s of x) then class_of s of x ∷ [] else []

    own_in : (x : List ℕ) (g : List (List ℕ)) → In g (own_group x) → (g ≡ class_of s of x) × (begins_with x g ≡ true)
    own_in x g h = elim (cases_Bool (begins_with x (class_of s of x))) [
      | inl e ↦ (
          let k : In g (class_of s of x ∷ []) = rw e at h in
          elim k [ inl f ↦ (f, ap (begins_with x) f ∙ e) | inr m ↦ absurd m ]
          )
      | inr n ↦ (let k : In g [] = rw n at h in absurd k)
    ]

    pub in_own : (x : List ℕ) → begins_with x (class_of s of x) ≡ true → In (class_of s of x) (own_group x)
    in_own x e = rw e (inl refl)

    -- each group is the class of a name with which it begins
    pub group_is : (g : List (List ℕ)) → In g (groups s of) → (x : List ℕ) × In x of × (g ≡ class_of s of x) × (begins_with x g ≡ true)
    group_is g h = let k = flat_in own_group g of h in let r = own_in k.0 g k.2 in (k.0, k.1, r.0, r.1)

    begins_head : (x : List ℕ) (xs : List (List ℕ)) → In x xs → (y : List ℕ) × In y xs × (begins_with y xs ≡ true)
    begins_head x [] h = absurd h
    begins_head x (y ∷ ys) h = (y, inl refl, (bytes_decides y y).1 refl)

    -- each name is in a group
    pub group_of : (x : List ℕ) → In x of → (g : List (List ℕ)) × In g (groups s of) × In x g
    group_of x m =
        let h = begins_head x (class_of s of x) (begins x m (length of)) in
        let n = class_in x h.0 m h.1 in
        let e = one_class x h.0 m n (class_linked x m h.0 h.1) in
        (class_of s of x, in_flat own_group (class_of s of x) h.0 of n (subst (λ g. In g (own_group h.0)) (sym e) (in_own h.0 (subst (λ g. begins_with h.0 g ≡ true) e h.2))), begins x m (length of))

    -- two names are in one group exactly where they are linked
    pub group_linked : (g : List (List ℕ)) (x y : List ℕ) → In g (groups s of) → In x g → In y g → Linked s of x y
    group_linked g x y h m n =
        let k = group_is g h in
        let a = class_linked k.0 k.1 x (subst (λ z. In x z) k.2 m) in
        let b = class_linked k.0 k.1 y (subst (λ z. In y z) k.2 n) in
        joined x k.0 y (turned k.0 x k.1 a) b

    -- what is linked to one of a group is in it
    pub linked_group : (g : List (List ℕ)) (x y : List ℕ) → In g (groups s of) → In x g → Linked s of x y → In y g
    linked_group g x y h m l =
        let k = group_is g h in
        let a = class_linked k.0 k.1 x (subst (λ z. In x z) k.2 m) in
        subst (λ z. In y z) (sym k.2) (linked_class k.0 k.1 y (joined k.0 x y a l))

    same_head : (x y : List ℕ) (g : List (List ℕ)) → begins_with x g ≡ true → begins_with y g ≡ true → x ≡ y
    same_head x y [] a b = absurd (true_not_false (sym a))
    same_head x y (z ∷ zs) a b = (bytes_decides x z).0 a ∙ sym ((bytes_decides y z).0 b)

    -- a name is in one group alone
    pub one_group : (g h : List (List ℕ)) (x : List ℕ) → In g (groups s of) → In h (groups s of) → In x g → In x h → g ≡ h
    one_group g h x a b m n =
        let k = group_is g a in
        let r = group_is h b in
        let e = class_linked k.0 k.1 x (subst (λ z. In x z) k.2 m) in
        let f = class_linked r.0 r.1 x (subst (λ z. In x z) r.2 n) in
        k.2 ∙ one_class k.0 r.0 k.1 r.1 (joined k.0 x r.0 e (turned r.0 x r.1 f)) ∙ sym r.2

    -- what is reached from two names is reached from one group
    pub touch_group : (g : List (List ℕ)) (x y : List ℕ) → In g (groups s of) → In x g → In y of → Touch s x y → In y g
    touch_group g x y h m n t = linked_group g x y h m (further x y itself (in_contains of y n) t)

module _ (s : State) (sound : IsSound s) (of : List (List ℕ)) where
  -- the groups that begin at these names
  abbrev from : List (List ℕ) → List (List (List ℕ))
  from xs = flat_map (own_group s sound of) xs

  abbrev if_own : Bool → List ℕ → List (List (List ℕ))
  if_own b x = if b then class_of s of x ∷ [] else []

  heads_differ : (x : List ℕ) (xs : List (List ℕ)) → (In x xs → ⊥)
      → ((a b : ℕ) (g h : List (List ℕ)) → a < b → slice_get (from xs) a ≡ Some g → slice_get (from xs) b ≡ Some h → g ≡ h → ⊥)
      → (own : Bool) → begins_with x (class_of s of x) ≡ own
      → (a b : ℕ) (g h : List (List ℕ)) → a < b → slice_get (if_own own x ++ from xs) a ≡ Some g → slice_get (if_own own x ++ from xs) b ≡ Some h → g ≡ h → ⊥
  heads_differ x xs new rest false own a b g h l p q e = rest a b g h l p q e
  heads_differ x xs new rest true own zero zero g h l p q e = omega arith
  heads_differ x xs new rest true own (suc a) zero g h l p q e = omega arith
  heads_differ x xs new rest true own zero (suc b) g h l p q e =
      let f : class_of s of x ≡ g = cc in
      let k = flat_in (own_group s sound of) h xs (in_at (from xs) b h q) in
      let r = own_in s sound of k.0 h k.2 in
      let u : begins_with x h ≡ true = ap (begins_with x) (sym e ∙ sym f) ∙ own in
      new (subst (λ z. In z xs) (same_head s sound of k.0 x h r.1 u) k.1)
  heads_differ x xs new rest true own (suc a) (suc b) g h l p q e = rest a b g h (omega arith) p q e

  later_differs : (xs : List (List ℕ)) → AllDiffer xs → (a b : ℕ) (g h : List (List ℕ)) → a < b → slice_get (from xs) a ≡ Some g → slice_get (from xs) b ≡ Some h → g ≡ h → ⊥
  later_differs [] d a b g h l p q e = cc
  later_differs (x ∷ xs) d a b g h l p q e = heads_differ x xs d.0 (later_differs xs d.1) (begins_with x (class_of s of x)) refl a b g h l p q e

  get_some : {A : Type 0} (xs : List A) (k : ℕ) (d : A) → k < length xs → slice_get xs k ≡ Some (slice_index_or xs k d)
  get_some [] k d l = absurd (omega arith)
  get_some (x ∷ xs) zero d l = refl
  get_some (x ∷ xs) (suc k) d l = get_some xs k d (omega arith)

  -- no two groups share a node
  pub groups_apart : AllDiffer of → AreApart s (groups s of)
  groups_apart d i j e less in_range x y m n t =
      let g = slice_index_or (groups s of) i e in
      let h = slice_index_or (groups s of) j e in
      let p = get_some (groups s of) i e (omega arith) in
      let q = get_some (groups s of) j e in_range in
      let gi = in_at (groups s of) i g p in
      let hi = in_at (groups s of) j h q in
      let kh = group_is s sound of h hi in
      let yo = class_in s sound of kh.0 y kh.1 (subst (λ z. In y z) kh.2 (contains_in h y n)) in
      let yg = touch_group s sound of g x y gi (contains_in g x m) yo t in
      later_differs of d i j g h less p q (one_group s sound of g h y gi hi yg (contains_in h y n))

  -- a name without a node is a group by itself
  plain_reaches : (x : List ℕ) → ((i : ℕ) → find x s.names ≡ Some (node i) → ⊥) → (p : List ℕ) (i : ℕ) → reached s x p ≡ Some (node i) → ⊥
  plain_reaches x none [] i r = none i r
  plain_reaches x none (c ∷ p) i r = (let k = step_from s c i (reached s x p) r in plain_reaches x none p k.0 k.1)

  plain_linked : (x : List ℕ) → ((i : ℕ) → find x s.names ≡ Some (node i) → ⊥) → (y : List ℕ) → Linked s of x y → x ≡ y
  plain_linked x none y itself = refl
  plain_linked x none y (further z w l c t) = (let f = plain_linked x none z l in absurd (let r = subst (λ u. Reaches s u t.0) (sym f) t.1 in plain_reaches x none r.0 t.0 r.1))

  -- of different names, all of them one
  one_alone : (x : List ℕ) (ys : List (List ℕ)) → AllDiffer ys → ((y : List ℕ) → In y ys → x ≡ y) → In x ys → ys ≡ x ∷ []
  one_alone x [] d h m = absurd m
  one_alone x (y ∷ []) d h m = ap (λ z. z ∷ []) (sym (h y (inl refl)))
  one_alone x (y ∷ (z ∷ ys)) d h m = absurd (d.0 (inl (sym (h y (inl refl)) ∙ h z (inr (inl refl)))))

  -- its class is the name alone
  pub plain_alone : (x : List ℕ) → ((i : ℕ) → find x s.names ≡ Some (node i) → ⊥) → AllDiffer of → In x of → In (x ∷ []) (groups s of)
  plain_alone x none d m =
      let g = group_of s sound of x m in
      let k = group_is s sound of g.0 g.1 in
      let differ : AllDiffer g.0 = subst (λ ys. AllDiffer ys) (sym (k.2 ∙ class_end s sound of k.0 k.1)) (differ_filter (tests s sound of k.0) of d) in
      let e = one_alone x g.0 differ (λ y n. plain_linked x none y (group_linked s sound of g.0 x y g.1 g.2 n)) g.2 in
      subst (λ ys. In ys (groups s of)) e g.1

-- ---- the groups of all names

-- Each bound name is in a group.
pub groups_cut : (s : State) → IsSound s → Cuts s (groups_of s)
groups_cut s sound x v e =
    let g = group_of s sound (listed s) x (found_listed s.names x v e) in
    (g.0, in_contains (groups_of s) g.0 g.1, in_contains g.0 x g.2)

-- ---- states that are the same have the same groups

module _ (s t : State) (sound : IsSound s) (other : IsSound t) (of : List (List ℕ)) (same : SameOn s t of) where
  touch_there : (x y : List ℕ) → In x of → In y of → Touch s x y → Touch t x y
  touch_there x y m n h = let k = same.shared_there x h.1.0 y h.2.0 (in_contains of x m) (in_contains of y n) (h.0, h.1.1, h.2.1) in (k.0, (h.1.0, k.1), (h.2.0, k.2))

  touch_here : (x y : List ℕ) → In x of → In y of → Touch t x y → Touch s x y
  touch_here x y m n h = let k = same.shared_here x h.1.0 y h.2.0 (in_contains of x m) (in_contains of y n) (h.0, h.1.1, h.2.1) in (k.0, (h.1.0, k.1), (h.2.0, k.2))

  touches_same : (x y : List ℕ) → In x of → In y of → touches s x y ≡ touches t x y
  touches_same x y m n = one_answer (touches s x y) (touches t x y)
      (λ e. elim (touches_touch s sound x y e) [ inl f ↦ subst (λ z. touches t x z ≡ true) f (touches_itself t other x) | inr h ↦ touch_touches t other x y (touch_there x y m n h) ])
      (λ e. elim (touches_touch t other x y e) [ inl f ↦ subst (λ z. touches s x z ≡ true) f (touches_itself s sound x) | inr h ↦ touch_touches s sound x y (touch_here x y m n h) ])

  any_same : (y : List ℕ) → In y of → (xs : List (List ℕ)) → ((x : List ℕ) → In x xs → In x of) → list_any (λ x. touches s x y) xs ≡ list_any (λ x. touches t x y) xs
  any_same y n [] h = refl
  any_same y n (x ∷ xs) h = (let e = touches_same x y (h x (inl refl)) n in let k = any_same y n xs (λ z m. h z (inr m)) in rw (e, k) refl)

  near_same : (xs : List (List ℕ)) → ((x : List ℕ) → In x xs → In x of) → near s of xs ≡ near t of xs
  near_same xs h = filter_same (λ y. list_any (λ x. touches s x y) xs) (λ y. list_any (λ x. touches t x y) xs) of (λ y n. any_same y n xs h)

  classes_in : (x : List ℕ) → In x of → (k : ℕ) (y : List ℕ) → In y (times k (near t of) (x ∷ [])) → In y of
  classes_in x m zero y (inl e) = subst (λ z. In z of) (sym e) m
  classes_in x m zero y (inr h) = absurd h
  classes_in x m (suc k) y h = (in_near t other of (times k (near t of) (x ∷ [])) y h).0

  classes_same : (x : List ℕ) → In x of → (k : ℕ) → times k (near s of) (x ∷ []) ≡ times k (near t of) (x ∷ [])
  classes_same x m zero = refl
  classes_same x m (suc k) = ap (near s of) (classes_same x m k) ∙ near_same (times k (near t of) (x ∷ [])) (classes_in x m k)

  own_same : (xs : List (List ℕ)) → ((x : List ℕ) → In x xs → In x of) → flat_map (own_group s sound of) xs ≡ flat_map (own_group t other of) xs
  own_same [] h = refl
  own_same (x ∷ xs) h =
      let e = ap (λ c. if begins_with x c then c ∷ [] else []) (classes_same x (h x (inl refl)) (length of)) in
      let k = own_same xs (λ y m. h y (inr m)) in
      ap (λ l. l ++ flat_map (own_group s sound of) xs) e ∙ ap (λ l. own_group t other of x ++ l) k

  -- The groups are the same.
  pub groups_same : groups s of ≡ groups t of
  groups_same = own_same of (λ x m. m)
