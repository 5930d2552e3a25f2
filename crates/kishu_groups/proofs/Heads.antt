-- The names of each class, put together name after name, are the groups.
use Rattle.std.specs.Prelude.{◌≡◌, ℕ, zero, suc, ◌<◌, ◌≤◌, ◌==◌, Bool, true, false, if◌then◌else◌, List, [], ◌∷◌, ◌++◌, map, length, take, filter, flat_map, get_or, slice_get, slice_set, Option, Some, None, option_map}
use Rattle.std.specs.Str.{bytes_eq}
use Rattle.std.proofs.Common.{refl, ap, sym, ◌∙◌, subst, arith, inl, inr, append-nil, length-append}
use Rattle.std.proofs.lemmas.Bool.{cases_eq}
use Rattle.std.proofs.lemmas.List.{map-append, take_all}
use Rattle.std.proofs.lemmas.List.Elements.{filter-append}
use Rattle.kishu_meaning.specs.values.Values.{State}
use Rattle.kishu_objects.specs.Lists.{In, AllDiffer}
use Rattle.kishu_objects.specs.Sound.{IsSound}
use Rattle.kishu_objects.specs.Groups.{class_of, begins_with, groups}
use Rattle.kishu_objects_laws.specs.ListLaws.{same_or_not, in_at, in_cases, flat_append, one_answer, true_not_false}
use Rattle.kishu_objects_laws.specs.NameLaws.{same_text}
use Rattle.kishu_objects_laws.specs.GroupLaws.{tests, class_end, class_linked, linked_class, in_class, class_test}
use Rattle.kishu_groups.specs.Gathering.{AreFirsts, Classifies, heads, members, by_class, Placed}
use Rattle.kishu_groups.proofs.Joins.{map_get, map_length, get_there, there_get, there_short}
use Rattle.kishu_groups.proofs.Notes.{there_front, there_back, push_cases}
use Rattle.kishu_groups.proofs.Walked.{differ_place, one_in}

abbrev Group : Type 0
Group = List (List ℕ)

-- ---- lists

push_differs : (xs : List ℕ) (a : ℕ) → AllDiffer xs → (In a xs → ⊥) → AllDiffer (xs ++ a ∷ [])
push_differs [] a d n = ((λ h. h), tt)
push_differs (x ∷ xs) a d n = (
  (λ h. elim (in_cases x xs (a ∷ []) h) [
    | inl l ↦ d.0 l
    | inr r ↦ elim r [ inl e ↦ n (inl (sym e)) | inr m ↦ m ]
  ]),
  push_differs xs a d.1 (λ h. n (inr h)),
)

-- a map, of which one place has another function
map_set : {B : Type 0} (f g : ℕ → B) (hs : List ℕ) (p r : ℕ) → AllDiffer hs → slice_get hs p ≡ Some r → ((k : ℕ) → (k ≡ r → ⊥) → g k ≡ f k)
    → map g hs ≡ slice_set (map f hs) p (g r)
map_set f g [] p r d e other = absurd (cc)
map_set f g (h ∷ hs) zero r d e other = (let q : h ≡ r = one_in h r e in ap (λ b. b ∷ map g hs) (ap g q) ∙ ap (λ l. g r ∷ l) (same hs d.0))
  where
    same : (ks : List ℕ) → (In h ks → ⊥) → map g ks ≡ map f ks
    same [] n = refl
    same (k ∷ ks) n = ap (λ b. b ∷ map g ks) (other k (λ u. n (inl (one_in h r e ∙ sym u)))) ∙ ap (λ l. f k ∷ l) (same ks (λ m. n (inr m)))
map_set f g (h ∷ hs) (suc p) r d e other =
    ap (λ b. b ∷ map g hs) (other h (λ u. d.0 (subst (λ z. In z hs) (sym u) (in_at hs p r e)))) ∙ ap (λ l. f h ∷ l) (map_set f g hs p r d.1 e other)

-- one more of a front
take_more : {A : Type 0} (xs : List A) (i : ℕ) (x : A) → slice_get xs i ≡ Some x → take (suc i) xs ≡ take i xs ++ x ∷ []
take_more [] i x e = absurd (cc)
take_more (y ∷ ys) zero x e = ap (λ z. z ∷ []) (one_in y x e)
take_more (y ∷ ys) (suc i) x e = ap (λ z. y ∷ z) (take_more ys i x e)

-- nothing stands past a list's end
pub no_entry : (xs : List ℕ) (k : ℕ) → length xs ≤ k → slice_get xs k ≡ None
no_entry [] k l = refl
no_entry (y ∷ ys) zero l = absurd (omega arith)
no_entry (y ∷ ys) (suc k) l = no_entry ys k (omega arith)

-- The names below i are put together, and of each the place of its group is known.
pub record Gathered (rs : List ℕ) (of : Group) (i : ℕ) (gs : List Group) (places : List ℕ) : Type 0 where
  pub groups : gs ≡ by_class rs of i
  pub sized : length places ≡ i
  pub placed : (j p r : ℕ) → slice_get places j ≡ Some p → slice_get rs j ≡ Some r → slice_get (heads rs i) p ≡ Some r

-- The place of the next name's group is there.
record Ready (rs : List ℕ) (of : Group) (i p r : ℕ) (mid : List Group) : Type 0 where
  before : mid ≡ map (members rs of i) (heads rs (suc i))
  there : slice_get (heads rs (suc i)) p ≡ Some r

module _ (rs : List ℕ) (of : Group) (firsts : AreFirsts rs) where
  -- ---- heads and members

  low_at : (k : ℕ) → get_or rs k 0 ≤ k
  low_at k = by (slice_get rs k) refl
    where
      past : (xs : List ℕ) (i : ℕ) → slice_get xs i ≡ None → get_or xs i 0 ≡ 0
      past [] i e = refl
      past (x ∷ xs) zero e = absurd (cc)
      past (x ∷ xs) (suc i) e = past xs i e

      by : (o : Option ℕ) → slice_get rs k ≡ o → get_or rs k 0 ≤ k
      by None e = (let f = past rs k e in omega arith)
      by (Some r) e = (let f = there_get rs k r 0 e in let g = firsts.low k r e in omega arith)

  test_false : (a b : ℕ) → (a ≡ b → ⊥) → (a == b) ≡ false
  test_false a b ne = elim (same_or_not a b) [ inl e ↦ absurd (ne e.0) | inr n ↦ n.1 ]

  test_true : (a b : ℕ) → a ≡ b → (a == b) ≡ true
  test_true a b e = elim (same_or_not a b) [ inl f ↦ f.1 | inr n ↦ absurd (n.0 e) ]

  heads_yes : (k : ℕ) → get_or rs k 0 ≡ k → heads rs (suc k) ≡ heads rs k ++ k ∷ []
  heads_yes k e = (let t = test_true (get_or rs k 0) k e in rw t refl)

  heads_no : (k : ℕ) → (get_or rs k 0 ≡ k → ⊥) → heads rs (suc k) ≡ heads rs k
  heads_no k ne = (let t = test_false (get_or rs k 0) k ne in rw t (append-nil (heads rs k)))

  heads_low : (k a : ℕ) → In a (heads rs k) → a < k
  heads_low zero a h = absurd h
  heads_low (suc k) a h = elim (cases_eq (get_or rs k 0) k) [
    | inl e ↦ elim (in_cases a (heads rs k) (k ∷ []) (subst (λ l. In a l) (heads_yes k e) h)) [
      | inl l ↦ (let m = heads_low k a l in omega arith)
      | inr r ↦ elim r [ inl f ↦ omega arith | inr n ↦ absurd n ]
    ]
    | inr ne ↦ (let m = heads_low k a (subst (λ l. In a l) (heads_no k ne) h) in omega arith)
  ]

  heads_differ : (k : ℕ) → AllDiffer (heads rs k)
  heads_differ zero = tt
  heads_differ (suc k) = elim (cases_eq (get_or rs k 0) k) [
    | inl e ↦ subst AllDiffer (sym (heads_yes k e)) (push_differs (heads rs k) k (heads_differ k) (λ h. let l = heads_low k k h in omega arith))
    | inr ne ↦ subst AllDiffer (sym (heads_no k ne)) (heads_differ k)
  ]

  members_yes : (k r : ℕ) → get_or rs k 0 ≡ r → members rs of (suc k) r ≡ members rs of k r ++ get_or of k [] ∷ []
  members_yes k r e = (let t = test_true (get_or rs k 0) r e in rw t refl)

  members_no : (k r : ℕ) → (get_or rs k 0 ≡ r → ⊥) → members rs of (suc k) r ≡ members rs of k r
  members_no k r ne = (let t = test_false (get_or rs k 0) r ne in rw t (append-nil (members rs of k r)))

  members_none : (k r : ℕ) → k ≤ r → members rs of k r ≡ []
  members_none zero r l = refl
  members_none (suc k) r l = members_no k r (λ e. let m = low_at k in omega arith) ∙ members_none k r (omega arith)

  -- the class of a first number begins with its name
  members_begin : (k r : ℕ) → r < k → get_or rs r 0 ≡ r → (rest : Group) × (members rs of k r ≡ get_or of r [] ∷ rest)
  members_begin zero r l e = absurd (omega arith)
  members_begin (suc k) r l e = elim (cases_eq r k) [
    | inl f ↦ (
      [],
      subst (λ n. members rs of (suc n) r ≡ get_or of r [] ∷ []) f
          (members_yes r r e ∙ ap (λ z. z ++ get_or of r [] ∷ []) (members_none r r (omega arith))),
    )
    | inr n ↦ (
        let m = members_begin k r (omega arith) e in
        elim (cases_eq (get_or rs k 0) r) [
          | inl g ↦ (m.0 ++ get_or of k [] ∷ [], members_yes k r g ∙ ap (λ z. z ++ get_or of k [] ∷ []) m.1)
          | inr g ↦ (m.0, members_no k r g ∙ m.1)
        ]
        )
  ]

  -- ---- a name more

  pub gathered_none : Gathered rs of 0 [] []
  unfolding by_class
  gathered_none = record { groups = refl; sized = refl; placed = λ j p r e f. absurd (cc) }

  pub gathered_start : (gs : List Group) (places : List ℕ) → gs ≡ [] → places ≡ [] → Gathered rs of 0 gs places
  gathered_start gs places e f = subst (λ z. Gathered rs of 0 z places) (sym e) (subst (λ z. Gathered rs of 0 [] z) (sym f) gathered_none)

  module _ (i r p : ℕ) (x : List ℕ) (gs mid : List Group) (places : List ℕ) (g : Gathered rs of i gs places) (at : slice_get of i ≡ Some x)
      (leads : slice_get rs i ≡ Some r)
      (put : Placed (slice_get places r) gs mid p) where
    first_is : get_or rs i 0 ≡ r
    first_is = there_get rs i r 0 leads

    ready_new : r ≡ i → Ready rs of i p r mid
    unfolding by_class
    ready_new e =
        let none = no_entry places r (let k = g.sized in omega arith) in
        let q : (p ≡ length gs) × (mid ≡ gs ++ [] ∷ []) = subst (λ o. Placed o gs mid p) none put in
        let h = heads_yes i (first_is ∙ e) in
        let size : p ≡ length (heads rs i) = q.0 ∙ ap length g.groups ∙ map_length (members rs of i) (heads rs i) in
        record {
          before = q.1 ∙ ap (λ l. l ++ [] ∷ []) g.groups
              ∙ ap (λ (m : Group). map (members rs of i) (heads rs i) ++ m ∷ []) (sym (members_none i i (omega arith)))
              ∙ sym (map-append (members rs of i) (heads rs i) (i ∷ [])) ∙ ap (map (members rs of i)) (sym h);
          there = ap (λ l. slice_get l p) h ∙ there_back (heads rs i) i p size ∙ ap Some (sym e);
        }

    ready_old : (r ≡ i → ⊥) → Ready rs of i p r mid
    unfolding by_class
    ready_old ne =
        let low = firsts.low i r leads in
        let there = get_there places r 0 (let k = g.sized in omega arith) in
        let q : (p ≡ get_or places r 0) × (mid ≡ gs) = subst (λ o. Placed o gs mid p) there put in
        let h = heads_no i (λ e. ne (sym first_is ∙ e)) in
        record {
          before = q.1 ∙ g.groups ∙ ap (map (members rs of i)) (sym h);
          there = ap (λ l. slice_get l p) h ∙ g.placed r p r (there ∙ ap Some (sym q.0)) (firsts.again i r leads);
        }

    ready : Ready rs of i p r mid
    ready = elim (cases_eq r i) [ inl e ↦ ready_new e | inr ne ↦ ready_old ne ]

    some_more : (l : Group) → l ≡ members rs of i r → l ++ x ∷ [] ≡ members rs of (suc i) r
    some_more l e = ap (λ z. z ++ x ∷ []) e ∙ ap (λ y. members rs of i r ++ y ∷ []) (sym (there_get of i x [] at)) ∙ sym (members_yes i r first_is)

    placed_more : (j q k : ℕ) → slice_get (places ++ p ∷ []) j ≡ Some q → slice_get rs j ≡ Some k → slice_get (heads rs (suc i)) q ≡ Some k
    placed_more j q k e f = elim (push_cases places p q j e) [
      | inl h ↦ (
          let a = g.placed j q k h f in
          elim (cases_eq (get_or rs i 0) i) [
            | inl y ↦ ap (λ l. slice_get l q) (heads_yes i y) ∙ there_front (heads rs i) (i ∷ []) q k a
            | inr n ↦ ap (λ l. slice_get l q) (heads_no i n) ∙ a
          ]
          )
      | inr h ↦ (
          let s : r ≡ k = one_in r k (sym leads ∙ ap (slice_get rs) (sym (h.0 ∙ g.sized)) ∙ f) in
          ap (slice_get (heads rs (suc i))) (sym h.1) ∙ ready.there ∙ ap Some s
          )
    ]

    -- the place is that of a group
    pub placed_there : p < length mid
    placed_there =
        let l = there_short (heads rs (suc i)) p r ready.there in
        let n = ap length ready.before ∙ map_length (members rs of i) (heads rs (suc i)) in
        omega arith

    pub gathered_more : (after : List Group) → after ≡ slice_set mid p (get_or mid p [] ++ x ∷ []) → Gathered rs of (suc i) after (places ++ p ∷ [])
    unfolding by_class
    gathered_more after e =
        let in_mid : get_or mid p [] ≡ members rs of i r = ap (λ l. get_or l p []) ready.before
        ∙ there_get (map (members rs of i) (heads rs (suc i))) p (members rs of i r) []
        (map_get (members rs of i) (heads rs (suc i)) p ∙ ap (option_map (members rs of i)) ready.there) in
        record {
          groups = e ∙ ap (slice_set mid p) (some_more (get_or mid p []) in_mid) ∙ ap (λ l. slice_set l p (members rs of (suc i) r)) ready.before
              ∙ sym (map_set (members rs of i) (members rs of (suc i)) (heads rs (suc i)) p r (heads_differ (suc i)) ready.there
              (λ k ne. members_no i k (λ f. ne (sym f ∙ first_is))));
          sized = (let a = length-append places (p ∷ []) in let b = g.sized in omega arith);
          placed = placed_more;
        }

-- ---- what is put together is the groups

module _ (s : State) (sound : IsSound s) (of : Group) (differ : AllDiffer of) (rs : List ℕ) (c : Classifies s of rs) where
  rs_at : (k : ℕ) (x : List ℕ) → slice_get of k ≡ Some x → slice_get rs k ≡ Some (get_or rs k 0)
  rs_at k x e = get_there rs k 0 (let a = there_short of k x e in let b = c.many in omega arith)

  -- the members of a class are the names that pass its test
  filtered : (t : List ℕ → Bool) (r : ℕ) → ((k : ℕ) (x : List ℕ) → slice_get of k ≡ Some x → t x ≡ (get_or rs k 0 == r)) → (k : ℕ) → k ≤ length of
      → filter t (take k of) ≡ members rs of k r
  filtered t r test zero l = refl
  filtered t r test (suc k) l =
      let x = get_or of k [] in
      let at = get_there of k [] (omega arith) in
      ap (filter t) (take_more of k x at) ∙ filter-append t (take k of) (x ∷ [])
      ∙ ap (λ z. z ++ filter t (x ∷ [])) (filtered t r test k (omega arith))
      ∙ ap (λ (b : Bool). members rs of k r ++ (if b then x ∷ [] else [])) (test k x at)

  class_members : (k : ℕ) (x : List ℕ) → slice_get of k ≡ Some x → class_of s of x ≡ members rs of (length of) (get_or rs k 0)
  class_members k x at =
      let has = in_at of k x at in
      class_end s sound of x has ∙ ap (filter (tests s sound of x)) (sym (take_all (length of) of (omega arith)))
      ∙ filtered (tests s sound of x) (get_or rs k 0) test (length of) (omega arith)
    where
      test : (j : ℕ) (y : List ℕ) → slice_get of j ≡ Some y → tests s sound of x y ≡ (get_or rs j 0 == get_or rs k 0)
      test j y e = one_answer (tests s sound of x y) (get_or rs j 0 == get_or rs k 0)
          (λ f. let l = class_linked s sound of x (in_at of k x at) y (in_class s sound of x y (in_at of k x at) (in_at of j y e) f) in
          let g = c.told k j x y at e l in
          test_true rs of c.firsts (get_or rs j 0) (get_or rs k 0)
          (one_in (get_or rs j 0) (get_or rs k 0) (sym (rs_at j y e) ∙ sym g ∙ rs_at k x at)))
          (λ f. elim (same_or_not (get_or rs j 0) (get_or rs k 0)) [
            | inl g ↦ class_test s sound of x y (in_at of k x at)
                (linked_class s sound of x (in_at of k x at) y (c.linked k j x y at e (rs_at k x at ∙ ap Some (sym g.0) ∙ sym (rs_at j y e))))
            | inr n ↦ absurd (true_not_false (sym f ∙ n.1))
          ])

  abbrev own : List ℕ → List Group
  own x = if begins_with x (class_of s of x) then class_of s of x ∷ [] else []

  own_yes : (x : List ℕ) (g : Group) → class_of s of x ≡ g → begins_with x g ≡ true → own x ≡ g ∷ []
  own_yes x g e b = ap (λ (h : Group). if begins_with x h then h ∷ [] else []) e ∙ ap (λ (t : Bool). if t then g ∷ [] else []) b

  own_no : (x : List ℕ) (g : Group) → class_of s of x ≡ g → begins_with x g ≡ false → own x ≡ []
  own_no x g e b = ap (λ (h : Group). if begins_with x h then h ∷ [] else []) e ∙ ap (λ (t : Bool). if t then g ∷ [] else []) b

  abbrev all_members : ℕ → Group
  all_members r = members rs of (length of) r

  own_is : (k : ℕ) (x : List ℕ) → slice_get of k ≡ Some x → own x ≡ map all_members (if get_or rs k 0 == k then k ∷ [] else [])
  own_is k x at =
      let r = get_or rs k 0 in
      let in_of = there_short of k x at in
      let low = c.firsts.low k r (rs_at k x at) in
      elim (same_or_not r k) [
        | inl e ↦ (
            let b = members_begin rs of c.firsts (length of) k in_of e.0 in
            let begins : begins_with x (all_members k) ≡ true = ap (begins_with x) b.1
            ∙ first_same x (get_or of k []) (sym (there_get of k x [] at)) in
            own_yes x (all_members k) (class_members k x at ∙ ap all_members e.0) begins
            ∙ sym (ap (λ (t : Bool). map all_members (if t then k ∷ [] else [])) e.1)
            )
        | inr n ↦ (
            let again = there_get rs r r 0 (c.firsts.again k r (rs_at k x at)) in
            let less = n.0 in
            let b = members_begin rs of c.firsts (length of) r (lower r k low less in_of) again in
            let y = get_or of r [] in
            let y_at = get_there of r [] (lower r k low less in_of) in
            let begins : begins_with x (all_members r) ≡ false = ap (begins_with x) b.1
            ∙ first_other x y (λ f. less (sym (differ_place of k r y differ (at ∙ ap Some f) y_at))) in
            own_no x (all_members r) (class_members k x at) begins ∙ sym (ap (λ (t : Bool). map all_members (if t then k ∷ [] else [])) n.1)
            )
      ]
    where
      lower : (a b : ℕ) → a ≤ b → (a ≡ b → ⊥) → b < length of → a < length of
      lower a b l ne m = omega arith

      first_same : (a b : List ℕ) → a ≡ b → bytes_eq a b ≡ true
      first_same a b e = elim (same_text a b) [ inl f ↦ f.1 | inr m ↦ absurd (m.0 e) ]

      first_other : (a b : List ℕ) → (a ≡ b → ⊥) → bytes_eq a b ≡ false
      first_other a b ne = elim (same_text a b) [ inl f ↦ absurd (ne f.0) | inr m ↦ m.1 ]

  front_is : (k : ℕ) → k ≤ length of → flat_map own (take k of) ≡ map all_members (heads rs k)
  front_is zero l = refl
  front_is (suc k) l =
      let x = get_or of k [] in
      let at = get_there of k [] (omega arith) in
      let tail = if get_or rs k 0 == k then k ∷ [] else [] in
      ap (flat_map own) (take_more of k x at) ∙ flat_append own (take k of) (x ∷ []) ∙ ap (λ z. z ++ flat_map own (x ∷ [])) (front_is k (omega arith))
      ∙ ap (λ z. map all_members (heads rs k) ++ z) (append-nil (own x) ∙ own_is k x at) ∙ sym (map-append all_members (heads rs k) tail)

  pub by_class_is : by_class rs of (length of) ≡ groups s of
  unfolding by_class
  by_class_is = sym (ap (flat_map own) (sym (take_all (length of) of (omega arith))) ∙ front_is (length of) (omega arith))
