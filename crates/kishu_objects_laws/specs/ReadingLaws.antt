-- Pictures are exactly the states that read in order.
use Rattle.std.specs.Prelude.{◌≡◌, ℕ, zero, suc, ◌+◌, ◌<◌, ◌≤◌, ◌==◌, nat_lt, ◌⊎◌, true, false, not, if◌then◌else◌, List, [], ◌∷◌, ◌++◌, map, length, flat_map, slice_get, take, ◌↔◌, Option, Some, None, option_and_then}
use Rattle.std.specs.List.{AllZip, AllByRecursion}
use Rattle.std.specs.List.Sorted.{IsStrictlySortedBy}
use Rattle.std.specs.Ordering.{nat_cmp, ordering_reverse}
use Rattle.std.specs.declared.cmp.Ordering.TheVariants.{Less, Greater}
use Rattle.std.specs.Cmp.Lexicographic.{slice_cmp}
use Rattle.std.proofs.Common.{refl, ap, sym, ◌∙◌, subst, arith, inl, inr, append_assoc, append-nil, length-append}
use Rattle.std.proofs.lemmas.Cmp.{nat_list_cmp_total}
use Rattle.std.proofs.lemmas.Bool.{cases_lt, cases_eq, lt-ltb, le-ltb}
use Rattle.std.proofs.lemmas.List.{map-append, map-id, get_or_at}
use Rattle.std.proofs.lemmas.List.Elements.{filter-append}
use Rattle.kishu_meaning.specs.values.Values.{Value, node, Node, list, tuple, dict, object, function, exception, Names, State, find}
use Rattle.kishu_objects.specs.Lists.{In, AllDiffer, Rise}
use Rattle.kishu_objects.specs.Shape.{children, each_child, node_at}
use Rattle.kishu_objects.specs.Picture.{place, firsts, numbers, leads, with_value, bound, roots, order, renumbered, named, laid_out, listed, whole}
use Rattle.kishu_objects.specs.Sound.{IsSound}
use Rattle.kishu_objects.specs.Reading.{counted, rows_counted, IsInOrder}
use Rattle.kishu_objects_laws.specs.ListLaws.{in_left, in_right, in_cases, same_or_not, without, Begins, begins_firsts, begins_both, flat_append, firsts_in, in_firsts, place_at}
use Rattle.kishu_objects_laws.specs.NameLaws.{same_text}
use Rattle.kishu_objects_laws.specs.ShapeLaws.{each-same}
use Rattle.kishu_objects_laws.specs.OrderLaws.{round, rounds, round_begins, order_end, numbers_in, order_distinct}
use Rattle.kishu_objects_laws.specs.PictureLaws.{order_alike}
use Rattle.kishu_objects_laws.specs.OwnPictureLaws.{Stands, stands_pairs, picture_sound, rows_length}

-- ---- one more behind

in_or_not : (i : ℕ) (xs : List ℕ) → In i xs ⊎ (In i xs → ⊥)
in_or_not i [] = inr (λ h. h)
in_or_not i (x ∷ xs) = elim (cases_eq i x) [
  | inl e ↦ inl (inl e)
  | inr n ↦ elim (in_or_not i xs) [ inl h ↦ inl (inr h) | inr m ↦ inr (λ h. elim h [ inl e ↦ n e | inr k ↦ m k ]) ]
]

without_one : (x i : ℕ) → (x ≡ i → ⊥) → without x (i ∷ []) ≡ i ∷ []
without_one x i n = elim (same_or_not x i) [ inl e ↦ absurd (n e.0) | inr m ↦ rw m.1 refl ]

without_same : (i : ℕ) → without i (i ∷ []) ≡ []
without_same i = elim (same_or_not i i) [ inl e ↦ rw e.1 refl | inr n ↦ absurd (n.0 refl) ]

-- a new number behind a list is first there
pub push_new : (xs : List ℕ) (i : ℕ) → (In i xs → ⊥) → firsts (xs ++ i ∷ []) ≡ firsts xs ++ i ∷ []
push_new [] i n = refl
push_new (x ∷ xs) i n =
    ap (λ l. x ∷ without x l) (push_new xs i (λ h. n (inr h)))
    ∙ ap (λ l. x ∷ l) (filter-append (λ k. not (x == k)) (firsts xs) (i ∷ []) ∙ ap (λ l. without x (firsts xs) ++ l) (without_one x i (λ e. n (inl (sym e)))))

-- a number that was there is not there anew
pub push_old : (xs : List ℕ) (i : ℕ) → In i xs → firsts (xs ++ i ∷ []) ≡ firsts xs
push_old [] i h = absurd h
push_old (x ∷ xs) i h = elim (in_or_not i xs) [
  | inl m ↦ ap (λ l. x ∷ without x l) (push_old xs i m)
  | inr n ↦ elim h [
    | inl e ↦ ap (λ l. x ∷ without x l) (push_new xs i n) ∙ ap (λ l. x ∷ l) (filter-append (λ k. not (x == k)) (firsts xs) (i ∷ []) ∙ ap (λ l. without x (firsts xs) ++ l) (ap (λ j. without x (j ∷ [])) e ∙ without_same x) ∙ append-nil (without x (firsts xs)))
    | inr m ↦ absurd (n m)
  ]
]

-- ---- the first numbers

-- the numbers below n
abbrev pub upto : ℕ → List ℕ
upto zero = []
upto (suc n) = upto n ++ n ∷ []

length_upto : (n : ℕ) → length (upto n) ≡ n
length_upto zero = refl
length_upto (suc n) = (let k = length_upto n in omega (arith, length-append (upto n) (n ∷ []), k))

in_upto : (i n : ℕ) → In i (upto n) → i < n
in_upto i zero h = absurd h
in_upto i (suc n) h = elim (in_cases i (upto n) (n ∷ []) h) [ inl l ↦ (let k = in_upto i n l in omega arith) | inr r ↦ elim r [ inl e ↦ omega arith | inr m ↦ absurd m ] ]

upto_in : (i n : ℕ) → i < n → In i (upto n)
upto_in i zero h = absurd (omega arith)
upto_in i (suc n) h = elim (cases_eq i n) [ inl e ↦ in_right i (upto n) (n ∷ []) (inl e) | inr m ↦ in_left i (upto n) (n ∷ []) (upto_in i n (omega arith)) ]

get_back : {A : Type 0} (xs : List A) (i : A) (zs : List A) (n : ℕ) → length xs ≡ n → slice_get (xs ++ i ∷ zs) n ≡ Some i
get_back [] i zs zero e = refl
get_back [] i zs (suc n) e = absurd (omega arith)
get_back (x ∷ xs) i zs zero e = absurd (omega arith)
get_back (x ∷ xs) i zs (suc n) e = get_back xs i zs n (omega arith)

get_front : {A : Type 0} (xs zs : List A) (k : ℕ) → k < length xs → slice_get (xs ++ zs) k ≡ slice_get xs k
get_front [] zs k l = absurd (omega arith)
get_front (x ∷ xs) zs zero l = refl
get_front (x ∷ xs) zs (suc k) l = get_front xs zs k (omega arith)

get_upto : (n k : ℕ) → k < n → slice_get (upto n) k ≡ Some k
get_upto zero k l = absurd (omega arith)
get_upto (suc n) k l = elim (cases_eq k n) [
  | inl e ↦ get_back (upto n) n [] k (length_upto n ∙ sym e) ∙ ap Some (sym e)
  | inr m ↦ get_front (upto n) (n ∷ []) k (let j = length_upto n in omega arith) ∙ get_upto n k (omega arith)
]

upto_begins : (m n : ℕ) → m ≤ n → Begins (upto m) (upto n)
upto_begins m zero l = (let e : m ≡ 0 = omega arith in ([], sym (append-nil (upto m) ∙ ap upto e)))
upto_begins m (suc n) l = elim (cases_eq m (suc n)) [
  | inl e ↦ ([], sym (append-nil (upto m) ∙ ap upto e))
  | inr ne ↦ (let k = upto_begins m n (omega arith) in (k.0 ++ n ∷ [], ap (λ l. l ++ n ∷ []) k.1 ∙ append_assoc (upto m) k.0 (n ∷ [])))
]

-- a front of a front is a front
pub begins_on : (a b c : List ℕ) → Begins a b → Begins b c → Begins a c
begins_on a b c f g = (f.0 ++ g.0, g.1 ∙ ap (λ l. l ++ g.0) f.1 ∙ append_assoc a f.0 g.0)

-- a front is no longer
pub begins_short : (a b : List ℕ) → Begins a b → length a ≤ length b
begins_short a b f = omega (arith, ap length f.1, length-append a f.0)

-- what goes on from the first numbers within first numbers goes on with the next
next_upto : (n l i : ℕ) → Begins (upto n ++ i ∷ []) (upto l) → i ≡ n
next_upto n l i b =
    let e : slice_get (upto l) n ≡ Some i = ap (λ z. slice_get z n) (b.1 ∙ append_assoc (upto n) (i ∷ []) b.0) ∙ get_back (upto n) i b.0 n (length_upto n) in
    let short = begins_short (upto n ++ i ∷ []) (upto l) b in
    let less : n < l = omega (arith, short, length-append (upto n) (i ∷ []), length_upto n, length_upto l) in
    let f : Some i ≡ Some n = sym e ∙ get_upto l n less in
    cc

-- ---- counting is meeting

one_behind : (xs : List ℕ) (i : ℕ) (is : List ℕ) → xs ++ i ∷ is ≡ (xs ++ i ∷ []) ++ is
one_behind xs i is = sym (append_assoc xs (i ∷ []) is)

counted_met : (is xs : List ℕ) (n m : ℕ) → firsts xs ≡ upto n → counted n is ≡ Some m → firsts (xs ++ is) ≡ upto m
counted_met [] xs n m f e = (let k : n ≡ m = cc in ap firsts (append-nil xs) ∙ f ∙ ap upto k)
counted_met (i ∷ is) xs n m f e = elim (cases_lt i n) [
  | inl l ↦ (
      let t : nat_lt i n ≡ true = lt-ltb i n l in
      let g : counted n is ≡ Some m = rw t at e in
      let h = push_old xs i (in_firsts i xs (subst (λ z. In i z) (sym f) (upto_in i n l))) in
      ap firsts (one_behind xs i is) ∙ counted_met is (xs ++ i ∷ []) n m (h ∙ f) g
      )
  | inr l ↦ (
      let t : nat_lt i n ≡ false = le-ltb i n l in
      let g : (if i == n then counted (suc n) is else None) ≡ Some m = rw t at e in
      elim (same_or_not i n) [
        | inl q ↦ (
            let r : counted (suc n) is ≡ Some m = rw q.1 at g in
            let new : In i xs → ⊥ = λ p. let o = in_upto i n (subst (λ z. In i z) f (firsts_in i xs p)) in omega arith in
            ap firsts (one_behind xs i is) ∙ counted_met is (xs ++ i ∷ []) (suc n) m (push_new xs i new ∙ ap (λ z. z ++ i ∷ []) f ∙ ap (λ j. upto n ++ j ∷ []) q.0) r
            )
        | inr q ↦ absurd (let r : None ≡ Some m = rw q.1 at g in cc)
      ]
      )
]

met_counted : (is xs : List ℕ) (n l : ℕ) → firsts xs ≡ upto n → Begins (firsts (xs ++ is)) (upto l) → (m : ℕ) × (counted n is ≡ Some m) × (firsts (xs ++ is) ≡ upto m)
met_counted [] xs n l f b = (n, refl, ap firsts (append-nil xs) ∙ f)
met_counted (i ∷ is) xs n l f b =
    let c : Begins (firsts ((xs ++ i ∷ []) ++ is)) (upto l) = subst (λ z. Begins (firsts z) (upto l)) (one_behind xs i is) b in
    elim (cases_lt i n) [
      | inl less ↦ (
          let t : nat_lt i n ≡ true = lt-ltb i n less in
          let h = push_old xs i (in_firsts i xs (subst (λ z. In i z) (sym f) (upto_in i n less))) in
          let r = met_counted is (xs ++ i ∷ []) n l (h ∙ f) c in
          (r.0, rw t r.1, ap firsts (one_behind xs i is) ∙ r.2)
          )
      | inr more ↦ (
          let t : nat_lt i n ≡ false = le-ltb i n more in
          let new : In i xs → ⊥ = λ p. let o = in_upto i n (subst (λ z. In i z) f (firsts_in i xs p)) in omega arith in
          let g : firsts (xs ++ i ∷ []) ≡ upto n ++ i ∷ [] = push_new xs i new ∙ ap (λ z. z ++ i ∷ []) f in
          let q : i ≡ n = next_upto n l i (begins_on (upto n ++ i ∷ []) (firsts ((xs ++ i ∷ []) ++ is)) (upto l) (subst (λ z. Begins z (firsts ((xs ++ i ∷ []) ++ is))) g (begins_firsts (xs ++ i ∷ []) is)) c) in
          let r = met_counted is (xs ++ i ∷ []) (suc n) l (g ∙ ap (λ j. upto n ++ j ∷ []) q) c in
          elim (same_or_not i n) [ inl s ↦ (r.0, rw (t, s.1) r.1, ap firsts (one_behind xs i is) ∙ r.2) | inr s ↦ absurd (s.0 q) ]
          )
    ]

-- ---- rows in order

module _ (nodes : List Node) (from : List ℕ) where
  -- what is read before row k
  abbrev before : ℕ → List ℕ
  before k = from ++ flat_map (leads nodes) (upto k)

  before_more : (k : ℕ) → before (suc k) ≡ before k ++ leads nodes k
  before_more k =
      ap (λ l. from ++ l) (flat_append (leads nodes) (upto k) (k ∷ []) ∙ ap (λ l. flat_map (leads nodes) (upto k) ++ l) (append-nil (leads nodes k)))
      ∙ sym (append_assoc from (flat_map (leads nodes) (upto k)) (leads nodes k))

  rounds_within : (n : ℕ) → Begins (round nodes from (upto n)) (upto n) → (k : ℕ) → Begins (rounds nodes from k) (upto n)
  rounds_within n h zero = (upto n, refl)
  rounds_within n h (suc k) = begins_on (rounds nodes from (suc k)) (round nodes from (upto n)) (upto n) (round_begins nodes from (rounds nodes from k) (upto n) (rounds_within n h k)) h

  module _ (o : List ℕ) (still : o ≡ round nodes from o) where
    some_eq : (m n : ℕ) → Some m ≡ Some n → m ≡ n
    some_eq m n e = cc

    -- one row more
    row_met : (m : Node) (ms front : List Node) (n l : ℕ) → nodes ≡ front ++ m ∷ ms → Begins (upto (length front)) o → firsts (before (length front)) ≡ upto n → length front < n
        → (c : Option ℕ) → counted n (numbers (children m)) ≡ c → option_and_then (λ k. rows_counted (suc (length front)) k ms) c ≡ Some l
        → (k : ℕ) × (nodes ≡ (front ++ m ∷ []) ++ ms) × Begins (upto (length (front ++ m ∷ []))) o × (firsts (before (length (front ++ m ∷ []))) ≡ upto k) × (rows_counted (length (front ++ m ∷ [])) k ms ≡ Some l)
    row_met m ms front n l split b f less None c g = absurd (cc)
    row_met m ms front n l split b f less (Some k) c g =
        let longer : length (front ++ m ∷ []) ≡ suc (length front) = omega (arith, length-append front (m ∷ [])) in
        let here : node_at nodes (length front) ≡ m = ap (λ z. node_at z (length front)) split ∙ get_or_at front m ms (list []) (length front) refl in
        let inside : Begins (upto n) o = subst (λ z. Begins z o) f (subst (λ z. Begins (round nodes from (upto (length front))) z) (sym still) (round_begins nodes from (upto (length front)) o b)) in
        let met_now : firsts (before (suc (length front))) ≡ upto k = ap firsts (before_more (length front)) ∙ counted_met (leads nodes (length front)) (before (length front)) n k f (ap (λ z. counted n (numbers (children z))) here ∙ c) in (
          k,
          split ∙ sym (append_assoc front (m ∷ []) ms),
          subst (λ j. Begins (upto j) o) (sym longer) (begins_on (upto (suc (length front))) (upto n) o (upto_begins (suc (length front)) n (omega arith)) inside),
          ap (λ j. firsts (before j)) longer ∙ met_now,
          ap (λ j. rows_counted j k ms) longer ∙ g,
        )

    -- reading in order, one meets what the order has
    rows_met : (ms front : List Node) (n l : ℕ) → nodes ≡ front ++ ms → Begins (upto (length front)) o → firsts (before (length front)) ≡ upto n → rows_counted (length front) n ms ≡ Some l
        → Begins (upto (length nodes)) o × (firsts (before (length nodes)) ≡ upto l)
    rows_met [] front n l split b f e =
        let same : length front ≡ length nodes = ap length (sym (append-nil front) ∙ sym split) in
        let k = some_eq n l e in
        (subst (λ j. Begins (upto j) o) same b, ap (λ j. firsts (before j)) (sym same) ∙ f ∙ ap upto k)
    rows_met (m ∷ ms) front n l split b f e = elim (cases_lt (length front) n) [
      | inl less ↦ (
          let t : nat_lt (length front) n ≡ true = lt-ltb (length front) n less in
          let g : option_and_then (λ k. rows_counted (suc (length front)) k ms) (counted n (numbers (children m))) ≡ Some l = rw t at e in
          let r = row_met m ms front n l split b f less (counted n (numbers (children m))) refl g in
          rows_met ms (front ++ m ∷ []) r.0 l r.1 r.2 r.3 r.4
          )
      | inr more ↦ absurd (let t : nat_lt (length front) n ≡ false = le-ltb (length front) n more in let g : None ≡ Some l = rw t at e in cc)
    ]

    -- where the order is the first numbers, it reads in order
    met_rows : (most : ℕ) → o ≡ rounds nodes from most → (ms front : List Node) (n : ℕ) → nodes ≡ front ++ ms → o ≡ upto (length nodes) → firsts (before (length front)) ≡ upto n → rows_counted (length front) n ms ≡ Some (length nodes)
    met_rows most is [] front n split all f =
        let same : length front ≡ length nodes = ap length (sym (append-nil front) ∙ sym split) in
        let k : upto n ≡ upto (length nodes) = sym f ∙ ap (λ j. firsts (before j)) same ∙ ap (round nodes from) (sym all) ∙ sym still ∙ all in
        let j : n ≡ length nodes = sym (length_upto n) ∙ ap length k ∙ length_upto (length nodes) in
        ap Some j
    met_rows most is (m ∷ ms) front n split all f =
        let long : length nodes ≡ length front + suc (length ms) = ap length split ∙ length-append front (m ∷ ms) in
        let longer : length (front ++ m ∷ []) ≡ suc (length front) = omega (arith, length-append front (m ∷ [])) in
        let here : node_at nodes (length front) ≡ m = ap (λ z. node_at z (length front)) split ∙ get_or_at front m ms (list []) (length front) refl in
        let less : length front < n = elim (cases_lt (length front) n) [
          | inl l ↦ l
          | inr l ↦ absurd (
              let short : Begins (round nodes from (upto n)) (upto n) = subst (λ z. Begins (round nodes from (upto n)) z) f (round_begins nodes from (upto n) (upto (length front)) (upto_begins n (length front) l)) in
              let k = begins_short (rounds nodes from most) (upto n) (rounds_within n short most) in
              let j : length (rounds nodes from most) ≡ length nodes = ap length (sym is ∙ all) ∙ length_upto (length nodes) in
              omega (arith, k, j, l, long, length_upto n)
              )
        ] in
        let t : nat_lt (length front) n ≡ true = lt-ltb (length front) n less in
        let whole_begins : Begins (firsts (before (length front) ++ leads nodes (length front))) (upto (length nodes)) =
        subst (λ z. Begins z (upto (length nodes))) (ap firsts (before_more (length front)))
        (subst (λ z. Begins (round nodes from (upto (suc (length front)))) z) (sym still ∙ all) (round_begins nodes from (upto (suc (length front))) o
        (subst (λ z. Begins (upto (suc (length front))) z) (sym all) (upto_begins (suc (length front)) (length nodes) (omega (arith, long)))))) in
        let r = met_counted (leads nodes (length front)) (before (length front)) n (length nodes) f whole_begins in
        let c : counted n (numbers (children m)) ≡ Some r.0 = ap (λ z. counted n (numbers (children z))) (sym here) ∙ r.1 in
        let rest = met_rows most is ms (front ++ m ∷ []) r.0 (split ∙ sym (append_assoc front (m ∷ []) ms)) all (ap (λ j. firsts (before j)) longer ∙ ap firsts (before_more (length front)) ∙ r.2) in
        let g : rows_counted (suc (length front)) r.0 ms ≡ Some (length nodes) = ap (λ j. rows_counted j r.0 ms) (sym longer) ∙ rest in
        rw (t, c) g

-- ---- names that rise stand each once

bound_in : (all : Names) (ns : Names) → ((b : List ℕ × Value) → In b ns → find b.0 all ≡ Some b.1) → flat_map (λ x. with_value x (find x all)) (map (λ (b : List ℕ × Value). b.0) ns) ≡ ns
bound_in all [] h = refl
bound_in all (b ∷ ns) h =
    let k = bound_in all ns (λ c m. h c (inr m)) in
    ap (λ o. with_value b.0 o ++ flat_map (λ x. with_value x (find x all)) (map (λ (c : List ℕ × Value). c.0) ns)) (h b (inl refl)) ∙ ap (λ l. b ∷ l) k

rise_find : (ns : Names) → Rise (map (λ (b : List ℕ × Value). b.0) ns) → (b : List ℕ × Value) → In b ns → find b.0 ns ≡ Some b.1
unfolding IsStrictlySortedBy
rise_find [] r b m = absurd m
rise_find (c ∷ ns) r b (inl e) = elim (same_text b.0 c.0) [
  | inl f ↦ rw f.1 (ap (λ (d : List ℕ × Value). Some d.1) (sym e))
  | inr n ↦ absurd (n.0 (ap (λ (d : List ℕ × Value). d.0) e))
]
rise_find (c ∷ ns) r b (inr m) = elim (same_text b.0 c.0) [
  | inl f ↦ absurd (above c.0 b ns r.0 m f.0)
  | inr n ↦ rw n.1 (rise_find ns r.1 b m)
]
  where
    less_itself : (x : List ℕ) → slice_cmp nat_cmp x x ≡ Less → ⊥
    less_itself x l = apart (sym l ∙ nat_list_cmp_total.antisymm x x ∙ ap ordering_reverse l)
      where
        apart : Less ≡ Greater → ⊥
        apart e = cc

    above : (x : List ℕ) (b : List ℕ × Value) (ns : Names) → AllByRecursion (λ y. slice_cmp nat_cmp x y ≡ Less) (map (λ (b : List ℕ × Value). b.0) ns) → In b ns → b.0 ≡ x → ⊥
    above x b [] h m e = m
    above x b (c ∷ ns) h (inl f) e = less_itself x (subst (λ y. slice_cmp nat_cmp x y ≡ Less) (sym (ap (λ (d : List ℕ × Value). d.0) f) ∙ e) h.0)
    above x b (c ∷ ns) h (inr m) e = above x b ns h.1 m e

-- ---- a state whose nodes stand in their order is its picture

place_upto : (n i : ℕ) → i < n → AllDiffer (upto n) → place (upto n) i ≡ i
place_upto n i l d = place_at (upto n) i i d (get_upto n i l)

each_self : (n : Node) → each_child (λ v. v) n ≡ n
each_self (list vs) = ap list (map-id vs)
each_self (tuple vs) = ap tuple (map-id vs)
each_self (dict es) = ap dict (map-id es)
each_self (object as') = ap object (map-id as')
each_self (function profile code vs) = ap (function profile code) (map-id vs)
each_self (exception kind vs) = ap (exception kind) (map-id vs)

renumbered_self : (f : ℕ → ℕ) (v : Value) → ((i : ℕ) → v ≡ node i → f i ≡ i) → renumbered f v ≡ v
renumbered_self f (node i) h = ap node (h i refl)
renumbered_self f v h = refl

map_self : {A : Type 0} (f : A → A) (xs : List A) → ((a : A) → In a xs → f a ≡ a) → map f xs ≡ xs
map_self f [] h = refl
map_self f (x ∷ xs) h = (let k = map_self f xs (λ a m. h a (inr m)) in ap (λ y. y ∷ map f xs) (h x (inl refl)) ∙ ap (λ l. x ∷ l) k)

map_agree : {A B : Type 0} (f g : A → B) (xs : List A) → ((a : A) → In a xs → f a ≡ g a) → map f xs ≡ map g xs
map_agree f g [] h = refl
map_agree f g (x ∷ xs) h = (let k = map_agree f g xs (λ a m. h a (inr m)) in ap (λ y. y ∷ map f xs) (h x (inl refl)) ∙ ap (λ l. g x ∷ l) k)

take_all : (nodes : List Node) (n : ℕ) → n ≤ length nodes → map (node_at nodes) (upto n) ≡ take n nodes
take_all nodes zero l = refl
take_all nodes (suc n) l =
    map-append (node_at nodes) (upto n) (n ∷ []) ∙ ap (λ z. z ++ node_at nodes n ∷ []) (take_all nodes n (omega arith)) ∙ one_more nodes n (omega arith)
  where
    one_more : (nodes : List Node) (n : ℕ) → n < length nodes → take n nodes ++ node_at nodes n ∷ [] ≡ take (suc n) nodes
    one_more [] n l = absurd (omega arith)
    one_more (m ∷ ms) zero l = refl
    one_more (m ∷ ms) (suc n) l = ap (λ z. m ∷ z) (one_more ms n (omega arith))

abbrev made : Names → List Node → State
made a m = record { names = a; nodes = m }

module _ (p : State) (sound : IsSound p) (rise : Rise (listed p)) where
  bound_listed : bound p (listed p) ≡ p.names
  bound_listed = bound_in p.names p.names (rise_find p.names rise)

  roots_listed : roots p (listed p) ≡ numbers (map (λ (b : List ℕ × Value). b.1) p.names)
  roots_listed = ap (λ (ns : Names). numbers (map (λ (b : List ℕ × Value). b.1) ns)) bound_listed

  abbrev size : ℕ
  size = length p.nodes

  same_child : (m : Node) → ((i : ℕ) → In (node i) (children m) → i < size) → AllDiffer (upto size) → each_child (renumbered (place (upto size))) m ≡ m
  same_child m h d =
      each-same (renumbered (place (upto size))) (λ v. v) m m refl (map_agree (renumbered (place (upto size))) (λ v. v) (children m) (λ v k. renumbered_self (place (upto size)) v (λ i e. place_upto size i (h i (subst (λ w. In w (children m)) e k)) d)))
      ∙ each_self m

  ordered_whole : order p (listed p) ≡ upto size → whole p ≡ p
  ordered_whole e =
      let d : AllDiffer (upto size) = subst (λ l. AllDiffer l) e (order_distinct p (listed p)) in
      let names : map (named (place (upto size))) (bound p (listed p)) ≡ p.names =
      ap (map (named (place (upto size)))) bound_listed ∙ map_self (named (place (upto size))) p.names (λ b m.
      ap {B = List ℕ × Value} (λ v. (b.0, v)) (renumbered_self (place (upto size)) b.1 (λ i f. place_upto size i (sound.names b.0 i (rise_find p.names rise b m ∙ ap Some f)) d))) in
      let rows : map (λ i. each_child (renumbered (place (upto size))) (node_at p.nodes i)) (upto size) ≡ p.nodes =
      map_agree (λ i. each_child (renumbered (place (upto size))) (node_at p.nodes i)) (node_at p.nodes) (upto size) (λ i m. same_child (node_at p.nodes i) (λ a k. sound.nodes i a (numbers_in (children (node_at p.nodes i)) a k)) d)
      ∙ take_all p.nodes size (omega arith) ∙ take_all_of p.nodes in
      ap (laid_out p (listed p)) e ∙ ap (λ (ns : Names). made ns (map (λ i. each_child (renumbered (place (upto size))) (node_at p.nodes i)) (upto size))) names ∙ ap (made p.names) rows
    where
      take_all_of : (ns : List Node) → take (length ns) ns ≡ ns
      take_all_of [] = refl
      take_all_of (n ∷ ns) = ap (λ l. n ∷ l) (take_all_of ns)

  reads_ordered : IsInOrder p → order p (listed p) ≡ upto size
  reads_ordered r = this (counted 0 (numbers (map (λ (b : List ℕ × Value). b.1) p.names))) refl r
    where
      this : (c : Option ℕ) → counted 0 (numbers (map (λ (b : List ℕ × Value). b.1) p.names)) ≡ c → option_and_then (λ n. rows_counted 0 n p.nodes) c ≡ Some size → order p (listed p) ≡ upto size
      this None c g = absurd (cc)
      this (Some n) c g =
          let from = roots p (listed p) in
          let f : firsts (from ++ []) ≡ upto n = ap firsts (append-nil from ∙ roots_listed) ∙ counted_met (numbers (map (λ (b : List ℕ × Value). b.1) p.names)) [] 0 n refl c in
          let k = rows_met p.nodes from (order p (listed p)) (order_end p sound (listed p)) p.nodes [] n size refl (order p (listed p), refl) f g in
          begins_both (order p (listed p)) (upto size)
          (rounds_within p.nodes from size ([], sym (append-nil (round p.nodes from (upto size)) ∙ k.1)) size) k.0

  ordered_reads : order p (listed p) ≡ upto size → IsInOrder p
  ordered_reads e =
      let from = roots p (listed p) in
      let vs = numbers (map (λ (b : List ℕ × Value). b.1) p.names) in
      let all : Begins (firsts from) (upto size) = subst (λ z. Begins (firsts from) z) (sym (order_end p sound (listed p)) ∙ e) (begins_firsts from (flat_map (leads p.nodes) (order p (listed p)))) in
      let r = met_counted vs [] 0 size refl (subst (λ z. Begins (firsts z) (upto size)) roots_listed all) in
      let g = met_rows p.nodes from (order p (listed p)) (order_end p sound (listed p)) size refl p.nodes [] r.0 refl e (ap firsts (append-nil from ∙ roots_listed) ∙ r.2) in
      ap (option_and_then (λ n. rows_counted 0 n p.nodes)) r.1 ∙ g

  own_places : (ms front qs : List ℕ) → order p (listed p) ≡ front ++ ms → AllZip (Stands p sound (listed p)) ms qs → upto (length front) ++ qs ≡ upto (length (order p (listed p)))
  own_places [] front [] e h = append-nil (upto (length front)) ∙ ap upto (ap length (sym (append-nil front) ∙ sym e))
  own_places (i ∷ ms) front (j ∷ qs) e h =
      let a : slice_get (order p (listed p)) (length front) ≡ Some i = ap (λ z. slice_get z (length front)) e ∙ get_back front i ms (length front) refl in
      let b : j ≡ length front = sym (place_at (order p (listed p)) j i (order_distinct p (listed p)) h.0) ∙ place_at (order p (listed p)) (length front) i (order_distinct p (listed p)) a in
      let longer : length (front ++ i ∷ []) ≡ suc (length front) = omega (arith, length-append front (i ∷ [])) in
      let rest = own_places ms (front ++ i ∷ []) qs (e ∙ sym (append_assoc front (i ∷ []) ms)) h.1 in
      ap (λ k. upto (length front) ++ k ∷ qs) b ∙ sym (append_assoc (upto (length front)) (length front ∷ []) qs) ∙ ap (λ k. upto k ++ qs) (sym longer) ∙ rest
  own_places [] front (j ∷ qs) e h = absurd h
  own_places (i ∷ ms) front [] e h = absurd h

  whole_ordered : whole p ≡ p → order p (listed p) ≡ upto size
  whole_ordered e =
      let both = order_alike (Stands p sound (listed p)) p (whole p) (listed p) (stands_pairs p sound (listed p)) sound (picture_sound p sound (listed p)) in
      let k : order (whole p) (listed p) ≡ upto (length (order p (listed p))) = own_places (order p (listed p)) [] (order (whole p) (listed p)) refl both in
      let n : length (order p (listed p)) ≡ size = sym (rows_length p sound (listed p)) ∙ ap (λ (u : State). length u.nodes) e in
      ap (λ (u : State). order u (listed p)) (sym e) ∙ k ∙ ap upto n

  -- A state reads in order exactly where it is its own picture.
  pub in_order : IsInOrder p ↔ (whole p ≡ p)
  in_order = (λ r. ordered_whole (reads_ordered r), λ e. ordered_reads (whole_ordered e))
