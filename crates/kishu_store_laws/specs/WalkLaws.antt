-- A commit's table, found on the way back by the parents: of the rows that commits store those stay whose first names no newer commit drops.
use Rattle.std.specs.Prelude.{◌≡◌, ◌⊎◌, ℕ, ◌+◌, Bool, true, false, not, ◌||◌, List, [], ◌∷◌, ◌++◌, length, map, filter, refl}
use Rattle.std.specs.Bool.{Decides}
use Rattle.std.specs.Cmp.Lexicographic.{bytes_decides, slice_cmp}
use Rattle.std.specs.List.{AllByRecursion, list_all}
use Rattle.std.specs.List.Sorted.{IsStrictlySortedBy}
use Rattle.std.specs.Ordering.{nat_cmp, ordering_reverse, match_ordering}
use Rattle.std.specs.Str.{bytes_eq}
use Rattle.std.specs.declared.cmp.Ordering.TheVariants.{Less, Equal, Greater}
use Rattle.std.proofs.Common.{ap, sym, ◌∙◌, subst, inl, inr, arith, Ordering}
use Rattle.std.proofs.lemmas.Bool.{cases_Bool, false≢true}
use Rattle.std.proofs.lemmas.Cmp.{nat_list_cmp_total}
use Rattle.std.proofs.lemmas.Slice.Eq.{bytes_eq-Decides, slice_eq-Decides}
use Rattle.kishu_language.specs.tokens.Names.{is_among}
use Rattle.kishu_store.specs.Groups.{Group, first_name, is_group, is_one_of, IsGroup, Rise}
use Rattle.kishu_store.specs.Tables.{Row, Table, Change, groups_in, first_in, put_row, put_rows, without_groups, table_of, IsKeptTable}
use Rattle.kishu_store_laws.specs.BranchLaws.{AllBehind}
use Rattle.kishu_store_laws.specs.TableLaws.{NotBefore, AreSorted, both_ways, before_more, rise_sorted, picked_sorted, rows_sorted, and_true, AreFit, path-kept}

-- whether no newer commit dropped a row's group, by its first name
abbrev pub is_left : List (List ℕ) → Row → Bool
is_left gone r = not (is_among (first_in r) gone)

abbrev pub rows_left : List (List ℕ) → Table → Table
rows_left gone t = filter (is_left gone) t

-- the rows that commits store, the newest first, without those that newer ones dropped
abbrev pub rows_back : List (List ℕ) → List Change → Table
rows_back gone [] = []
rows_back gone (c ∷ cs) = rows_left gone c.stored ++ rows_back (map first_name c.dropped ++ gone) cs

-- ---- rows put in, and rows left

put-append : (xs ys t : Table) → put_rows (xs ++ ys) t ≡ put_rows xs (put_rows ys t)
put-append [] ys t = refl
put-append (x ∷ xs) ys t = ap (put_row x) (put-append xs ys t)

front_by : (r q : Row) (t : Table) (o : Ordering) → o ≡ slice_cmp nat_cmp (first_in r) (first_in q) → NotBefore r q → match_ordering o (r ∷ q ∷ t) (r ∷ q ∷ t) (q ∷ put_row r t) ≡ r ∷ q ∷ t
front_by r q t Less e n = refl
front_by r q t Equal e n = refl
front_by r q t Greater e n = absurd (n (nat_list_cmp_total.antisymm (first_in q) (first_in r) ∙ ap ordering_reverse (sym e)))

-- a row before which none stands comes to the front
put-front : (r : Row) (t : Table) → AllByRecursion (NotBefore r) t → put_row r t ≡ r ∷ t
put-front r [] h = refl
put-front r (q ∷ t) h = front_by r q t (slice_cmp nat_cmp (first_in r) (first_in q)) refl h.0

-- the row put in, where the test lets it stay
abbrev put_if : Bool → Row → Table → Table
put_if true r t = put_row r t
put_if false r t = t

module _ (test : Row → Bool) where
  left_all : (r : Row) (t : Table) → AllByRecursion (NotBefore r) t → AllByRecursion (NotBefore r) (filter test t)
  left_all r [] h = tt
  left_all r (q ∷ t) h = elim (cases_Bool (test q)) [ inl e ↦ rw e (h.0, left_all r t h.1) | inr e ↦ rw e (left_all r t h.1) ]

  left_front : (r : Row) (t : Table) → AllByRecursion (NotBefore r) t → filter test (r ∷ t) ≡ put_if (test r) r (filter test t)
  left_front r t h = elim (cases_Bool (test r)) [ inl e ↦ rw e (sym (put-front r (filter test t) (left_all r t h))) | inr e ↦ rw e refl ]

  behind_by : (r q : Row) (t : Table) → Greater ≡ slice_cmp nat_cmp (first_in r) (first_in q) → (b c : Bool) → test q ≡ b → filter test (put_row r t) ≡ put_if c r (filter test t) → filter test (q ∷ put_row r t) ≡ put_if c r (filter test (q ∷ t))
  behind_by r q t e true true k rest = rw k (ap (λ (l : Table). q ∷ l) rest ∙ ap (λ (o : Ordering). match_ordering o (r ∷ q ∷ filter test t) (r ∷ q ∷ filter test t) (q ∷ put_row r (filter test t))) e)
  behind_by r q t e true false k rest = rw k (ap (λ (l : Table). q ∷ l) rest)
  behind_by r q t e false c k rest = rw k rest

  left_by : (r q : Row) (t : Table) (o : Ordering) → o ≡ slice_cmp nat_cmp (first_in r) (first_in q) → AreSorted (q ∷ t) → filter test (put_row r t) ≡ put_if (test r) r (filter test t)
      → filter test (match_ordering o (r ∷ q ∷ t) (r ∷ q ∷ t) (q ∷ put_row r t)) ≡ put_if (test r) r (filter test (q ∷ t))
  left_by r q t Less e h rest =
      let n : NotBefore r q = λ l. both_ways (first_in r) (first_in q) (sym e) l in
      left_front r (q ∷ t) (n, before_more r q t n h.0 (λ g. less_greater (e ∙ g)))
    where
      less_greater : Less ≡ Greater → ⊥
      less_greater f = cc (f)
  left_by r q t Equal e h rest =
      let n : NotBefore r q = λ l. equal_greater (e ∙ (nat_list_cmp_total.antisymm (first_in r) (first_in q) ∙ ap ordering_reverse l)) in
      left_front r (q ∷ t) (n, before_more r q t n h.0 (λ g. equal_greater (e ∙ g)))
    where
      equal_greater : Equal ≡ Greater → ⊥
      equal_greater f = cc (f)
  left_by r q t Greater e h rest = behind_by r q t e (test q) (test r) refl rest

  left-put : (r : Row) (t : Table) → AreSorted t → filter test (put_row r t) ≡ put_if (test r) r (filter test t)
  left-put r [] h = left_front r [] tt
  left-put r (q ∷ t) h = left_by r q t (slice_cmp nat_cmp (first_in r) (first_in q)) refl h (left-put r t h.1)

  -- Rows that are put into rows in order, and then left, are those that are left, put in.
  pub left-puts : (rs t : Table) → AreSorted t → filter test (put_rows rs t) ≡ put_rows (filter test rs) (filter test t)
  left-puts [] t h = refl
  left-puts (r ∷ rs) t h =
      let rest = left-puts rs t h in
      left-put r (put_rows rs t) (rows_sorted rs t h) ∙ elim (cases_Bool (test r)) [ inl e ↦ rw e (ap (put_row r) rest) | inr e ↦ rw e rest ]

-- ---- dropped groups, by their first names

group_decides : (g h : Group) → Decides (is_group g h) (g ≡ h)
group_decides g h = slice_eq-Decides bytes_eq-Decides g h (is_group g h) refl

-- a row of the table with this first name
abbrev IsOf : Row → Table → Type 0
IsOf r [] = ⊥
IsOf r (q ∷ t) = (r ≡ q) ⊎ IsOf r t

first_behind : (x : List ℕ) (r : Row) (t : Table) → AllBehind x (map first_in t) → IsOf r t → slice_cmp nat_cmp x (first_in r) ≡ Less
first_behind x r [] h m = absurd m
first_behind x r (q ∷ t) h (inl e) = subst (λ (p : Row). slice_cmp nat_cmp x (first_in p) ≡ Less) (sym e) h.0
first_behind x r (q ∷ t) h (inr m) = first_behind x r t h.1 m

group_behind : (x : List ℕ) (d : Group) (t : Table) → AllBehind x (map first_in t) → is_one_of d (groups_in t) ≡ true → slice_cmp nat_cmp x (first_name d) ≡ Less
group_behind x d [] h e = absurd (false≢true e)
group_behind x d (q ∷ t) h e = elim (cases_Bool (is_group d q.group)) [
  | inl k ↦ subst (λ (g : Group). slice_cmp nat_cmp x (first_name g) ≡ Less) (sym ((group_decides d q.group).0 k)) h.0
  | inr k ↦ group_behind x d t h.1 (rw k at e)
]

not_itself : (x y : List ℕ) → x ≡ y → slice_cmp nat_cmp x y ≡ Less → ⊥
not_itself x y e l = (let m : slice_cmp nat_cmp x x ≡ Less = subst (λ z. slice_cmp nat_cmp x z ≡ Less) (sym e) l in both_ways x x m m)

-- A group of a table is that of the row with its first name.
one_group : (t : Table) → Rise (map first_in t) → (r : Row) (d : Group) → IsOf r t → is_one_of d (groups_in t) ≡ true → first_name d ≡ first_in r → r.group ≡ d
unfolding IsStrictlySortedBy
one_group [] rise r d m e same = absurd m
one_group (q ∷ t) rise r d (inl f) e same = elim (cases_Bool (is_group d q.group)) [
  | inl k ↦ ap (λ (p : Row). p.group) f ∙ sym ((group_decides d q.group).0 k)
  | inr k ↦ absurd (not_itself (first_in q) (first_name d) (ap first_in (sym f) ∙ sym same) (group_behind (first_in q) d t rise.0 (rw k at e)))
]
one_group (q ∷ t) rise r d (inr m) e same = elim (cases_Bool (is_group d q.group)) [
  | inl k ↦ absurd (not_itself (first_in q) (first_in r) (ap first_name (sym ((group_decides d q.group).0 k)) ∙ same) (first_behind (first_in q) r t rise.0 m))
  | inr k ↦ one_group t rise.1 r d m (rw k at e) same
]

both_true : (a b : Bool) → (a ≡ true → b ≡ true) → (b ≡ true → a ≡ true) → a ≡ b
both_true true b f g = sym (f refl)
both_true false true f g = g refl
both_true false false f g = refl

-- among groups of the table, a row's group is one exactly where its first name is that of one
module _ (t : Table) (rise : Rise (map first_in t)) (r : Row) (m : IsOf r t) where
  by_name : (ds : List Group) → is_one_of r.group ds ≡ true → is_among (first_in r) (map first_name ds) ≡ true
  by_name [] e = e
  by_name (d ∷ ds) e = elim (cases_Bool (bytes_eq (first_in r) (first_name d))) [
    | inl k ↦ rw k refl
    | inr k ↦ rw k (elim (cases_Bool (is_group r.group d)) [
      | inl h ↦ absurd (false≢true (sym k ∙ (bytes_decides (first_in r) (first_name d)).1 (ap first_name ((group_decides r.group d).0 h))))
      | inr h ↦ by_name ds (rw h at e)
    ])
  ]

  by_group : (ds : List Group) → list_all (λ d. is_one_of d (groups_in t)) ds ≡ true → is_among (first_in r) (map first_name ds) ≡ true → is_one_of r.group ds ≡ true
  by_group [] all e = e
  by_group (d ∷ ds) all e =
      let both = and_true (is_one_of d (groups_in t)) (list_all (λ (z : Group). is_one_of z (groups_in t)) ds) all in
      elim (cases_Bool (is_group r.group d)) [
        | inl h ↦ rw h refl
        | inr h ↦ rw h (elim (cases_Bool (bytes_eq (first_in r) (first_name d))) [
          | inl k ↦ absurd (false≢true (sym h ∙ (group_decides r.group d).1 (one_group t rise r d m both.0 (sym ((bytes_decides (first_in r) (first_name d)).0 k)))))
          | inr k ↦ by_group ds both.1 (rw k at e)
        ])
      ]

  one_test : (ds : List Group) → list_all (λ d. is_one_of d (groups_in t)) ds ≡ true → is_one_of r.group ds ≡ is_among (first_in r) (map first_name ds)
  one_test ds all = both_true (is_one_of r.group ds) (is_among (first_in r) (map first_name ds)) (by_name ds) (by_group ds all)

among_append : (x : List ℕ) (xs ys : List (List ℕ)) → is_among x (xs ++ ys) ≡ (is_among x xs || is_among x ys)
among_append x [] ys = refl
among_append x (y ∷ xs) ys = elim (cases_Bool (bytes_eq x y)) [ inl e ↦ rw e refl | inr e ↦ rw e (among_append x xs ys) ]

-- Where the tests agree on rows, those without the groups are those without the names.
left_same : (ds : List Group) (gone : List (List ℕ)) (t : Table) → AllByRecursion (λ r. is_one_of r.group ds ≡ is_among (first_in r) (map first_name ds)) t
    → rows_left gone (without_groups ds t) ≡ rows_left (map first_name ds ++ gone) t
left_same ds gone [] h = refl
left_same ds gone (r ∷ t) h =
    let rest = left_same ds gone t h.1 in
    let joined = among_append (first_in r) (map first_name ds) gone in
    elim (cases_Bool (is_one_of r.group ds)) [
      | inl e ↦ (
          let among : is_among (first_in r) (map first_name ds) ≡ true = sym h.0 ∙ e in
          let all : is_among (first_in r) (map first_name ds ++ gone) ≡ true = joined ∙ ap (λ (b : Bool). b || is_among (first_in r) gone) among in
          rw (e, all) rest
          )
      | inr e ↦ (
          let among : is_among (first_in r) (map first_name ds) ≡ false = sym h.0 ∙ e in
          let all : is_among (first_in r) (map first_name ds ++ gone) ≡ is_among (first_in r) gone = joined ∙ ap (λ (b : Bool). b || is_among (first_in r) gone) among in
          rw e (elim (cases_Bool (is_among (first_in r) gone)) [
            | inl f ↦ (let g = all ∙ f in rw (f, g) rest)
            | inr f ↦ (let g = all ∙ f in rw (f, g) (ap (λ (l : Table). r ∷ l) rest))
          ])
          )
    ]

all_of : (P : Row → Type 0) (t : Table) → ((r : Row) → IsOf r t → P r) → AllByRecursion P t
all_of P [] h = tt
all_of P (r ∷ t) h = (h r (inl refl), all_of P t (λ q m. h q (inr m)))

dropped_left : (ds : List Group) (gone : List (List ℕ)) (t : Table) → Rise (map first_in t) → list_all (λ d. is_one_of d (groups_in t)) ds ≡ true → rows_left gone (without_groups ds t) ≡ rows_left (map first_name ds ++ gone) t
dropped_left ds gone t rise all = left_same ds gone t (all_of (λ r. is_one_of r.group ds ≡ is_among (first_in r) (map first_name ds)) t (λ r m. one_test t rise r m ds all))

-- ---- the way back

none_gone : (t : Table) → rows_left [] t ≡ t
none_gone [] = refl
none_gone (r ∷ t) = ap (λ (l : Table). r ∷ l) (none_gone t)

back_left : (gone : List (List ℕ)) (cs : List Change) → AreFit cs → AllByRecursion (λ c. AllByRecursion IsGroup (groups_in c.stored)) cs → put_rows (rows_back gone cs) [] ≡ rows_left gone (table_of cs)
back_left gone [] fit groups = refl
back_left gone (c ∷ cs) fit groups =
    let t = table_of cs in
    let kept : IsKeptTable t = path-kept cs fit.1 groups.1 in
    let stay = without_groups c.dropped t in
    let further = map first_name c.dropped ++ gone in
    put-append (rows_left gone c.stored) (rows_back further cs) []
    ∙ ap (put_rows (rows_left gone c.stored)) (back_left further cs fit.1 groups.1 ∙ sym (dropped_left c.dropped gone t kept.rise fit.0.dropped))
    ∙ sym (left-puts (is_left gone) c.stored stay (picked_sorted (λ r. not (is_one_of r.group c.dropped)) t (rise_sorted t kept.rise)))

-- The table has just the rows that are found on the way back, in the order of their first names.
pub found-back : (cs : List Change) → AreFit cs → AllByRecursion (λ c. AllByRecursion IsGroup (groups_in c.stored)) cs → put_rows (rows_back [] cs) [] ≡ table_of cs
found-back cs fit groups = back_left [] cs fit groups ∙ none_gone (table_of cs)

-- ---- how many there are

length_by : (r q : Row) (t : Table) (o : Ordering) → length (put_row r t) ≡ 1 + length t → length (match_ordering o (r ∷ q ∷ t) (r ∷ q ∷ t) (q ∷ put_row r t)) ≡ 2 + length t
length_by r q t Less e = omega arith
length_by r q t Equal e = omega arith
length_by r q t Greater e = omega (arith, e)

length-put : (r : Row) (t : Table) → length (put_row r t) ≡ 1 + length t
length-put r [] = omega arith
length-put r (q ∷ t) = (let e = length_by r q t (slice_cmp nat_cmp (first_in r) (first_in q)) (length-put r t) in omega (arith, e))

length-puts : (rs t : Table) → length (put_rows rs t) ≡ length rs + length t
length-puts [] t = omega arith
length-puts (r ∷ rs) t = omega (arith, length-put r (put_rows rs t), length-puts rs t)

-- As many rows are found as the table has; so the way back may end where they are.
pub count-back : (cs : List Change) → AreFit cs → AllByRecursion (λ c. AllByRecursion IsGroup (groups_in c.stored)) cs → length (rows_back [] cs) ≡ length (table_of cs)
count-back cs fit groups = (let e = ap length (found-back cs fit groups) in omega (arith, e, length-puts (rows_back [] cs) []))
