-- Tables: what a change that fits leaves of one. Its rows stand in order, and no name stands in two of its groups.
use Rattle.std.specs.Prelude.{◌≡◌, ◌<◌, ◌≤◌, ℕ, Bool, true, false, not, ◌&&◌, ◌||◌, IsTrue, List, [], ◌∷◌, ◌++◌, length, map, filter, refl}
use Rattle.std.specs.Cmp.Lexicographic.{bytes_decides, slice_cmp}
use Rattle.std.specs.List.{AllByRecursion}
use Rattle.std.specs.List.Sorted.{IsStrictlySortedBy}
use Rattle.std.specs.Ordering.{nat_cmp, ordering_reverse, match_ordering, is_eq}
use Rattle.std.specs.Str.{bytes_eq}
use Rattle.std.specs.declared.cmp.Ordering.TheVariants.{Less, Equal, Greater}
use Rattle.std.proofs.Common.{ap, sym, ◌∙◌, subst, inl, inr, arith, Ordering}
use Rattle.std.proofs.lemmas.Bool.{cases_Bool, false≢true}
use Rattle.std.proofs.lemmas.Cmp.{nat_list_cmp_total}
use Rattle.std.proofs.lemmas.Map.Text.{is_eq-slice_cmp}
use Rattle.kishu_language.specs.tokens.Names.{is_among}
use Rattle.kishu_store.specs.Groups.{Group, first_name, is_one_of, IsGroup, Rise}
use Rattle.kishu_store.specs.Limits.{most_pictured}
use Rattle.kishu_store.specs.Tables.{Row, Table, Change, groups_in, first_in, names_in, bytes_in, put_row, put_rows, without_groups, after, table_of, are_apart, FitsTable, IsKeptTable}
use Rattle.kishu_store_laws.specs.BranchLaws.{AllBehind, equal_titles}

-- ---- what each has

pub each-picked : {A : Type 0} (P : A → Type 0) (test : A → Bool) (xs : List A) → AllByRecursion P xs → AllByRecursion P (filter test xs)
each-picked P test [] h = tt
each-picked P test (x ∷ xs) h = elim (cases_Bool (test x)) [ inl e ↦ rw e (h.0, each-picked P test xs h.1) | inr e ↦ rw e (each-picked P test xs h.1) ]

each_by : (P : Row → Type 0) (r q : Row) (t : Table) (o : Ordering) → P r → AllByRecursion P (q ∷ t) → AllByRecursion P (put_row r t) → AllByRecursion P (match_ordering o (r ∷ q ∷ t) (r ∷ q ∷ t) (q ∷ put_row r t))
each_by P r q t Less p h rest = (p, h)
each_by P r q t Equal p h rest = (p, h)
each_by P r q t Greater p h rest = (h.0, rest)

each-row : (P : Row → Type 0) (r : Row) (t : Table) → P r → AllByRecursion P t → AllByRecursion P (put_row r t)
each-row P r [] p h = (p, tt)
each-row P r (q ∷ t) p h = each_by P r q t (slice_cmp nat_cmp (first_name r.group) (first_name q.group)) p h (each-row P r t p h.1)

pub each-rows : (P : Row → Type 0) (rs t : Table) → AllByRecursion P rs → AllByRecursion P t → AllByRecursion P (put_rows rs t)
each-rows P [] t p h = h
each-rows P (r ∷ rs) t p h = each-row P r (put_rows rs t) p.0 (each-rows P rs t p.1 h)

-- what each row of a table has after a change
pub each-after : (P : Row → Type 0) (c : Change) (t : Table) → AllByRecursion P c.stored → AllByRecursion P t → AllByRecursion P (after c t)
each-after P c t p h = each-rows P c.stored (without_groups c.dropped t) p (each-picked P (λ r. not (is_one_of r.group c.dropped)) t h)

-- of the groups of rows, and of the rows
pub groups-rows : (P : Group → Type 0) (t : Table) → AllByRecursion P (groups_in t) → AllByRecursion (λ r. P r.group) t
groups-rows P [] h = tt
groups-rows P (r ∷ t) h = (h.0, groups-rows P t h.1)

pub rows-groups : (P : Group → Type 0) (t : Table) → AllByRecursion (λ r. P r.group) t → AllByRecursion P (groups_in t)
rows-groups P [] h = tt
rows-groups P (r ∷ t) h = (h.0, rows-groups P t h.1)

-- ---- rows in order, where two may begin with one name

-- the row doesn't stand before the other in the order of first names
abbrev pub NotBefore : Row → Row → Type 0
NotBefore r q = slice_cmp nat_cmp (first_in q) (first_in r) ≡ Less → ⊥

abbrev pub AreSorted : Table → Type 0
AreSorted [] = Unit {0}
AreSorted (r ∷ t) = AllByRecursion (NotBefore r) t × AreSorted t

pub both_ways : (x y : List ℕ) → slice_cmp nat_cmp x y ≡ Less → slice_cmp nat_cmp y x ≡ Less → ⊥
both_ways x y l m = (let r : slice_cmp nat_cmp x x ≡ Less = nat_list_cmp_total.trans x y x l m in let e : is_eq (slice_cmp nat_cmp x x) ≡ true = is_eq-slice_cmp x x ∙ (bytes_decides x x).1 refl in false≢true (sym (ap is_eq r) ∙ e))

behind_sorted : (r : Row) (t : Table) → AllBehind (first_in r) (map first_in t) → AllByRecursion (NotBefore r) t
behind_sorted r [] h = tt
behind_sorted r (q ∷ t) h = ((λ l. both_ways (first_in r) (first_in q) h.0 l), behind_sorted r t h.1)

pub rise_sorted : (t : Table) → Rise (map first_in t) → AreSorted t
unfolding IsStrictlySortedBy
rise_sorted [] h = tt
rise_sorted (r ∷ t) h = (behind_sorted r t h.0, rise_sorted t h.1)

pub picked_sorted : (test : Row → Bool) (t : Table) → AreSorted t → AreSorted (filter test t)
picked_sorted test [] h = tt
picked_sorted test (r ∷ t) h = elim (cases_Bool (test r)) [ inl e ↦ rw e (each-picked (NotBefore r) test t h.0, picked_sorted test t h.1) | inr e ↦ rw e (picked_sorted test t h.1) ]

-- what stands before a row stands before those that follow it
pub before_more : (r q : Row) (t : Table) → NotBefore r q → AllByRecursion (NotBefore q) t → (slice_cmp nat_cmp (first_in r) (first_in q) ≡ Greater → ⊥) → AllByRecursion (NotBefore r) t
before_more r q [] n h g = tt
before_more r q (s ∷ t) n h g = ((λ l. before s h.0 l (slice_cmp nat_cmp (first_in r) (first_in q)) refl), before_more r q t n h.1 g)
  where
    before : (s : Row) → NotBefore q s → slice_cmp nat_cmp (first_in s) (first_in r) ≡ Less → (o : Ordering) → o ≡ slice_cmp nat_cmp (first_in r) (first_in q) → ⊥
    before s h l Less e = h (nat_list_cmp_total.trans (first_in s) (first_in r) (first_in q) l (sym e))
    before s h l Equal e = h (subst (λ x. slice_cmp nat_cmp (first_in s) x ≡ Less) (equal_titles (first_in r) (first_in q) e) l)
    before s h l Greater e = g (sym e)

sorted_by : (r q : Row) (t : Table) (o : Ordering) → o ≡ slice_cmp nat_cmp (first_in r) (first_in q) → AreSorted (q ∷ t) → AreSorted (put_row r t) → AreSorted (match_ordering o (r ∷ q ∷ t) (r ∷ q ∷ t) (q ∷ put_row r t))
sorted_by r q t Less e h rest =
    let n : NotBefore r q = λ l. both_ways (first_in r) (first_in q) (sym e) l in
    ((n, before_more r q t n h.0 (λ g. less_greater (e ∙ g))), h)
  where
    less_greater : Less ≡ Greater → ⊥
    less_greater e = cc (e)
sorted_by r q t Equal e h rest =
    let same = equal_titles (first_in r) (first_in q) e in
    let n : NotBefore r q = λ l. (let m : slice_cmp nat_cmp (first_in q) (first_in q) ≡ Less = subst (λ x. slice_cmp nat_cmp (first_in q) x ≡ Less) same l in both_ways (first_in q) (first_in q) m m) in
    ((n, before_more r q t n h.0 (λ g. equal_greater (e ∙ g))), h)
  where
    equal_greater : Equal ≡ Greater → ⊥
    equal_greater e = cc (e)
sorted_by r q t Greater e h rest =
    (each-row (NotBefore q) r t (λ l. less_greater (sym l ∙ sym e)) h.0, rest)
  where
    less_greater : Less ≡ Greater → ⊥
    less_greater e = cc (e)

row_sorted : (r : Row) (t : Table) → AreSorted t → AreSorted (put_row r t)
row_sorted r [] h = (tt, tt)
row_sorted r (q ∷ t) h = sorted_by r q t (slice_cmp nat_cmp (first_name r.group) (first_name q.group)) refl h (row_sorted r t h.1)

pub rows_sorted : (rs t : Table) → AreSorted t → AreSorted (put_rows rs t)
rows_sorted [] t h = h
rows_sorted (r ∷ rs) t h = row_sorted r (put_rows rs t) (rows_sorted rs t h)

-- ---- no name twice

pub or_false : (a b : Bool) → (a || b) ≡ false → (a ≡ false) × (b ≡ false)
or_false true b e = absurd (false≢true (sym e))
or_false false b e = (refl, e)

pub and_true : (a b : Bool) → (a && b) ≡ true → (a ≡ true) × (b ≡ true)
and_true true b e = (refl, e)
and_true false b e = absurd (false≢true e)

pub not_true : (a : Bool) → not a ≡ true → a ≡ false
not_true true e = absurd (false≢true e)
not_true false e = refl

-- a name that isn't among more isn't among less, nor is it one of them
not_one : (x y : List ℕ) (ys : List (List ℕ)) → is_among x (y ∷ ys) ≡ false → (bytes_eq x y ≡ false) × (is_among x ys ≡ false)
not_one x y ys e = or_false (bytes_eq x y) (is_among x ys) e

not_behind : (x : List ℕ) (xs ys : List (List ℕ)) → is_among x (xs ++ ys) ≡ false → is_among x ys ≡ false
not_behind x [] ys e = e
not_behind x (y ∷ xs) ys e = not_behind x xs ys (not_one x y (xs ++ ys) e).1

pub apart-behind : (xs ys : List (List ℕ)) → are_apart (xs ++ ys) ≡ true → are_apart ys ≡ true
apart-behind [] ys e = e
apart-behind (x ∷ xs) ys e = apart-behind xs ys (and_true (not (is_among x (xs ++ ys))) (are_apart (xs ++ ys)) e).1

-- the first name of a row isn't among those of the rows behind it
first_apart : (g : Group) (ys : List (List ℕ)) → 0 < length g → are_apart (g ++ ys) ≡ true → is_among (first_name g) ys ≡ false
first_apart [] ys some e = absurd (omega (arith, some))
first_apart (x ∷ xs) ys some e = not_behind x xs ys (not_true (is_among x (xs ++ ys)) (and_true (not (is_among x (xs ++ ys))) (are_apart (xs ++ ys)) e).0)

-- a row that doesn't stand before another, and begins with another name, stands behind it
behind_one : (x y : List ℕ) → bytes_eq x y ≡ false → (slice_cmp nat_cmp y x ≡ Less → ⊥) → (o : Ordering) → o ≡ slice_cmp nat_cmp x y → slice_cmp nat_cmp x y ≡ Less
behind_one x y d n Less e = sym e
behind_one x y d n Equal e = absurd (false≢true (sym d ∙ (bytes_decides x y).1 (equal_titles x y e)))
behind_one x y d n Greater e = absurd (n (nat_list_cmp_total.antisymm y x ∙ ap ordering_reverse (sym e)))

first_of : (x : List ℕ) (g : Group) (ys : List (List ℕ)) → 0 < length g → is_among x (g ++ ys) ≡ false → bytes_eq x (first_name g) ≡ false
first_of x [] ys some e = absurd (omega (arith, some))
first_of x (y ∷ g) ys some e = (not_one x y (g ++ ys) e).0

sorted_behind : (r : Row) (t : Table) → AllByRecursion (NotBefore r) t → AllByRecursion (λ q. IsGroup q.group) t → is_among (first_in r) (names_in t) ≡ false → AllBehind (first_in r) (map first_in t)
sorted_behind r [] h k e = tt
sorted_behind r (q ∷ t) h k e = (
  behind_one (first_in r) (first_in q) (first_of (first_in r) q.group (names_in t) k.0.some e) h.0 (slice_cmp nat_cmp (first_in r) (first_in q)) refl,
  sorted_behind r t h.1 k.1 (not_behind (first_in r) q.group (names_in t) e),
)

-- Rows in order whose names are apart have first names in order, each once.
sorted_rise : (t : Table) → AreSorted t → AllByRecursion (λ q. IsGroup q.group) t → are_apart (names_in t) ≡ true → Rise (map first_in t)
unfolding IsStrictlySortedBy
sorted_rise [] h k e = tt
sorted_rise (r ∷ t) h k e = (sorted_behind r t h.0 k.1 (first_apart r.group (names_in t) k.0.some e), sorted_rise t h.1 k.1 (apart-behind r.group (names_in t) e))

-- ---- tables

pub no-rows : IsKeptTable []
unfolding IsStrictlySortedBy
no-rows = record { rise = tt; groups = tt; apart = refl; small = omega arith }

-- A change that fits leaves such a table, where it stores groups that a record may tell.
pub after-kept : (t : Table) (c : Change) → IsKeptTable t → FitsTable t c → AllByRecursion IsGroup (groups_in c.stored) → IsKeptTable (after c t)
after-kept t c k fits stored =
    let groups = each-after (λ (r : Row). IsGroup r.group) c t (groups-rows IsGroup c.stored stored) (groups-rows IsGroup t k.groups) in
    let sorted = rows_sorted c.stored (without_groups c.dropped t) (picked_sorted (λ r. not (is_one_of r.group c.dropped)) t (rise_sorted t k.rise)) in
    record {
      rise = sorted_rise (after c t) sorted groups fits.apart;
      groups = rows-groups IsGroup (after c t) groups;
      apart = fits.apart;
      small = fits.small;
    }

-- Along a path, of which the newest commit stands first, each change fits the table before it.
abbrev pub AreFit : List Change → Type 0
AreFit [] = Unit {0}
AreFit (c ∷ cs) = FitsTable (table_of cs) c × AreFit cs

-- So each table on it is one.
pub path-kept : (cs : List Change) → AreFit cs → AllByRecursion (λ c. AllByRecursion IsGroup (groups_in c.stored)) cs → IsKeptTable (table_of cs)
path-kept [] fits groups = no-rows
path-kept (c ∷ cs) fits groups = after-kept (table_of cs) c (path-kept cs fits.1 groups.1) fits.0 groups.0

-- ---- a commit without groups

none_dropped : (t : Table) → without_groups [] t ≡ t
none_dropped [] = refl
none_dropped (r ∷ t) = ap (λ (l : Table). r ∷ l) (none_dropped t)

-- It fits each table, which stays.
pub bare-after : (t : Table) → after (record { dropped = []; stored = [] }) t ≡ t
bare-after t = none_dropped t

pub bare-fits : (t : Table) → IsKeptTable t → FitsTable t (record { dropped = []; stored = [] })
bare-fits t k = record {
  dropped = refl;
  apart = subst (λ (u : Table). IsTrue (are_apart (names_in u))) (sym (bare-after t)) k.apart;
  small = subst (λ (u : Table). bytes_in u ≤ most_pictured) (sym (bare-after t)) k.small;
}
