-- Groups that are dropped of the rows at hand, and those that may be stored then.
use Rattle.std.specs.Prelude.{◌≡◌, ◌<◌, ◌≤◌, ◌+◌, ℕ, Bool, true, false, not, ◌&&◌, ◌||◌, List, [], ◌∷◌, ◌++◌, suc, length, map, flat_map, get_or, take, Option, Some, None, is_some, MatchOption, refl}
use Rattle.std.specs.Cmp.Lexicographic.{bytes_decides}
use Rattle.std.specs.List.{AllByRecursion, list_all}
use Rattle.std.specs.List.Sorted.{IsStrictlySortedBy}
use Rattle.std.specs.Str.{bytes_eq}
use Rattle.std.proofs.Common.{zero, ap, sym, ◌∙◌, subst, inl, inr, arith}
use Rattle.std.proofs.lemmas.Bool.{cases_Bool, false≢true}
use Rattle.kishu_language.specs.tokens.Names.{is_among}
use Rattle.kishu_store.specs.Groups.{Group, first_name, is_group, is_one_of, Rise}
use Rattle.kishu_store.specs.Tables.{Row, Table, groups_in, first_in, names_in, are_apart}
use Rattle.kishu_store_laws.specs.WalkLaws.{rows_left}
use Rattle.kishu_store_laws.specs.BranchLaws.{AllBehind}
use Rattle.kishu_graph.specs.Fits.{left_of}
use Rattle.kishu_graph.specs.Heads.{StandApart}
use Rattle.kishu_graph.specs.Walks.{group_at}
use Rattle.kishu_graph.proofs.Apart.{row_names}
use Rattle.kishu_graph.proofs.Gone.{among_append}
use Rattle.kishu_graph.proofs.GroupsThere.{group-there}
use Rattle.kishu_graph.proofs.HeadsKept.{without-named}
use Rattle.kishu_graph.proofs.RowsLeft.{other_name, row_at, taken, taken_apart, apart_not}
use Rattle.kishu_graph.proofs.Stays.{AreThere, met, same-group, stays}

-- ---- one group

-- the row that begins with a name, where others are left out
pub row-left : (x : List ℕ) (gone : List (List ℕ)) (t : Table) → is_among x gone ≡ false → row_at x (rows_left gone t) ≡ row_at x t
row-left x gone [] e = refl
row-left x gone (q ∷ t) e =
    let rest = row-left x gone t e in
    elim (cases_Bool (is_among (first_in q) gone)) [
      | inl k ↦ (
          let other : bytes_eq x (first_in q) ≡ false = (elim (cases_Bool (bytes_eq x (first_in q))) [
            | inl f ↦ absurd (false≢true (sym e ∙ ap (λ y. is_among y gone) ((bytes_decides x (first_in q)).0 f) ∙ k))
            | inr f ↦ f
          ]) in
          rw (k, other) rest
          )
      | inr k ↦ rw k (elim (cases_Bool (bytes_eq x (first_in q))) [ inl f ↦ rw f refl | inr f ↦ rw f rest ])
    ]

-- the group at a name is that of the row there
group_of_row : (x : List ℕ) (t : Table) → MatchOption (row_at x t) (group_at x t ≡ []) (λ r. group_at x t ≡ r.group)
group_of_row x [] = refl
group_of_row x (q ∷ t) = elim (cases_Bool (bytes_eq x (first_in q))) [ inl f ↦ rw f refl | inr f ↦ rw f (group_of_row x t) ]

one_of_row : (x : List ℕ) (t : Table) (r : Row) → row_at x t ≡ Some r → is_one_of r.group (groups_in t) ≡ true
one_of_row x [] r e = absurd (none_some r e)
  where
    none_some : (r : Row) → None ≡ Some r → ⊥
    none_some r f = cc (f)
one_of_row x (q ∷ t) r e = elim (cases_Bool (bytes_eq x (first_in q))) [
  | inl k ↦ (let same : q ≡ r = is_some q r (rw k at e) in let here = (same-group r.group q.group).1 (ap (λ (p : Row). p.group) (sym same)) in rw here refl)
  | inr k ↦ (let rest = one_of_row x t r (rw k at e) in elim (cases_Bool (is_one r q)) [ inl f ↦ rw f refl | inr f ↦ rw f rest ])
]
  where
    is_some : (q r : Row) → Some q ≡ Some r → q ≡ r
    is_some q r f = cc (f)

    is_one : Row → Row → Bool
    is_one r q = is_group r.group q.group

-- A group that isn't at its first name isn't in the table.
pub not-there : (t : Table) (d : Group) → StandApart t → row_at (first_name d) t ≡ None → (d ≡ [] → ⊥) → is_one_of d (groups_in t) ≡ false
not-there t d s none some = elim (cases_Bool (is_one_of d (groups_in t))) [
  | inl e ↦ absurd (some (sym (group-there t d s.rise e) ∙ subst (λ (o : Option Row). MatchOption o (group_at (first_name d) t ≡ []) (λ r. group_at (first_name d) t ≡ r.group)) none (group_of_row (first_name d) t)))
  | inr e ↦ e
]

pub is-other : (t : Table) (d : Group) (r : Row) → StandApart t → row_at (first_name d) t ≡ Some r → is_group r.group d ≡ false → is_one_of d (groups_in t) ≡ false
is-other t d r s at other = elim (cases_Bool (is_one_of d (groups_in t))) [
  | inl e ↦ (
      let same : r.group ≡ d = sym (subst (λ (o : Option Row). MatchOption o (group_at (first_name d) t ≡ []) (λ r. group_at (first_name d) t ≡ r.group)) at (group_of_row (first_name d) t)) ∙ group-there t d s.rise e in
      absurd (false≢true (sym other ∙ (same-group r.group d).1 same))
      )
  | inr e ↦ e
]

pub is-there : (t : Table) (d : Group) (r : Row) → row_at (first_name d) t ≡ Some r → is_group r.group d ≡ true → is_one_of d (groups_in t) ≡ true
is-there t d r at same = subst (λ (g : Group). is_one_of g (groups_in t) ≡ true) ((same-group r.group d).0 same) (one_of_row (first_name d) t r at)

-- ---- names

freed : (k g d n : Bool) → (d ≡ true → n ≡ false) → (d || n) ≡ not (not k || g) → n ≡ not (not k || (d || g))
freed true true true n f e = absurd (false≢true (sym e))
freed true true false n f e = e
freed true false true n f e = f refl
freed true false false n f e = e
freed false g true n f e = absurd (false≢true (sym e))
freed false g false n f e = e

-- The names that aren't gone are those of the rows that stay, where one more group is left out of rows.
pub names-freed : (x : List ℕ) (t : Table) (r : Row) (z : List ℕ) (k g : Bool) → StandApart t → row_at x t ≡ Some r → is_among z (names_in t) ≡ not (not k || g) → is_among z (names_in (rows_left (x ∷ []) t)) ≡ not (not k || (is_among z r.group || g))
names-freed x t r z k g s at e =
    let left = rows_left (x ∷ []) t in
    let whole : is_among z (names_in t) ≡ (is_among z r.group || is_among z (names_in left)) = ap (λ (u : Table). is_among z (names_in u)) (taken x t r s.rise at) ∙ (row_names r left).same z ∙ among_append z r.group (names_in left) in
    freed k g (is_among z r.group) (is_among z (names_in left)) (λ m. apart_not z r.group (names_in left) (taken_apart x t r s at) m) (sym whole ∙ e)

-- ---- which names stand apart

both_joined : (a b l p : Bool) → (not (a || b) && (l && p)) ≡ ((not b && l) && (not a && p))
both_joined true true l p = refl
both_joined true false true p = refl
both_joined true false false p = refl
both_joined false true l p = refl
both_joined false false l p = refl

pub apart-joined : (xs ys : List (List ℕ)) → are_apart ys ≡ true → are_apart (xs ++ ys) ≡ (list_all (λ x. not (is_among x ys)) xs && are_apart xs)
apart-joined [] ys e = e
apart-joined (x ∷ xs) ys e =
    ap (λ (b : Bool). not b && are_apart (xs ++ ys)) (among_append x xs ys)
    ∙ ap (λ (b : Bool). not (is_among x xs || is_among x ys) && b) (apart-joined xs ys e)
    ∙ both_joined (is_among x xs) (is_among x ys) (list_all (λ z. not (is_among z ys)) xs) (are_apart xs)

pub all-same : (p q : List ℕ → Bool) → ((x : List ℕ) → p x ≡ q x) → (xs : List (List ℕ)) → list_all p xs ≡ list_all q xs
all-same p q same [] = refl
all-same p q same (x ∷ xs) = ap (λ (b : Bool). b && list_all p xs) (same x) ∙ ap (λ (b : Bool). q x && b) (all-same p q same xs)

-- ---- one after another

-- one that isn't is enough
pub all-false : {X : Type 0} (p : X → Bool) (xs : List X) (i : ℕ) (d : X) → i < length xs → p (get_or xs i d) ≡ false → list_all p xs ≡ false
all-false p [] i d inside e = absurd (omega (arith, inside))
all-false p (x ∷ xs) zero d inside e = rw e refl
all-false p (x ∷ xs) (suc i) d inside e = (let rest = all-false p xs i d (omega (arith, inside)) e in elim (cases_Bool (p x)) [ inl k ↦ rw k rest | inr k ↦ rw k refl ])

all_append : {X : Type 0} (p : X → Bool) (xs ys : List X) → list_all p (xs ++ ys) ≡ (list_all p xs && list_all p ys)
all_append p [] ys = refl
all_append p (x ∷ xs) ys = elim (cases_Bool (p x)) [ inl k ↦ rw k (all_append p xs ys) | inr k ↦ rw k refl ]

pub all-of-more : {X : Type 0} (p : X → Bool) (xs ys : List X) → list_all p xs ≡ true → list_all p ys ≡ true → list_all p (xs ++ ys) ≡ true
all-of-more p xs ys e f = (let both = all_append p xs ys in rw (e, f) at both)

-- of names in groups
pub all-false-in : {X : Type 0} (p : List ℕ → Bool) (f : X → List (List ℕ)) (xs : List X) (i : ℕ) (d : X) → i < length xs → list_all p (f (get_or xs i d)) ≡ false → list_all p (flat_map f xs) ≡ false
all-false-in p f [] i d inside e = absurd (omega (arith, inside))
all-false-in p f (x ∷ xs) zero d inside e = all_append p (f x) (flat_map f xs) ∙ ap (λ (b : Bool). b && list_all p (flat_map f xs)) e
all-false-in p f (x ∷ xs) (suc i) d inside e =
    all_append p (f x) (flat_map f xs) ∙ ap (λ (b : Bool). list_all p (f x) && b) (all-false-in p f xs i d (omega (arith, inside)) e) ∙ and_false (list_all p (f x))
  where
    and_false : (b : Bool) → (b && false) ≡ false
    and_false true = refl
    and_false false = refl

at_behind : (x : List ℕ) (gs : List Group) (i : ℕ) (d : Group) → i < length gs → AllBehind x (map first_name gs) → bytes_eq (first_name (get_or gs i d)) x ≡ false
at_behind x [] i d inside h = absurd (omega (arith, inside))
at_behind x (g ∷ gs) zero d inside h = other_name x (first_name g) h.0
at_behind x (g ∷ gs) (suc i) d inside h = at_behind x gs i d (omega (arith, inside)) h.1

-- Of groups in order none before a place begins as the one there.
pub fresh-at : (gs : List Group) (i : ℕ) (d : Group) → Rise (map first_name gs) → i < length gs → is_among (first_name (get_or gs i d)) (map first_name (take i gs)) ≡ false
unfolding IsStrictlySortedBy
fresh-at [] i d rise inside = absurd (omega (arith, inside))
fresh-at (g ∷ gs) zero d rise inside = refl
fresh-at (g ∷ gs) (suc i) d rise inside = (let no = at_behind (first_name g) gs i d (omega (arith, inside)) rise.0 in rw no (fresh-at gs i d rise.1 (omega (arith, inside))))

-- ---- room

pub room-enough : (room n : ℕ) (o : Option ℕ) (none : Bool) → is_some o ≡ not none → none ≡ false → MatchOption o (room < n) (λ m. m + n ≡ room) → n ≤ room
room-enough room n None none is e told = absurd (false≢true (is ∙ ap not e))
room-enough room n (Some m) none is e told = omega (arith, told)

pub room-short : (room n : ℕ) (o : Option ℕ) (none : Bool) → is_some o ≡ not none → none ≡ true → MatchOption o (room < n) (λ m. m + n ≡ room) → room < n
room-short room n None none is e told = told
room-short room n (Some m) none is e told = absurd (false≢true (sym (is ∙ ap not e)))

-- ---- what stays

-- Where all groups are there, the rows that stay are those that don't begin with their first names.
pub left-named : (t : Table) (ds : List Group) → Rise (map first_in t) → Rise (map first_name ds) → AreThere ds t → left_of t ds ≡ record { rows = rows_left (map first_name ds) t; rest = [] }
left-named t ds rise order all =
    let none = met t ds rise order all in
    let rows = (stays t ds rise none).1 ∙ without-named t ds rise all in
    ap (λ (l : List Group). record { rows = (left_of t ds).rows; rest = l }) none ∙ ap (λ (u : Table). record { rows = u; rest = [] }) rows

-- ---- one name

pub free-not : (found k g : Bool) → found ≡ k → found ≡ false → not found ≡ (not k || g)
free-not found k g is e = ap not e ∙ ap (λ (b : Bool). not b || g) (sym e ∙ is)

pub free-gone : (found k last g : Bool) → found ≡ k → found ≡ true → last ≡ g → last ≡ (not k || g)
free-gone found k last g is e same = same ∙ ap (λ (b : Bool). not b || g) (sym e ∙ is)

pub none-gone : (k : Bool) → k ≡ not (not k || false)
none-gone true = refl
none-gone false = refl

pub each-at : {X Y : Type 0} (P : Y → Type 0) (f : X → Y) (xs : List X) (i : ℕ) (d : X) → AllByRecursion P (map f xs) → i < length xs → P (f (get_or xs i d))
each-at P f [] i d all inside = absurd (omega (arith, inside))
each-at P f (x ∷ xs) zero d all inside = all.0
each-at P f (x ∷ xs) (suc i) d all inside = each-at P f xs i d all.1 (omega (arith, inside))

-- ---- what fits

not_not : (a b : Bool) → a ≡ not b → b ≡ not a
not_not a true e = sym (ap not e)
not_not a false e = sym (ap not e)

-- Where it is told of the names of groups whether they are none of those that stay, it is told whether all are apart.
pub apart-told : (free : List ℕ → Bool) (xs ys : List (List ℕ)) → are_apart ys ≡ true → ((x : List ℕ) → is_among x ys ≡ not (free x)) → are_apart (xs ++ ys) ≡ (list_all free xs && are_apart xs)
apart-told free xs ys apart told =
    apart-joined xs ys apart ∙ ap (λ (b : Bool). b && are_apart xs) (sym (all-same free (λ x. not (is_among x ys)) (λ x. not_not (is_among x ys) (free x) (told x)) xs))
