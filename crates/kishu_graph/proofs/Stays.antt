-- Of a table in order, where groups in order are dropped: each is met in its turn, and the rows that stay are those without the groups.
use Rattle.std.specs.Prelude.{◌≡◌, ◌≤◌, ◌<◌, ◌+◌, ℕ, true, false, List, [], ◌∷◌, ◌++◌, length, map, take, drop, get_or, refl}
use Rattle.std.specs.Bool.{Decides}
use Rattle.std.specs.Cmp.Lexicographic.{slice_cmp}
use Rattle.std.specs.List.{list_all}
use Rattle.std.specs.List.Sorted.{IsStrictlySortedBy}
use Rattle.std.specs.Ordering.{nat_cmp}
use Rattle.std.specs.declared.cmp.Ordering.TheVariants.{Less}
use Rattle.std.proofs.Common.{ap, sym, ◌∙◌, subst, inl, inr, arith}
use Rattle.std.proofs.lemmas.Bool.{cases_Bool, false≢true}
use Rattle.std.proofs.lemmas.Cmp.{nat_list_cmp_total}
use Rattle.std.proofs.lemmas.List.{drop_all, map_push, take_more}
use Rattle.std.proofs.lemmas.Slice.Eq.{bytes_eq-Decides, slice_eq-Decides}
use Rattle.kishu_store.specs.Groups.{Group, first_name, is_group, is_one_of, Rise}
use Rattle.kishu_store.specs.Tables.{Row, Table, groups_in, first_in, without_groups}
use Rattle.kishu_store_laws.specs.BranchLaws.{AllBehind}
use Rattle.kishu_store_laws.specs.TableLaws.{both_ways, and_true}
use Rattle.kishu_graph.specs.declared.tables.TableRow as rust_row
use Rattle.kishu_graph.specs.Fits.{Left, behind, is_next, left_of, names_at, rows_of}

pub same-group : (g h : Group) → Decides (is_group g h) (g ≡ h)
same-group g h = slice_eq-Decides bytes_eq-Decides g h (is_group g h) refl

-- the groups are all in the table
abbrev pub AreThere : List Group → Table → Type 0
AreThere ds t = list_all (λ d. is_one_of d (groups_in t)) ds ≡ true

-- ---- groups of rows that stand behind

pub not_less : (x y : List ℕ) → x ≡ y → slice_cmp nat_cmp x y ≡ Less → ⊥
not_less x y e l = (let m : slice_cmp nat_cmp x x ≡ Less = subst (λ z. slice_cmp nat_cmp x z ≡ Less) (sym e) l in both_ways x x m m)

further_behind : (x y : List ℕ) (zs : List (List ℕ)) → slice_cmp nat_cmp x y ≡ Less → AllBehind y zs → AllBehind x zs
further_behind x y [] l h = tt
further_behind x y (z ∷ zs) l h = (nat_list_cmp_total.trans x y z l h.0, further_behind x y zs l h.1)

pub one_behind : (x : List ℕ) (d : Group) (t : Table) → AllBehind x (map first_in t) → is_one_of d (groups_in t) ≡ true → slice_cmp nat_cmp x (first_name d) ≡ Less
one_behind x d [] h e = absurd (false≢true e)
one_behind x d (q ∷ t) h e = elim (cases_Bool (is_group d q.group)) [
  | inl k ↦ subst (λ (g : Group). slice_cmp nat_cmp x (first_name g) ≡ Less) (sym ((same-group d q.group).0 k)) h.0
  | inr k ↦ one_behind x d t h.1 (rw k at e)
]

-- a group before all rows isn't one of theirs
none_behind : (d : Group) (ds : List Group) (t : Table) → AllBehind (first_name d) (map first_in t) → without_groups (d ∷ ds) t ≡ without_groups ds t
none_behind d ds [] h = refl
none_behind d ds (q ∷ t) h =
    let rest = none_behind d ds t h.1 in
    elim (cases_Bool (is_group q.group d)) [
      | inl k ↦ absurd (not_less (first_name d) (first_in q) (sym (ap first_name ((same-group q.group d).0 k))) h.0)
      | inr k ↦ rw k (elim (cases_Bool (is_one_of q.group ds)) [ inl e ↦ rw e rest | inr e ↦ rw e (ap (λ (l : Table). q ∷ l) rest) ])
    ]

-- a row before all others has none of their groups
not_theirs : (r : Row) (t : Table) (ds : List Group) → AllBehind (first_in r) (map first_in t) → AreThere ds t → is_one_of r.group ds ≡ false
not_theirs r t [] h all = refl
not_theirs r t (d ∷ ds) h all =
    let both = and_true (is_one_of d (groups_in t)) (list_all (λ (z : Group). is_one_of z (groups_in t)) ds) all in
    elim (cases_Bool (is_group r.group d)) [
      | inl k ↦ absurd (not_less (first_in r) (first_name d) (ap first_name ((same-group r.group d).0 k)) (one_behind (first_in r) d t h both.0))
      | inr k ↦ rw k (not_theirs r t ds h both.1)
    ]

-- ---- a row more

more_there : (r : Row) (t : Table) (ds : List Group) → AreThere ds t → AreThere ds (r ∷ t)
more_there r t [] all = refl
more_there r t (d ∷ ds) all =
    let both = and_true (is_one_of d (groups_in t)) (list_all (λ (z : Group). is_one_of z (groups_in t)) ds) all in
    let rest = more_there r t ds both.1 in
    elim (cases_Bool (is_group d r.group)) [ inl k ↦ rw k rest | inr k ↦ (let here = both.0 in rw (k, here) rest) ]

-- and one fewer
fewer_there : (r : Row) (t : Table) (ds : List Group) → AllBehind (first_in r) (map first_name ds) → AreThere ds (r ∷ t) → AreThere ds t
fewer_there r t [] h all = refl
fewer_there r t (d ∷ ds) h all =
    let both = and_true (is_one_of d (groups_in (r ∷ t))) (list_all (λ (z : Group). is_one_of z (groups_in (r ∷ t))) ds) all in
    let rest = fewer_there r t ds h.1 both.1 in
    elim (cases_Bool (is_group d r.group)) [
      | inl k ↦ absurd (not_less (first_in r) (first_name d) (sym (ap first_name ((same-group d r.group).0 k))) h.0)
      | inr k ↦ (let here : is_one_of d (groups_in t) ≡ true = rw k at both.0 in rw here rest)
    ]

-- ---- the rows that stay

-- the first row has the first group
here_met : (r : Row) (t : Table) (d : Group) (ds : List Group) → is_group r.group d ≡ true → left_of (r ∷ t) (d ∷ ds) ≡ left_of t ds
here_met r t d ds k = rw k refl

not_met : (r : Row) (t : Table) (d : Group) (ds : List Group) → is_group r.group d ≡ false → left_of (r ∷ t) (d ∷ ds) ≡ behind (r ∷ []) (left_of t (d ∷ ds))
not_met r t d ds k = rw k refl

none_dropped : (t : Table) → left_of t [] ≡ record { rows = t; rest = [] }
none_dropped [] = refl
none_dropped (r ∷ t) = ap (behind (r ∷ [])) (none_dropped t)

all_stay : (t : Table) → without_groups [] t ≡ t
all_stay [] = refl
all_stay (r ∷ t) = ap (λ (l : Table). r ∷ l) (all_stay t)

-- Where all groups are met, they are there, and the others stay.
pub stays : (t : Table) (ds : List Group) → Rise (map first_in t) → (left_of t ds).rest ≡ [] → AreThere ds t × ((left_of t ds).rows ≡ without_groups ds t)
unfolding IsStrictlySortedBy
stays [] [] rise e = (refl, refl)
stays [] (d ∷ ds) rise e = absurd (cc (e))
stays (r ∷ t) [] rise e = (refl, ap (λ (l : Left). l.rows) (none_dropped (r ∷ t)) ∙ sym (all_stay (r ∷ t)))
stays (r ∷ t) (d ∷ ds) rise e = elim (cases_Bool (is_group r.group d)) [
  | inl k ↦ (
      let one = here_met r t d ds k in
      let same : r.group ≡ d = (same-group r.group d).0 k in
      let more = stays t ds rise.1 (ap (λ (l : Left). l.rest) (sym one) ∙ e) in
      let there : AreThere (d ∷ ds) (r ∷ t) = (let back = (same-group d r.group).1 (sym same) in let rest = more_there r t ds more.0 in rw back rest) in
      let first : AllBehind (first_name d) (map first_in t) = subst (λ (g : Group). AllBehind (first_name g) (map first_in t)) same rise.0 in
      let left : without_groups (d ∷ ds) (r ∷ t) ≡ without_groups (d ∷ ds) t = rw k refl in
      (there, ap (λ (l : Left). l.rows) one ∙ more.1 ∙ sym (left ∙ none_behind d ds t first))
      )
  | inr k ↦ (
      let one = not_met r t d ds k in
      let more = stays t (d ∷ ds) rise.1 (ap (λ (l : Left). l.rest) (sym one) ∙ e) in
      let other : is_one_of r.group (d ∷ ds) ≡ false = not_theirs r t (d ∷ ds) rise.0 more.0 in
      let left : without_groups (d ∷ ds) (r ∷ t) ≡ r ∷ without_groups (d ∷ ds) t = rw other refl in
      (more_there r t (d ∷ ds) more.0, ap (λ (l : Left). l.rows) one ∙ ap (λ (l : Table). r ∷ l) more.1 ∙ sym left)
      )
]

-- Where all are there, they are met.
pub met : (t : Table) (ds : List Group) → Rise (map first_in t) → Rise (map first_name ds) → AreThere ds t → (left_of t ds).rest ≡ []
unfolding IsStrictlySortedBy
met [] [] rise order all = refl
met [] (d ∷ ds) rise order all = absurd (false≢true all)
met (r ∷ t) [] rise order all = ap (λ (l : Left). l.rest) (none_dropped (r ∷ t))
met (r ∷ t) (d ∷ ds) rise order all =
    let both = and_true (is_one_of d (groups_in (r ∷ t))) (list_all (λ (z : Group). is_one_of z (groups_in (r ∷ t))) ds) all in
    elim (cases_Bool (is_group r.group d)) [
      | inl k ↦ (
          let same : r.group ≡ d = (same-group r.group d).0 k in
          let first : AllBehind (first_in r) (map first_name ds) = subst (λ (g : Group). AllBehind (first_name g) (map first_name ds)) (sym same) order.0 in
          ap (λ (l : Left). l.rest) (here_met r t d ds k) ∙ met t ds rise.1 order.1 (fewer_there r t ds first both.1)
          )
      | inr k ↦ (
          let apart : is_group d r.group ≡ false = (elim (cases_Bool (is_group d r.group)) [
            | inl h ↦ absurd (false≢true (sym k ∙ (same-group r.group d).1 (sym ((same-group d r.group).0 h))))
            | inr h ↦ h
          ]) in
          let here : is_one_of d (groups_in t) ≡ true = rw apart at both.0 in
          let first = one_behind (first_in r) d t rise.0 here in
          let rest = fewer_there r t ds (further_behind (first_in r) (first_name d) (map first_name ds) first order.0) both.1 in
          let all_there : AreThere (d ∷ ds) t = rw here rest in
          ap (λ (l : Left). l.rest) (not_met r t d ds k) ∙ met t (d ∷ ds) rise.1 order all_there
          )
    ]

-- ---- one row after another

pub step-met : (r : Row) (t : Table) (ds : List Group) → is_next r.group ds ≡ true → left_of (r ∷ t) ds ≡ left_of t (drop 1 ds)
step-met r t [] k = absurd (false≢true k)
step-met r t (d ∷ ds) k = here_met r t d ds k

pub step-stays : (r : Row) (t : Table) (ds : List Group) → is_next r.group ds ≡ false → left_of (r ∷ t) ds ≡ behind (r ∷ []) (left_of t ds)
step-stays r t [] k = refl
step-stays r t (d ∷ ds) k = not_met r t d ds k

pub none-next : (g : Group) (ds : List Group) (at : ℕ) → length ds ≤ at → is_next g (drop at ds) ≡ false
none-next g ds at past = ap (is_next g) (drop_all at ds past)

-- ---- where all are dropped

all_left : (t : Table) → left_of t (groups_in t) ≡ record { rows = []; rest = [] }
all_left [] = refl
all_left (r ∷ t) = (let same : is_group r.group r.group ≡ true = (same-group r.group r.group).1 refl in rw same (all_left t))

pub groups_at : (rows : List rust_row.TableRow) → groups_in (rows_of rows) ≡ map names_at rows
groups_at [] = refl
groups_at (r ∷ rows) = ap (λ (l : List Group). names_at r ∷ l) (groups_at rows)

-- nothing is left of a table that has these rows
pub left-none : (t : Table) (ds : List Group) (rows left : List rust_row.TableRow) → t ≡ rows_of rows → map names_at rows ≡ ds → left ≡ [] → left_of t ds ≡ record { rows = rows_of left; rest = [] }
left-none t ds rows left is same none =
    ap (left_of t) (sym same ∙ sym (groups_at rows) ∙ ap groups_in (sym is)) ∙ all_left t ∙ ap (λ (l : List rust_row.TableRow). record { rows = rows_of l; rest = [] }) (sym none)

-- one more of those that are the same
pub same-more : {X Y Z : Type 0} (f : X → Z) (g : Y → Z) (xs : List X) (ys : List Y) (i : ℕ) (x : X) (y : Y) → length xs ≡ length ys → i < length xs → x ≡ get_or xs i x → y ≡ get_or ys i y → f x ≡ g y
    → map f (take i xs) ≡ map g (take i ys) → map f (take (i + 1) xs) ≡ map g (take (i + 1) ys)
same-more {Z = Z} f g xs ys i x y long inside x_is y_is same before =
    ap (map f) (take_more xs i x inside)
    ∙ map_push f (take i xs) (get_or xs i x)
    ∙ ap (λ (z : Z). map f (take i xs) ++ (z ∷ [])) (ap f (sym x_is) ∙ same ∙ ap g y_is)
    ∙ ap (λ (l : List Z). l ++ (g (get_or ys i y) ∷ [])) before
    ∙ sym (map_push g (take i ys) (get_or ys i y))
    ∙ sym (ap (map g) (take_more ys i y (omega (arith, inside, long))))
