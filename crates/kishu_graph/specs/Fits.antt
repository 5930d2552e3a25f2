-- What stays of a table where groups are dropped, and whether names stand apart.
use Rattle.std.specs.Prelude.{◌≡◌, ◌<◌, ℕ, Bool, true, false, if◌then◌else◌, List, [], ◌∷◌, ◌++◌, length, map, flat_map, Option, MatchOption}
use Rattle.std.specs.List.{sum}
use Rattle.std.specs.declared.alloc.Global.{Global}
use Rattle.std.specs.declared.rc.RcStr.{RcStr}
use Rattle.std.specs.declared.vec.Vec.{Vec}
use Rattle.kishu_store.specs.Groups.{Group, Rise, is_group}
use Rattle.kishu_store.specs.Tables.{Table, first_in, are_apart, FitsTable, bytes_in}
use Rattle.kishu_graph.specs.declared.tables.TableRow as rust_row
use Rattle.kishu_graph.specs.Kept.{texts_of, row_of}
use Rattle.kishu_graph.specs.Tables.{change_from}
use Rattle.kishu_graph.specs.Walks.{HaveSame, all_texts}

-- ---- the values of the program

abbrev pub rows_of : List rust_row.TableRow → Table
rows_of rows = map row_of rows

-- the names of a row's group
abbrev pub names_at : rust_row.TableRow → Group
names_at r = texts_of r.group.names

-- how many bytes the pictures of rows take
abbrev pub bytes_of : List rust_row.TableRow → ℕ
bytes_of rows = bytes_in (rows_of rows)

-- and those of groups
abbrev pub lengths_in : List (Vec (RcStr Global) Global × ℕ) → ℕ
lengths_in stored = sum (map (λ s. s.1) stored)

-- the names of groups
abbrev pub names_of : List (Vec (RcStr Global) Global × ℕ) → List (List ℕ)
names_of stored = flat_map (λ s. texts_of s.0) stored

-- ---- groups that are dropped

-- the rows that stay, and the groups that weren't met
pub record Left : Type 0 where
  pub rows : Table
  pub rest : List Group

abbrev pub behind : Table → Left → Left
behind t left = record { rows = t ++ left.rows; rest = left.rest }

-- whether a group is the first of these
abbrev pub is_next : Group → List Group → Bool
is_next g [] = false
is_next g (d ∷ ds) = is_group g d

-- of a table and groups to be dropped, both in the order of first names: each group is met in its turn
abbrev pub left_of : Table → List Group → Left
left_of [] ds = record { rows = []; rest = ds }
left_of (r ∷ t) [] = behind (r ∷ []) (left_of t [])
left_of (r ∷ t) (d ∷ ds) = if is_group r.group d then left_of t ds else behind (r ∷ []) (left_of t (d ∷ ds))

-- Where there are rows, they are those that stay, and all groups were met; else one wasn't.
abbrev pub StaysOf : Table → List Group → Option (Vec rust_row.TableRow Global) → Type 0
StaysOf t ds o = MatchOption o (0 < length (left_of t ds).rest) (λ v. left_of t ds ≡ record { rows = rows_of v.items; rest = [] })

-- ---- names

-- These names were put among the others, where these are apart and so are all then; it is told whether they are.
abbrev pub AddsNames : List (List ℕ) → List (RcStr Global) → List (RcStr Global) → Bool → Type 0
AddsNames names old new apart =
    (before : List (List ℕ)) → HaveSame (all_texts old) before → are_apart before ≡ true → (apart ≡ are_apart (before ++ names)) × (apart ≡ true → HaveSame (all_texts new) (before ++ names))

-- ---- what fits

-- Of a table in order it is told whether a change fits that drops these groups and stores these, whatever the commit's number, and wherever the pictures lie.
abbrev pub TellsFit : Table → List (Vec (RcStr Global) Global) → List (Vec (RcStr Global) Global × ℕ) → Bool → Type 0
TellsFit t dropped stored fits =
    Rise (map first_in t) → (commit place : ℕ) → (fits ≡ true → FitsTable t (change_from dropped stored commit place)) × (fits ≡ false → FitsTable t (change_from dropped stored commit place) → ⊥)

-- The same of each table in order of which these rows stay, whatever is dropped.
abbrev pub TellsFitWith : List rust_row.TableRow → List (Vec (RcStr Global) Global × ℕ) → Bool → Type 0
TellsFitWith left stored fits =
    (t : Table) (dropped : List (Vec (RcStr Global) Global)) → left_of t (map texts_of dropped) ≡ record { rows = rows_of left; rest = [] } → TellsFit t dropped stored fits
