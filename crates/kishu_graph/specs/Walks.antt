-- The rows that are found on the way back from a commit, and what they come to.
use Rattle.std.specs.Prelude.{◌≡◌, ℕ, if◌then◌else◌, List, [], ◌∷◌, ◌++◌, map}
use Rattle.std.specs.List.{AllByRecursion}
use Rattle.std.specs.Rc.{rc_str_bytes}
use Rattle.std.specs.Str.{bytes_eq}
use Rattle.std.specs.declared.alloc.Global.{Global}
use Rattle.std.specs.declared.rc.RcStr.{RcStr}
use Rattle.kishu_language.specs.tokens.Names.{is_among}
use Rattle.kishu_store.specs.Graph.{Graph}
use Rattle.kishu_store.specs.Groups.{Group, Rise}
use Rattle.kishu_store.specs.Tables.{Table, Change, first_in, put_rows, table_at, change_of}
use Rattle.kishu_store_laws.specs.HistoryLaws.{AreChanges}
use Rattle.kishu_store_laws.specs.WalkLaws.{rows_left}
use Rattle.kishu_graph.specs.declared.commits.Commit as rust
use Rattle.kishu_graph.specs.declared.tables.Noted as rust_noted
use Rattle.kishu_graph.specs.declared.tables.TableRow as rust_row
use Rattle.kishu_graph.specs.Kept.{outline, outlines, parents_of, noted_in, row_of, note}

-- rows by their first names
abbrev pub Found : Type 0
Found = List (RcStr Global × rust_row.TableRow)

abbrev pub rows_in : Found → Table
rows_in found = map (λ e. row_of e.1) found

-- Each stands at its first name.
abbrev pub StandAtFirst : Found → Type 0
StandAtFirst = AllByRecursion (λ e. first_in (row_of e.1) ≡ rc_str_bytes e.0)

-- the group that begins with this name, where there is one
abbrev pub group_at : List ℕ → Table → Group
group_at x [] = []
group_at x (r ∷ t) = if bytes_eq x (first_in r) then r.group else group_at x t

abbrev pub groups_at : List (List ℕ) → Table → List Group
groups_at xs t = map (λ x. group_at x t) xs

-- the texts of a set
abbrev pub all_texts : List (RcStr Global) → List (List ℕ)
all_texts = map rc_str_bytes

-- The same names are among both.
abbrev pub HaveSame : List (List ℕ) → List (List ℕ) → Type 0
HaveSame xs ys = (x : List ℕ) → is_among x xs ≡ is_among x ys

-- Those of these rows whose first names aren't gone were found: what was missing of a table is the rest now.
abbrev pub HaveFound : List (List ℕ) → Table → Table → Table → Type 0
HaveFound gone rows old new = (rest whole : Table) → Rise (map first_in whole) → put_rows (rows_left gone rows ++ rest) old ≡ whole → put_rows rest new ≡ whole

-- The same of rows of the program, with the names that are gone.
abbrev pub FindRows : List (RcStr Global) → List rust_row.TableRow → Found → Found → Type 0
FindRows gone rows old new = HaveFound (all_texts gone) (map row_of rows) (rows_in old) (rows_in new)

-- These names are there besides those that were.
abbrev pub ArePut : List (RcStr Global) → List (RcStr Global) → List (RcStr Global) → Type 0
ArePut names old new = HaveSame (all_texts new) (all_texts names ++ all_texts old)

-- this holds of each history whose commits have these parents, and whose changes are noted here
abbrev pub InEachNoted : List rust.Commit → List rust_noted.Noted → (Graph → List Change → Type 0) → Type 0
InEachNoted commits noted holds = (g : Graph) (cs : List Change) (place : ℕ) → parents_of (map outline commits) ≡ parents_of (outlines g.commits) → map note noted ≡ noted_in cs → AreChanges g cs place → holds g cs

-- the table is the commit's
abbrev pub IsTableThere : List rust.Commit → List rust_noted.Noted → ℕ → Table → Type 0
IsTableThere commits noted c t = InEachNoted commits noted (λ g cs. t ≡ table_at g (change_of cs) c)
