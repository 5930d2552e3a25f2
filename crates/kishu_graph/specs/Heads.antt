-- The rows of one commit's table, as they are kept from change to change.
use Rattle.std.specs.Prelude.{◌==◌, if◌then◌else◌, ◌++◌, ◌≡◌, ◌<◌, ◌+◌, ℕ, true, not, ◌&&◌, List, length, map}
use Rattle.std.specs.declared.alloc.Global.{Global}
use Rattle.std.specs.declared.rc.RcStr.{RcStr}
use Rattle.kishu_language.specs.tokens.Names.{is_among}
use Rattle.kishu_store.specs.Graph.{Graph}
use Rattle.kishu_store.specs.Groups.{Rise}
use Rattle.kishu_store.specs.Limits.{most_pictured}
use Rattle.kishu_store.specs.Tables.{Table, Change, are_apart, first_in, names_in, bytes_in, put_rows, table_at, change_of, IsKeptTable}
use Rattle.kishu_store_laws.specs.HistoryLaws.{AreChanges}
use Rattle.kishu_store_laws.specs.WalkLaws.{rows_left}
use Rattle.kishu_store.specs.declared.target.Target as rust_target
use Rattle.kishu_graph.specs.declared.buffer.LineBuffer as rust_buffer
use Rattle.kishu_graph.specs.declared.commits.Commit as rust
use Rattle.kishu_graph.specs.declared.heads.HeadRows as rust_heads
use Rattle.kishu_graph.specs.declared.tables.Noted as rust_noted
use Rattle.kishu_graph.specs.declared.tables.TableRow as rust_row
use Rattle.kishu_graph.specs.Fits.{rows_of}
use Rattle.kishu_graph.specs.Kept.{AreKept, HaveLines, Outline, Noted, outline, note, outlines, parents_of, noted_in}
use Rattle.kishu_graph.specs.Walks.{StandAtFirst, HaveSame, all_texts, rows_in}

-- They are the rows of that table, with their names, and with the room that their pictures leave.
pub record Holds (h : rust_heads.HeadRows) (t : Table) : Type 0 where
  pub rows : rows_in h.rows.entries ≡ t
  pub names : HaveSame (all_texts h.names.keys) (names_in t)
  pub room : h.room + bytes_in t ≡ most_pictured

-- Its rows stand in the order of their first names, and no name stands in two.
pub record StandApart (t : Table) : Type 0 where
  pub rise : Rise (map first_in t)
  pub apart : are_apart (names_in t) ≡ true

-- Those of a table are those of the one with these rows besides, if that may be one.
abbrev pub Stores : List rust_row.TableRow → rust_heads.HeadRows → rust_heads.HeadRows → Type 0
Stores rows old new = (t whole : Table) → Holds old t → put_rows (rows_of rows) t ≡ whole → IsKeptTable whole → Holds new whole

-- Those of a table are those of the one without the rows that begin with these names.
abbrev pub LeavesOut : List (List ℕ) → rust_heads.HeadRows → rust_heads.HeadRows → Type 0
LeavesOut firsts old new = (t : Table) → StandApart t → Holds old t → Holds new (rows_left firsts t)

-- Those of a table are those of the one after what is noted, if that may be one.
abbrev pub Changes : Noted → rust_heads.HeadRows → rust_heads.HeadRows → Type 0
Changes n old new = (t whole : Table) → StandApart t → Holds old t → put_rows n.stored (rows_left n.dropped t) ≡ whole → IsKeptTable whole → Holds new whole

-- The names of these rows are there besides those that were.
abbrev pub NamesPut : List rust_row.TableRow → List (RcStr Global) → List (RcStr Global) → Type 0
NamesPut rows old new = HaveSame (all_texts new) (names_in (rows_of rows) ++ all_texts old)

-- These names aren't there any more; the others are as before.
abbrev pub Lack : List (List ℕ) → List (List ℕ) → List (List ℕ) → Type 0
Lack names old new = (x : List ℕ) → is_among x new ≡ (is_among x old && not (is_among x names))

-- They are those of their commit's table, in each history whose commits have these parents, and whose changes are noted here.
pub record IsHead (os : List Outline) (ns : List Noted) (h : rust_heads.HeadRows) : Type 0 where
  pub there : h.commit < length os
  pub stand : StandAtFirst h.rows.entries
  pub holds : (g : Graph) (cs : List Change) (place : ℕ) → parents_of os ≡ parents_of (outlines g.commits) → ns ≡ noted_in cs → AreChanges g cs place → Holds h (table_at g (change_of cs) h.commit)

-- the same of that commit
abbrev pub at_commit : ℕ → rust_heads.HeadRows → rust_heads.HeadRows
at_commit c h = record { alloc = h.alloc; commit = c; rows = h.rows; names = h.names; room = h.room }

-- those of a commit are the child's, and those of another stay
abbrev pub gone_on : ℕ → ℕ → rust_heads.HeadRows → rust_heads.HeadRows
gone_on commit child h = at_commit (if h.commit == commit then child else h.commit) h

-- They are those of a commit that has this table, if it may be one.
pub record IsMade (commit : ℕ) (t : Table) (h : rust_heads.HeadRows) : Type 0 where
  pub at : h.commit ≡ commit
  pub stand : StandAtFirst h.rows.entries
  pub holds : IsKeptTable t → Holds h t

-- what holds of the fields of the program's graph
abbrev pub AreAllKept : List rust.Commit → rust_buffer.LineBuffer → List (RcStr Global × ℕ) → rust_target.Target → ℕ → List rust_noted.Noted → rust_heads.HeadRows → Type 0
AreAllKept commits lines branches head records noted rows =
    AreKept commits branches head records noted × (IsHead (map outline commits) (map note noted) rows × HaveLines lines (length (map outline commits)))
