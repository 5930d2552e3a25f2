-- What is noted of commits, and the tables that are read of it.
use Rattle.std.specs.Prelude.{◌≡◌, ℕ, ◌+◌, List, ◌∷◌, length, map, Option, IfSome, MatchOption}
use Rattle.std.specs.declared.alloc.Global.{Global}
use Rattle.std.specs.declared.rc.RcStr.{RcStr}
use Rattle.std.specs.declared.vec.Vec.{Vec}
use Rattle.kishu_store.specs.Graph.{Graph}
use Rattle.kishu_store.specs.Groups.{Group, first_name, Rise}
use Rattle.kishu_store.specs.Tables.{Table, Change, groups_in, rows_from, table_at, change_of, FitsTable}
use Rattle.kishu_store_laws.specs.HistoryLaws.{AreChanges}
use Rattle.kishu_graph.specs.declared.tables.Group as rust_group
use Rattle.kishu_graph.specs.declared.tables.Table as rust_table
use Rattle.kishu_graph.specs.declared.tables.TableRow as rust_row
use Rattle.kishu_graph.specs.Kept.{Kept, HasShapeOf, TellsChanges, texts_of, row_of, outline_in}

-- ---- the values of the program

abbrev pub group_of : rust_group.Group → Group
group_of g = texts_of g.names

-- groups by their names
abbrev pub named : Vec (Vec (RcStr Global) Global) Global → List Group
named v = map texts_of v.items

abbrev pub table_of_rows : rust_table.Table → Table
table_of_rows t = map row_of t.rows.items

-- a group with the length of its picture
abbrev pub stored_of : Vec (RcStr Global) Global × ℕ → Group × ℕ
stored_of s = (texts_of s.0, s.1)

-- the change that drops these groups and stores these rows
abbrev pub change_with : List (Vec (RcStr Global) Global) → List rust_row.TableRow → Change
change_with dropped stored = record { dropped = map texts_of dropped; stored = map row_of stored }

-- the change of the commit of a number that drops these groups and stores these, whose pictures lie one behind another from a place on
abbrev pub change_from : List (Vec (RcStr Global) Global) → List (Vec (RcStr Global) Global × ℕ) → ℕ → ℕ → Change
change_from dropped stored commit place = record { dropped = map texts_of dropped; stored = rows_from commit place (map stored_of stored) }

-- ---- what is read

-- this holds of each history that is kept
abbrev pub InEach : Kept → (Graph → List Change → Type 0) → Type 0
InEach kept holds = (g : Graph) (cs : List Change) (place : ℕ) → HasShapeOf kept g → TellsChanges kept cs → AreChanges g cs place → holds g cs

-- the table is the commit's
abbrev pub IsTableOf : Kept → ℕ → Table → Type 0
IsTableOf kept c t = InEach kept (λ g cs. t ≡ table_at g (change_of cs) c)

-- the commit drops these groups of its parent's table, and stores these
abbrev pub IsChangeOf : Kept → ℕ → (dropped stored : List Group) → Type 0
IsChangeOf kept c dropped stored = InEach kept (λ g cs. (dropped ≡ (change_of cs c).dropped) × (stored ≡ groups_in (change_of cs c).stored))

-- the change fits the table of that commit's parent
abbrev pub FitsParent : Kept → ℕ → Change → Type 0
FitsParent kept c d = InEach kept (λ g cs. FitsTable (table_at g (change_of cs) (outline_in g.commits c).parent) d)

-- a commit may drop these groups and store these by the head's table, whatever its number, and wherever the pictures lie
abbrev pub FitsHead : Kept → List (Vec (RcStr Global) Global) → List (Vec (RcStr Global) Global × ℕ) → Type 0
FitsHead kept dropped stored = InEach kept (λ g cs. (commit place : ℕ) → FitsTable (table_at g (change_of cs) g.head.commit) (change_from dropped stored commit place))

-- it may not, whatever its number, and wherever they lie
abbrev pub FailsHead : Kept → List (Vec (RcStr Global) Global) → List (Vec (RcStr Global) Global × ℕ) → Type 0
FailsHead kept dropped stored = InEach kept (λ g cs. (commit place : ℕ) → FitsTable (table_at g (change_of cs) g.head.commit) (change_from dropped stored commit place) → ⊥)

-- ---- what is noted

-- How many rows the table has after a change, where that is said: the change drops groups in order, and before it there were so many.
abbrev pub CountsAfter : Option ℕ → Change → Option ℕ → Type 0
CountsAfter before d count = IfSome count (λ n. Rise (map first_name d.dropped) × MatchOption before ⊥ (λ m. n + length d.dropped ≡ m + length d.stored))

-- The newest commit's change is noted in the place of the one that was.
abbrev pub HasNoted : Kept → Kept → Change → Type 0
HasNoted old new d = (c : Change) (cs : List Change) → TellsChanges old (c ∷ cs) → TellsChanges new (d ∷ cs)

-- all but what is noted stays
pub record KeepsAllBut (old new : Kept) : Type 0 where
  pub commits : new.commits ≡ old.commits
  pub branches : new.branches ≡ old.branches
  pub head : new.head ≡ old.head
  pub records : new.records ≡ old.records
