-- What a graph keeps in memory, and which graph of commits it stands for.
use Rattle.std.specs.Prelude.{◌≡◌, ◌<◌, ◌≤◌, ℕ, suc, ◌==◌, if◌then◌else◌, List, [], ◌∷◌, ◌++◌, length, map, reverse, get_or, Option, Some, None, IfSome}
use Rattle.std.specs.Cmp.Lexicographic.{slice_cmp}
use Rattle.std.specs.List.Sorted.{IsStrictlySortedBy}
use Rattle.std.specs.Ordering.{nat_cmp}
use Rattle.std.specs.Rc.{rc_str_bytes}
use Rattle.std.specs.declared.alloc.Global.{Global}
use Rattle.std.specs.declared.boxed.Box.{Box}
use Rattle.std.specs.declared.rc.RcStr.{RcStr}
use Rattle.std.specs.declared.vec.Vec.{Vec}
use Rattle.kishu_language.specs.declared.profile.Profile.{Profile}
use Rattle.kishu_language.specs.declared.profile.Profile.TheVariants.{One}
use Rattle.kishu_store.specs.Branches.{Branches}
use Rattle.kishu_store.specs.CommitLines.{line_of}
use Rattle.kishu_store.specs.Graph.{Graph, Commit, Target, back_in}
use Rattle.kishu_store.specs.Groups.{Group, first_name}
use Rattle.kishu_store.specs.Histories.{History}
use Rattle.kishu_store.specs.Limits.{most_records}
use Rattle.kishu_store.specs.declared.target.Target as rust_target
use Rattle.kishu_store.specs.Targets.{target_of}
use Rattle.kishu_store.specs.Tables.{Row, Table, Change, no_change, table_at, change_of}
use Rattle.kishu_store_laws.specs.HistoryLaws.{AreChanges}
use Rattle.kishu_graph.specs.Buffers.{IsCut, lines_in}
use Rattle.kishu_graph.specs.declared.buffer.LineBuffer as rust_buffer
use Rattle.kishu_graph.specs.declared.commits.Commit as rust
use Rattle.kishu_graph.specs.declared.tables.Noted as rust_noted
use Rattle.kishu_graph.specs.declared.tables.NotedChange as rust_change
use Rattle.kishu_graph.specs.declared.tables.TableRow as rust_row

-- what is kept of a commit: its parent's number, its profile, how many cells it has, and its line
pub record Outline : Type 0 where
  pub parent : ℕ
  pub profile : Profile
  pub cells : ℕ
  pub line : List ℕ

-- what is kept of a commit's change: the first names of the groups that it drops, and the rows that it stores
pub record Noted : Type 0 where
  pub dropped : List (List ℕ)
  pub stored : Table

-- the commits by their numbers, the branches in byte order, where the head stands, how many records there are, and what is noted of the commits by their numbers
pub record Kept : Type 0 where
  pub commits : List Outline
  pub branches : Branches
  pub head : Target
  pub records : ℕ
  pub noted : List Noted

-- ---- the graph that is meant

-- the root, which is of the first profile, has no cells, and is its own parent here
abbrev pub root : Outline
root = record { parent = 0; profile = One; cells = 0; line = [] }

abbrev pub outline_of : Commit → Outline
outline_of k = record { parent = k.parent; profile = k.profile; cells = length k.cells; line = line_of k }

-- the root, and these commits by their numbers
abbrev pub outlines : List Commit → List Outline
outlines [] = root ∷ []
outlines (k ∷ ks) = outlines ks ++ (outline_of k ∷ [])

abbrev pub parents_of : List Outline → List ℕ
parents_of = map (λ o. o.parent)

abbrev pub profiles_of : List Outline → List Profile
profiles_of = map (λ o. o.profile)

abbrev pub counts_of : List Outline → List ℕ
counts_of = map (λ o. o.cells)

abbrev pub lines_of : List Outline → List (List ℕ)
lines_of = map (λ o. o.line)

-- All that the graph says but of its commits' cells is kept.
pub record HasShapeOf (kept : Kept) (g : Graph) : Type 0 where
  pub parents : parents_of kept.commits ≡ parents_of (outlines g.commits)
  pub profiles : profiles_of kept.commits ≡ profiles_of (outlines g.commits)
  pub branches : kept.branches ≡ g.branches
  pub head : kept.head ≡ g.head
  pub records : kept.records ≡ g.records

-- How many cells the graph's commits have, and their lines, are kept.
pub record TellsCellsOf (kept : Kept) (g : Graph) : Type 0 where
  pub counts : counts_of kept.commits ≡ counts_of (outlines g.commits)
  pub lines : lines_of kept.commits ≡ lines_of (outlines g.commits)

-- What is kept is the graph's.
pub record StandsFor (kept : Kept) (g : Graph) : Type 0 where
  pub shape : HasShapeOf kept g
  pub cells : TellsCellsOf kept g

-- ---- the tables that are meant

abbrev pub noted_of : Change → Noted
noted_of c = record { dropped = map first_name c.dropped; stored = c.stored }

-- what is noted of the root, which changes nothing, and of these changes by their commits' numbers
abbrev pub noted_in : List Change → List Noted
noted_in [] = noted_of no_change ∷ []
noted_in (c ∷ cs) = noted_in cs ++ (noted_of c ∷ [])

-- What the commits change is kept.
abbrev pub TellsChanges : Kept → List Change → Type 0
TellsChanges kept cs = kept.noted ≡ noted_in cs

-- What is kept is the history's: its graph, and its tables. Where its records end isn't kept.
pub record KeepsHistory (kept : Kept) (h : History) : Type 0 where
  pub graph : StandsFor kept h.graph
  pub changes : TellsChanges kept h.changes

-- ---- the graph without cells

-- a commit as it is kept, without cells
abbrev pub bare_commit : Outline → Commit
bare_commit o = record { parent = o.parent; profile = o.profile; cells = [] }

-- these commits, and then those as they are kept
abbrev pub bare_after : List Commit → List Outline → List Commit
bare_after ks [] = ks
bare_after ks (o ∷ os) = bare_after (bare_commit o ∷ ks) os

-- the commits behind the root
abbrev pub bare_commits : List Outline → List Commit
bare_commits [] = []
bare_commits (o ∷ os) = bare_after [] os

-- the graph of this shape whose commits have no cells
abbrev pub bare_graph : Kept → Graph
bare_graph kept = record { commits = bare_commits kept.commits; branches = kept.branches; head = kept.head; records = kept.records }

-- the outline of the commit of a number
abbrev pub outline_in : List Commit → ℕ → Outline
outline_in [] c = root
outline_in (k ∷ ks) c = if c == suc (length ks) then outline_of k else outline_in ks c

-- the numbers of the commits from the root to this one
abbrev pub path_numbers : List Commit → ℕ → List ℕ
path_numbers ks c = 0 ∷ reverse (map (λ k. k.number) (back_in ks c))

-- ---- the values of the program

-- a commit but for its line
abbrev pub outline : rust.Commit → Outline
outline k = record { parent = k.parent; profile = k.profile; cells = k.cells; line = [] }

abbrev pub branches_of : List (RcStr Global × ℕ) → Branches
branches_of = map (λ e. (rc_str_bytes e.0, e.1))

abbrev pub texts_of : Vec (RcStr Global) Global → Group
texts_of v = map rc_str_bytes v.items

abbrev pub row_of : rust_row.TableRow → Row
row_of r = record { group = texts_of r.group.names; version = r.version; place = r.place; len = r.len }

abbrev pub dropped_by : Option (Box rust_change.NotedChange Global) → List (RcStr Global)
dropped_by None = []
dropped_by (Some c) = c.value.dropped.items

abbrev pub stored_by : Option (Box rust_change.NotedChange Global) → List rust_row.TableRow
stored_by None = []
stored_by (Some c) = c.value.stored.items

abbrev pub dropped_in : rust_noted.Noted → List (RcStr Global)
dropped_in n = dropped_by n.change

abbrev pub stored_in : rust_noted.Noted → List rust_row.TableRow
stored_in n = stored_by n.change

abbrev pub note : rust_noted.Noted → Noted
note n = record { dropped = map rc_str_bytes (dropped_in n); stored = map row_of (stored_in n) }

-- in byte order, each once
abbrev pub Rises : List (List ℕ) → Type 0
Rises = IsStrictlySortedBy (slice_cmp nat_cmp)

-- ---- what holds of all that is kept

-- Each parent is older than its child.
abbrev pub HaveParents : List Outline → Type 0
HaveParents ks = (i : ℕ) (d : Outline) → 0 < i → i < length ks → (get_or ks i d).parent < i

-- The commits of all branches have a number below this.
abbrev pub AreBelow : ℕ → Branches → Type 0
AreBelow most [] = Unit {0}
AreBelow most (b ∷ bs) = (b.1 < most) × AreBelow most bs

-- The root comes first. Parents, head and branches are there, there are no more commits than records, and of each commit something is noted.
pub record IsSound (kept : Kept) : Type 0 where
  pub root_is : get_or kept.commits 0 root ≡ root
  pub parents : HaveParents kept.commits
  pub head : kept.head.commit < length kept.commits
  pub branches : AreBelow (length kept.commits) kept.branches
  pub few : length kept.commits ≤ suc kept.records
  pub records : kept.records ≤ most_records
  pub noted : length kept.noted ≡ length kept.commits

-- Where the rows of a commit's table are counted, there are so many, in each history whose changes are noted.
abbrev pub CountsRows : List Outline → List Noted → List (Option ℕ) → Type 0
CountsRows os ns counts =
    (g : Graph) (cs : List Change) (place : ℕ) → parents_of os ≡ parents_of (outlines g.commits) → ns ≡ noted_in cs → AreChanges g cs place
    → (c : ℕ) → c < length ns → IfSome (get_or counts c None) (λ n. n ≡ length (table_at g (change_of cs) c))

-- ---- lines

-- with this line
abbrev pub with_line : List ℕ → Outline → Outline
with_line line o = record { parent = o.parent; profile = o.profile; cells = o.cells; line = line }

-- each with its line
abbrev pub with_lines : List (List ℕ) → List Outline → List Outline
with_lines lines [] = []
with_lines [] (o ∷ os) = with_line [] o ∷ with_lines [] os
with_lines (l ∷ lines) (o ∷ os) = with_line l o ∷ with_lines lines os

-- what is kept, where the commits have these lines
abbrev pub told : List (List ℕ) → Kept → Kept
told lines kept = record { commits = with_lines lines kept.commits; branches = kept.branches; head = kept.head; records = kept.records; noted = kept.noted }

-- Each of so many commits has a line, and the root's is empty.
pub record HaveLines (lines : rust_buffer.LineBuffer) (commits : ℕ) : Type 0 where
  pub cut : IsCut lines
  pub each : length lines.ends.items ≡ commits
  pub root_is : get_or (lines_in lines) 0 [] ≡ []

-- ---- the fields of the program's graph

abbrev pub count_of : rust_noted.Noted → Option ℕ
count_of n = n.rows

-- what they keep but for the lines
abbrev pub kept_in : List rust.Commit → List (RcStr Global × ℕ) → rust_target.Target → ℕ → List rust_noted.Noted → Kept
kept_in commits branches head records noted = record { commits = map outline commits; branches = branches_of branches; head = target_of head; records = records; noted = map note noted }

-- what holds of them
abbrev pub AreKept : List rust.Commit → List (RcStr Global × ℕ) → rust_target.Target → ℕ → List rust_noted.Noted → Type 0
AreKept commits branches head records noted = IsSound (kept_in commits branches head records noted) × CountsRows (map outline commits) (map note noted) (map count_of noted)
