-- Tables: the groups of a commit, with the commit that stored each and the place of its picture in the file.
use Rattle.std.specs.Prelude.{◌≡◌, ℕ, suc, ◌+◌, ◌≤◌, ◌==◌, Bool, true, not, ◌&&◌, if◌then◌else◌, IsTrue, List, [], ◌∷◌, length, map, filter, flat_map, take, drop}
use Rattle.std.specs.Cmp.Lexicographic.{slice_cmp}
use Rattle.std.specs.List.{AllByRecursion, list_all, sum_by}
use Rattle.std.specs.Ordering.{nat_cmp, match_ordering}
use Rattle.kishu_language.specs.tokens.Names.{is_among}
use Rattle.kishu_store.specs.Graph.{Commit, Graph}
use Rattle.kishu_store.specs.Groups.{Group, first_name, is_one_of, IsGroup, Rise}
use Rattle.kishu_store.specs.Limits.{most_pictured}

pub record Row : Type 0 where
  pub group : Group
  -- the commit that stored it
  pub version : ℕ
  -- where its picture begins in the file, and how long it is
  pub place : ℕ
  pub len : ℕ

abbrev pub Table : Type 0
Table = List Row

abbrev pub group_in : Row → Group
group_in r = r.group

abbrev pub groups_in : Table → List Group
groups_in = map group_in

abbrev pub first_in : Row → List ℕ
first_in r = first_name r.group

abbrev pub len_in : Row → ℕ
len_in r = r.len

-- the bytes that the pictures of a table take
abbrev pub bytes_in : Table → ℕ
bytes_in t = sum_by len_in t

-- the names of its groups
abbrev pub names_in : Table → List (List ℕ)
names_in t = flat_map group_in t

-- the bytes at a row's place
abbrev pub bytes_at : List ℕ → Row → List ℕ
bytes_at file r = take r.len (drop r.place file)

-- what a commit changes: the groups that it drops, and the rows that it stores
pub record Change : Type 0 where
  pub dropped : List Group
  pub stored : Table

abbrev pub no_change : Change
no_change = record { dropped = []; stored = [] }

-- ---- the table after commits

-- the table with a row more, in the order of first names
abbrev pub put_row : Row → Table → Table
put_row r [] = r ∷ []
put_row r (q ∷ t) = match_ordering (slice_cmp nat_cmp (first_name r.group) (first_name q.group)) (r ∷ q ∷ t) (r ∷ q ∷ t) (q ∷ put_row r t)

abbrev pub put_rows : List Row → Table → Table
put_rows [] t = t
put_rows (r ∷ rs) t = put_row r (put_rows rs t)

-- the rows of a table that stay: those of no dropped group
abbrev pub without_groups : List Group → Table → Table
without_groups gs t = filter (λ r. not (is_one_of r.group gs)) t

abbrev pub after : Change → Table → Table
after c t = put_rows c.stored (without_groups c.dropped t)

-- the table after these commits, the newest first; the root's is empty
abbrev pub table_of : List Change → Table
table_of [] = []
table_of (c ∷ cs) = after c (table_of cs)

-- the rows of a commit's record, from its groups with the lengths of their pictures: these lie one behind another
abbrev pub rows_from : (commit place : ℕ) → List (Group × ℕ) → Table
rows_from commit place [] = []
rows_from commit place (g ∷ gs) = record { group = g.0; version = commit; place = place; len = g.1 } ∷ rows_from commit (place + g.1) gs

-- ---- the tables of a graph's commits

-- what the commits on the path to one change, the newest first, where `of` says for each commit's number what its record does; the root has none, so `of 0` is no change
abbrev pub changes_in : List Commit → (ℕ → Change) → ℕ → List Change
changes_in [] of c = []
changes_in (k ∷ ks) of c = if c == suc (length ks) then of c ∷ changes_in ks of k.parent else changes_in ks of c

-- a commit's table: its parent's, without the groups that it drops, and with the rows that it stores
abbrev pub table_in : List Commit → (ℕ → Change) → ℕ → Table
table_in ks of c = table_of (changes_in ks of c)

abbrev pub table_at : Graph → (ℕ → Change) → ℕ → Table
table_at g of c = table_in g.commits of c

-- what the records do, with the one of a further commit
abbrev pub with_change : (ℕ → Change) → ℕ → Change → ℕ → Change
with_change of commit change c = if c == commit then change else of c

-- what the records of these commits do, of which the newest stands first: the oldest has the number 1
abbrev pub change_of : List Change → ℕ → Change
change_of [] = λ c. no_change
change_of (d ∷ ds) = with_change (change_of ds) (suc (length ds)) d

-- ---- what holds of tables

-- no name stands among them twice
abbrev pub are_apart : List (List ℕ) → Bool
are_apart [] = true
are_apart (x ∷ xs) = not (is_among x xs) && are_apart xs

-- What a change asks of the table before it: the groups that it drops stand there, and in the table after it no name stands in two groups, and the pictures don't take too many bytes.
pub record FitsTable (t : Table) (c : Change) : Type 0 where
  pub dropped : IsTrue (list_all (λ g. is_one_of g (groups_in t)) c.dropped)
  pub apart : IsTrue (are_apart (names_in (after c t)))
  pub small : bytes_in (after c t) ≤ most_pictured

-- What holds of each table that records give: its rows stand in the order of their first names, each has a group that a record may tell, no name stands in two, and the pictures don't take too many bytes.
pub record IsKeptTable (t : Table) : Type 0 where
  pub rise : Rise (map first_in t)
  pub groups : AllByRecursion IsGroup (groups_in t)
  pub apart : IsTrue (are_apart (names_in t))
  pub small : bytes_in t ≤ most_pictured
