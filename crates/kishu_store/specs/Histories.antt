-- What records give one after another: the graph, and the tables of its commits; and which records fit.
use Rattle.std.specs.Prelude.{ℕ, ◌+◌, suc, List, [], ◌∷◌, ◌++◌, length}
use Rattle.std.specs.List.{AllByRecursion, sum}
use Rattle.kishu_store.specs.Entries.{Entry, commit, move, name, Record, lengths_in}
use Rattle.kishu_store.specs.EntryBytes.{head_of}
use Rattle.kishu_store.specs.Fitting.{Fits, changed}
use Rattle.kishu_store.specs.Graph.{Graph, new_graph, newest}
use Rattle.kishu_store.specs.Rules.{IsRecord}
use Rattle.kishu_store.specs.Tables.{Table, Change, rows_from, table_at, change_of, FitsTable}

pub record History : Type 0 where
  pub graph : Graph
  -- what each commit changes of its parent's table: the newest first, without the root, as the graph's commits
  pub changes : List Change
  -- where the gate behind the records stands in the file
  pub place : ℕ

-- that of a new store, whose first gate stands behind the header
abbrev pub new_history : History
new_history = record { graph = new_graph; changes = []; place = 16 }

-- ---- places

-- from a record's gate to its body: the gate, and the body's length in eight bytes
abbrev pub before_body : ℕ
before_body = 9

-- from the body's first byte to its pictures: the head's length in four bytes, and the head
abbrev pub before_pictures : Entry → ℕ
before_pictures e = 4 + length (head_of e)

-- and to the gate behind them
abbrev pub body_length : Entry → ℕ
body_length e = before_pictures e + sum (lengths_in e)

-- ---- one record more

-- The change of the commit that a record tells whose body stands at a place, if it tells one: the groups that it drops, and the rows of those that it stores, whose pictures lie one behind another.
abbrev pub gives_at : ℕ → History → Entry → List Change
gives_at body h (commit parent profile cells dropped stored) =
    record { dropped = dropped; stored = rows_from (suc (newest h.graph)) (body + before_pictures (commit parent profile cells dropped stored)) stored } ∷ []
gives_at body h (move to) = []
gives_at body h (name title number) = []

-- the history, led on by such a record
abbrev pub led_at : ℕ → History → Entry → History
led_at body h e = record { graph = changed h.graph e; changes = gives_at body h e ++ h.changes; place = body + body_length e }

-- the same, where the record stands behind those before
abbrev pub gives : History → Entry → List Change
gives h e = gives_at (h.place + before_body) h e

abbrev pub led : History → Entry → History
led h e = led_at (h.place + before_body) h e

-- led on by these records in order
abbrev pub led_by : History → List Entry → History
led_by h [] = h
led_by h (e ∷ es) = led_by (led h e) es

-- the table of a commit, and of the head's
abbrev pub table_to : History → ℕ → Table
table_to h c = table_at h.graph (change_of h.changes) c

abbrev pub head_table : History → Table
head_table h = table_to h h.graph.head.commit

-- ---- what fits

-- The entry of a record whose body stands at a place fits behind the records before: it fits their graph, and what a commit changes fits the table of its parent, the head's.
pub record FollowsAt (body : ℕ) (h : History) (e : Entry) : Type 0 where
  pub graph : Fits h.graph e
  pub table : AllByRecursion (FitsTable (head_table h)) (gives_at body h e)

-- the same, where the record stands behind those before
abbrev pub Follows : History → Entry → Type 0
Follows h e = FollowsAt (h.place + before_body) h e

-- each is a record, and fits behind those before it
abbrev pub AreRecords : History → List Record → Type 0
AreRecords h [] = Unit {0}
AreRecords h (r ∷ rs) = IsRecord r × Follows h r.entry × AreRecords (led h r.entry) rs
