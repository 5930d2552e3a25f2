-- Answers, and the line that tells one: the compact text of a JSON value, its keys in byte order, and a line feed (serde_json; nbformat 4.5, "Code cell outputs").
use Rattle.std.specs.Prelude.{ℕ, List, [], ◌∷◌, ◌++◌, map, codes, Option, Some, None}
use Rattle.serde_json.specs.Data.{Data, null, number, string, array, object, no_items, item, Members, no_members, member, put, unsigned}
use Rattle.serde_json.specs.View.{items_of}
use Rattle.serde_json.specs.Written.{compact_text}
use Rattle.kishu_meaning.specs.declared.result.Outcome.{Outcome}
use Rattle.kishu_meaning.specs.declared.result.Outcome.TheVariants.{Done, Raised, Stopped}
use Rattle.kishu_language.specs.tokens.Lines.{line_feed}
use Rattle.kishu_meaning.specs.values.Values.{Output, stream, shown, fault, Report}

-- why a request is refused
pub data Refusal : Type 0 where
  bad_request : Refusal
  no_such_ref : Refusal
  bad_name : Refusal
  name_taken : Refusal
  store_full : Refusal
  cell_too_long : Refusal
  -- so many bytes have the pictures of the state that a cell would leave
  state_too_large : (bytes : ℕ) → Refusal

-- a cell that was run among others: its number on its commit's path, and what its run shows
pub record Counted : Type 0 where
  pub count : ℕ
  pub report : Report

-- a commit in the log: how many cells it has, its number, the line by which it is told, and its parent's number
pub record PathRow : Type 0 where
  pub cells : ℕ
  pub commit : ℕ
  pub line : List ℕ
  pub parent : ℕ

-- what the status tells: the head's branch and commit, how many commits there are, the names that are bound, and how many records
pub record Standing : Type 0 where
  pub branch : Option (List ℕ)
  pub commit : ℕ
  pub commits : ℕ
  pub names : List (List ℕ)
  pub records : ℕ

pub data Answer : Type 0 where
  -- the commit's number, the number of its cell on its path, and what the cell's run shows
  ran_cell : (commit count : ℕ) → Report → Answer
  -- the commit's number, and its cells as they were run
  ran_cells : (commit : ℕ) → (results : List Counted) → Answer
  -- the commit and the branch on which the head stands then
  checked_out : (commit : ℕ) → (branch : Option (List ℕ)) → Answer
  -- the new branch's commit and its name
  branched : (commit : ℕ) → (name : List ℕ) → Answer
  -- the branches with their commits, and the path from the head's commit back
  logged : (branches : List (List ℕ × ℕ)) → (path : List PathRow) → Answer
  told_status : Standing → Answer
  -- the commit on which the head stands, each name with the text of its value, and the texts of each node that the names reach
  inspected : (commit : ℕ) → (names : List (List ℕ × List ℕ)) → (nodes : List (List (List ℕ))) → Answer
  -- the commit, the groups that its record drops, and those that it stores, as names
  told_stored : (commit : ℕ) → (dropped stored : List (List (List ℕ))) → Answer
  -- the commit to which a checkout would go, the groups of the head's commit that it would drop, and of the other's those that it would keep and those that it would load, as names
  told_plan : (commit : ℕ) → (drop keep load : List (List (List ℕ))) → Answer
  refused : Refusal → Answer

abbrev pub refusal_number : Refusal → ℕ
refusal_number bad_request = 1
refusal_number no_such_ref = 2
refusal_number bad_name = 3
refusal_number name_taken = 4
refusal_number store_full = 5
refusal_number cell_too_long = 6
refusal_number (state_too_large bytes) = 7

abbrev pub refusal_name : Refusal → List ℕ
refusal_name bad_request = codes "BadRequest"
refusal_name no_such_ref = codes "NoSuchRef"
refusal_name bad_name = codes "BadName"
refusal_name name_taken = codes "NameTaken"
refusal_name store_full = codes "StoreFull"
refusal_name cell_too_long = codes "CellTooLong"
refusal_name (state_too_large bytes) = codes "StateTooLarge"

abbrev pub outcome_word : Outcome → List ℕ
outcome_word Done = codes "ok"
outcome_word Raised = codes "error"
outcome_word Stopped = codes "stopped"

-- an output, in a cell that is the count-th on its path
abbrev pub output_data : ℕ → Output → Data
output_data count (stream text) = object (member (codes "name") (string (codes "stdout")) (member (codes "output_type") (string (codes "stream")) (member (codes "text") (string text) no_members)))
output_data count (shown text) =
    object (
    member (codes "data") (object (member (codes "text/plain") (string text) no_members))
    (member (codes "execution_count") (number (unsigned count)) (member (codes "metadata") (object no_members) (member (codes "output_type") (string (codes "execute_result")) no_members)))
    )
output_data count (fault ename evalue) =
    object (
    member (codes "ename") (string ename)
    (member (codes "evalue") (string evalue)
    (member (codes "output_type") (string (codes "error")) (member (codes "traceback") (array (item (string (ename ++ codes ": " ++ evalue)) no_items)) no_members)))
    )

-- a cell that was run among others
abbrev pub counted_data : Counted → Data
counted_data c =
    object (
    member (codes "count") (number (unsigned c.count))
    (member (codes "outcome") (string (outcome_word c.report.outcome)) (member (codes "outputs") (array (items_of (map (output_data c.count) c.report.outputs))) no_members))
    )

-- the name of a branch, or null
abbrev pub branch_data : Option (List ℕ) → Data
branch_data None = null
branch_data (Some name) = string name

-- a branch with its commit
abbrev pub entry_data : List ℕ × ℕ → Data
entry_data b = object (member (codes "commit") (number (unsigned b.1)) (member (codes "name") (string b.0) no_members))

abbrev pub row_data : PathRow → Data
row_data row =
    object (
    member (codes "cells") (number (unsigned row.cells))
    (member (codes "commit") (number (unsigned row.commit))
    (member (codes "line") (string row.line) (member (codes "parent") (number (unsigned row.parent)) no_members)))
    )

-- texts at their names; the names stand in byte order, and where one is told twice its last text stays
abbrev pub with_texts : List (List ℕ × List ℕ) → Members → Members
with_texts [] ms = ms
with_texts (b ∷ bs) ms = with_texts bs (put b.0 (string b.1) ms)

-- the texts of a node, or the names of a group
abbrev pub node_data : List (List ℕ) → Data
node_data texts = array (items_of (map string texts))

-- the names of groups
abbrev pub groups_data : List (List (List ℕ)) → Data
groups_data gs = array (items_of (map node_data gs))

-- a state that is too large is told with its bytes
abbrev pub refusal_bytes : Refusal → Option ℕ
refusal_bytes bad_request = None
refusal_bytes no_such_ref = None
refusal_bytes bad_name = None
refusal_bytes name_taken = None
refusal_bytes store_full = None
refusal_bytes cell_too_long = None
refusal_bytes (state_too_large bytes) = Some bytes

abbrev pub with_bytes : Option ℕ → Members → Members
with_bytes None ms = ms
with_bytes (Some bytes) ms = member (codes "bytes") (number (unsigned bytes)) ms

abbrev pub answer_data : Answer → Data
answer_data (ran_cell commit count report) =
    object (
    member (codes "answer") (string (codes "cell"))
    (member (codes "commit") (number (unsigned commit))
    (member (codes "count") (number (unsigned count))
    (member (codes "outcome") (string (outcome_word report.outcome)) (member (codes "outputs") (array (items_of (map (output_data count) report.outputs))) no_members))))
    )
answer_data (ran_cells commit results) =
    object (member (codes "answer") (string (codes "cells")) (member (codes "commit") (number (unsigned commit)) (member (codes "results") (array (items_of (map counted_data results))) no_members)))
answer_data (checked_out commit branch) =
    object (member (codes "answer") (string (codes "checkout")) (member (codes "commit") (number (unsigned commit)) (member (codes "head") (branch_data branch) no_members)))
answer_data (branched commit name) =
    object (member (codes "answer") (string (codes "branch")) (member (codes "commit") (number (unsigned commit)) (member (codes "name") (string name) no_members)))
answer_data (logged branches path) =
    object (member (codes "answer") (string (codes "log")) (member (codes "branches") (array (items_of (map entry_data branches))) (member (codes "path") (array (items_of (map row_data path))) no_members)))
answer_data (told_status s) =
    object (
    member (codes "answer") (string (codes "status"))
    (member (codes "branch") (branch_data s.branch)
    (member (codes "commit") (number (unsigned s.commit))
    (member (codes "commits") (number (unsigned s.commits))
    (member (codes "names") (array (items_of (map string s.names))) (member (codes "records") (number (unsigned s.records)) no_members)))))
    )
answer_data (inspected commit names nodes) =
    object (
    member (codes "answer") (string (codes "inspect"))
    (member (codes "commit") (number (unsigned commit))
    (member (codes "names") (object (with_texts names no_members)) (member (codes "nodes") (array (items_of (map node_data nodes))) no_members)))
    )
answer_data (told_stored commit dropped stored) =
    object (
    member (codes "answer") (string (codes "stored"))
    (member (codes "commit") (number (unsigned commit))
    (member (codes "dropped") (groups_data dropped) (member (codes "stored") (groups_data stored) no_members)))
    )
answer_data (told_plan commit drop keep load) =
    object (
    member (codes "answer") (string (codes "plan"))
    (member (codes "commit") (number (unsigned commit))
    (member (codes "drop") (groups_data drop) (member (codes "keep") (groups_data keep) (member (codes "load") (groups_data load) no_members))))
    )
answer_data (refused r) =
    object (
    member (codes "answer") (string (codes "refused"))
    (with_bytes (refusal_bytes r) (member (codes "number") (number (unsigned (refusal_number r))) (member (codes "reason") (string (refusal_name r)) no_members)))
    )

abbrev pub answer_line : Answer → List ℕ
answer_line a = compact_text (answer_data a) ++ line_feed ∷ []
