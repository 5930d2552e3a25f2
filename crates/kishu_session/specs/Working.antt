-- The work of a request before it is recorded: `s` is the host before, `t` the host after.
use Rattle.std.specs.Prelude.{◌≡◌, ◌≤◌, ◌⊎◌, ℕ, ◌+◌, ◌*◌, List, length, None}
use Rattle.kishu_host.specs.Host.{State, ReadsMore}
use Rattle.kishu_meaning.specs.cells.Meaning.{run}
use Rattle.kishu_meaning.specs.values.Values as values
use Rattle.kishu_objects.specs.Bytes.{picture_bytes}
use Rattle.kishu_objects.specs.Picture.{order}
use Rattle.kishu_objects.specs.Sizes.{size_among}
use Rattle.kishu_store.specs.Groups.{Group}
use Rattle.kishu_store.specs.Histories.{History}
use Rattle.kishu_store.specs.Limits.{newest_profile}
use Rattle.kishu_store.specs.Tables.{bytes_in, groups_in}
use Rattle.kishu_history.specs.Accessed.{accessed_by}
use Rattle.kishu_history.specs.Touched.{touched}
use Rattle.kishu_graph.specs.Kept.{Kept}
use Rattle.kishu_graph.specs.Tables.{table_of_rows}
use Rattle.kishu_delta.specs.Deltas.{stays_by}
use Rattle.kishu_delta.specs.Kept.{digest_of, is_digest}
use Rattle.kishu_live_laws.specs.OnStates.{ran_by}
use Rattle.kishu_model.specs.declared.answer.Answer as rust_answer
use Rattle.kishu_model.specs.Request.{Request, cell, cells, checkout, branch, log, status, inspect, stored, plan, unreadable}
use Rattle.kishu_session.specs.Known.{IsHistoryOf}
use Rattle.kishu_session.specs.Lives.{state_of}
use Rattle.kishu_session.specs.Prepared.{RefusesNoSize}
use Rattle.kishu_session.specs.Reading.{rows_read}
use Rattle.kishu_session.specs.Renewing.{StaysHere}
use Rattle.kishu_session.specs.declared.head.Head.{Head}
use Rattle.kishu_session.specs.declared.prepared.Prepared.{Prepared}

-- ---- what cells ask for that are committed

-- By these groups of a table, which tells one state, and the names that cells accessed, which left another: the classes of the touched names that are among the groups, and have pictures of one digest and length in both states.
abbrev pub groups_asked : (gs : List Group) → (before : values.State) → (accessed : List (List ℕ)) → (now : values.State) → List Group
groups_asked gs before accessed now = stays_by gs accessed now (λ g. is_digest (digest_of (picture_bytes before g)) (picture_bytes now g))

-- the bytes of their pictures
abbrev pub bytes_asked : (gs : List Group) → (before : values.State) → (accessed : List (List ℕ)) → (now : values.State) → ℕ
bytes_asked gs before accessed now = size_among (groups_asked gs before accessed now) now

-- those of a request's cells that are run, by the table of the head before
abbrev pub bytes_asked_by : (old new : Head) → Request → ℕ
bytes_asked_by old new q =
    bytes_asked (groups_in (table_of_rows old.table)) (state_of old.live) (accessed_by newest_profile (ran_by (table_of_rows old.table) q (state_of old.live)) (state_of old.live)) (state_of new.live)

-- ---- the bytes that are read

-- Those that only tell what is kept, or name it.
abbrev pub IsIdle : Request → Type 0
IsIdle unreadable = ⊥
IsIdle (cell text) = ⊥
IsIdle (cells texts) = ⊥
IsIdle (checkout to) = ⊥
IsIdle (branch name at) = Unit {0}
IsIdle log = Unit {0}
IsIdle status = Unit {0}
IsIdle inspect = ⊥
IsIdle (stored of) = Unit {0}
IsIdle (plan to) = Unit {0}

-- It reads none, where no state is refused for its size.
abbrev pub ReadsNothing : (s t : State) → rust_answer.Answer → Type 0
ReadsNothing s t a = RefusesNoSize a → ReadsMore s.reads t.reads 0

-- Where it has a record, it reads just the pictures of the rows that a checkout to there loads, in each history that was kept.
abbrev pub ReadsRows : Kept → (s t : State) → List ℕ → Prepared → Type 0
ReadsRows kept s t to p =
    (p.recorded ≡ None → ⊥) → (h : History) → IsHistoryOf kept h → ReadsMore s.reads t.reads (bytes_in (rows_read h (checkout to)))

-- Where it has a record, it reads just the pictures that its cells ask for.
abbrev pub ReadsAsked : (old new : Head) → (s t : State) → Request → Prepared → Type 0
ReadsAsked old new s t q p = (p.recorded ≡ None → ⊥) → ReadsMore s.reads t.reads (bytes_asked_by old new q)

abbrev pub ReadsFor : (old new : Head) → (s t : State) → Request → Prepared → Type 0
ReadsFor old new s t unreadable p = ReadsNothing s t p.answer
ReadsFor old new s t (cell text) p = ReadsAsked old new s t (cell text) p
ReadsFor old new s t (cells texts) p = ReadsAsked old new s t (cells texts) p
ReadsFor old new s t (checkout to) p = ReadsRows old.graph s t to p
ReadsFor old new s t (branch name at) p = ReadsNothing s t p.answer
ReadsFor old new s t log p = ReadsNothing s t p.answer
ReadsFor old new s t status p = ReadsNothing s t p.answer
ReadsFor old new s t inspect p = ReadsNothing s t p.answer
ReadsFor old new s t (stored of) p = ReadsNothing s t p.answer
ReadsFor old new s t (plan to) p = ReadsNothing s t p.answer

-- ---- the counter

-- It takes no step of it: what only tells what is kept, or names it, and a checkout from a heap that isn't loaded anew.
abbrev pub LeavesSteps : Head → Request → Type 0
LeavesSteps head q = IsIdle q ⊎ (((to : List ℕ) × (q ≡ checkout to)) × StaysHere head)

-- the most steps of a cell with such a charge, where the names that it touched reach so many nodes
abbrev pub most_steps : (charge nodes : ℕ) → ℕ
most_steps charge nodes = 128 + 128 * charge + 8 * nodes

-- the nodes that the names reach in the new state which a cell touched that was run on the old one, by the table of the head before
abbrev pub nodes_touched : (old new : Head) → List ℕ → ℕ
nodes_touched old new text =
    length (order (state_of new.live) (touched (groups_in (table_of_rows old.table)) (run newest_profile text (state_of old.live)).accessed (state_of new.live)))

-- It rose by at most so much.
abbrev pub CountsUpTo : (old new : Head) → List ℕ → (before now : ℕ) → Type 0
CountsUpTo old new text before now = now ≤ before + most_steps (run newest_profile text (state_of old.live)).charge (nodes_touched old new text)

-- So it is with a cell whose state isn't refused for its size, from a heap that isn't loaded anew.
abbrev pub CountsCell : (old new : Head) → List ℕ → rust_answer.Answer → (before now : ℕ) → Type 0
CountsCell old new text a before now = RefusesNoSize a → StaysHere old → CountsUpTo old new text before now

abbrev pub CountsFor : (old new : Head) → Request → rust_answer.Answer → (before now : ℕ) → Type 0
CountsFor old new q a before now = (text : List ℕ) → q ≡ cell text → CountsCell old new text a before now
