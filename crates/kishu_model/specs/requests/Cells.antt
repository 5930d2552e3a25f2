-- Several cells: they run on the state of the head's commit, one after another up to the first that doesn't end well, and those that were run are one commit.
-- None is kept where one leaves a state that is too large.
use Rattle.std.specs.Prelude.{◌≤◌, ℕ, suc, ◌+◌, ◌^◌, nat_le, nat_lt, Bool, true, false, not, ◌&&◌, if◌then◌else◌, List, [], ◌∷◌, length}
use Rattle.std.specs.List.{list_any}
use Rattle.kishu_language.specs.Limits.{longest_text}
use Rattle.kishu_language.specs.declared.profile.Profile.{Profile}
use Rattle.kishu_meaning.specs.declared.result.Outcome.{Outcome}
use Rattle.kishu_meaning.specs.declared.result.Outcome.TheVariants.{Done, Raised, Stopped}
use Rattle.kishu_meaning.specs.values.Values.{Ran, State}
use Rattle.kishu_meaning.specs.cells.Meaning.{run}
use Rattle.kishu_store.specs.Limits.{most_records, newest_profile}
use Rattle.kishu_store.specs.Graph.{Graph, newest, with_commit, count_of}
use Rattle.kishu_replay.specs.Replay.{replay, after_cells, charge_in}
use Rattle.kishu_model.specs.Answers.{Counted, ran_cells, bad_request, cell_too_long, store_full}
use Rattle.kishu_model.specs.Request.{Request, cell, cells, checkout, branch, log, status, inspect, stored, plan, unreadable, Stepped, refused_with}
use Rattle.kishu_model.specs.requests.TooLarge.{is_too_large, unless_too_large}

-- a run that ended well
abbrev pub is_ok : Outcome → Bool
is_ok Done = true
is_ok Raised = false
is_ok Stopped = false

-- After this run a further cell is run: it ended well, and the state that it left isn't too large.
abbrev pub is_followed : Ran → Bool
is_followed r = is_ok r.report.outcome && not (is_too_large r.state)

-- The cells that are run, from this state on. Each has a budget of its own.
abbrev pub cells_run : Profile → List (List ℕ) → State → List (List ℕ)
cells_run profile [] state = []
cells_run profile (text ∷ texts) state =
    text ∷ (if is_followed (run profile text state) then cells_run profile texts (run profile text state).state else [])

-- what the runs of these cells show, from this state on; the first is the count-th cell on the path
abbrev pub results_from : (count : ℕ) → Profile → List (List ℕ) → State → List Counted
results_from count profile [] state = []
results_from count profile (text ∷ texts) state =
    record { count = count; report = (run profile text state).report } ∷ results_from (suc count) profile texts (run profile text state).state

-- those of the head's commit
abbrev pub cells_on : List (List ℕ) → Graph → List (List ℕ)
cells_on texts g = cells_run newest_profile texts (replay g g.head.commit)

abbrev pub results_on : List (List ℕ) → Graph → List Counted
results_on texts g = results_from (suc (count_of g g.head.commit)) newest_profile (cells_on texts g) (replay g g.head.commit)

-- the state that they leave
abbrev pub left_on : List (List ℕ) → Graph → State
left_on texts g = after_cells newest_profile (cells_on texts g) (replay g g.head.commit)

abbrev pub cells_committed : List (List ℕ) → Graph → Stepped
cells_committed texts g = record {
  graph = with_commit newest_profile (cells_on texts g) g;
  answer = ran_cells (suc (newest g)) (results_on texts g);
}

-- the steps that they take
abbrev pub charge_for_cells : List (List ℕ) → Graph → ℕ
charge_for_cells texts g = charge_in newest_profile (cells_on texts g) (replay g g.head.commit)

abbrev pub is_too_long : List ℕ → Bool
is_too_long text = nat_lt longest_text (length text)

-- A text that is too long is no cell, and a store that is full takes none: they aren't run. A state that is too large isn't kept.
-- Without texts there is no cell that a commit could hold, and so no request.
abbrev pub step_cells : List (List ℕ) → Graph → Stepped
step_cells [] g = refused_with bad_request g
step_cells (text ∷ texts) g =
    if list_any is_too_long (text ∷ texts) then refused_with cell_too_long g
    else if nat_le most_records g.records then refused_with store_full g
    else unless_too_large (left_on (text ∷ texts) g) g (cells_committed (text ∷ texts) g)

-- Cells that aren't run take no step. Those that are run take their own, though a state may be too large.
abbrev pub charge_of_cells : List (List ℕ) → Graph → ℕ
charge_of_cells [] g = 0
charge_of_cells (text ∷ texts) g =
    if list_any is_too_long (text ∷ texts) then 0
    else if nat_le most_records g.records then 0
    else charge_for_cells (text ∷ texts) g

-- ---- how large a request may be

-- the bytes that texts take in a record: each stands behind its length, which has four bytes
abbrev pub texts_size : List (List ℕ) → ℕ
texts_size [] = 0
texts_size (text ∷ texts) = 4 + length text + texts_size texts

abbrev pub largest_texts : ℕ
largest_texts = 2 ^ 26

-- One record has room for all texts of the request.
abbrev pub HasRoom : Request → Type 0
HasRoom unreadable = Unit {0}
HasRoom (cell text) = Unit {0}
HasRoom (cells texts) = texts_size texts ≤ largest_texts
HasRoom (checkout to) = Unit {0}
HasRoom (branch name at) = Unit {0}
HasRoom log = Unit {0}
HasRoom status = Unit {0}
HasRoom inspect = Unit {0}
HasRoom (stored of) = Unit {0}
HasRoom (plan to) = Unit {0}
