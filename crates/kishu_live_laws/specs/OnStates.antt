-- What a request gives where its cells run on the state that a session has, whether or not that is the replay of the head. Beside the state it asks for what the store's records change: by the head's table it is told how much cells leave.
use Rattle.std.specs.Prelude.{◌≡◌, ◌≤◌, ℕ, suc, nat_le, nat_lt, min, Bool, not, ◌||◌, ◌&&◌, if◌then◌else◌, List, [], ◌∷◌, ◌++◌, length, Option, Some, None}
use Rattle.std.specs.List.{list_any}
use Rattle.kishu_language.specs.Limits.{longest_text}
use Rattle.kishu_meaning.specs.cells.Meaning.{run}
use Rattle.kishu_meaning.specs.values.Values.{State}
use Rattle.kishu_objects.specs.Picture.{whole}
use Rattle.kishu_objects.specs.Sizes.{most_bytes}
use Rattle.kishu_replay.specs.Replay.{after_cells, charge_in}
use Rattle.kishu_store.specs.Graph.{Graph, Target, newest, with_commit, count_of}
use Rattle.kishu_store.specs.Limits.{most_records, newest_profile}
use Rattle.kishu_store.specs.References.{resolve}
use Rattle.kishu_store.specs.Tables.{Table, Change, groups_in, table_at}
use Rattle.kishu_history.specs.Accessed.{accessed_by}
use Rattle.kishu_history.specs.Checkout.{to_drop, to_keep, to_load}
use Rattle.kishu_history.specs.Touched.{size_told}
use Rattle.kishu_model.specs.Answers.{Answer, ran_cell, ran_cells, told_status, told_stored, told_plan, Refusal, bad_request, cell_too_long, no_such_ref, store_full, state_too_large}
use Rattle.kishu_model.specs.Request.{Request, cell, cells, checkout, branch, log, status, inspect, stored, plan, unreadable, Stepped, refused_with}
use Rattle.kishu_model.specs.requests.Cells.{is_ok, results_from, is_too_long}
use Rattle.kishu_model.specs.requests.Inspect.{told_at}
use Rattle.kishu_model.specs.requests.Status.{names_in}
use Rattle.kishu_model.specs.requests.TooLarge.{most_told}
use Rattle.kishu_model.specs.Step.{step}

-- ---- how much cells leave

-- From a state for which there is this table: the bytes that are told of what these cells leave.
abbrev pub left_size : Table → List (List ℕ) → State → ℕ
left_size t texts s = size_told t (accessed_by newest_profile texts s) (after_cells newest_profile texts s)

abbrev pub leave_too_large : Table → List (List ℕ) → State → Bool
leave_too_large t texts s = nat_lt most_bytes (left_size t texts s)

-- the refusal that tells them
abbrev pub told_too_large : Table → List (List ℕ) → State → Refusal
told_too_large t texts s = state_too_large (min (left_size t texts s) most_told)

-- what a step gives that runs these cells: nothing changes where they leave too much
abbrev pub unless_they_leave : Table → List (List ℕ) → State → Graph → Stepped → Stepped
unless_they_leave t texts s g kept = if leave_too_large t texts s then refused_with (told_too_large t texts s) g else kept

-- ---- the cells of a request

-- Where these cells were run, a further one is run: the last ended well, and they don't leave too much.
abbrev pub go_on : Table → (before : List (List ℕ)) → (text : List ℕ) → State → Bool
go_on t before text s =
    is_ok (run newest_profile text (after_cells newest_profile before s)).report.outcome && not (leave_too_large t (before ++ text ∷ []) s)

-- those that are run of these texts, behind cells that were run from this state on
abbrev pub run_behind : Table → (before : List (List ℕ)) → List (List ℕ) → State → List (List ℕ)
run_behind t before [] s = []
run_behind t before (text ∷ texts) s = text ∷ (if go_on t before text s then run_behind t (before ++ text ∷ []) texts s else [])

abbrev pub run_of : Table → List (List ℕ) → State → List (List ℕ)
run_of t texts s = run_behind t [] texts s

-- those of a request
abbrev pub ran_by : Table → Request → State → List (List ℕ)
ran_by t unreadable s = []
ran_by t (cell text) s = text ∷ []
ran_by t (cells texts) s = run_of t texts s
ran_by t (checkout to) s = []
ran_by t (branch name at) s = []
ran_by t log s = []
ran_by t status s = []
ran_by t inspect s = []
ran_by t (stored of) s = []
ran_by t (plan to) s = []

-- the state that they leave of this one
abbrev pub left_of : Table → Request → State → State
left_of t q s = after_cells newest_profile (ran_by t q s) s

-- ---- what a checkout would do

-- From one table to that of a commit: the answer that tells what is dropped, kept and loaded.
abbrev pub planned_by : (commit : ℕ) → (now next : Table) → Answer
planned_by commit now next = told_plan commit (to_drop now next) (groups_in (to_keep now next)) (groups_in (to_load now next))

-- ---- one request: its answer, and the graph after it

-- Where `changes` says what the record of each commit drops and stores:
module _ (changes : ℕ → Change) where
  -- the head's table
  abbrev pub head_rows : Graph → Table
  head_rows g = table_at g changes g.head.commit

  -- a cell
  abbrev pub cell_kept : State → Graph → List ℕ → Stepped
  cell_kept s g text = record {
    graph = with_commit newest_profile (text ∷ []) g;
    answer = ran_cell (suc (newest g)) (suc (count_of g g.head.commit)) (run newest_profile text s).report;
  }

  abbrev pub cell_on : State → Graph → List ℕ → Stepped
  cell_on s g text =
      if nat_lt longest_text (length text) then refused_with cell_too_long g
      else if nat_le most_records g.records then refused_with store_full g
      else unless_they_leave (head_rows g) (text ∷ []) s g (cell_kept s g text)

  -- several cells: those are committed that this state lets run
  abbrev pub cells_kept : State → Graph → List (List ℕ) → Stepped
  cells_kept s g texts = record {
    graph = with_commit newest_profile (run_of (head_rows g) texts s) g;
    answer = ran_cells (suc (newest g)) (results_from (suc (count_of g g.head.commit)) newest_profile (run_of (head_rows g) texts s) s);
  }

  abbrev pub cells_on : State → Graph → List (List ℕ) → Stepped
  cells_on s g [] = refused_with bad_request g
  cells_on s g (text ∷ texts) =
      if list_any is_too_long (text ∷ texts) then refused_with cell_too_long g
      else if nat_le most_records g.records then refused_with store_full g
      else unless_they_leave (head_rows g) (run_of (head_rows g) (text ∷ texts) s) s g (cells_kept s g (text ∷ texts))

  -- the status, which tells the names that are bound in this state
  abbrev pub status_on : State → Graph → Stepped
  status_on s g = record {
    graph = g;
    answer = told_status (record { branch = g.head.branch; commit = g.head.commit; commits = suc (newest g); names = names_in s; records = g.records });
  }

  -- what is bound in it
  abbrev pub inspect_on : State → Graph → Stepped
  inspect_on s g = record { graph = g; answer = told_at g.head.commit (whole s) }

  -- what the record of a commit says that it drops and stores
  abbrev pub stored_to : Option Target → Graph → Stepped
  stored_to None g = refused_with no_such_ref g
  stored_to (Some target) g = record { graph = g; answer = told_stored target.commit (changes target.commit).dropped (groups_in (changes target.commit).stored) }

  abbrev pub stored_on : Graph → List ℕ → Stepped
  stored_on g of = stored_to (resolve g of) g

  -- what a checkout would do, by the head's table and that of the commit to which it goes
  abbrev pub plan_to : Option Target → Graph → Stepped
  plan_to None g = refused_with no_such_ref g
  plan_to (Some target) g = record { graph = g; answer = planned_by target.commit (head_rows g) (table_at g changes target.commit) }

  abbrev pub plan_on : Graph → List ℕ → Stepped
  plan_on g to = plan_to (resolve g to) g

  -- No other request asks for a state, or for what records change.
  abbrev pub step_on : State → Graph → Request → Stepped
  step_on s g unreadable = step g unreadable
  step_on s g (cell text) = cell_on s g text
  step_on s g (cells texts) = cells_on s g texts
  step_on s g (checkout to) = step g (checkout to)
  step_on s g (branch name at) = step g (branch name at)
  step_on s g log = step g log
  step_on s g status = status_on s g
  step_on s g inspect = inspect_on s g
  step_on s g (stored of) = stored_on g of
  step_on s g (plan to) = plan_on g to

  abbrev pub answer_on : State → Graph → Request → Answer
  answer_on s g q = (step_on s g q).answer

  abbrev pub after_on : State → Graph → Request → Graph
  after_on s g q = (step_on s g q).graph

  -- ---- the state after it

  -- whether it makes a commit
  abbrev pub commits_on : State → Graph → Request → Bool
  commits_on s g q = nat_lt (newest g) (newest (after_on s g q))

  -- Where it makes a commit, that is what its cells leave, and else the state stays. Where a checkout leads isn't told by it.
  abbrev pub state_on : State → Graph → Request → State
  state_on s g q = if commits_on s g q then left_of (head_rows g) q s else s

  -- ---- the steps that its own cells take

  abbrev pub cell_charge_on : State → Graph → List ℕ → ℕ
  cell_charge_on s g text = if nat_lt longest_text (length text) || nat_le most_records g.records then 0 else (run newest_profile text s).charge

  abbrev pub cells_charge_on : State → Graph → List (List ℕ) → ℕ
  cells_charge_on s g [] = 0
  cells_charge_on s g (text ∷ texts) =
      if list_any is_too_long (text ∷ texts) then 0
      else if nat_le most_records g.records then 0
      else charge_in newest_profile (run_of (head_rows g) (text ∷ texts) s) s

  abbrev pub charge_on : State → Graph → Request → ℕ
  charge_on s g unreadable = 0
  charge_on s g (cell text) = cell_charge_on s g text
  charge_on s g (cells texts) = cells_charge_on s g texts
  charge_on s g (checkout to) = 0
  charge_on s g (branch name at) = 0
  charge_on s g log = 0
  charge_on s g status = 0
  charge_on s g inspect = 0
  charge_on s g (stored of) = 0
  charge_on s g (plan to) = 0

-- ---- which requests leave the head where it is, but for a commit that they make

abbrev pub IsNoCheckout : Request → Type 0
IsNoCheckout unreadable = Unit {0}
IsNoCheckout (cell text) = Unit {0}
IsNoCheckout (cells texts) = Unit {0}
IsNoCheckout (checkout to) = ⊥
IsNoCheckout (branch name at) = Unit {0}
IsNoCheckout log = Unit {0}
IsNoCheckout status = Unit {0}
IsNoCheckout inspect = Unit {0}
IsNoCheckout (stored of) = Unit {0}
IsNoCheckout (plan to) = Unit {0}

-- ---- when none of its cells leaves too much

-- After each of these cells no more is told than may be kept.
abbrev pub StayTold : Table → List (List ℕ) → State → Type 0
StayTold t ran s = (before : List (List ℕ)) (text : List ℕ) (rest : List (List ℕ)) → before ++ text ∷ rest ≡ ran → left_size t (before ++ text ∷ []) s ≤ most_bytes
