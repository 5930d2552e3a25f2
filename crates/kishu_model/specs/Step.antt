-- One request to the replaying machine: the graph after it, and its answer.
use Rattle.std.specs.Prelude.{ℕ}
use Rattle.kishu_store.specs.Graph.{Graph}
use Rattle.kishu_model.specs.Answers.{bad_request}
use Rattle.kishu_model.specs.Request.{Request, cell, cells, checkout, branch, log, status, inspect, stored, plan, unreadable, Stepped, refused_with}
use Rattle.kishu_model.specs.requests.Cell.{step_cell, charge_of_cell}
use Rattle.kishu_model.specs.requests.Cells.{step_cells, charge_of_cells}
use Rattle.kishu_model.specs.requests.Checkout.{step_checkout}
use Rattle.kishu_model.specs.requests.Branch.{step_branch}
use Rattle.kishu_model.specs.requests.Log.{step_log}
use Rattle.kishu_model.specs.requests.Status.{step_status}
use Rattle.kishu_model.specs.requests.Inspect.{step_inspect}
use Rattle.kishu_model.specs.requests.Stored.{step_stored}
use Rattle.kishu_model.specs.requests.Plan.{step_plan}

abbrev pub step : Graph → Request → Stepped
step g unreadable = refused_with bad_request g
step g (cell text) = step_cell text g
step g (cells texts) = step_cells texts g
step g (checkout to) = step_checkout to g
step g (branch name at) = step_branch name at g
step g log = step_log g
step g status = step_status g
step g inspect = step_inspect g
step g (stored of) = step_stored of g
step g (plan to) = step_plan to g

-- the steps that a request takes by its own cells; one that is refused before any is run takes none
abbrev pub charge_of : Graph → Request → ℕ
charge_of g unreadable = 0
charge_of g (cell text) = charge_of_cell text g
charge_of g (cells texts) = charge_of_cells texts g
charge_of g (checkout to) = 0
charge_of g (branch name at) = 0
charge_of g log = 0
charge_of g status = 0
charge_of g inspect = 0
charge_of g (stored of) = 0
charge_of g (plan to) = 0
