-- The cells of a request that are run on a state, and what they leave, where states are measured themselves: what the machine does on the replay of the head.
use Rattle.std.specs.Prelude.{ℕ, List, [], ◌∷◌}
use Rattle.kishu_meaning.specs.values.Values.{State}
use Rattle.kishu_replay.specs.Replay.{after_cells}
use Rattle.kishu_store.specs.Limits.{newest_profile}
use Rattle.kishu_model.specs.Request.{Request, cell, cells, checkout, branch, log, status, inspect, stored, plan, unreadable}
use Rattle.kishu_model.specs.requests.Cells.{cells_run}

abbrev pub ran_in : Request → State → List (List ℕ)
ran_in unreadable s = []
ran_in (cell text) s = text ∷ []
ran_in (cells texts) s = cells_run newest_profile texts s
ran_in (checkout to) s = []
ran_in (branch name at) s = []
ran_in log s = []
ran_in status s = []
ran_in inspect s = []
ran_in (stored of) s = []
ran_in (plan to) s = []

abbrev pub left_in : Request → State → State
left_in q s = after_cells newest_profile (ran_in q s) s
