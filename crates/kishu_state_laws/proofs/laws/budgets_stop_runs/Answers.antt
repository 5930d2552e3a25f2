use Rattle.kishu_state_laws.specs.Budgets.{run_has_budget, takes_no_more, cell_spends_all, stopped_spends_all, stopped_asks_further, larger_budgets_agree}
use Rattle.kishu_state_laws.proofs.laws.budgets_stop_runs.Goals as goal

pub returns : goal.returns
returns c = record { budget = run_has_budget; most = takes_no_more; cells = cell_spends_all; whole = stopped_spends_all; further = stopped_asks_further; larger = larger_budgets_agree }
