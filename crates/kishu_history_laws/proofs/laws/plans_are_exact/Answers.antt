use Rattle.kishu_history_laws.specs.checkouts.CheckoutLaws.{nothing_to_load, nothing_to_drop}
use Rattle.kishu_history_laws.specs.checkouts.PlanLaws.{keeps_kept, loads_loaded, drops_left}
use Rattle.kishu_history_laws.proofs.laws.plans_are_exact.Goals as goal

pub returns-clause-keep : goal.returns-clause-keep
returns-clause-keep c = keeps_kept

pub returns-clause-load : goal.returns-clause-load
returns-clause-load c = loads_loaded

pub returns-clause-drop : goal.returns-clause-drop
returns-clause-drop c = drops_left

pub returns-clause-nothing_to_load : goal.returns-clause-nothing_to_load
returns-clause-nothing_to_load c = nothing_to_load

pub returns-clause-nothing_to_drop : goal.returns-clause-nothing_to_drop
returns-clause-nothing_to_drop c = nothing_to_drop
