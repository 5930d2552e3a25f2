use Rattle.kishu_state_laws.specs.Turns.{tests_turn_on, walks_turn_on, whiles_turn_on, fors_turn_on, decisions_turn_on, bests_turn_on, sums_turn_on}
use Rattle.kishu_state_laws.proofs.laws.turns_never_run_out.Goals as goal

pub returns : goal.returns
returns c = record { tests = tests_turn_on; walks = walks_turn_on; whiles = whiles_turn_on; fors = fors_turn_on; decisions = decisions_turn_on; bests = bests_turn_on; sums = sums_turn_on }
