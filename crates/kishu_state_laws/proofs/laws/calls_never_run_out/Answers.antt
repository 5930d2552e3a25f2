use Rattle.kishu_state_laws.specs.Depths.{expressions_call_on, statements_call_on}
use Rattle.kishu_state_laws.proofs.laws.calls_never_run_out.Goals as goal

pub returns : goal.returns
returns c = record { expressions = expressions_call_on; statements = statements_call_on }
