use Rattle.kishu_calls.proofs.Called.{no_view}
use Rattle.kishu_calls.proofs.callees.view_in.Goals as goal

pub returns-else-is_empty : goal.returns-else-is_empty
returns-else-is_empty c = no_view c.args.name.now c.args.arguments.now c.is_empty.result c.is_empty.ensures c.if-is_empty.false
