use Rattle.kishu_parser.proofs.Orders.{defaults_after}
use Rattle.kishu_parser.proofs.refusals.defaults_last.Goals as goal

pub loop-default-init : goal.loop-default-init
loop-default-init c = defaults_after c.args.params.now
