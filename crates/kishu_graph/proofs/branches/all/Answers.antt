use Rattle.kishu_graph.proofs.Ordered.{rises_names}
use Rattle.kishu_graph.proofs.branches.all.Goals as goal

pub returns-in_err-clone-clause-order : goal.returns-in_err-clone-clause-order
returns-in_err-clone-clause-order c = rises_names c.args.branches.now.entries c.iter-name-items.ensures.ordered

pub returns-in_err-push-clause-order : goal.returns-in_err-push-clause-order
returns-in_err-push-clause-order c = rises_names c.args.branches.now.entries c.iter-name-items.ensures.ordered

pub returns-clause-order : goal.returns-clause-order
returns-clause-order c = rises_names c.args.branches.now.entries c.iter-name-items.ensures.ordered
