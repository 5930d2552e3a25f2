use Rattle.std.proofs.Common.{sym}
use Rattle.kishu_meaning.specs.values.Values.{value_of}
use Rattle.kishu_builtins.specs.Called.{moment_of}
use Rattle.kishu_builtins.proofs.OfClasses.{all_classes, not_classes}
use Rattle.kishu_builtins.proofs.instances.is_of_one.Goals as goal

pub returns-then-are_classes-clause-gives : goal.returns-then-are_classes-clause-gives
returns-then-are_classes-clause-gives g c = λ b.
    all_classes (value_of c.args.value.now) c.args.classes.now (moment_of c.args.heap.now b) c.is_of_any.result (sym c.if-are_classes.ensures) (rw c.node_in-found.ensures.node at c.is_of_any.ensures)

pub returns-else-are_classes-clause-gives : goal.returns-else-are_classes-clause-gives
returns-else-are_classes-clause-gives g c = λ b.
    rw (not_classes (value_of c.args.value.now) c.args.classes.now (sym c.if-are_classes.ensures)) (c.bad_arguments.ensures (moment_of c.args.heap.now b))
