use Rattle.std.proofs.Common.{◌≡◌, ◌+◌, ◌*◌, ◌++◌, ◌≤◌, drop}
use Rattle.kishu_machine.specs.Frames.{texts_of}
use Rattle.kishu_meaning.specs.calls.Functions.{all_bound_by}
use Rattle.kishu_language.specs.trees.Height.{of_expression, of_expressions}
use Rattle.kishu_language.specs.trees.Tree.{expression_of}
use Rattle.kishu_language.specs.trees.Parts.{expressions_of}
use Rattle.kishu_calls.proofs.locals.+targets.Given as goal

abbrev pub decreases-push_bound : goal.decreases-push_bound
decreases-push_bound l = 2 * of_expression (expression_of l.target.now)

abbrev pub decreases-push_all_bound : goal.decreases-push_all_bound
decreases-push_all_bound l = 2 * of_expressions (expressions_of l.targets.now) + 1

abbrev pub invariant-push_all_bound-loop-target : goal.invariant-push_all_bound-loop-target
invariant-push_all_bound-loop-target l = record {
  told : texts_of l.names.items ++ all_bound_by (expressions_of (drop l.target-index l.targets)) ≡ texts_of l.fn.names.items ++ all_bound_by (expressions_of l.targets);
  height : of_expressions (expressions_of (drop l.target-index l.targets)) ≤ of_expressions (expressions_of l.targets);
}
