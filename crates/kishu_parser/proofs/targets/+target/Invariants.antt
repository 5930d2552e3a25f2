use Rattle.std.proofs.Common.{◌≡◌, ◌+◌, ◌*◌, ◌≤◌, drop, map}
use Rattle.kishu_language.specs.trees.Tree.{expressions, expression_of}
use Rattle.kishu_language.specs.trees.Height.{of_expression, of_expressions}
use Rattle.kishu_parser.proofs.Assignable.{each}
use Rattle.kishu_parser.proofs.targets.+target.Given as goal

abbrev pub decreases-is_target : goal.decreases-is_target
decreases-is_target l = 2 * of_expression (expression_of l.e.now)

abbrev pub decreases-are_targets : goal.decreases-are_targets
decreases-are_targets l = 2 * of_expressions (expressions (map expression_of l.all.now)) + 1

abbrev pub invariant-are_targets-loop-e : goal.invariant-are_targets-loop-e
invariant-are_targets-loop-e l = record {
  told : each l.all ≡ each (drop l.e-index l.all);
  height : of_expressions (expressions (map expression_of (drop l.e-index l.all))) ≤ of_expressions (expressions (map expression_of l.all));
}
