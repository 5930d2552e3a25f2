use Rattle.std.proofs.Common.{arith, refl, map, ◌++◌, List}
use Rattle.kishu_machine.specs.Frames.{texts_of}
use Rattle.kishu_language.specs.declared.tree.Expr.{Expr}
use Rattle.kishu_meaning.specs.calls.Functions.{bound_by, all_bound_by}
use Rattle.kishu_language.specs.trees.Height.{of_expression, of_expressions}
use Rattle.kishu_language.specs.trees.Tree.{expressions, expression_of}
use Rattle.kishu_calls.proofs.LocalNames.{one_more, height_here}
use Rattle.kishu_calls.proofs.locals.+targets.Goals as goal

pub push_all_bound-loop-target-preserved : goal.push_all_bound-loop-target-preserved
push_all_bound-loop-target-preserved t c =
    let k = height_here (λ (x : Expr). of_expression (expression_of x)) (λ (ys : List Expr). of_expressions (expressions (map expression_of ys))) (λ x xs. refl) c.args.targets.now c.loop-target.target-index c.target-item.result c.loop-target-test.true c.target-item.is in record { told = one_more (λ (x : Expr). bound_by (expression_of x)) (λ (ys : List Expr). all_bound_by (expressions (map expression_of ys))) (λ x xs. refl) (texts_of c.args.names.now.items ++ all_bound_by (expressions (map expression_of c.args.targets.now))) c.args.targets.now c.loop-target.target-index c.target-item.result (texts_of c.loop-target.names.items) (texts_of c.push_bound.new.names.items) c.loop-target.invariant.told c.loop-target-test.true c.target-item.is c.in_ok-push_bound.ensures; height = omega arith }
