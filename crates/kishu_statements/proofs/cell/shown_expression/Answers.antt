use Rattle.std.proofs.Common.{◌≡◌, ◌∙◌, ap, arith, ◌<◌}
use Rattle.std.proofs.lemmas.Bool.Decides.{nat_tests}
use Rattle.std.specs.Vec.{vec_len}
use Rattle.kishu_language.specs.trees.Tree.{statement_of}
use Rattle.kishu_statements.proofs.Cells.{expression_is, assignment_is_silent, no_items}
use Rattle.kishu_statements.proofs.cell.shown_expression.Goals as goal

pub returns-then-is_empty : goal.returns-then-is_empty
returns-then-is_empty c =
    let v = c.in-Assign.targets in
    let e : vec_len v ≡ 0 = grind (arith, nat_tests) in
    ap statement_of c.in-Assign.is ∙ expression_is v c.in-Assign.value (no_items v.items (omega (arith, e, v.ok.0)))

pub returns-else-is_empty : goal.returns-else-is_empty
returns-else-is_empty c =
    let v = c.in-Assign.targets in
    let e : 0 < vec_len v = grind (arith, nat_tests) in
    rw c.in-Assign.is (assignment_is_silent v c.in-Assign.value (omega (arith, e, v.ok.0)))
