use Rattle.std.proofs.Common.{◌≡◌, ◌≤◌, map, drop}
use Rattle.kishu_language.specs.trees.Height.{of_statements}
use Rattle.kishu_language.specs.trees.Tree.{statement_of}
use Rattle.kishu_language.specs.trees.Fits.{StatementsFit}
use Rattle.kishu_language.specs.trees.Parts.{statements_of}
use Rattle.kishu_machine.specs.Machine.{GrownBy, ReadsBy, moment_of}
use Rattle.kishu_statements.specs.Forms.{each}
use Rattle.kishu_statements.proofs.cell.run_each.Given as goal

abbrev pub invariant-loop-statement : goal.invariant-loop-statement
invariant-loop-statement g l = record {
  told : each (map statement_of l.statements) (moment_of l.fn.machine) ≡ each (map statement_of (drop l.statement-index l.statements)) (moment_of l.machine);
  height : of_statements (statements_of (drop l.statement-index l.statements)) ≤ of_statements (statements_of l.statements);
  fits : StatementsFit (statements_of (drop l.statement-index l.statements));
  kept : GrownBy 0 l.fn.machine l.fn.steps l.machine l.steps;
  reads : ReadsBy 0 l.fn.machine l.fn.steps l.machine l.steps;
}
