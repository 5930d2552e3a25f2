use Rattle.kishu_record.proofs.Cells.{Passed}
use Rattle.kishu_record.proofs.cursor.Cursor.cells.Given as goal

abbrev pub invariant-loop : goal.invariant-loop
invariant-loop l = Passed l.initial.self.rest.now l.counter l.self.rest.now
