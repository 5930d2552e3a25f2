use Rattle.std.proofs.Common.{drop}
use Rattle.kishu_journal.proofs.MadeRows.{Rowed}
use Rattle.kishu_journal.proofs.rows.rows_from.Given as goal

abbrev pub invariant-loop-names : goal.invariant-loop-names
invariant-loop-names l = Rowed l.commit l.place l.stored (drop l.names-index l.stored) l.rows.items l.at
