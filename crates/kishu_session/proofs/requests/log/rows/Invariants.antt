use Rattle.std.proofs.Common.{◌≡◌, ◌<◌, ◌++◌, length, map}
use Rattle.kishu_model.specs.Values.{row_of}
use Rattle.kishu_store.specs.Histories.{History}
use Rattle.kishu_session.specs.Known.{IsHistoryOf}
use Rattle.kishu_session.proofs.LogFacts.{rows_at}
use Rattle.kishu_session.proofs.requests.log.rows.Given as goal

abbrev pub invariant-loop-commit : goal.invariant-loop-commit
invariant-loop-commit l = record {
  there : l.commit < length l.graph.commits;
  rows : (h : History) → IsHistoryOf l.graph h → map row_of l.rows.items ++ rows_at h.graph.commits l.commit ≡ rows_at h.graph.commits h.graph.head.commit;
}

abbrev pub decreases-loop-commit : goal.decreases-loop-commit
decreases-loop-commit l = l.commit
