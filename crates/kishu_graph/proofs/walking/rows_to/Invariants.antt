use Rattle.std.proofs.Common.{◌<◌, length}
use Rattle.kishu_graph.specs.Walks.{rows_in, StandAtFirst, all_texts}
use Rattle.kishu_graph.proofs.WayBack.{LeadTo}
use Rattle.kishu_graph.proofs.walking.rows_to.Given as goal

-- The rows found and those that are left make up the table.
abbrev pub invariant-loop-at : goal.invariant-loop-at
invariant-loop-at l = record {
  there : l.at < length l.commits;
  stand : StandAtFirst l.found.entries;
  lead : LeadTo l.commits l.noted (all_texts l.gone.keys) l.at l.fn.commit (rows_in l.found.entries);
}

abbrev pub decreases-loop-at : goal.decreases-loop-at
decreases-loop-at l = l.at
