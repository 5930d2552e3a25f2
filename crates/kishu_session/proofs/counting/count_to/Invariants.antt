use Rattle.std.proofs.Common.{◌≡◌, ◌<◌, ◌≤◌, ◌+◌, ◌*◌, ◌^◌, length}
use Rattle.kishu_store.specs.Graph.{count_of}
use Rattle.kishu_store.specs.Histories.{History}
use Rattle.kishu_session.specs.Known.{IsHistoryOf}
use Rattle.kishu_session.proofs.counting.count_to.Given as goal

abbrev pub invariant-loop-at : goal.invariant-loop-at
invariant-loop-at l = record {
  there : l.at < length l.graph.commits;
  count : (h : History) → IsHistoryOf l.graph h → l.count + count_of h.graph l.at ≡ count_of h.graph l.commit;
  few : l.count + l.at * 2 ^ 32 ≤ l.commit * 2 ^ 32;
}

abbrev pub decreases-loop-at : goal.decreases-loop-at
decreases-loop-at l = l.at
