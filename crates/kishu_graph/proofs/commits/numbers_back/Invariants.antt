use Rattle.std.proofs.Common.{◌≡◌, ◌<◌, ◌++◌, List, length, map}
use Rattle.kishu_store.specs.Graph.{Commit}
use Rattle.kishu_graph.specs.Kept.{outline, outlines, parents_of}
use Rattle.kishu_graph.specs.Laws.{back_numbers}
use Rattle.kishu_graph.proofs.commits.numbers_back.Given as goal

-- The numbers so far, and those that are left.
abbrev pub invariant-loop-at : goal.invariant-loop-at
invariant-loop-at l = record {
  there : l.at < length l.commits;
  numbers : (ks : List Commit) → parents_of (map outline l.commits) ≡ parents_of (outlines ks) → l.numbers.items ++ back_numbers ks l.at ≡ back_numbers ks l.fn.commit;
}

abbrev pub decreases-loop-at : goal.decreases-loop-at
decreases-loop-at l = l.at
