use Rattle.std.proofs.Common.{drop}
use Rattle.kishu_journal.proofs.Follows.{Followed}
use Rattle.kishu_journal.proofs.graph.graph_of.Given as goal

abbrev pub invariant-loop-place : goal.invariant-loop-place
invariant-loop-place l = Followed l.graph l.entries (drop l.place-index l.entries)
