use Rattle.std.proofs.Common.{◌≡◌, take}
use Rattle.kishu_graph.specs.Heads.{LeavesOut}
use Rattle.kishu_graph.specs.Walks.{StandAtFirst, all_texts}
use Rattle.kishu_graph.proofs.heads.HeadRows.leave_out.Given as goal

abbrev pub invariant-loop-first : goal.invariant-loop-first
invariant-loop-first l = record {
  commit : l.self.commit ≡ l.initial.self.commit;
  stand : StandAtFirst l.self.rows.entries;
  left : LeavesOut (all_texts (take l.first-index l.firsts)) l.initial.self l.self;
}
