use Rattle.std.proofs.Common.{map, take}
use Rattle.kishu_graph.specs.Kept.{row_of}
use Rattle.kishu_graph.specs.Walks.{rows_in, StandAtFirst, all_texts, HaveFound}
use Rattle.kishu_graph.proofs.walking.find_rows.Given as goal

abbrev pub invariant-loop-row : goal.invariant-loop-row
invariant-loop-row l = record {
  stand : StandAtFirst l.found.entries;
  found : HaveFound (all_texts l.gone.keys) (map row_of (take l.row-index l.rows)) (rows_in l.initial.found.entries) (rows_in l.found.entries);
}
