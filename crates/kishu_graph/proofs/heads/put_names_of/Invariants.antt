use Rattle.std.proofs.Common.{◌++◌, take}
use Rattle.kishu_store.specs.Tables.{names_in}
use Rattle.kishu_graph.specs.Fits.{rows_of}
use Rattle.kishu_graph.specs.Walks.{HaveSame, all_texts}
use Rattle.kishu_graph.proofs.heads.put_names_of.Given as goal

abbrev pub invariant-loop-row : goal.invariant-loop-row
invariant-loop-row l = HaveSame (all_texts l.names.keys) (names_in (rows_of (take l.row-index l.rows)) ++ all_texts l.initial.names.keys)
