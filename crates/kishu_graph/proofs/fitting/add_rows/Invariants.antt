use Rattle.std.proofs.Common.{true, take}
use Rattle.kishu_store.specs.Tables.{names_in}
use Rattle.kishu_graph.specs.Fits.{rows_of, AddsNames}
use Rattle.kishu_graph.proofs.fitting.add_rows.Given as goal

abbrev pub invariant-loop-row : goal.invariant-loop-row
invariant-loop-row l = AddsNames (names_in (rows_of (take l.row-index l.rows))) l.initial.names.keys l.names.keys true
