use Rattle.std.proofs.Common.{◌≡◌, ◌+◌, take}
use Rattle.kishu_store.specs.Tables.{bytes_in}
use Rattle.kishu_graph.specs.Fits.{rows_of}
use Rattle.kishu_graph.proofs.fitting.room_behind_rows.Given as goal

abbrev pub invariant-loop-row : goal.invariant-loop-row
invariant-loop-row l = l.room + bytes_in (rows_of (take l.row-index l.rows)) ≡ l.fn.most
