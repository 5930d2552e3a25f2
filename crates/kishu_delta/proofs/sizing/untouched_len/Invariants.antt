use Rattle.std.proofs.Common.{◌≡◌, ◌≤◌, ◌+◌, ◌-◌, ◌^◌, drop, map}
use Rattle.kishu_graph.specs.Kept.{row_of}
use Rattle.kishu_graph.specs.Tables.{table_of_rows}
use Rattle.kishu_history.specs.Touched.{untouched}
use Rattle.kishu_picture.specs.Lengths.{capped}
use Rattle.kishu_store.specs.Tables.{bytes_in}
use Rattle.kishu_delta.proofs.sizing.untouched_len.Given as goal

abbrev pub invariant-loop-row : goal.invariant-loop-row
invariant-loop-row l = record {
  small : l.total ≤ 2 ^ 64 - 1;
  sum : capped (l.total + bytes_in (untouched (map row_of (drop l.row-index l.table.rows.items)) l.accessed)) ≡ capped (bytes_in (untouched (table_of_rows l.table) l.accessed));
}
