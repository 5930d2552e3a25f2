use Rattle.std.proofs.Common.{◌≡◌, ◌++◌, map}
use Rattle.std.specs.Map.{values_of}
use Rattle.kishu_graph.specs.Kept.{row_of}
use Rattle.kishu_graph.proofs.heads.HeadRows.table.Given as goal

-- the rows so far, and those that are left
abbrev pub invariant-loop-row : goal.invariant-loop-row
invariant-loop-row l = map row_of l.rows.items ++ map row_of l.row-iterator ≡ map row_of (values_of l.self.rows.entries)
