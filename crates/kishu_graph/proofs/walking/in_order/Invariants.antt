use Rattle.std.proofs.Common.{◌≡◌, ◌++◌}
use Rattle.std.specs.Map.{values_of}
use Rattle.kishu_graph.proofs.walking.in_order.Given as goal

-- the rows so far, and those that are left
abbrev pub invariant-loop-row : goal.invariant-loop-row
invariant-loop-row l = l.rows.items ++ l.row-iterator ≡ values_of l.fn.found.entries
