use Rattle.std.proofs.Common.{◌≡◌, ◌≤◌, ◌++◌, drop, map}
use Rattle.kishu_model.specs.Values.{texts_of}
use Rattle.kishu_inspect.specs.Told.{rows_told}
use Rattle.kishu_inspect.proofs.telling.rows.Given as goal

abbrev pub invariant-loop-i : goal.invariant-loop-i
invariant-loop-i g l = record {
  rows : map texts_of l.rows.items ++ rows_told l.found.keys l.heap (drop l.i l.found.keys)
      ≡ rows_told l.found.keys l.heap l.found.keys;
  counted : l.fn.steps ≤ l.steps;
}
