use Rattle.std.proofs.Common.{◌≡◌, ◌++◌, drop}
use Rattle.kishu_names.specs.Record.{texts_of}
use Rattle.kishu_inspect.specs.Told.{values_told}
use Rattle.kishu_inspect.proofs.rows.push_values.Given as goal

abbrev pub invariant-loop-value : goal.invariant-loop-value
invariant-loop-value l =
    texts_of l.texts.items ++ values_told l.found.keys (drop l.value-index l.values)
    ≡ texts_of l.fn.texts.items ++ values_told l.found.keys l.values
