use Rattle.std.proofs.Common.{◌≡◌, ◌++◌, drop}
use Rattle.kishu_names.specs.Record.{texts_of}
use Rattle.kishu_inspect.specs.Told.{attributes_told}
use Rattle.kishu_inspect.proofs.rows.push_attributes.Given as goal

abbrev pub invariant-loop-i : goal.invariant-loop-i
invariant-loop-i l =
    texts_of l.texts.items ++ attributes_told l.found.keys (drop l.i l.attributes.entries)
    ≡ texts_of l.fn.texts.items ++ attributes_told l.found.keys l.attributes.entries
