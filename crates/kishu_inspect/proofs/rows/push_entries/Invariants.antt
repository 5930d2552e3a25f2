use Rattle.std.proofs.Common.{◌≡◌, ◌++◌, drop}
use Rattle.kishu_names.specs.Record.{texts_of}
use Rattle.kishu_inspect.specs.Told.{entries_told}
use Rattle.kishu_inspect.proofs.rows.push_entries.Given as goal

abbrev pub invariant-loop-i : goal.invariant-loop-i
invariant-loop-i l =
    texts_of l.texts.items ++ entries_told l.found.keys (drop l.i l.entries.entries)
    ≡ texts_of l.fn.texts.items ++ entries_told l.found.keys l.entries.entries
