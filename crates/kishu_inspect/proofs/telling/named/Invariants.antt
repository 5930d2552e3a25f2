use Rattle.std.proofs.Common.{◌≡◌, ◌++◌, drop, map}
use Rattle.kishu_model.specs.Values.{named_of}
use Rattle.kishu_names.specs.Record.{texts_of}
use Rattle.kishu_inspect.specs.Told.{names_told}
use Rattle.kishu_inspect.proofs.telling.named.Given as goal

abbrev pub invariant-loop-i : goal.invariant-loop-i
invariant-loop-i l =
    map named_of l.told.items ++ names_told l.found.keys l.names (texts_of (drop l.i l.all))
    ≡ names_told l.found.keys l.names (texts_of l.all)
