use Rattle.std.proofs.Common.{◌≡◌, ◌++◌, drop}
use Rattle.kishu_names.specs.Record.{texts_of}
use Rattle.kishu_delta.proofs.sets.shared.Given as goal

abbrev pub invariant-loop-name : goal.invariant-loop-name
invariant-loop-name l = texts_of l.copy.items ++ texts_of (drop l.name-index l.group) ≡ texts_of l.group
