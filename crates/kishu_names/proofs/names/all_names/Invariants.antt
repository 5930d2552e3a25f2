use Rattle.std.proofs.Common.{◌≡◌, ◌++◌}
use Rattle.std.specs.Map.{keys_of}
use Rattle.kishu_names.specs.Record.{texts_of}
use Rattle.kishu_names.proofs.names.all_names.Given as goal

-- the names so far, and those that are left
abbrev pub invariant-loop-name : goal.invariant-loop-name
invariant-loop-name l = texts_of l.names.items ++ texts_of l.name-iterator ≡ texts_of (keys_of l.bound.entries)
