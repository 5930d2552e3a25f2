use Rattle.std.proofs.Common.{◌≡◌, ◌++◌, drop}
use Rattle.kishu_machine.specs.Frames.{texts_of}
use Rattle.kishu_calls.proofs.locals.push_names.Given as goal

abbrev pub invariant-loop-name : goal.invariant-loop-name
invariant-loop-name l = texts_of l.names.items ++ texts_of (drop l.name-index l.more) ≡ texts_of l.fn.names.items ++ texts_of l.more
