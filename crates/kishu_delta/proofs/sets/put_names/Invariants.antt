use Rattle.std.proofs.Common.{take}
use Rattle.kishu_names.specs.Record.{texts_of}
use Rattle.kishu_delta.specs.Sets.{HasNames}
use Rattle.kishu_delta.proofs.sets.put_names.Given as goal

abbrev pub invariant-loop-name : goal.invariant-loop-name
invariant-loop-name l = HasNames (texts_of (take l.name-index l.names)) (texts_of l.initial.set.keys) (texts_of l.set.keys)
