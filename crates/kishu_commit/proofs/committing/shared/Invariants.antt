use Rattle.std.proofs.Common.{◌≡◌, ◌++◌, drop}
use Rattle.kishu_names.specs.Record.{texts_of}
use Rattle.kishu_commit.proofs.committing.shared.Given as goal

abbrev pub invariant-loop-text : goal.invariant-loop-text
invariant-loop-text l = texts_of l.again.items ++ texts_of (drop l.text-index l.texts) ≡ texts_of l.texts
