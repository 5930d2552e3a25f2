use Rattle.std.proofs.Common.{◌≡◌, drop}
use Rattle.kishu_history.specs.Touched.{holds_any}
use Rattle.kishu_names.specs.Record.{texts_of}
use Rattle.kishu_delta.proofs.touching.holds_any.Given as goal

abbrev pub invariant-loop-name : goal.invariant-loop-name
invariant-loop-name l = holds_any l.accessed (texts_of (drop l.name-index l.group)) ≡ holds_any l.accessed (texts_of l.group)
