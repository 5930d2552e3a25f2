use Rattle.std.proofs.Common.{◌≡◌, drop}
use Rattle.kishu_meaning.specs.values.Values.{find}
use Rattle.kishu_calls.specs.Calls.{named_of}
use Rattle.kishu_calls.proofs.functions.keyword.Given as goal

abbrev pub invariant-loop-other : goal.invariant-loop-other
invariant-loop-other l = find l.name (named_of (drop l.other-index l.named)) ≡ find l.name (named_of l.named)
