use Rattle.std.proofs.Common.{◌≡◌, drop}
use Rattle.kishu_store.specs.References.{number_from}
use Rattle.kishu_graph.proofs.references.number_of.Given as goal

-- The digits that are left go on with the number of those before.
abbrev pub invariant-loop-digit : goal.invariant-loop-digit
invariant-loop-digit l = number_from l.number (drop l.digit-index l.digits) ≡ number_from 0 l.digits
