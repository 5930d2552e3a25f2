use Rattle.std.proofs.Common.{refl}
use Rattle.kishu_names.proofs.Records.{rises_nil}
use Rattle.kishu_names.proofs.names.Names.new.Goals as goal

pub invariant_of-result : goal.invariant_of-result
invariant_of-result c = (rw c.new.ensures.empty refl, rw c.new-2.ensures.items rises_nil)
