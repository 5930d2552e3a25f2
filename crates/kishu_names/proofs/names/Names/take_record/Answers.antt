use Rattle.kishu_names.proofs.Records.{rises_nil}
use Rattle.kishu_names.proofs.names.Names.take_record.Goals as goal

pub invariant_of-self : goal.invariant_of-self
invariant_of-self c = (c.self.invariant.0, rw (c.replace.ensures.after, c.new.ensures.items) rises_nil)
