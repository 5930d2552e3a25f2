use Rattle.std.proofs.Common.{◌∙◌, sym}
use Rattle.kishu_record.proofs.Heads.{some_head}
use Rattle.kishu_record.proofs.reader.entry_in.Goals as goal

pub returns-in_default-clause-none : goal.returns-in_default-clause-none
returns-in_default-clause-none c same e k is = some_head e (sym (c.byte.ensures.none c.in_default.is) ∙ is)
