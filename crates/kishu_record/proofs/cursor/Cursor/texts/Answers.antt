use Rattle.std.proofs.Common.{arith}
use Rattle.std.specs.Rc.{rc_str_bytes}
use Rattle.kishu_store.specs.EntryBytes.{text_bytes}
use Rattle.kishu_store.specs.Rules.{IsCell}
use Rattle.kishu_store_laws.specs.Cuts.{text-cut}
use Rattle.kishu_record.proofs.Lists.{none_follows, text_full}
use Rattle.kishu_record.proofs.cursor.Cursor.texts.Goals as goal

pub returns-in_default-text-clause-none : goal.returns-in_default-text-clause-none
returns-in_default-text-clause-none c same =
    none_follows rc_str_bytes text_bytes IsCell text-cut text_full c.loop.texts.items c.in-Some.count _ _ c.loop.self.rest.now c.requires (omega arith) c.in-Some.ensures.found c.loop.invariant.found (omega arith) c.loop.invariant.fit
    (c.text.ensures.none c.in_default-text.is)
