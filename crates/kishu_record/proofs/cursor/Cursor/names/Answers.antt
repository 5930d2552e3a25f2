use Rattle.std.proofs.Common.{Ok, ap, arith}
use Rattle.std.specs.Rc.{rc_str_bytes}
use Rattle.kishu_store.specs.EntryBytes.{name_bytes}
use Rattle.kishu_store.specs.Groups.{IsName}
use Rattle.kishu_store_laws.specs.Cuts.{name-cut}
use Rattle.kishu_record.proofs.Lists.{none_follows, name_full}
use Rattle.kishu_record.proofs.cursor.Cursor.names.Goals as goal

pub returns-in_default-2-clause-none : goal.returns-in_default-2-clause-none
returns-in_default-2-clause-none c same =
    none_follows rc_str_bytes name_bytes IsName name-cut name_full c.loop.names.items c.in-Some.count _ _ c.loop.self.rest.now c.requires (omega arith) c.in-Some.ensures.found c.loop.invariant.found (omega arith) c.loop.invariant.fit
    (c.in_ok-name.ensures.none (ap (λ o. Ok o) c.in_default-2.is))
