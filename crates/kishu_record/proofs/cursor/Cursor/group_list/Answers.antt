use Rattle.std.proofs.Common.{Ok, ap, arith}
use Rattle.kishu_store.specs.EntryBytes.{group_bytes}
use Rattle.kishu_store.specs.Groups.{IsGroup}
use Rattle.kishu_store_laws.specs.Cuts.{group-cut}
use Rattle.kishu_record.specs.Entries.{texts_of}
use Rattle.kishu_record.proofs.Lists.{none_follows, group_full}
use Rattle.kishu_record.proofs.cursor.Cursor.group_list.Goals as goal

pub returns-in_default-2-clause-none : goal.returns-in_default-2-clause-none
returns-in_default-2-clause-none c same =
    none_follows texts_of group_bytes IsGroup group-cut group_full c.loop.groups.items c.in-Some.count _ _ c.loop.self.rest.now c.requires (omega arith) c.in-Some.ensures.found c.loop.invariant.found (omega arith) c.loop.invariant.fit
    (c.in_ok-group.ensures.none (ap (λ o. Ok o) c.in_default-2.is))
