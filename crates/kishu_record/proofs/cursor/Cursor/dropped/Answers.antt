use Rattle.std.proofs.Common.{◌≡◌, ◌++◌, map, sym, subst}
use Rattle.std.specs.List.{AllByRecursion}
use Rattle.kishu_store.specs.EntryBytes.{many, group_bytes}
use Rattle.kishu_store.specs.Groups.{IsGroup, Rise, first_name}
use Rattle.kishu_store_laws.specs.Cuts.{groups-cut}
use Rattle.kishu_record.specs.Entries.{texts_of, groups_of, first_of}
use Rattle.kishu_record.proofs.Lists.{same_item, map_twice}
use Rattle.kishu_record.proofs.cursor.Cursor.dropped.Goals as goal

pub returns-then-not-groups_rise-clause-none : goal.returns-then-not-groups_rise-clause-none
returns-then-not-groups_rise-clause-none c same b =
    let read = groups_of c.in-Some.groups in
    let left = c.group_list.new.self.rest.now in
    let found : c.args.self.now.rest.now ≡ many group_bytes read ++ left = rw c.in-Some.is at c.in_ok-groups.ensures.found in
    let fit : AllByRecursion IsGroup read = rw c.in-Some.is at c.in_ok-groups.ensures.fit in
    let one : read ≡ b.item = (same_item (many group_bytes) (AllByRecursion IsGroup) groups-cut c.args.self.now.rest.now left b.rest read b.item c.requires fit b.is_fit.each found b.is).0 in
    let rise : Rise (map first_name read) = subst (λ gs. Rise (map first_name gs)) (sym one) b.is_fit.rise in
    c.groups_rise.ensures.no c.if-not-groups_rise.true (subst (λ l. Rise (map first_of l)) (sym c.deref.ensures.value) (subst Rise (map_twice first_name texts_of c.in-Some.groups.items) rise))

pub returns-clause-fit : goal.returns-clause-fit
returns-clause-fit c =
    let fit : AllByRecursion IsGroup (groups_of c.in-Some.groups) = rw c.in-Some.is at c.in_ok-groups.ensures.fit in
    let rise : Rise (map first_of c.in-Some.groups.items) = subst (λ l. Rise (map first_of l)) c.deref.ensures.value (c.groups_rise.ensures.yes c.if-not-groups_rise.false) in
    record { each = fit; rise = subst Rise (sym (map_twice first_name texts_of c.in-Some.groups.items)) rise }
