use Rattle.std.proofs.Common.{◌≡◌, ◌++◌, ◌∙◌, length, ap, arith, length-append, append_assoc}
use Rattle.kishu_store.specs.EntryBytes.{eight, group_bytes}
use Rattle.kishu_store.specs.Groups.{IsGroup}
use Rattle.kishu_store_laws.specs.Cuts.{group-cut}
use Rattle.kishu_record.specs.Entries.{texts_of}
use Rattle.kishu_record.proofs.Lists.{same_item}
use Rattle.kishu_record.proofs.cursor.Cursor.stored_group.Goals as goal

pub returns-in_default-length-clause-none : goal.returns-in_default-length-clause-none
returns-in_default-length-clause-none c same b =
    let group = texts_of c.in-Some.group in
    let left = c.group.new.self.rest.now in
    let found : c.args.self.now.rest.now ≡ group_bytes group ++ left = rw c.in-Some.is at c.in_ok-group.ensures.found in
    let fits : IsGroup group = rw c.in-Some.is at c.in_ok-group.ensures.fits in
    let rest : left ≡ eight b.item.1 ++ b.rest =
    (same_item group_bytes IsGroup group-cut c.args.self.now.rest.now left (eight b.item.1 ++ b.rest) group b.item.0 c.requires fits b.is_fit.0 found (b.is ∙ append_assoc (group_bytes b.item.0) (eight b.item.1) b.rest)).1 in
    omega (arith, c.length.ensures.none c.in_default-length.is, ap length rest, length-append (eight b.item.1) b.rest)
