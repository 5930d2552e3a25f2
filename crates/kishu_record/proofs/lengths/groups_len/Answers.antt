use Rattle.std.proofs.Common.{◌≡◌, ◌<◌, ◌^◌, length, map, ap, sym, subst, arith}
use Rattle.std.specs.Rc.{rc_str_bytes}
use Rattle.kishu_store.specs.EntryBytes.{group_bytes}
use Rattle.kishu_record.specs.Entries.{texts_of}
use Rattle.kishu_record.proofs.Sums.{within-many, all-many}
use Rattle.kishu_record.proofs.lengths.groups_len.Goals as goal

pub group_len-len-requires : goal.group_len-len-requires
group_len-len-requires c =
    let within = within-many texts_of group_bytes c.args.groups.now c.loop-group.group-index c.group-item.result c.loop-group-test.true c.group-item.is in
    subst (λ l. length (group_bytes (map rc_str_bytes l)) < 2 ^ 32) (sym c.deref.ensures.value) (omega (arith, within, c.requires))

pub overflow_add-len : goal.overflow_add-len
overflow_add-len c =
    let item = c.group-item.result in
    let within = within-many texts_of group_bytes c.args.groups.now c.loop-group.group-index item c.loop-group-test.true c.group-item.is in
    let same : length (group_bytes (map rc_str_bytes c.deref.result.now)) ≡ length (group_bytes (texts_of item)) = ap (λ l. length (group_bytes (map rc_str_bytes l))) c.deref.ensures.value in
    omega (arith, within, same, c.requires)

pub returns : goal.returns
returns c = all-many texts_of group_bytes c.args.groups.now c.loop-group.group-index c.loop-group.len c.loop-group-test.false c.loop-group.invariant
