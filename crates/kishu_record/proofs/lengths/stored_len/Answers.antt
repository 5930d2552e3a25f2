use Rattle.std.proofs.Common.{◌≡◌, ◌<◌, ◌^◌, length, map, ap, sym, subst, arith, length-append}
use Rattle.std.specs.Rc.{rc_str_bytes}
use Rattle.kishu_store.specs.EntryBytes.{eight, group_bytes, stored_bytes}
use Rattle.kishu_record.specs.Entries.{texts_of, stored_of}
use Rattle.kishu_record.proofs.Sums.{within-many, all-many}
use Rattle.kishu_record.proofs.lengths.stored_len.Goals as goal

pub group_len-requires : goal.group_len-requires
group_len-requires c =
    let item = c.loop-group-item.result in
    let within = within-many stored_of stored_bytes c.args.stored.now c.loop-group.group-index item c.loop-group-test.true c.loop-group-item.is in
    subst (λ l. length (group_bytes (map rc_str_bytes l)) < 2 ^ 32) (sym c.deref.ensures.value) (omega (arith, within, length-append (group_bytes (texts_of item.0)) (eight item.1), c.requires))

pub overflow_add-len : goal.overflow_add-len
overflow_add-len c =
    let item = c.loop-group-item.result in
    let within = within-many stored_of stored_bytes c.args.stored.now c.loop-group.group-index item c.loop-group-test.true c.loop-group-item.is in
    let same : length (group_bytes (map rc_str_bytes c.deref.result.now)) ≡ length (group_bytes (texts_of item.0)) = ap (λ l. length (group_bytes (map rc_str_bytes l))) c.deref.ensures.value in
    omega (arith, within, same, length-append (group_bytes (texts_of item.0)) (eight item.1), c.requires)

pub overflow_add-len-in-loop-group : goal.overflow_add-len-in-loop-group
overflow_add-len-in-loop-group c =
    let item = c.loop-group-item.result in
    let within = within-many stored_of stored_bytes c.args.stored.now c.loop-group.group-index item c.loop-group-test.true c.loop-group-item.is in
    let same : length (group_bytes (map rc_str_bytes c.deref.result.now)) ≡ length (group_bytes (texts_of item.0)) = ap (λ l. length (group_bytes (map rc_str_bytes l))) c.deref.ensures.value in
    omega (arith, within, same, length-append (group_bytes (texts_of item.0)) (eight item.1), c.requires)

pub returns : goal.returns
returns c = all-many stored_of stored_bytes c.args.stored.now c.loop-group.group-index c.loop-group.len c.loop-group-test.false c.loop-group.invariant
