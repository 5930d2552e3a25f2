use Rattle.std.proofs.Common.{arith}
use Rattle.std.specs.Rc.{rc_str_bytes}
use Rattle.kishu_store.specs.EntryBytes.{name_bytes}
use Rattle.kishu_record.proofs.Sums.{within-many, all-many}
use Rattle.kishu_record.proofs.lengths.group_len.Goals as goal

pub overflow_add-len-in-loop-name : goal.overflow_add-len-in-loop-name
overflow_add-len-in-loop-name c = omega (arith, within-many rc_str_bytes name_bytes c.args.group.now c.loop-name.name-index c.name-item.result c.loop-name-test.true c.name-item.is, c.requires)

pub returns : goal.returns
returns c = all-many rc_str_bytes name_bytes c.args.group.now c.loop-name.name-index c.loop-name.len c.loop-name-test.false c.loop-name.invariant
