use Rattle.std.proofs.Common.{arith}
use Rattle.std.specs.Rc.{rc_str_bytes}
use Rattle.kishu_store.specs.EntryBytes.{text_bytes}
use Rattle.kishu_record.proofs.Sums.{within-many, all-many}
use Rattle.kishu_record.proofs.lengths.texts_len.Goals as goal

pub overflow_add-len-in-loop-text : goal.overflow_add-len-in-loop-text
overflow_add-len-in-loop-text c = omega (arith, within-many rc_str_bytes text_bytes c.args.texts.now c.loop-text.text-index c.text-item.result c.loop-text-test.true c.text-item.is, c.requires)

pub returns : goal.returns
returns c = all-many rc_str_bytes text_bytes c.args.texts.now c.loop-text.text-index c.loop-text.len c.loop-text-test.false c.loop-text.invariant
