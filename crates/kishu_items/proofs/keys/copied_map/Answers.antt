use Rattle.std.proofs.Common.{sym}
use Rattle.kishu_items.proofs.Copying.{entries_on}
use Rattle.kishu_items.proofs.keys.copied_map.Goals as goal

pub loop-i-preserved : goal.loop-i-preserved
loop-i-preserved c =
    entries_on c.loop-i.copies.entries c.insert.new.self.entries c.in_ok-copied_key.field-0 c.in_ok-copied.field-0 c.args.entries.now.entries c.loop-i.i (c.in-Some.key.now, c.in-Some.value.now) (sym c.in-Some.ensures.entry)
    c.len-i-end.ensures.unique c.loop-i.invariant c.in_ok-copied_key.ensures c.in_ok-copied.ensures c.in_ok-insert.ensures.entries
