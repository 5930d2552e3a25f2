use Rattle.std.proofs.Common.{sym}
use Rattle.kishu_items.proofs.Copying.{keys_on}
use Rattle.kishu_items.proofs.keys.copied_keys.Goals as goal

pub loop-i-preserved : goal.loop-i-preserved
loop-i-preserved c =
    keys_on c.loop-i.keys.items c.push.new.self.items c.in_ok-copied_key.field-0 c.args.entries.now.entries c.loop-i.i (c.in-Some.key.now, c.in-Some.field-0-1.now) (sym c.in-Some.ensures.entry)
    c.loop-i.invariant c.in_ok-copied_key.ensures c.in_ok-push.ensures.items
