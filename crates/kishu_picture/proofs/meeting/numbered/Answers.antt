use Rattle.std.proofs.Common.{sym}
use Rattle.kishu_picture.proofs.Reached.{more_taken}
use Rattle.kishu_picture.proofs.meeting.numbered.Goals as goal

pub loop-i-preserved : goal.loop-i-preserved
loop-i-preserved c = more_taken (λ id. id.0) c.loop-i.ids.items c.push.new.self.items _ c.args.found.now.keys c.loop-i.i c.loop-i.invariant
    (sym c.in-Some.ensures.key) c.in_ok-push.ensures.items
