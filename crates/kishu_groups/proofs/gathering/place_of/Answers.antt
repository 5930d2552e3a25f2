use Rattle.std.proofs.Common.{arith}
use Rattle.kishu_groups.proofs.Puts.{placed_new}
use Rattle.kishu_groups.proofs.gathering.place_of.Goals as goal

pub returns : goal.returns
returns c =
    placed_new c.args.groups.now.items c.push.new.self.items c.new.result c.args.places.now c.args.first c.len-place.result
    c.in_default.ensures.lookup.3 (omega arith) c.new.ensures.items c.in_ok-push.ensures.items
