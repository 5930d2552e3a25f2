use Rattle.std.proofs.Common.{of_z, to_z}
use Rattle.std.specs.Int.{w128}
use Rattle.kishu_items.proofs.RangeNumbers.{number_on}
use Rattle.kishu_items.proofs.ranges.range_items.Goals as goal

pub loop-place-preserved : goal.loop-place-preserved
loop-place-preserved c =
    number_on c.loop-place.items.items c.push.new.self.items c.number_value.result (to_z w128 (of_z w128 c.args.start)) (to_z w128 (of_z w128 c.args.step)) c.loop-place.place c.number_value.ensures c.in_ok-push.ensures.items c.loop-place.invariant
