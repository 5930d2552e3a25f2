use Rattle.std.specs.Int.{w128}
use Rattle.std.proofs.lemmas.Int.{to_z-of_z}
use Rattle.kishu_items.proofs.RangeNumbers.{distance_fits, above_fits, below_fits, is_up, is_down}
use Rattle.kishu_items.proofs.ranges.number_at.Goals as goal

pub overflow_mul-distance : goal.overflow_mul-distance
overflow_mul-distance c =
    let e = rw (to_z-of_z w128 c.args.step c.ranges.step) at c.unsigned_abs.ensures.value in
    rw e (record { fits = distance_fits c.args.start c.args.stop c.args.step c.args.place c.ranges.start.sfits c.ranges.stop.sfits c.requires })

pub above-requires : goal.above-requires
above-requires c =
    let e = rw (to_z-of_z w128 c.args.step c.ranges.step) at c.unsigned_abs.ensures.value in
    let up = rw (to_z-of_z w128 c.args.step c.ranges.step) at c.if-step-gt0.true in
    rw (to_z-of_z w128 c.args.start c.ranges.start, e) (above_fits c.args.start c.args.stop c.args.step c.args.place c.ranges.stop.sfits (is_up c.args.step up) c.requires)

pub below-requires : goal.below-requires
below-requires c =
    let e = rw (to_z-of_z w128 c.args.step c.ranges.step) at c.unsigned_abs.ensures.value in
    let down = rw (to_z-of_z w128 c.args.step c.ranges.step) at c.if-step-gt0.false in
    rw (to_z-of_z w128 c.args.start c.ranges.start, e) (below_fits c.args.start c.args.stop c.args.step c.args.place c.ranges.stop.sfits (is_down c.args.step down) c.requires)
