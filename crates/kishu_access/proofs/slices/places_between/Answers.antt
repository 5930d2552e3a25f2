use Rattle.std.proofs.Common.{◌≡◌, arith, ◌≤◌, rules, SFits, to_z, of_z}
use mir.Syntax.{w128}
use Rattle.std.proofs.lemmas.Int.{to_z-of_z}
use Rattle.kishu_meaning.specs.comparing.Equal.{range_length}
use Rattle.kishu_meaning.specs.items.Subscripts.{first_limit, last_limit}
use Rattle.kishu_access.proofs.Slicing.{places_few, places_inside}
use Rattle.kishu_access.proofs.slices.places_between.Goals as goal

pub overflow_cast-many : goal.overflow_cast-many
overflow_cast-many c =
    let n = c.args.len in
    let step = c.args.step in
    let same : to_z w128 (of_z w128 step) ≡ step = to_z-of_z w128 step c.ranges.step in
    let f1 : SFits w128 c.first_limit-first.result = search rules in
    let f2 : SFits w128 c.last_limit-last.result = search rules in
    let first : c.first_limit-first.result ≡ first_limit n step c.args.start = rw same at c.first_limit-first.ensures in
    let last : c.last_limit-last.result ≡ last_limit n step c.args.stop = rw same at c.last_limit-last.ensures in
    let many : c.range_length-many.result ≡ range_length (first_limit n step c.args.start) (last_limit n step c.args.stop) step =
    rw (same, to_z-of_z w128 c.first_limit-first.result f1, to_z-of_z w128 c.last_limit-last.result f2, first, last) at c.range_length-many.ensures in
    let few : c.range_length-many.result ≤ n = rw many (places_few n step c.args.start c.args.stop) in
    record { fits = omega (arith, few, c.ranges.len.fits) }

pub returns-clause-within : goal.returns-clause-within
returns-clause-within c =
    let n = c.args.len in
    let step = c.args.step in
    let same : to_z w128 (of_z w128 step) ≡ step = to_z-of_z w128 step c.ranges.step in
    let f1 : SFits w128 c.first_limit-first.result = search rules in
    let f2 : SFits w128 c.last_limit-last.result = search rules in
    let first : c.first_limit-first.result ≡ first_limit n step c.args.start = rw same at c.first_limit-first.ensures in
    let last : c.last_limit-last.result ≡ last_limit n step c.args.stop = rw same at c.last_limit-last.ensures in
    let many : c.range_length-many.result ≡ range_length (first_limit n step c.args.start) (last_limit n step c.args.stop) step =
    rw (same, to_z-of_z w128 c.first_limit-first.result f1, to_z-of_z w128 c.last_limit-last.result f2, first, last) at c.range_length-many.ensures in
    rw (same, to_z-of_z w128 c.first_limit-first.result f1, first, many) (places_inside n step c.args.start c.args.stop)
