use Rattle.std.proofs.Common.{◌++◌, map, drop, ap, arith}
use Rattle.std.proofs.lemmas.List.{length-map}
use Rattle.kishu_meaning.specs.values.Keys.{part_of}
use Rattle.kishu_objects.specs.Bytes.{many, part_bytes}
use Rattle.kishu_objects.specs.Fits.{PartFits}
use Rattle.kishu_picture.proofs.Putting.{few, all_fit}
use Rattle.kishu_picture.proofs.Sizes.{part_some}
use Rattle.kishu_picture.proofs.Steps.{no_rest}
use Rattle.kishu_picture.proofs.values.put_parts.Goals as goal

pub overflow_cast-parts : goal.overflow_cast-parts
overflow_cast-parts c = omega (arith, few part_bytes part_some (map part_of c.args.parts.now) c.requires, length-map c.args.parts.now part_of)

pub returns-clause-fits : goal.returns-clause-fits
returns-clause-fits c =
    let parts = c.args.parts.now in
    let all = map part_of parts in
    let i = c.loop-part.part-index in
    all_fit part_bytes PartFits all (c.args.out.now.items ++ many part_bytes all) c.loop-part.out.items (map part_of (drop i parts))
    c.loop-part.invariant
    (ap (map part_of) (no_rest parts i (omega (arith, c.loop-part-test.false)))) (few part_bytes part_some all c.requires)
