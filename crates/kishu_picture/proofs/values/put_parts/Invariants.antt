use Rattle.std.proofs.Common.{◌++◌, map, drop}
use Rattle.kishu_meaning.specs.values.Keys.{part_of}
use Rattle.kishu_objects.specs.Bytes.{many, part_bytes}
use Rattle.kishu_objects.specs.Fits.{PartFits}
use Rattle.kishu_picture.proofs.Putting.{IsPutting}
use Rattle.kishu_picture.proofs.values.put_parts.Given as goal

abbrev pub invariant-loop-part : goal.invariant-loop-part
invariant-loop-part l =
    let all = map part_of l.parts in
    IsPutting part_bytes PartFits all (l.fn.out.items ++ many part_bytes all) l.out.items (map part_of (drop l.part-index l.parts))
