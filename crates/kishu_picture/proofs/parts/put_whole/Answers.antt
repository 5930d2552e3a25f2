use Rattle.std.proofs.Common.{◌++◌, ap, ◌∙◌}
use Rattle.std.specs.Int.{w128, to_be_bytes, cast_unsigned}
use Rattle.std.proofs.lemmas.Int.{to_z-of_z}
use Rattle.kishu_bytes.specs.Numbers.{sixteen}
use Rattle.kishu_picture.proofs.parts.put_whole.Goals as goal

pub returns-clause-bytes : goal.returns-clause-bytes
unfolding sixteen
returns-clause-bytes c = c.in_ok-extend_from_slice.ensures.items ∙ ap (λ z. c.args.out.now.items ++ z)
    (c.to_be_bytes.ensures ∙ ap (to_be_bytes w128) (c.cast_unsigned-bits.ensures
    ∙ ap (cast_unsigned w128) (to_z-of_z w128 c.args.number c.ranges.number)))
