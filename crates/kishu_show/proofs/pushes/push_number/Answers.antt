use Rattle.std.proofs.Common.{◌∙◌}
use Rattle.std.specs.Fmt.{signed_decimal}
use Rattle.std.specs.Int.{w128}
use Rattle.std.specs.Str.{chars}
use Rattle.std.specs.String.{string_bytes}
use Rattle.std.proofs.lemmas.Int.{to_z-of_z}
use Rattle.kishu_show.proofs.Ascii.{pushed_ascii, signed-IsAscii}
use Rattle.kishu_show.proofs.pushes.push_number.Goals as goal

pub returns : goal.returns
returns c =
    let k = to_z-of_z w128 c.args.number c.ranges.number in
    let h = rw k at c.in_ok-text.ensures in
    pushed_ascii c.push_text.result (chars (string_bytes c.push_text.new.out)) (chars (string_bytes c.args.out.now)) c.as_str.result.now (signed_decimal c.args.number) (c.as_str.ensures.value ∙ h) (signed-IsAscii c.args.number c.ranges.number.sfits) c.push_text.ensures
