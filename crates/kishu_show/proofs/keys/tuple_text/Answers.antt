use Rattle.std.proofs.Common.{◌∙◌, map}
use Rattle.std.specs.Prelude.{codes}
use Rattle.std.specs.Str.{chars}
use Rattle.std.specs.String.{string_bytes}
use Rattle.kishu_meaning.specs.values.Keys.{part_of}
use Rattle.kishu_meaning.specs.comparing.Show.{part_text, tuple_end}
use Rattle.kishu_meaning.specs.values.Texts.{joined}
use Rattle.kishu_show.proofs.Joins.{three, ending}
use Rattle.kishu_show.proofs.keys.tuple_text.Goals as goal

pub returns : goal.returns
returns c =
    let parts = c.args.parts.now in
    three (chars (string_bytes c.empty-out.result)) (chars (string_bytes c.push_ascii.new.out)) (chars (string_bytes c.push_parts.new.out)) (chars (string_bytes c.push_ascii-2.new.out))
    (codes "(") (joined (codes ", ") (map part_text (map part_of parts))) c.tuple_end.result.now (tuple_end (map part_of parts))
    c.empty-out.ensures c.in_ok-push_ascii.ensures c.in_ok-push_parts.ensures c.in_ok-push_ascii-2.ensures (c.tuple_end.ensures.text ∙ ending part_of parts)
