use Rattle.std.specs.Str.{chars}
use Rattle.std.specs.String.{string_bytes}
use Rattle.kishu_show.proofs.Ascii.{chars-plain, pushed_plain}
use Rattle.kishu_show.proofs.pushes.push_ascii.Goals as goal

pub returns : goal.returns
returns c = pushed_plain c.push_text.result (chars (string_bytes c.push_text.new.out)) (chars (string_bytes c.args.out.now)) c.args.text.now (chars-plain c.args.text.now c.requires) c.push_text.ensures
