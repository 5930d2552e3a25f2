use Rattle.std.specs.String.{string_bytes}
use Rattle.kishu_show.proofs.Ascii.{no_text}
use Rattle.kishu_show.proofs.pushes.empty.Goals as goal

pub returns : goal.returns
returns c = no_text (string_bytes c.new.result) c.new.ensures.bytes
