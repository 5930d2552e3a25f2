use Rattle.std.specs.String.{string_bytes}
use Rattle.std.proofs.lemmas.Str.{IsUtf8-string_bytes}
use Rattle.kishu_machine.proofs.Messages.{pushed_text}
use Rattle.kishu_machine.proofs.texts.push_text.Goals as goal

pub returns : goal.returns
returns c = pushed_text c.push_str.result (string_bytes c.push_str.new.self) (string_bytes c.args.out.now) c.args.text.now (IsUtf8-string_bytes c.args.out.now) c.push_str.ensures.bytes
