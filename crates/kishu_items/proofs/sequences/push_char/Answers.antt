use Rattle.std.specs.String.{string_bytes}
use Rattle.std.proofs.lemmas.Str.{IsUtf8-string_bytes}
use Rattle.kishu_items.proofs.Ends.{pushed_char}
use Rattle.kishu_items.proofs.sequences.push_char.Goals as goal

pub returns : goal.returns
returns c =
    pushed_char c.push.result (string_bytes c.push.new.self) (string_bytes c.args.out.now) c.args.c (IsUtf8-string_bytes c.push.new.self) (IsUtf8-string_bytes c.args.out.now) c.push.ensures.bytes
