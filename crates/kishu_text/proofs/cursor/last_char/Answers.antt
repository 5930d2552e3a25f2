use Rattle.std.proofs.Common.{◌≡◌, ◌∙◌, ap, ◌++◌, length}
use Rattle.std.specs.Char.{encode_utf8}
use Rattle.std.specs.Str.{chars}
use Rattle.std.proofs.lemmas.List.{nil_from_length}
use Rattle.std.proofs.lemmas.Str.{chars-nil}
use Rattle.kishu_text.proofs.Ends.{chars_behind}
use Rattle.kishu_text.proofs.cursor.last_char.Goals as goal

pub returns-in-Some-clause-cases : goal.returns-in-Some-clause-cases
returns-in-Some-clause-cases c =
    let e : c.args.text.now ≡ c.as_str.result.now ++ encode_utf8 c.in-Some.c = cc (c.in-Some.ensures.steps) in
    chars_behind c.args.text.now c.as_str.result.now c.in-Some.c c.utf8.text c.as_str.utf8 e

pub returns-in-None-clause-cases : goal.returns-in-None-clause-cases
returns-in-None-clause-cases c =
    let e : length c.args.text.now ≡ 0 = cc (c.in-None.ensures.steps.0) in
    ap chars (nil_from_length c.args.text.now e) ∙ chars-nil
