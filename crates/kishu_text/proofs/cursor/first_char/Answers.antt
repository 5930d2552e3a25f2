use Rattle.std.proofs.Common.{◌≡◌, ◌∙◌, ap, ◌++◌, length}
use Rattle.std.specs.Char.{encode_utf8}
use Rattle.std.specs.Str.{chars}
use Rattle.std.proofs.lemmas.List.{nil_from_length}
use Rattle.std.proofs.lemmas.Str.{chars-nil, chars_past_char}
use Rattle.kishu_text.proofs.cursor.first_char.Goals as goal

pub returns-in-Some-clause-cases : goal.returns-in-Some-clause-cases
returns-in-Some-clause-cases c =
    let e : c.args.text.now ≡ encode_utf8 c.in-Some.c ++ c.as_str.result.now = cc (c.in-Some.ensures.steps.0) in
    chars_past_char c.args.text.now c.as_str.result.now c.in-Some.c c.utf8.text e

pub returns-in-None-clause-cases : goal.returns-in-None-clause-cases
returns-in-None-clause-cases c =
    let e : length c.args.text.now ≡ 0 = cc (c.in-None.ensures.steps.0.0) in
    ap chars (nil_from_length c.args.text.now e) ∙ chars-nil
