use Rattle.std.proofs.Common.{◌≡◌, ◌++◌, OnOk, map, subst, sym}
use Rattle.std.specs.Prelude.{codes}
use Rattle.std.specs.Str.{chars}
use Rattle.std.specs.String.{string_bytes}
use Rattle.std.proofs.lemmas.List.{append-nil}
use Rattle.kishu_meaning.specs.values.Keys.{part_of}
use Rattle.kishu_meaning.specs.comparing.Show.{part_text}
use Rattle.kishu_meaning.specs.values.Texts.{joined}
use Rattle.kishu_show.proofs.Joins.{empty_when, joined_more}
use Rattle.kishu_show.proofs.keys.push_parts.Goals as goal

pub returns-in_default : goal.returns-in_default
returns-in_default c =
    let old = chars (string_bytes c.args.out.now) in
    subst (λ ps. old ≡ old ++ joined (codes ", ") (map part_text (map part_of ps))) (sym (empty_when c.args.parts.now c.in_default.ensures.cases)) (sym (append-nil old))

pub returns : goal.returns
returns c =
    let old = chars (string_bytes c.args.out.now) in
    let new = chars (string_bytes c.push_others.new.out) in
    subst (λ ps. OnOk c.push_others.result (new ≡ old ++ joined (codes ", ") (map part_text (map part_of ps)))) (sym c.in-Some.ensures.cases.0)
    (joined_more c.push_others.result new (chars (string_bytes c.push_part.new.out)) old (part_text (part_of c.in-Some.first.now)) (map part_text (map part_of c.in-Some.others.now)) c.in_ok-push_part.ensures c.push_others.ensures)
