use Rattle.std.proofs.Common.{◌≡◌, ◌++◌, IfOk, rules, append_assoc}
use Rattle.std.specs.Prelude.{codes}
use Rattle.std.specs.String.{string_bytes}
use Rattle.kishu_meaning.specs.comparing.Show.{class_name}
use Rattle.kishu_show.proofs.Ascii.{ok_ascii, class-IsAscii}
use Rattle.kishu_show.proofs.plain.class_text.Goals as goal

pub returns : goal.returns
returns c =
    let h : IfOk c.format.result (λ s. string_bytes s ≡ codes "<class '" ++ class_name c.args.class.0 ++ codes "'>") = search (rules, append_assoc) in
    ok_ascii c.format.result _ (class-IsAscii c.args.class.0) h
