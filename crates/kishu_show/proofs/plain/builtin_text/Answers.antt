use Rattle.std.proofs.Common.{◌≡◌, ◌++◌, IfOk, rules, append_assoc}
use Rattle.std.specs.Prelude.{codes}
use Rattle.std.specs.String.{string_bytes}
use Rattle.kishu_meaning.specs.comparing.Show.{builtin_name}
use Rattle.kishu_show.proofs.Ascii.{ok_ascii, builtin-IsAscii}
use Rattle.kishu_show.proofs.plain.builtin_text.Goals as goal

pub returns : goal.returns
returns c =
    let h : IfOk c.format.result (λ s. string_bytes s ≡ codes "<built-in function " ++ builtin_name c.args.builtin.0 ++ codes ">") = search (rules, append_assoc) in
    ok_ascii c.format.result _ (builtin-IsAscii c.args.builtin.0) h
