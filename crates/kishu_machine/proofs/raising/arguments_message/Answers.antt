use Rattle.std.proofs.Common.{◌≡◌, ◌++◌, IfOk, refl, rules}
use Rattle.std.specs.Prelude.{codes}
use Rattle.std.specs.String.{string_bytes}
use Rattle.kishu_machine.proofs.Messages.{ok_chars, chars_behind}
use Rattle.kishu_machine.proofs.raising.arguments_message.Goals as goal

pub returns : goal.returns
returns c =
    let h : IfOk c.format.result (λ s. string_bytes s ≡ c.args.name.now ++ codes "() got bad arguments") = search rules in
    ok_chars c.format.result _ _ (chars_behind c.args.name.now (codes "() got bad arguments") c.utf8.name refl) h
