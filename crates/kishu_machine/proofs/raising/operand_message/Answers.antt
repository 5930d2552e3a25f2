use Rattle.std.proofs.Common.{◌≡◌, ◌++◌, IfOk, rules}
use Rattle.std.specs.Prelude.{codes}
use Rattle.std.specs.String.{string_bytes}
use Rattle.kishu_machine.proofs.Messages.{ok_chars, chars_operand}
use Rattle.kishu_machine.proofs.raising.operand_message.Goals as goal

pub returns : goal.returns
returns c =
    let sign = c.args.sign.now in
    let kind = c.args.kind.now in
    let h : IfOk c.format.result (λ s. string_bytes s ≡ codes "bad operand type for " ++ (sign ++ (codes ": '" ++ (kind ++ codes "'")))) = search rules in
    ok_chars c.format.result _ _ (chars_operand sign kind c.requires c.utf8.kind) h
