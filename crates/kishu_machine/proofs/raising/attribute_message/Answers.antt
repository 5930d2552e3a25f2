use Rattle.std.proofs.Common.{◌≡◌, ◌++◌, IfOk, rules}
use Rattle.std.specs.Prelude.{codes}
use Rattle.std.specs.String.{string_bytes}
use Rattle.kishu_machine.proofs.Messages.{ok_chars, chars_attribute}
use Rattle.kishu_machine.proofs.raising.attribute_message.Goals as goal

pub returns : goal.returns
returns c =
    let kind = c.args.kind.now in
    let name = c.args.name.now in
    let h : IfOk c.format.result (λ s. string_bytes s ≡ codes "'" ++ (kind ++ (codes "' object has no attribute '" ++ (name ++ codes "'")))) = search rules in
    ok_chars c.format.result _ _ (chars_attribute kind name c.utf8.kind c.utf8.name) h
