use Rattle.std.proofs.Common.{◌≡◌, ◌++◌, IfOk, rules}
use Rattle.std.specs.Prelude.{codes}
use Rattle.std.specs.String.{string_bytes}
use Rattle.kishu_machine.proofs.Messages.{ok_chars, chars_quoted}
use Rattle.kishu_machine.proofs.raising.framed.Goals as goal

pub returns : goal.returns
returns c =
    let front = c.args.front.now in
    let name = c.args.name.now in
    let back = c.args.back.now in
    let h : IfOk c.format.result (λ s. string_bytes s ≡ front ++ (codes "'" ++ (name ++ (codes "'" ++ back)))) = search rules in
    ok_chars c.format.result _ _ (chars_quoted front name back c.requires.front c.utf8.name c.requires.back) h
