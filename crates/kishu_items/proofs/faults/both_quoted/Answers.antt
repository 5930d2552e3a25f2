use Rattle.std.proofs.Common.{◌≡◌, ◌++◌, IfOk, rules}
use Rattle.std.specs.Prelude.{codes}
use Rattle.std.specs.String.{string_bytes}
use Rattle.kishu_items.specs.Messages.{ok_chars, chars_operands}
use Rattle.kishu_items.proofs.faults.both_quoted.Goals as goal

pub returns : goal.returns
returns c =
    let sign = c.args.front.now in
    let left = c.args.left.now in
    let right = c.args.right.now in
    let h : IfOk c.format.result (λ s. string_bytes s ≡ codes "bad operand types for " ++ (sign ++ (codes ": '" ++ (left ++ (codes "' and '" ++ (right ++ codes "'")))))) = search rules in
    ok_chars c.format.result _ _ (chars_operands sign left right c.requires c.utf8.left c.utf8.right) h
