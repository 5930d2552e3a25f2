use Rattle.std.proofs.Common.{◌≡◌, ◌∙◌, ◌++◌, ap, IfOk, rules}
use Rattle.std.specs.String.{string_bytes}
use Rattle.kishu_items.specs.Messages.{ok_chars, chars_behind, chars-plain}
use Rattle.kishu_items.proofs.faults.joined.Goals as goal

pub returns : goal.returns
returns c =
    let front = c.args.front.now in
    let back = c.args.back.now in
    let h : IfOk c.format.result (λ s. string_bytes s ≡ front ++ back) = search rules in
    ok_chars c.format.result _ _ (chars_behind front back c.utf8.front c.requires.back ∙ ap (λ x. x ++ back) (chars-plain front c.requires.front)) h
