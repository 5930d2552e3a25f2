use Rattle.std.proofs.Common.{◌≡◌, ◌/◌, ◌%◌, ◌++◌, ◌∙◌, IfOk, rules}
use Rattle.std.proofs.lemmas.Result.{IfOk-weaker}
use Rattle.std.specs.Prelude.{codes, decimal}
use Rattle.std.specs.String.{string_bytes}
use Rattle.kishu_gen.proofs.Texts.{looking-laid}
use Rattle.kishu_gen.proofs.wording.looking_text.Goals as goal

pub returns : goal.returns
returns c =
    let name = decimal (c.args.drawn % 10) in
    let other = decimal (c.args.drawn / 10 % 10) in
    let written : IfOk c.format.result (λ s. string_bytes s ≡ codes "print(v" ++ (name ++ (codes " is v" ++ (other ++ (codes ", len(v" ++ (other ++ codes "))")))))) = search rules in
    IfOk-weaker c.format.result _ _ (λ s is. is ∙ looking-laid name other) written
