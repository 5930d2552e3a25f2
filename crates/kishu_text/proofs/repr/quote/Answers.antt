use Rattle.std.proofs.Common.{◌∙◌, ap, List, ℕ, [], ◌∷◌, ◌++◌, flat_map}
use Rattle.std.specs.Str.{chars}
use Rattle.std.proofs.lemmas.Str.{chars-nil}
use Rattle.kishu_meaning.specs.values.Texts.{escaped}
use Rattle.kishu_text.proofs.repr.quote.Goals as goal

pub loop-c-init : goal.loop-c-init
loop-c-init c =
    let quote = c.quote_of-quote.result in
    (c.utf8.text, ap (λ (x : List ℕ). x ++ flat_map (escaped quote) (chars c.args.text.now)) (c.in_ok-push_char.ensures ∙ ap (λ (x : List ℕ). x ++ quote ∷ []) (ap chars c.new-out.ensures.bytes ∙ chars-nil)))
