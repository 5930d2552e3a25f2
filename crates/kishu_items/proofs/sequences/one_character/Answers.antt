use Rattle.std.proofs.Common.{◌∙◌, ◌++◌, ◌∷◌, [], ap}
use Rattle.std.specs.Str.{chars}
use Rattle.std.proofs.lemmas.Str.{chars-nil}
use Rattle.kishu_items.proofs.sequences.one_character.Goals as goal

pub returns : goal.returns
returns c = c.in_ok-push_char.ensures ∙ ap (λ x. x ++ c.args.c ∷ []) (ap chars c.new-text.ensures.bytes ∙ chars-nil)
