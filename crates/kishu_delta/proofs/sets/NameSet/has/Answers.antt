use Rattle.std.proofs.Common.{◌∙◌, ℕ, List, ap}
use Rattle.kishu_language.specs.tokens.Names.{is_among}
use Rattle.kishu_delta.proofs.Keys.{among_texts}
use Rattle.kishu_delta.proofs.sets.NameSet.has.Goals as goal

pub returns : goal.returns
returns c = c.contains.ensures ∙ among_texts c.args.name.now c.self.inside.names.keys ∙ ap (λ (xs : List (List ℕ)). is_among c.args.name.now xs) c.self.view_is
