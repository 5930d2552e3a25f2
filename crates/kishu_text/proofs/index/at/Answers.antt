use Rattle.std.proofs.Common.{◌≡◌, ◌∙◌, refl, ℕ, Option, Some, None, option_map}
use Rattle.std.proofs.lemmas.Iterator.{YieldsList-from_chars}
use Rattle.std.proofs.lemmas.Iterator.Consumers.{nth_from_yields_List}
use Rattle.kishu_text.proofs.index.at.Goals as goal

as_it_is : (o : Option ℕ) → o ≡ option_map (λ (c : ℕ). c) o
as_it_is None = refl
as_it_is (Some c) = refl

pub returns : goal.returns
returns c =
    as_it_is c.nth.result ∙ nth_from_yields_List c.nth.result c.nth.new.self c.args.i c.nth.ensures.ran (YieldsList-from_chars c.args.text.now c.utf8.text c.chars.ensures.rest)
