use Rattle.std.proofs.Common.{◌∙◌, ap, subst}
use Rattle.std.specs.Str.{chars}
use Rattle.kishu_meaning.specs.comparing.Show.{made}
use Rattle.kishu_show.specs.Shown.{Makes, onto}
use Rattle.kishu_show.proofs.reprs.push_again.Goals as goal

pub returns-clause-gives : goal.returns-clause-gives
returns-clause-gives g c =
    subst (λ cs. Makes c.push_made.result c.push_made.new.draft (onto c.args.draft.now (made cs))) (ap chars c.as_str.ensures.value ∙ c.in_ok-text.ensures) c.push_made.ensures.gives
