use Rattle.std.proofs.Common.{◌∙◌, subst}
use Rattle.kishu_meaning.specs.comparing.Show.{made}
use Rattle.kishu_meaning.specs.values.Values.{value_of}
use Rattle.kishu_show.specs.Shown.{Makes, onto}
use Rattle.kishu_show.proofs.Joins.{ending}
use Rattle.kishu_show.proofs.reprs.push_tuple_end.Goals as goal

pub returns-clause-gives : goal.returns-clause-gives
returns-clause-gives g c =
    subst (λ cs. Makes c.push_mark.result c.push_mark.new.draft (onto c.args.draft.now (made cs))) (c.tuple_end.ensures.text ∙ ending value_of c.args.items.now) c.push_mark.ensures.gives
