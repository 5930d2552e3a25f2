use Rattle.std.proofs.Common.{◌+◌, ◌≤◌, OnOk, length, subst}
use Rattle.kishu_meaning.specs.comparing.Show.{made}
use Rattle.kishu_show.specs.Shown.{Makes, onto}
use Rattle.kishu_show.proofs.Ascii.{chars-plain}
use Rattle.kishu_show.proofs.draft.push_mark.Goals as goal

pub returns-clause-gives : goal.returns-clause-gives
returns-clause-gives g c =
    subst (λ cs. Makes c.push_made.result c.push_made.new.draft (onto c.args.draft.now (made cs))) (chars-plain c.args.mark.now c.requires) c.push_made.ensures.gives

pub returns-clause-taken : goal.returns-clause-taken
returns-clause-taken g c =
    subst (λ cs. OnOk c.push_made.result (c.push_made.new.draft.left + length cs ≤ c.args.draft.now.left)) (chars-plain c.args.mark.now c.requires) c.push_made.ensures.taken
