use Rattle.std.proofs.Common.{◌∙◌, ap, sym, Some, None}
use Rattle.std.specs.Str.{chars}
use Rattle.kishu_text.proofs.Cuts.{first_place-is}
use Rattle.kishu_text.proofs.search.find.Goals as goal

pub returns-in-Some-clause-first : goal.returns-in-Some-clause-first
returns-in-Some-clause-first c = first_place-is (chars c.args.part.now) (chars c.args.text.now) (Some c.count.result) (ap Some c.count.ensures ∙ sym c.in-Some.ensures.place)

pub returns-in-None-clause-first : goal.returns-in-None-clause-first
returns-in-None-clause-first c = first_place-is (chars c.args.part.now) (chars c.args.text.now) None (sym c.in-None.ensures.place)
