use Rattle.std.proofs.Common.{◌∷◌, ◌∙◌, ap, sym}
use Rattle.kishu_record.proofs.Heads.{some_goal}
use Rattle.kishu_record.proofs.reader.goal_of.Goals as goal

pub returns-in_default-clause-none : goal.returns-in_default-clause-none
returns-in_default-clause-none c same e k is = some_goal e (ap (λ l. 2 ∷ l) (sym (c.byte.ensures.none c.in_default.is)) ∙ is)
