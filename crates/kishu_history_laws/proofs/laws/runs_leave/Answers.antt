use Rattle.kishu_history_laws.specs.cells.InsideLaws.{outside_stays}
use Rattle.kishu_history_laws.specs.cells.JoinedLaws.{leaves_more, leaves_both}
use Rattle.kishu_history_laws.proofs.laws.runs_leave.Goals as goal

pub returns-clause-outside : goal.returns-clause-outside
returns-clause-outside c = λ accessed s t is. outside_stays accessed s t is.sound

pub returns-clause-more : goal.returns-clause-more
returns-clause-more c = λ a b s t is leaves more. leaves_more a b s t is.sound leaves more

pub returns-clause-both : goal.returns-clause-both
returns-clause-both c = λ a b s t u is it first second. leaves_both a b s t u is.sound it.sound first second
