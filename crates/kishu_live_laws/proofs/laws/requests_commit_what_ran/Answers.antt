use Rattle.kishu_live_laws.specs.AtHead.{state_on_sound}
use Rattle.kishu_live_laws.specs.Outcomes.{when_more, when_none, more_state, still_state}
use Rattle.kishu_live_laws.proofs.laws.requests_commit_what_ran.Goals as goal

pub returns-clause-commit : goal.returns-clause-commit
returns-clause-commit c = λ of s g q more. (when_more of s g q more).graph

pub returns-clause-none : goal.returns-clause-none
returns-clause-none c = λ of s g q none. (when_none of s g q none).commits

pub returns-clause-left : goal.returns-clause-left
returns-clause-left c = λ of s g q more. more_state of s g q (when_more of s g q more)

pub returns-clause-stays : goal.returns-clause-stays
returns-clause-stays c = λ of s g q none. still_state of s g q (when_none of s g q none)

pub returns-clause-head : goal.returns-clause-head
returns-clause-head c = λ of s g q other none. (when_none of s g q none).head other

pub returns-clause-sound : goal.returns-clause-sound
returns-clause-sound c = state_on_sound
