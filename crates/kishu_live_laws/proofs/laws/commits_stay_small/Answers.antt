use Rattle.kishu_live_laws.specs.AtHead.{stays_small, replay_stays_small}
use Rattle.kishu_live_laws.specs.OnStates.{head_rows}
use Rattle.kishu_live_laws.specs.Outcomes.{when_more}
use Rattle.kishu_live_laws.specs.Small.{told_small, all_small, small_after}
use Rattle.kishu_live_laws.proofs.laws.commits_stay_small.Goals as goal

pub returns-clause-live : goal.returns-clause-live
returns-clause-live c = λ of s g q more. told_small (head_rows of g) s q (when_more of s g q more).small

pub returns-clause-attached : goal.returns-clause-attached
returns-clause-attached c = stays_small

pub returns-clause-replay : goal.returns-clause-replay
returns-clause-replay c = replay_stays_small

pub returns-clause-all : goal.returns-clause-all
returns-clause-all c = λ g q there. small_after g (all_small g.commits there) q
