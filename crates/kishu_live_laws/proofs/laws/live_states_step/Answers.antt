use Rattle.kishu_live_laws.specs.AtHead.{answer_here, after_here, charge_here, committed_same, stayed_same, others_same}
use Rattle.kishu_live_laws.proofs.laws.live_states_step.Goals as goal

pub returns-clause-answer : goal.returns-clause-answer
returns-clause-answer c = answer_here

pub returns-clause-after : goal.returns-clause-after
returns-clause-after c = after_here

pub returns-clause-charge : goal.returns-clause-charge
returns-clause-charge c = charge_here

pub returns-clause-committed : goal.returns-clause-committed
returns-clause-committed c = committed_same

pub returns-clause-stayed : goal.returns-clause-stayed
returns-clause-stayed c = stayed_same

pub returns-clause-others : goal.returns-clause-others
returns-clause-others c = others_same
