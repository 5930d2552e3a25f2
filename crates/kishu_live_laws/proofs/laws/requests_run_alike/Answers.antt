use Rattle.kishu_live_laws.specs.SameRequests.{after_same, answer_same, charge_same, left_size_same, ran_by_same, state_on_same}
use Rattle.kishu_live_laws.proofs.laws.requests_run_alike.Goals as goal

pub returns-clause-ran : goal.returns-clause-ran
returns-clause-ran c = λ s t here there same rows q. ran_by_same s t here there same rows q

pub returns-clause-size : goal.returns-clause-size
returns-clause-size c = λ s t here there same rows texts. left_size_same s t here there same rows texts

pub returns-clause-answer : goal.returns-clause-answer
returns-clause-answer c = λ of s t here there same g q. answer_same s t here there same of g q

pub returns-clause-after : goal.returns-clause-after
returns-clause-after c = λ of s t here there same g q. after_same s t here there same of g q

pub returns-clause-charge : goal.returns-clause-charge
returns-clause-charge c = λ of s t here there same g q. charge_same s t here there same of g q

pub returns-clause-left : goal.returns-clause-left
returns-clause-left c = λ of s t here there same g q. state_on_same s t here there same of g q
