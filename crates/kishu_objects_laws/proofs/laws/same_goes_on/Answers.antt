use Rattle.kishu_objects_laws.specs.SameLaws.{same_self, same_turned, same_joined}
use Rattle.kishu_objects_laws.proofs.laws.same_goes_on.Goals as goal

pub returns-clause-itself : goal.returns-clause-itself
returns-clause-itself c = λ s names. same_self _ s

pub returns-clause-back : goal.returns-clause-back
returns-clause-back c = λ s t names. same_turned _ s t

pub returns-clause-on : goal.returns-clause-on
returns-clause-on c = λ s t u names. same_joined _ s t u
