use Rattle.kishu_objects_laws.specs.SameLaws.{same_fewer, same_self, same_turned, same_joined}
use Rattle.kishu_iso.proofs.laws.sameness_goes_on.Goals as goal

pub returns-clause-itself : goal.returns-clause-itself
returns-clause-itself c = λ s. same_self _ s

pub returns-clause-back : goal.returns-clause-back
returns-clause-back c = λ s t. same_turned _ s t

pub returns-clause-on : goal.returns-clause-on
returns-clause-on c = λ s t u. same_joined _ s t u

pub returns-clause-names_itself : goal.returns-clause-names_itself
returns-clause-names_itself c = λ s names. same_self _ s

pub returns-clause-names_back : goal.returns-clause-names_back
returns-clause-names_back c = λ s t names. same_turned _ s t

pub returns-clause-names_on : goal.returns-clause-names_on
returns-clause-names_on c = λ s t u names. same_joined _ s t u

pub returns-clause-fewer : goal.returns-clause-fewer
returns-clause-fewer c = λ s t names. same_fewer _ _ s t (λ x m. tt)
