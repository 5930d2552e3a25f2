use Rattle.kishu_reading_laws.specs.PlaceLaws.{fault_lies_inside, fault_goes_on}
use Rattle.kishu_reading_laws.proofs.laws.faults_lie_inside.Goals as goal

pub returns-clause-place : goal.returns-clause-place
returns-clause-place c = fault_lies_inside

pub returns-clause-left : goal.returns-clause-left
returns-clause-left c = fault_goes_on
