use Rattle.kishu_language_laws.specs.reading.Enough.{enough_turns, fault_token}
use Rattle.kishu_language_laws.proofs.laws.reading_meets_no_default.Goals as goal

pub returns-clause-turns : goal.returns-clause-turns
returns-clause-turns c = enough_turns

pub returns-clause-fault : goal.returns-clause-fault
returns-clause-fault c = fault_token
