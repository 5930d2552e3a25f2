use Rattle.kishu_history_laws.specs.Choices.{one_of_decides}
use Rattle.kishu_history_laws.specs.states.AlikeLaws.{state_decides}
use Rattle.kishu_history_laws.specs.versions.EarliestLaws.{stands_tells}
use Rattle.kishu_history_laws.proofs.laws.tests_decide.Goals as goal
use Rattle.kishu_history_laws.specs.tables.RecordLaws.{bytes_test}

pub returns-clause-states : goal.returns-clause-states
returns-clause-states c = state_decides

pub returns-clause-groups : goal.returns-clause-groups
returns-clause-groups c = one_of_decides

pub returns-clause-stands : goal.returns-clause-stands
returns-clause-stands c = stands_tells

pub returns-clause-bytes : goal.returns-clause-bytes
returns-clause-bytes c = bytes_test
