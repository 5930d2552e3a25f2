use Rattle.kishu_history_laws.specs.cells.AccessLaws.{holds_same, untouched_same, touched_same, classes_same, dropped_same, stored_same, size_same, change_same}
use Rattle.kishu_history_laws.proofs.laws.accesses_are_sets.Goals as goal

pub returns-clause-holds : goal.returns-clause-holds
returns-clause-holds c = holds_same

pub returns-clause-untouched : goal.returns-clause-untouched
returns-clause-untouched c = untouched_same

pub returns-clause-touched : goal.returns-clause-touched
returns-clause-touched c = touched_same

pub returns-clause-classes : goal.returns-clause-classes
returns-clause-classes c = classes_same

pub returns-clause-dropped : goal.returns-clause-dropped
returns-clause-dropped c = dropped_same

pub returns-clause-stored : goal.returns-clause-stored
returns-clause-stored c = stored_same

pub returns-clause-size : goal.returns-clause-size
returns-clause-size c = size_same

pub returns-clause-change : goal.returns-clause-change
returns-clause-change c = change_same
