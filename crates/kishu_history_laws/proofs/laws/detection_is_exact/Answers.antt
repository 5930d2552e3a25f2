use Rattle.kishu_history_laws.specs.cells.TouchLaws.{dropped_exact, stored_exact, group_kept}
use Rattle.kishu_history_laws.proofs.laws.detection_is_exact.Goals as goal
use Rattle.kishu_history_laws.specs.tables.SplitLaws.{classes_split, split_classes, not_twice}

pub returns-clause-dropped : goal.returns-clause-dropped
returns-clause-dropped c = λ gs pic accessed s is kept. dropped_exact gs pic accessed s is.sound kept

pub returns-clause-stored : goal.returns-clause-stored
returns-clause-stored c = λ gs pic accessed s is kept. stored_exact gs pic accessed s is.sound kept

pub returns-clause-kept : goal.returns-clause-kept
returns-clause-kept c = λ gs pic accessed s is kept. group_kept gs pic accessed s is.sound kept

pub returns-clause-split : goal.returns-clause-split
returns-clause-split c = λ gs accessed s same is rise one g. (classes_split gs rise one accessed s is same g, split_classes gs rise one accessed s is same g)

pub returns-clause-apart : goal.returns-clause-apart
returns-clause-apart c = λ gs accessed s same is rise one g. not_twice gs rise one accessed s is same g
