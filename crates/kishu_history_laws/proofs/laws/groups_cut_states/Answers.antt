use Rattle.kishu_history_laws.specs.stores.BackLaws.{live_one}
use Rattle.kishu_history.specs.Stored.{Stored}
use Rattle.kishu_history_laws.specs.cells.LeavesLaws.{groups_are_cut}
use Rattle.kishu_history_laws.specs.checkouts.CheckoutLaws.{live_cut, same_by_parts, live_same}
use Rattle.kishu_history_laws.proofs.laws.groups_cut_states.Goals as goal

pub returns-clause-own : goal.returns-clause-own
returns-clause-own c = λ s is. groups_are_cut s is.sound

pub returns-clause-told : goal.returns-clause-told
returns-clause-told c = λ file. live_cut (Stored file)

pub returns-clause-glued : goal.returns-clause-glued
returns-clause-glued c = same_by_parts

pub returns-clause-same : goal.returns-clause-same
returns-clause-same c = λ file t s u is live other cut told. live_same (Stored file) t s u is live other cut told

pub returns-clause-one : goal.returns-clause-one
returns-clause-one c = live_one
