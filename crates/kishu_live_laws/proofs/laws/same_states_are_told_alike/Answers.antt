use Rattle.kishu_live_laws.specs.CellsAlike.{large_alike, refused_alike, told_alike, names_alike}
use Rattle.kishu_live_laws.proofs.laws.same_states_are_told_alike.Goals as goal

pub returns-clause-large : goal.returns-clause-large
returns-clause-large c = large_alike

pub returns-clause-refusal : goal.returns-clause-refusal
returns-clause-refusal c = refused_alike

pub returns-clause-told : goal.returns-clause-told
returns-clause-told c = told_alike

pub returns-clause-names : goal.returns-clause-names
returns-clause-names c = names_alike
