use Rattle.kishu_history_laws.specs.stores.ReplayLaws.{cell_drops, cell_stores}
use Rattle.kishu_history_laws.proofs.laws.commits_are_told.Goals as goal

pub returns-clause-dropped : goal.returns-clause-dropped
returns-clause-dropped c = λ ks k t s u accessed states falls right here there before after leaves. cell_drops ks k states falls t right s u here there before after accessed leaves

pub returns-clause-stored : goal.returns-clause-stored
returns-clause-stored c = λ ks k t s u accessed states falls right here there before after leaves. cell_stores ks k states falls t right s u here there before after accessed leaves
