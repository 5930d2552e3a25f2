use Rattle.kishu_history_laws.specs.checkouts.PlaceLaws.{carried_grow}
use Rattle.kishu_history.specs.Stored.{Stored}
use Rattle.kishu_history_laws.specs.checkouts.AnewLaws.{anew}
use Rattle.kishu_history_laws.specs.checkouts.CheckoutLaws.{carried_live}
use Rattle.kishu_history_laws.specs.checkouts.PlaceLaws.{carried_nodes, carried_names, carried_others}
use Rattle.kishu_history_laws.specs.stores.StoreLaws.{live_still, empty_live}
use Rattle.kishu_history_laws.proofs.laws.checkouts_stay_live.Goals as goal

pub returns-clause-live : goal.returns-clause-live
returns-clause-live c = λ file. carried_live (Stored file)

pub returns-clause-nodes : goal.returns-clause-nodes
returns-clause-nodes c = carried_nodes

pub returns-clause-names : goal.returns-clause-names
returns-clause-names c = λ file. carried_names (Stored file)

pub returns-clause-others : goal.returns-clause-others
returns-clause-others c = λ file. carried_others (Stored file)

pub returns-clause-anew : goal.returns-clause-anew
returns-clause-anew c = λ file. anew (Stored file)

pub returns-clause-grown : goal.returns-clause-grown
returns-clause-grown c = live_still

pub returns-clause-new : goal.returns-clause-new
returns-clause-new c = λ file. empty_live (Stored file)

pub returns-clause-many : goal.returns-clause-many
returns-clause-many c = carried_grow
