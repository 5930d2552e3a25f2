use Rattle.kishu_live_laws.specs.GraphsAlike.{graphs_refuse_alike}
use Rattle.kishu_live_laws.specs.RefusalLaws.{refuses_alike, refuses_as_step, refused_stays, refused_large, graph_refusal_stays}
use Rattle.kishu_live_laws.proofs.laws.refusals_change_nothing.Goals as goal

pub returns-clause-alike : goal.returns-clause-alike
returns-clause-alike c = refuses_alike

pub returns-clause-step : goal.returns-clause-step
returns-clause-step c = refuses_as_step

pub returns-clause-stays : goal.returns-clause-stays
returns-clause-stays c = refused_stays

pub returns-clause-large : goal.returns-clause-large
returns-clause-large c = refused_large

pub returns-clause-graphs : goal.returns-clause-graphs
returns-clause-graphs c = graphs_refuse_alike

pub returns-clause-unchanged : goal.returns-clause-unchanged
returns-clause-unchanged c = graph_refusal_stays
