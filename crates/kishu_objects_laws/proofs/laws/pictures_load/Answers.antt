use Rattle.kishu_objects_laws.specs.LoadingLaws.{loaded_same, loaded_others, pictured_same, nodes_stay, nodes_more}
use Rattle.kishu_objects_laws.proofs.laws.pictures_load.Goals as goal

pub returns-clause-same : goal.returns-clause-same
returns-clause-same c = loaded_same

pub returns-clause-others : goal.returns-clause-others
returns-clause-others c = loaded_others

pub returns-clause-pictured : goal.returns-clause-pictured
returns-clause-pictured c = λ s t names a rise there. pictured_same s t a names rise there

pub returns-clause-nodes : goal.returns-clause-nodes
returns-clause-nodes c = nodes_stay

pub returns-clause-more : goal.returns-clause-more
returns-clause-more c = nodes_more
