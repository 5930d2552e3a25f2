use Rattle.kishu_objects_laws.specs.ListLaws.{contains_in}
use Rattle.kishu_objects_laws.specs.LoadingLaws.{loaded_others, pictured_same, nodes_stay, nodes_more}
use Rattle.kishu_iso.proofs.Telling.{loaded_bytes}
use Rattle.kishu_iso.proofs.laws.loads_bring_the_same_back.Goals as goal

pub returns-clause-same : goal.returns-clause-same
returns-clause-same c = λ s t names a rise there. pictured_same s t a.sound names rise (λ x m. there x (contains_in names x m))

pub returns-clause-bytes : goal.returns-clause-bytes
returns-clause-bytes c = loaded_bytes

pub returns-clause-others : goal.returns-clause-others
returns-clause-others c = λ s p a. loaded_others s p a.sound a.rise

pub returns-clause-nodes : goal.returns-clause-nodes
returns-clause-nodes c = nodes_stay

pub returns-clause-more : goal.returns-clause-more
returns-clause-more c = nodes_more
