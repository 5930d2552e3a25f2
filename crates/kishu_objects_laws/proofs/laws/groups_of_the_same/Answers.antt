use Rattle.kishu_objects_laws.specs.GroupLaws.{groups_same}
use Rattle.kishu_objects_laws.proofs.laws.groups_of_the_same.Goals as goal

pub returns : goal.returns
returns c = λ s t of a b h. groups_same s t a b of h
