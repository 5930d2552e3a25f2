use Rattle.kishu_objects_laws.specs.WholeLaws.{same_whole, whole_same}
use Rattle.kishu_objects_laws.proofs.laws.pictures_tell_all.Goals as goal

pub returns : goal.returns
returns c = λ s t a b p q. (same_whole s t a b p q, whole_same s t a b)
