use Rattle.kishu_objects_laws.specs.SameLaws.{same_picture, picture_same}
use Rattle.kishu_objects_laws.proofs.laws.pictures_tell.Goals as goal

pub returns : goal.returns
returns c = λ s t names a b. (same_picture s t a b names, picture_same s t a b names)
