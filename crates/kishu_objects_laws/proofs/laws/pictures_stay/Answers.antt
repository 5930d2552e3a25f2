use Rattle.kishu_objects_laws.specs.SameLaws.{kept_picture}
use Rattle.kishu_objects_laws.proofs.laws.pictures_stay.Goals as goal

pub returns : goal.returns
returns c = λ s t names a b f g. kept_picture s t a b names f g
