use Rattle.kishu_objects_laws.specs.SameLaws.{same_picture, picture_same}
use Rattle.kishu_objects_laws.specs.WholeLaws.{same_whole, whole_same}
use Rattle.kishu_iso.proofs.laws.equal_pictures_tell_same_states.Goals as goal

pub returns-clause-whole : goal.returns-clause-whole
returns-clause-whole c = λ s t a b. (same_whole s t a.sound b.sound a.rise b.rise, whole_same s t a.sound b.sound)

pub returns-clause-names : goal.returns-clause-names
returns-clause-names c = λ s t names a b. (same_picture s t a.sound b.sound names, picture_same s t a.sound b.sound names)
