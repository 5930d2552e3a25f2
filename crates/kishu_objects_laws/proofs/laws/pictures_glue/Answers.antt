use Rattle.kishu_objects_laws.specs.SameLaws.{glued}
use Rattle.kishu_objects_laws.proofs.laws.pictures_glue.Goals as goal

pub returns : goal.returns
returns c = λ s t gs a b p q f g e. glued s t a b gs f g e p q
