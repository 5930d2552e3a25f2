use Rattle.kishu_objects.specs.Picture.{listed}
use Rattle.kishu_objects_laws.specs.NameLaws.{listed_found}
use Rattle.kishu_objects_laws.specs.OwnPictureLaws.{picture_whole}
use Rattle.kishu_objects_laws.specs.ReadingLaws.{in_order}
use Rattle.kishu_objects_laws.proofs.laws.pictures_read_in_order.Goals as goal

pub returns-clause-order : goal.returns-clause-order
returns-clause-order c = in_order

pub returns-clause-picture : goal.returns-clause-picture
returns-clause-picture c = λ s a. picture_whole s a (listed s) (λ x m. listed_found s.names x m)
