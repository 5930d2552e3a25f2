use Rattle.kishu_objects_laws.specs.ListedLaws.{picture_rise}
use Rattle.kishu_objects_laws.specs.OwnPictureLaws.{picture_sound}
use Rattle.kishu_objects_laws.specs.OwnPictureLaws.{picture_like, picture_again}
use Rattle.kishu_objects_laws.proofs.laws.pictures_are_their_own.Goals as goal

pub returns-clause-same : goal.returns-clause-same
returns-clause-same c = λ s names a. picture_like s a names

pub returns-clause-again : goal.returns-clause-again
returns-clause-again c = λ s names a. picture_again s a names

pub returns-clause-sound : goal.returns-clause-sound
returns-clause-sound c = λ s names is. picture_sound s is names

pub returns-clause-rise : goal.returns-clause-rise
returns-clause-rise c = picture_rise
