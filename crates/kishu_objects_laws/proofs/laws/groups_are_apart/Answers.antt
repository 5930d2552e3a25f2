use Rattle.kishu_objects.specs.Picture.{listed}
use Rattle.kishu_objects_laws.specs.NameLaws.{rise_differ}
use Rattle.kishu_objects_laws.specs.GroupLaws.{groups_apart}
use Rattle.kishu_objects_laws.proofs.laws.groups_are_apart.Goals as goal

pub returns-clause-all : goal.returns-clause-all
returns-clause-all c = λ s a rise. groups_apart s a (listed s) (rise_differ (listed s) rise)

pub returns-clause-some : goal.returns-clause-some
returns-clause-some c = λ s of a d. groups_apart s a of d
