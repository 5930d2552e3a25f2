use Rattle.kishu_reading_laws.specs.OwnLaws.{picture_in_order, picture_known, picture_of_names}
use Rattle.kishu_reading_laws.proofs.laws.pictures_are_of_names.Goals as goal

pub returns-clause-order : goal.returns-clause-order
returns-clause-order c = picture_in_order

pub returns-clause-known : goal.returns-clause-known
returns-clause-known c = picture_known

pub returns-clause-names : goal.returns-clause-names
returns-clause-names c = picture_of_names
