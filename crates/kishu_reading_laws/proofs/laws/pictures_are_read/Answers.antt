use Rattle.kishu_reading_laws.specs.PictureLaws.{read_tells, read_finds}
use Rattle.kishu_reading_laws.proofs.laws.pictures_are_read.Goals as goal

pub returns-clause-told : goal.returns-clause-told
returns-clause-told c = read_tells

pub returns-clause-found : goal.returns-clause-found
returns-clause-found c = read_finds
