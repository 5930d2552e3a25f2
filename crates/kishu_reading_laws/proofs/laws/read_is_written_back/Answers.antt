use Rattle.kishu_reading_laws.specs.PictureLaws.{read_back}
use Rattle.kishu_reading_laws.proofs.laws.read_is_written_back.Goals as goal

pub returns : goal.returns
returns c = read_back
