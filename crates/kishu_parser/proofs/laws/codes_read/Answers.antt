use Rattle.kishu_language_laws.specs.codes.CodeLaws as laws
use Rattle.kishu_parser.proofs.laws.codes_read.Goals as goal

pub returns : goal.returns
returns c = laws.codes_read
