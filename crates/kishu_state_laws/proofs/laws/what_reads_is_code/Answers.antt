use Rattle.kishu_state_laws.specs.Codes.{code_of_read}
use Rattle.kishu_state_laws.proofs.laws.what_reads_is_code.Goals as goal

pub returns : goal.returns
returns c = code_of_read
