use Rattle.kishu_state_laws.specs.Fitting.{same_in_bytes}
use Rattle.kishu_iso.proofs.Telling.{names_in_bytes}
use Rattle.kishu_iso.proofs.laws.equal_bytes_tell_same_states.Goals as goal

pub returns-clause-whole : goal.returns-clause-whole
returns-clause-whole c = same_in_bytes

pub returns-clause-names : goal.returns-clause-names
returns-clause-names c = names_in_bytes
