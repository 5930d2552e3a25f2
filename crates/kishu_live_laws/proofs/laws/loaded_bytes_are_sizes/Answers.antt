use Rattle.kishu_live_laws.specs.LoadedBytes.{moved_bytes, opened_bytes}
use Rattle.kishu_live_laws.proofs.laws.loaded_bytes_are_sizes.Goals as goal

pub returns-clause-moved : goal.returns-clause-moved
returns-clause-moved c = moved_bytes

pub returns-clause-opened : goal.returns-clause-opened
returns-clause-opened c = opened_bytes
