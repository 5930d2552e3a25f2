use Rattle.std.proofs.Common.{rules}
use mathlib.Core.List.{append_assoc}
use Rattle.kishu_gen.proofs.wording.sharing_text.Goals as goal

pub returns : goal.returns
returns c = search (rules, append_assoc)
