use Rattle.std.proofs.Common.{rules}
use Rattle.std.proofs.lemmas.Str.{chars-nil}
use Rattle.kishu_items.proofs.sorting.text_key.Goals as goal

pub returns-in-None : goal.returns-in-None
returns-in-None c = search (rules, chars-nil)
