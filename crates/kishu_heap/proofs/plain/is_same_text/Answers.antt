use Rattle.std.proofs.Common.{◌∙◌}
use Rattle.kishu_meaning.specs.values.KeyLaws.{same_text}
use Rattle.kishu_heap.proofs.plain.is_same_text.Goals as goal

pub returns : goal.returns
returns c = c.eq.ensures ∙ same_text c.args.a.now c.args.b.now c.utf8.a c.utf8.b
