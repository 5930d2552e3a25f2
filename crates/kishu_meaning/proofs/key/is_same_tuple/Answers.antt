use Rattle.std.proofs.Common.{◌∙◌, sym}
use Rattle.kishu_meaning.specs.values.KeyLaws.{pointwise_of}
use Rattle.kishu_meaning.proofs.key.is_same_tuple.Goals as goal

pub returns : goal.returns
returns c = c.eq.ensures ∙ sym (pointwise_of c.args.a.now c.args.b.now)
