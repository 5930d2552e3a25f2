use Rattle.kishu_methods.proofs.TextEnds.{back_is}
use Rattle.kishu_methods.proofs.parts.ends_with.Goals as goal

pub returns : goal.returns
returns c = back_is c.ends_with.result c.args.part.now c.args.text.now c.utf8.part c.utf8.text c.ends_with.ensures.cases
