use Rattle.kishu_methods.proofs.TextEnds.{front_is}
use Rattle.kishu_methods.proofs.parts.begins_with.Goals as goal

pub returns : goal.returns
returns c = front_is c.starts_with.result c.args.part.now c.args.text.now c.utf8.part c.utf8.text c.starts_with.ensures.cases
