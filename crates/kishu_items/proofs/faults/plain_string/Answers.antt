use Rattle.kishu_items.specs.Messages.{ok_plain}
use Rattle.kishu_items.proofs.faults.plain_string.Goals as goal

pub returns : goal.returns
returns c = ok_plain c.from_str.result c.args.text.now c.requires c.from_str.ensures.ok
