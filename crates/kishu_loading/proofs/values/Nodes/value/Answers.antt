use Rattle.std.proofs.Common.{◌+◌}
use Rattle.kishu_loading.specs.Moving.{top}
use Rattle.kishu_loading.proofs.values.Nodes.value.Goals as goal

pub returns-in-5-clause-sound : goal.returns-in-5-clause-sound
returns-in-5-clause-sound c = c.range.ensures.sound (top c.args.self.now.base c.args.self.now.count)

pub returns-in-5-clause-met : goal.returns-in-5-clause-met
returns-in-5-clause-met c = c.range.ensures.sound (c.args.self.now.base + c.range.new.cursor.met)
