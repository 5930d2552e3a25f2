use Rattle.std.proofs.Common.{◌∙◌}
use Rattle.kishu_graph.proofs.Named.{finds}
use Rattle.kishu_graph.proofs.branches.commit_of.Goals as goal

pub returns : goal.returns
returns c = c.copied.ensures ∙ c.get.ensures.value ∙ finds c.args.name.now c.args.branches.now.entries
