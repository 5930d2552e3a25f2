use Rattle.std.proofs.Common.{◌∙◌, ap}
use Rattle.kishu_graph.specs.Kept.{branches_of}
use Rattle.kishu_graph.proofs.Named.{puts}
use Rattle.kishu_graph.proofs.branches.put.Goals as goal

pub returns-clause-ok : goal.returns-clause-ok
returns-clause-ok c = ap branches_of c.in_ok-insert.ensures.entries ∙ puts c.args.name c.args.commit c.args.branches.now.entries
