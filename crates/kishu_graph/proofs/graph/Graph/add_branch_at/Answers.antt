use Rattle.std.specs.Prelude.{option_map}
use Rattle.kishu_store.specs.Graph.{Graph, Target}
use Rattle.kishu_graph.specs.Refusals.{at_commit}
use Rattle.kishu_graph.proofs.Answered.{branched-by, named-by}
use Rattle.kishu_graph.proofs.Changing.{commit-there}
use Rattle.kishu_graph.proofs.graph.Graph.add_branch_at.Goals as goal

pub returns-clause-branched : goal.returns-clause-branched
returns-clause-branched c =
    branched-by c.args.self.now c.branch_from.new.self c.args.name.now c.there-start.result (λ (g : Graph). option_map (λ (t : Target). t.commit) (at_commit c.args.commit g)) c.branch_from.result
    (λ g s. commit-there c.args.self.now g s c.args.commit c.there-start.result c.there-start.ensures)
    c.branch_from.ensures.branched

pub returns-clause-refused : goal.returns-clause-refused
returns-clause-refused c =
    named-by c.args.self.now c.args.name.now c.there-start.result (λ (g : Graph). option_map (λ (t : Target). t.commit) (at_commit c.args.commit g)) c.branch_from.result
    (λ g s. commit-there c.args.self.now g s c.args.commit c.there-start.result c.there-start.ensures)
    c.branch_from.ensures.refused
