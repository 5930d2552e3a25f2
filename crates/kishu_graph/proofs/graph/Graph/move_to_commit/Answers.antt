use Rattle.std.proofs.Common.{◌∙◌}
use Rattle.std.specs.Prelude.{option_map}
use Rattle.kishu_store.specs.Graph.{Graph}
use Rattle.kishu_store.specs.Targets.{target_of}
use Rattle.kishu_graph.specs.Refusals.{at_commit}
use Rattle.kishu_graph.proofs.Answered.{moved-by, there-by}
use Rattle.kishu_graph.proofs.Changing.{there-is}
use Rattle.kishu_graph.proofs.graph.Graph.move_to_commit.Goals as goal

pub returns-clause-moved : goal.returns-clause-moved
returns-clause-moved c =
    moved-by c.args.self.now c.stand_at.new.self (option_map target_of c.at_number-target.result) (λ (g : Graph). at_commit c.args.commit g) c.stand_at.result
    (λ g s. c.at_number-target.ensures ∙ there-is c.args.self.now g s c.args.commit c.there.result c.there.ensures)
    c.stand_at.ensures.moved

pub returns-clause-refused : goal.returns-clause-refused
returns-clause-refused c =
    there-by c.args.self.now (option_map target_of c.at_number-target.result) (λ (g : Graph). at_commit c.args.commit g) c.stand_at.result
    (λ g s. c.at_number-target.ensures ∙ there-is c.args.self.now g s c.args.commit c.there.result c.there.ensures)
    c.stand_at.ensures.refused
