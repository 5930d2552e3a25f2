use Rattle.std.proofs.Common.{map, sym, ◌∙◌, ap}
use Rattle.std.specs.Prelude.{option_map}
use Rattle.kishu_store.specs.Targets.{target_of}
use Rattle.kishu_graph.specs.Kept.{texts_of}
use Rattle.kishu_model.specs.Values.{answer_of}
use Rattle.kishu_session.proofs.StoredFacts.{stored-leads}
use Rattle.kishu_session.proofs.head.Head.stored.Goals as goal

pub returns-clause-leads : goal.returns-clause-leads
returns-clause-leads c =
    let changed = c.in_ok-changed.changed in
    stored-leads c.args.self.now c.args.of.now c.told.result (target_of c.in-Some.target) (map texts_of changed.dropped.items) (map texts_of changed.stored.items)
    (λ g s. ap (option_map target_of) (sym c.in-Some.is) ∙ c.in_ok-target.ensures.value g s)
    c.in_ok-changed.ensures.changed (ap answer_of c.told.ensures.answer) c.told.ensures.record
