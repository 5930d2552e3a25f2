use Rattle.std.proofs.Common.{sym, ◌∙◌, ap}
use Rattle.std.specs.Prelude.{option_map, Some}
use Rattle.kishu_store.specs.Tables.{groups_in}
use Rattle.kishu_store.specs.Targets.{target_of}
use Rattle.kishu_graph.specs.Tables.{named, table_of_rows}
use Rattle.kishu_model.specs.Answers.{Answer}
use Rattle.kishu_model.specs.Values.{answer_of}
use Rattle.kishu_session.proofs.PlanFacts.{plan-leads, planned-is}
use Rattle.kishu_session.proofs.head.Head.plan.Goals as goal

pub returns-clause-leads : goal.returns-clause-leads
returns-clause-leads c =
    let self = c.args.self.now in
    let target = target_of c.in-Some.target in
    let next = table_of_rows c.in_ok-next.next in
    let planned = c.in_ok-planned.ensures in
    plan-leads self c.args.to.now c.told.result target next (λ g s. ap (option_map target_of) (sym c.in-Some.is) ∙ c.in_ok-target.ensures.value g s) c.requires.table c.in_ok-next.ensures
    (ap answer_of c.told.ensures.answer
    ∙ ap (λ (a : Answer). Some a)
    (planned-is target.commit (table_of_rows self.table) next (named c.in_ok-drop.drop) (named c.in_ok-keep.keep) (named c.in_ok-load.load) (c.in_ok-drop.ensures ∙ planned.drop)
    (c.in_ok-keep.ensures ∙ planned.keep) (c.in_ok-load.ensures ∙ ap groups_in planned.load)))
    c.told.ensures.record
