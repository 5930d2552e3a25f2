-- What a checkout would do, from the table of the head and that of the commit to which it goes.
use Rattle.std.proofs.Common.{◌≡◌, ℕ, List, Option, Some, None, sym, ◌∙◌, ap}
use Rattle.std.specs.Prelude.{option_map}
use Rattle.kishu_store.specs.Graph.{Graph, Target}
use Rattle.kishu_store.specs.Groups.{Group}
use Rattle.kishu_store.specs.Histories.{head_table}
use Rattle.kishu_store.specs.References.{resolve}
use Rattle.kishu_store.specs.Tables.{Table, change_of, groups_in}
use Rattle.kishu_history.specs.Checkout.{to_drop, to_keep, to_load}
use Rattle.kishu_graph.specs.Kept.{HasShapeOf}
use Rattle.kishu_graph.specs.Tables.{IsTableOf, table_of_rows}
use Rattle.kishu_model.specs.Answers.{refused, state_too_large, told_plan}
use Rattle.kishu_model.specs.Request.{plan}
use Rattle.kishu_model.specs.requests.Plan.{plan_of}
use Rattle.kishu_model.specs.Values.{answer_of}
use Rattle.kishu_live_laws.specs.OnStates.{plan_to, planned_by}
use Rattle.kishu_live_laws.specs.Refusals.{refusal_in}
use Rattle.kishu_session.specs.Head.{KeepsHeadTable}
use Rattle.kishu_session.specs.Prepared.{LeadsAlone}
use Rattle.kishu_session.specs.declared.head.Head.{Head}
use Rattle.kishu_session.specs.declared.prepared.Prepared.{Prepared}
use Rattle.kishu_session.proofs.Still.{still-leads}

-- These groups are those of the plan between two tables.
pub planned-is : (commit : ℕ) (now next : Table) (drop keep load : List Group) → drop ≡ to_drop now next → keep ≡ groups_in (to_keep now next) → load ≡ groups_in (to_load now next) → told_plan commit drop keep load ≡ planned_by commit now next
planned-is commit now next drop keep load dropped kept loaded =
    ap (λ (gs : List Group). told_plan commit gs keep load) dropped
    ∙ ap (λ (gs : List Group). told_plan commit (to_drop now next) gs load) kept
    ∙ ap (λ (gs : List Group). told_plan commit (to_drop now next) (groups_in (to_keep now next)) gs) loaded

-- It tells the plan from the table that is kept to that of what the reference names.
pub plan-leads : (head : Head) (to : List ℕ) (p : Prepared) (target : Target) (next : Table) → ((g : Graph) → HasShapeOf head.graph g → Some target ≡ resolve g to)
    → KeepsHeadTable head → IsTableOf head.graph target.commit next → answer_of p.answer ≡ Some (planned_by target.commit (table_of_rows head.table) next) → p.recorded ≡ None → LeadsAlone head head (plan to) p
plan-leads head to p target next resolved here there answer none =
    let now = table_of_rows head.table in
    still-leads head (plan to) p none
    (λ bytes size. absurd (let both : Some (planned_by target.commit now next) ≡ Some (refused (state_too_large bytes)) = sym answer ∙ size in cc (both)))
    (λ g s. ap (option_map refusal_in) answer ∙ ap (λ (o : Option Target). Some (refusal_in (plan_of o g).answer)) (resolved g s.shape))
    (λ h k.
    let found = resolved h.graph k.keeps.graph.shape in
    record {
      answer =
          answer
          ∙ ap (λ (t : Table). Some (planned_by target.commit t next)) (here h k)
          ∙ ap (λ (t : Table). Some (planned_by target.commit (head_table h) t)) (there h.graph h.changes h.place k.keeps.graph.shape k.keeps.changes k.good.changes)
          ∙ ap (λ (o : Option Target). Some (plan_to (change_of h.changes) o h.graph).answer) found;
      stays = sym (ap (λ (o : Option Target). (plan_to (change_of h.changes) o h.graph).graph) found);
    })
