-- What a commit stored, from what a graph keeps of its change.
use Rattle.std.proofs.Common.{◌≡◌, ℕ, List, Option, Some, None, sym, ◌∙◌, ap}
use Rattle.std.specs.Prelude.{option_map}
use Rattle.kishu_store.specs.Graph.{Graph, Target}
use Rattle.kishu_store.specs.Groups.{Group}
use Rattle.kishu_store.specs.References.{resolve}
use Rattle.kishu_store.specs.Tables.{change_of}
use Rattle.kishu_graph.specs.Kept.{HasShapeOf}
use Rattle.kishu_graph.specs.Tables.{IsChangeOf}
use Rattle.kishu_model.specs.Answers.{refused, state_too_large, told_stored}
use Rattle.kishu_model.specs.Request.{stored}
use Rattle.kishu_model.specs.requests.Stored.{stored_of}
use Rattle.kishu_model.specs.Values.{answer_of}
use Rattle.kishu_live_laws.specs.OnStates.{stored_to}
use Rattle.kishu_live_laws.specs.Refusals.{refusal_in}
use Rattle.kishu_session.specs.Prepared.{LeadsAlone}
use Rattle.kishu_session.specs.declared.head.Head.{Head}
use Rattle.kishu_session.specs.declared.prepared.Prepared.{Prepared}
use Rattle.kishu_session.proofs.Still.{still-leads}

-- It tells these groups of what the reference names.
pub stored-leads : (head : Head) (to : List ℕ) (p : Prepared) (target : Target) (gone new : List Group) → ((g : Graph) → HasShapeOf head.graph g → Some target ≡ resolve g to)
    → IsChangeOf head.graph target.commit gone new → answer_of p.answer ≡ Some (told_stored target.commit gone new) → p.recorded ≡ None → LeadsAlone head head (stored to) p
stored-leads head to p target gone new resolved changed answer none =
    still-leads head (stored to) p none
    (λ bytes size. absurd (let both : Some (told_stored target.commit gone new) ≡ Some (refused (state_too_large bytes)) = sym answer ∙ size in cc (both)))
    (λ g s. ap (option_map refusal_in) answer ∙ ap (λ (o : Option Target). Some (refusal_in (stored_of o g).answer)) (resolved g s.shape))
    (λ h k.
    let is = changed h.graph h.changes h.place k.keeps.graph.shape k.keeps.changes k.good.changes in
    let there = resolved h.graph k.keeps.graph.shape in
    record {
      answer =
          answer
          ∙ ap (λ (gs : List Group). Some (told_stored target.commit gs new)) is.0
          ∙ ap (λ (gs : List Group). Some (told_stored target.commit (change_of h.changes target.commit).dropped gs)) is.1
          ∙ ap (λ (o : Option Target). Some (stored_to (change_of h.changes) o h.graph).answer) there;
      stays = sym (ap (λ (o : Option Target). (stored_to (change_of h.changes) o h.graph).graph) there);
    })
