-- A request that is answered without a record: nothing changes.
use Rattle.std.proofs.Common.{◌≡◌, inl, ℕ, Option, Some, None, refl, sym, ◌∙◌, ap, subst}
use Rattle.std.specs.Prelude.{option_map}
use Rattle.kishu_store.specs.Graph.{Graph}
use Rattle.kishu_store.specs.Entries.{Record}
use Rattle.kishu_store.specs.Histories.{History}
use Rattle.kishu_store.specs.Tables.{Change, change_of, no_change}
use Rattle.kishu_model.specs.Answers.{Answer, Refusal, refused}
use Rattle.kishu_model.specs.Request.{Request, Stepped, refused_with}
use Rattle.kishu_model.specs.Step.{step}
use Rattle.kishu_model.specs.Values.{answer_of}
use Rattle.kishu_graph.specs.Kept.{StandsFor, KeepsHistory}
use Rattle.kishu_live_laws.specs.OnStates.{step_on, answer_on}
use Rattle.kishu_live_laws.specs.RefusalLaws.{refuses_as_step}
use Rattle.kishu_live_laws.specs.Refusals.{by_graph, refusal_in}
use Rattle.kishu_session.specs.Head.{CountsPath}
use Rattle.kishu_session.specs.Known.{IsHistoryOf}
use Rattle.kishu_session.specs.Lives.{state_of}
use Rattle.kishu_session.specs.Prepared.{record_in, MayBeRecorded, LeadsTo, led_with, after_by, answer_by, RefusesFor, RefusesNoSize, Tells, LeadsAlone, StaysWithout}
use Rattle.kishu_session.specs.Refusing.{RefusesAs}
use Rattle.kishu_session.specs.declared.head.Head.{Head}
use Rattle.kishu_session.specs.declared.prepared.Prepared.{Prepared}
use Rattle.kishu_session.proofs.Sizes.{refused-no-size}

-- Where an answer is the one on some state, whatever the records change, it is refused for the cause for which one step refuses it.
module _ (head : Head) (g : Graph) (q : Request) where
  pub alike-on : (of : ℕ → Change) (a : Option Answer) → a ≡ Some (answer_on of (state_of head.live) g q) → RefusesAs a (step g q).answer
  alike-on of a is = ap (option_map refusal_in) is ∙ ap (λ (o : Option Refusal). Some o) (refuses_as_step g of (state_of head.live) q)

-- What it gives on the live state, and that the graph stays.
pub record IsStill (head : Head) (h : History) (q : Request) (p : Prepared) : Type 0 where
  pub answer : answer_of p.answer ≡ Some (answer_by h (state_of head.live) q)
  pub stays : after_by h (state_of head.live) q ≡ h.graph

pub still-leads : (head : Head) (q : Request) (p : Prepared) → p.recorded ≡ None → RefusesNoSize p.answer → RefusesFor head.graph q p.answer
    → ((h : History) → IsHistoryOf head.graph h → IsStill head h q p) → LeadsAlone head head q p
still-leads head q p none sizes alike still file place =
    let no : None ≡ record_in p.recorded = sym (ap record_in none) in
    record {
      prepares = λ h k at. record {
        leads = subst (λ (o : Option Record). LeadsTo h o (after_by h (state_of head.live) q)) no (still h k).stays;
        keeps = subst (λ (o : Option Record). KeepsHistory head.graph (led_with h o)) no k.keeps;
      };
      rules = subst MayBeRecorded no tt;
      refuses = alike;
      answers = λ h k count. record {
        answer = (still h k).answer;
        count = subst (λ (x : Graph). CountsPath head x) (sym (still h k).stays) count;
      };
      tells = subst (λ (o : Option Record). Tells file head head o) no (inl refl);
      large = λ bytes is. absurd (sizes bytes is);
    }

-- So it is where the graph alone refuses the request.
pub refused-leads : (head : Head) (q : Request) (r : Refusal) (p : Prepared) → by_graph r ≡ Some r → answer_of p.answer ≡ Some (refused r) → p.recorded ≡ None
    → ((of : ℕ → Change) (g : Graph) → StandsFor head.graph g → step_on of (state_of head.live) g q ≡ refused_with r g) → LeadsAlone head head q p
refused-leads head q r p by answer none on =
    still-leads head q p none (refused-no-size (answer_of p.answer) r by answer)
    (λ g s. alike-on head g q (λ c. no_change) (answer_of p.answer) (answer ∙ ap (λ (x : Stepped). Some x.answer) (sym (on (λ c. no_change) g s))))
    (λ h k. record {
      answer = answer ∙ ap (λ (x : Stepped). Some x.answer) (sym (on (change_of h.changes) h.graph k.keeps.graph));
      stays = ap (λ (x : Stepped). x.graph) (on (change_of h.changes) h.graph k.keeps.graph);
    })

-- Nothing changes, and no host is called.
pub still-stays : {H : Type 0} (head : Head) (host : H) (p : Prepared) → StaysWithout head head host host p
still-stays head host p none sizes = (refl, refl)
