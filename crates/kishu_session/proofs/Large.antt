-- The way back from a state that is too large.
use Rattle.std.specs.Prelude.{IfOk, OnOk, Result, option_map}
use Rattle.std.proofs.Common.{◌≡◌, inr, ℕ, List, Option, Some, None, Ok, Err, sym, ◌∙◌, ap, subst}
use Rattle.kishu_graph.specs.Kept.{Kept, StandsFor, KeepsHistory}
use Rattle.kishu_store.specs.Entries.{Record}
use Rattle.kishu_store.specs.Graph.{Graph}
use Rattle.kishu_store.specs.Histories.{History}
use Rattle.kishu_store.specs.Tables.{Change, change_of, no_change}
use Rattle.kishu_model.specs.Answers.{Refusal, refused, state_too_large}
use Rattle.kishu_model.specs.Request.{Request, Stepped, refused_with}
use Rattle.kishu_model.specs.Values.{answer_of}
use Rattle.kishu_live_laws.specs.OnStates.{step_on, answer_on}
use Rattle.kishu_live_laws.specs.RefusalLaws.{refuses_as_step}
use Rattle.kishu_live_laws.specs.Refusals.{refusal_in}
use Rattle.kishu_session.specs.Head.{CountsPath, Counts}
use Rattle.kishu_session.specs.Known.{IsHistoryOf}
use Rattle.kishu_session.specs.Lives.{state_of}
use Rattle.kishu_session.specs.Prepared.{record_in, MayBeRecorded, LeadsTo, led_with, after_by, IsBack, Tells, LeadsOn, LeavesLarge, StaysWithout}
use Rattle.kishu_session.specs.declared.head.Head.{Head}
use Rattle.kishu_session.specs.declared.live.Live.{Live}
use Rattle.kishu_session.specs.declared.prepared.Prepared.{Prepared}

-- A state of so many bytes is refused, and the head's was loaded.
pub record WentBack (file : Option (List ℕ)) (old new : Head) (bytes : ℕ) (p : Prepared) : Type 0 where
  pub answer : answer_of p.answer ≡ Some (refused (state_too_large bytes))
  pub none : p.recorded ≡ None
  pub back : IsBack file old new
  pub count : Counts new

-- What the way back gives, from the state that cells left: it keeps the graph.
pub went-back : {E : Type 0} (file : Option (List ℕ)) (result : Result Prepared E) (old new : Head) (l : Live) (bytes : ℕ) (r : Refusal) (R : Prepared → Type 0) → r ≡ state_too_large bytes
    → IfOk result (λ p. answer_of p.answer ≡ Some (refused r)) → IfOk result (λ p. p.recorded ≡ None) → OnOk result (IsBack file (record old { live = l }) new) → OnOk result (Counts new)
    → ((p : Prepared) → WentBack file old new bytes p → R p) → IfOk result R
went-back file (Ok p) old new l bytes r R is answer none back count f =
    f p
    (record {
      answer = answer ∙ ap (λ (x : Refusal). Some (refused x)) is;
      none = none;
      back = record { graph = back.graph; loaded = back.loaded };
      count = count;
    })
went-back file (Err e) old new l bytes r R is answer none back count f = tt

module _ (file : Option (List ℕ)) (place : ℕ) (old new : Head) (q : Request) (bytes : ℕ) (p : Prepared) (b : WentBack file old new bytes p) where
  -- On each history that is kept the step on the live state is this refusal, and the graph refuses the request for nothing.
  pub back-leads : LeavesLarge old q bytes
      → ((h : History) → IsHistoryOf old.graph h → step_on (change_of h.changes) (state_of old.live) h.graph q ≡ refused_with (state_too_large bytes) h.graph)
      → ((of : ℕ → Change) (g : Graph) → StandsFor old.graph g → refusal_in (answer_on of (state_of old.live) g q) ≡ None) → LeadsOn file place old new q p
  back-leads leaves on free =
      let no : None ≡ record_in p.recorded = sym (ap record_in b.none) in
      let same : old.graph ≡ new.graph = sym b.back.graph in
      record {
        prepares = λ h k at. record {
          leads = subst (λ (o : Option Record). LeadsTo h o (after_by h (state_of old.live) q)) no (ap (λ (x : Stepped). x.graph) (on h k));
          keeps = subst (λ (o : Option Record). KeepsHistory new.graph (led_with h o)) no (subst (λ (x : Kept). KeepsHistory x h) same k.keeps);
        };
        rules = subst MayBeRecorded no tt;
        refuses = λ g s.
            ap (option_map refusal_in) b.answer
            ∙ ap (λ (o : Option Refusal). Some o) (sym (free (λ c. no_change) g s) ∙ refuses_as_step g (λ c. no_change) (state_of old.live) q);
        answers = λ h k count. record {
          answer = b.answer ∙ ap (λ (x : Stepped). Some x.answer) (sym (on h k));
          count = subst (λ (x : Graph). CountsPath new x) (sym (ap (λ (x : Stepped). x.graph) (on h k))) (b.count h (subst (λ (x : Kept). IsHistoryOf x h) same k));
        };
        tells = subst (λ (o : Option Record). Tells file old new o) no (inr b.back);
        large = λ told is. (subst (LeavesLarge old q) (told-is told is) leaves, b.none, b.back);
      }
    where
      told-is : (told : ℕ) → answer_of p.answer ≡ Some (refused (state_too_large told)) → bytes ≡ told
      told-is told is = (let both : Some (refused (state_too_large bytes)) ≡ Some (refused (state_too_large told)) = sym b.answer ∙ is in cc (both))

  pub back-stays : {H : Type 0} (host now : H) → StaysWithout old new host now p
  back-stays host now none sizes = absurd (sizes bytes b.answer)
