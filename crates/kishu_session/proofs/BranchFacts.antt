-- A branch that was made, or refused, from what a graph keeps.
use Rattle.std.proofs.Common.{◌≡◌, ◌<◌, ◌≤◌, ◌*◌, ◌^◌, true, ℕ, List, Option, Some, Result, Ok, Err, refl, sym, ◌∙◌, ap, subst}
use Rattle.std.specs.Prelude.{option_map, IfOk}
use Rattle.std.proofs.Math.Logic.{∥∥₁_elim}
use Rattle.std.proofs.Props.{props}
use Rattle.kishu_store.specs.Branches.{is_branch_name}
use Rattle.kishu_store.specs.Entries.{Record, name, plain}
use Rattle.kishu_store.specs.Graph.{Graph, newest, with_branch}
use Rattle.kishu_store.specs.Histories.{History, led}
use Rattle.kishu_store.specs.Rules.{IsRecord}
use Rattle.kishu_store_laws.specs.TitleLaws.{branch_title}
use Rattle.kishu_graph.specs.Kept.{Kept, HasShapeOf, StandsFor, KeepsHistory}
use Rattle.kishu_graph.specs.Laws.{branched-stands}
use Rattle.kishu_graph.specs.Refusals.{unless_named, start_of, HasBranched}
use Rattle.kishu_graph.specs.declared.fault.GraphFault.{GraphFault}
use Rattle.kishu_graph.specs.declared.fault.GraphFault.TheVariants.{NoSuchRef, BadName, NameTaken, StoreFull, NoMemory}
use Rattle.kishu_live_laws.specs.Refusals.{by_graph, refusal_in}
use Rattle.kishu_model.specs.Answers.{Refusal, branched, refused, state_too_large, no_such_ref, bad_name, name_taken, store_full}
use Rattle.kishu_model.specs.Request.{Stepped, branch, refused_with}
use Rattle.kishu_model.specs.Serve.{after}
use Rattle.kishu_model.specs.Step.{step}
use Rattle.kishu_model.specs.Values.{answer_of}
use Rattle.kishu_session.specs.Branching.{BranchesAt, IsCause}
use Rattle.kishu_session.specs.Head.{CountsPath}
use Rattle.kishu_session.specs.Known.{HasHistory, IsHistoryOf}
use Rattle.kishu_session.specs.Prepared.{LeadsTo, Leads, led_with, record_in, IsPrepared, IsAnswered, KeepsState, Tells, MayBeRecorded, LeadsAlone}
use Rattle.kishu_session.specs.Refusing.{refusal_by, RefusesAs}
use Rattle.kishu_session.specs.declared.head.Head.{Head}
use Rattle.kishu_session.specs.declared.prepared.Prepared.{Prepared}
use Rattle.kishu_session.proofs.Causes.{by-cause}
use Rattle.kishu_session.proofs.RecordFacts.{name-record}
use Rattle.kishu_session.proofs.RefusedBranch.{step-branch, branch-accepted, branch-fits, branch-refused}

-- What holds of a result, from two things that hold of it.
pub both : {T E : Type 0} (r : Result T E) (P Q R : T → Type 0) → IfOk r P → IfOk r Q → ((x : T) → P x → Q x → R x) → IfOk r R
both (Ok x) P Q R p q f = f x p q
both (Err e) P Q R p q f = tt

-- ---- a branch that is made

module _ (g : Graph) (title : List ℕ) (at : Option (List ℕ)) (c : ℕ) (old new : Kept) (b : HasBranched title (start_of at g) g c old new) where
  stepped : step g (branch title at) ≡ record { graph = with_branch title c g; answer = branched c title }
  stepped = step-branch g title at c b.start_is b.accepted

  after-is : after g (branch title at) ≡ with_branch title c g
  after-is = ap (λ (x : Stepped). x.graph) stepped

  answer-is : Some (branched c title) ≡ Some (step g (branch title at)).answer
  answer-is = ap (λ (x : Stepped). Some x.answer) (sym stepped)

  named : is_branch_name title ≡ true
  named = (branch-accepted g title at c b.start_is b.accepted).form_is

module _ (old new : Head) (title : List ℕ) (at : Option (List ℕ)) (c : ℕ) (lt : c < 2 ^ 32) (branches : BranchesAt old.graph new.graph title at c)
    (same : KeepsState old new) (counted : new.cells ≡ old.cells)
    (p : Prepared) (answer : answer_of p.answer ≡ Some (branched c title)) (recorded : record_in p.recorded ≡ Some (plain (name title c))) where
  abbrev r : Record
  r = plain (name title c)

  rules-by : HasHistory old.graph → IsRecord r
  rules-by known =
      let form : is_branch_name title ≡ true = ∥∥₁_elim known (hlevel props)
      (λ k. named k.0.graph title at c old.graph new.graph (branches k.0.graph k.1.keeps.graph.shape)) in
      name-record title c (branch_title title form) lt

  module _ (rules : IsRecord r) where
    prepared : (h : History) → IsHistoryOf old.graph h → IsPrepared h (after h.graph (branch title at)) p new.graph
    prepared h k =
        let b = branches h.graph k.keeps.graph.shape in
        let leads : Leads h r (after h.graph (branch title at)) = record {
          rules = rules;
          fits = record { graph = branch-fits h.graph k.good.graph title at c b.start_is b.accepted; table = tt };
          changed_is = sym (after-is h.graph title at c old.graph new.graph b);
        } in
        let keeps : KeepsHistory new.graph (led h r.entry) = record {
          graph = branched-stands title (start_of at h.graph) h.graph c old.graph new.graph k.keeps.graph b;
          changes = b.noted ∙ k.keeps.changes;
        } in
        record {
          leads = subst (λ (o : Option Record). LeadsTo h o (after h.graph (branch title at))) (sym recorded) leads;
          keeps = subst (λ (o : Option Record). KeepsHistory new.graph (led_with h o)) (sym recorded) keeps;
        }

    answered : (h : History) → IsHistoryOf old.graph h → CountsPath old h.graph → IsAnswered h (branch title at) old new p
    answered h k count =
        let b = branches h.graph k.keeps.graph.shape in
        record {
          answer = answer ∙ answer-is h.graph title at c old.graph new.graph b;
          count =
              subst (λ (x : Graph). CountsPath new x) (sym (after-is h.graph title at c old.graph new.graph b))
              (record { is = counted ∙ count.is; few = subst (λ (n : ℕ). n ≤ newest h.graph * 2 ^ 32) (sym counted) count.few });
        }

    alike : (g : Graph) → StandsFor old.graph g → RefusesAs (answer_of p.answer) (step g (branch title at)).answer
    alike g s = ap (option_map refusal_in) (answer ∙ answer-is g title at c old.graph new.graph (branches g s.shape))

    leads-by : LeadsAlone old new (branch title at) p
    leads-by file place = record {
      prepares = λ h k at_place. prepared h k;
      rules = subst MayBeRecorded (sym recorded) rules;
      refuses = alike;
      answers = answered;
      tells = subst (λ (o : Option Record). Tells file old new o) (sym recorded) same;
      large = λ bytes size. absurd (let both : Some (branched c title) ≡ Some (refused (state_too_large bytes)) = sym answer ∙ size in cc (both));
    }

  pub branch-leads : HasHistory old.graph → LeadsAlone old new (branch title at) p
  branch-leads known = leads-by (rules-by known)

-- ---- a branch that is refused

pub branch-fault : (g : Graph) (title : List ℕ) (at : Option (List ℕ)) (kept : Kept) (fault : GraphFault) (r : Refusal) → refusal_by fault ≡ Some r
    → IsCause kept title at fault → HasShapeOf kept g → step g (branch title at) ≡ refused_with r g
branch-fault g title at kept fault r by cause shape =
    branch-refused g title at fault r (by-cause ((h : Graph) → HasShapeOf kept h → unless_named title (start_of at h) h ≡ Some fault) fault r by
    cause g shape) by

pub fault-by-graph : (fault : GraphFault) (r : Refusal) → refusal_by fault ≡ Some r → by_graph r ≡ Some r
fault-by-graph NoSuchRef r by = (let is : no_such_ref ≡ r = cc (by) in subst (λ (x : Refusal). by_graph x ≡ Some x) is refl)
fault-by-graph BadName r by = (let is : bad_name ≡ r = cc (by) in subst (λ (x : Refusal). by_graph x ≡ Some x) is refl)
fault-by-graph NameTaken r by = (let is : name_taken ≡ r = cc (by) in subst (λ (x : Refusal). by_graph x ≡ Some x) is refl)
fault-by-graph StoreFull r by = (let is : store_full ≡ r = cc (by) in subst (λ (x : Refusal). by_graph x ≡ Some x) is refl)
fault-by-graph NoMemory r by = absurd (cc (by))
