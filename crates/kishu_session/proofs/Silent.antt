-- What is refused for a cause that the graph gives has no record; and each answer is one.
use Rattle.std.proofs.Common.{◌≡◌, ℕ, Option, Some, None, refl, sym, ◌∙◌, ap, subst, arith}
use Rattle.std.specs.Coded.{Coded-set, coded_bool}
use Rattle.std.specs.Prelude.{option_map, IsSome}
use Rattle.std.proofs.Math.Logic.{∥∥₁_elim}
use Rattle.kishu_store.specs.Entries.{Record}
use Rattle.kishu_store.specs.Graph.{Graph}
use Rattle.kishu_store.specs.Histories.{History}
use Rattle.kishu_store_laws.specs.GraphLaws.{changed-counted}
use Rattle.kishu_commit.specs.declared.committing.Record as rust
use Rattle.kishu_store.specs.Tables.{change_of}
use Rattle.kishu_live_laws.specs.RefusalLaws.{refuses_as_step, graph_refusal_stays}
use Rattle.kishu_live_laws.specs.Refusals.{refusal_in}
use Rattle.kishu_model.specs.declared.answer.Answer as rust_answer
use Rattle.kishu_model.specs.Answers.{Answer, Refusal}
use Rattle.kishu_model.specs.Request.{Request}
use Rattle.kishu_model.specs.Step.{step}
use Rattle.kishu_model.specs.Values.{answer_of}
use Rattle.kishu_session.specs.Committing.{record_of}
use Rattle.kishu_session.specs.Head.{IsHeadOf, IsKnown}
use Rattle.kishu_session.specs.Lives.{state_of}
use Rattle.kishu_session.specs.Prepared.{Leads, LeadsTo, Prepares, RefusesFor, after_by, record_in}
use Rattle.kishu_session.specs.Refusing.{IsRefusal, RefusesAs}
use Rattle.kishu_session.specs.declared.head.Head.{Head}
use Rattle.kishu_session.specs.declared.prepared.Prepared.{Prepared}

-- ---- no record

-- A record changes a graph.
pub never-same : (h : History) (r : Record) (now : Graph) → Leads h r now → now ≡ h.graph → ⊥
never-same h r now l same =
    omega (arith, changed-counted h.graph r.entry l.fits.graph, ap (λ (x : Graph). x.records) l.changed_is, ap (λ (x : Graph). x.records) same)

refused-in : (a : Option Answer) (b : Answer) (r : Refusal) → RefusesAs a b → option_map refusal_in a ≡ Some (Some r) → refusal_in b ≡ Some r
refused-in a b r alike is = (let both : Some (refusal_in b) ≡ Some (Some r) = sym alike ∙ is in cc (both))

module _ (place : ℕ) (old new : Head) (q : Request) (p : Prepared) (r : Refusal) (is : option_map refusal_in (answer_of p.answer) ≡ Some (Some r))
    (prepares : Prepares place old new q p) (alike : RefusesFor old.graph q p.answer) where
  -- the graph stays
  stays : (h : History) → IsHeadOf old place h → after_by h (state_of old.live) q ≡ h.graph
  stays h k =
      let s = state_of old.live in
      graph_refusal_stays h.graph (change_of h.changes) s q r (refuses_as_step h.graph (change_of h.changes) s q ∙ refused-in (answer_of p.answer) (step h.graph q).answer r
      (alike h.graph k.kept.keeps.graph) is)

  no-record : (x : rust.Record) → p.recorded ≡ Some x → (h : History) → IsHeadOf old place h → ⊥
  no-record x some h k =
      let now = after_by h (state_of old.live) q in
      never-same h (record_of x) now (subst (λ (o : Option rust.Record). LeadsTo h (record_in o) now) some (prepares h k.kept k.place_is).leads)
      (stays h k)

  none-by : IsKnown old place → (o : Option rust.Record) → p.recorded ≡ o → p.recorded ≡ None
  none-by known None e = e
  none-by known (Some x) e = absurd (∥∥₁_elim known (λ x y. absurd x) (λ k. no-record x e k.0 k.1))

pub refused-silent : (place : ℕ) (old new : Head) (q : Request) (p : Prepared) → IsKnown old place → Prepares place old new q p
    → RefusesFor old.graph q p.answer → IsRefusal (answer_of p.answer) → p.recorded ≡ None
refused-silent place old new q p known prepares alike refusal = none-by place old new q p refusal.0 refusal.1 prepares alike known p.recorded refl

-- ---- an answer

alike-some : (a : Option Answer) (b : Answer) → RefusesAs a b → IsSome a
alike-some None b e = absurd (cc (e))
alike-some (Some a) b e = refl

pub known-some : (place : ℕ) (head : Head) (q : Request) (a : rust_answer.Answer) → IsKnown head place → RefusesFor head.graph q a
    → IsSome (answer_of a)
known-some place head q a known alike =
    ∥∥₁_elim known (Coded-set coded_bool _ _) (λ k. alike-some (answer_of a) (step k.0.graph q).answer (alike k.0.graph k.1.kept.keeps.graph))
