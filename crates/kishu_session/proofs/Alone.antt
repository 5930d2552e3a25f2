-- Requests that only tell what is kept or bound have no record, and refuse no state.
use Rattle.std.proofs.Common.{◌≡◌, ℕ, List, Option, Some, None, refl, subst}
use Rattle.std.proofs.Math.Logic.{∥∥₁_elim}
use Rattle.kishu_meaning.specs.values.Values as values
use Rattle.kishu_commit.specs.declared.committing.Record as rust
use Rattle.kishu_store.specs.Graph.{Graph, Target}
use Rattle.kishu_store.specs.Histories.{History, head_table}
use Rattle.kishu_store.specs.References.{resolve}
use Rattle.kishu_store.specs.Tables.{Change, Table, change_of}
use Rattle.kishu_live_laws.specs.OnStates.{plan_to, stored_to}
use Rattle.kishu_live_laws.specs.Refusals.{LeavesTooLarge}
use Rattle.kishu_model.specs.Request.{Request, cell, cells, checkout, branch, log, status, inspect, stored, plan, unreadable}
use Rattle.kishu_session.specs.Applying.{TellsAlone}
use Rattle.kishu_session.specs.Committing.{record_of}
use Rattle.kishu_session.specs.Head.{IsHeadOf, IsKnown}
use Rattle.kishu_session.specs.Lives.{state_of}
use Rattle.kishu_session.specs.Prepared.{LeadsOn, LeadsTo, Prepares, RefusesNoSize, after_by, record_in}
use Rattle.kishu_session.specs.declared.head.Head.{Head}
use Rattle.kishu_session.specs.declared.prepared.Prepared.{Prepared}
use Rattle.kishu_session.proofs.Committed.{⊥-prop}
use Rattle.kishu_session.proofs.Silent.{never-same}

stored-stays : (changes : ℕ → Change) (o : Option Target) (g : Graph) → (stored_to changes o g).graph ≡ g
stored-stays changes None g = refl
stored-stays changes (Some target) g = refl

plan-stays : (changes : ℕ → Change) (o : Option Target) (g : Graph) → (plan_to changes o g).graph ≡ g
plan-stays changes None g = refl
plan-stays changes (Some target) g = refl

-- The graph stays.
alone-stays : (h : History) (s : values.State) (q : Request) → TellsAlone q → after_by h s q ≡ h.graph
alone-stays h s unreadable alone = absurd alone
alone-stays h s (cell text) alone = absurd alone
alone-stays h s (cells texts) alone = absurd alone
alone-stays h s (checkout to) alone = absurd alone
alone-stays h s (branch name at) alone = absurd alone
alone-stays h s log alone = refl
alone-stays h s status alone = refl
alone-stays h s inspect alone = refl
alone-stays h s (stored of) alone = stored-stays (change_of h.changes) (resolve h.graph of) h.graph
alone-stays h s (plan to) alone = plan-stays (change_of h.changes) (resolve h.graph to) h.graph

module _ (place : ℕ) (old new : Head) (q : Request) (p : Prepared) where
  no-record : Prepares place old new q p → TellsAlone q → (x : rust.Record) → p.recorded ≡ Some x → (h : History) → IsHeadOf old place h → ⊥
  no-record prepares alone x some h k =
      let now = after_by h (state_of old.live) q in
      never-same h (record_of x) now (subst (λ (o : Option rust.Record). LeadsTo h (record_in o) now) some (prepares h k.kept k.place_is).leads)
      (alone-stays h (state_of old.live) q alone)

  none-by : IsKnown old place → Prepares place old new q p → TellsAlone q → (o : Option rust.Record) → p.recorded ≡ o → p.recorded ≡ None
  none-by known prepares alone None e = e
  none-by known prepares alone (Some x) e = absurd (∥∥₁_elim known ⊥-prop (λ k. no-record prepares alone x e k.0 k.1))

  pub alone-silent : IsKnown old place → Prepares place old new q p → TellsAlone q → p.recorded ≡ None
  alone-silent known prepares alone = none-by known prepares alone p.recorded refl

-- They leave nothing too large.
alone-small : (t : Table) (s : values.State) (q : Request) (bytes : ℕ) → TellsAlone q → LeavesTooLarge t s q bytes → ⊥
alone-small t s unreadable bytes alone large = alone
alone-small t s (cell text) bytes alone large = alone
alone-small t s (cells texts) bytes alone large = alone
alone-small t s (checkout to) bytes alone large = alone
alone-small t s (branch title at) bytes alone large = alone
alone-small t s log bytes alone large = large
alone-small t s status bytes alone large = large
alone-small t s inspect bytes alone large = large
alone-small t s (stored of) bytes alone large = large
alone-small t s (plan to) bytes alone large = large

pub alone-no-size : (file : Option (List ℕ)) (place : ℕ) (old new : Head) (q : Request) (p : Prepared) → LeadsOn file place old new q p → IsKnown old place
    → TellsAlone q → RefusesNoSize p.answer
alone-no-size file place old new q p leads known alone bytes size =
    ∥∥₁_elim known ⊥-prop (λ k. alone-small (head_table k.0) (state_of old.live) q bytes alone ((leads.large bytes size).0 k.0 k.1.kept))
