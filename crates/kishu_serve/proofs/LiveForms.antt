-- Requests that are answered one by one, from the work that a form asks for.
use Rattle.std.proofs.Common.{◌≡◌, ◌⊎◌, inl, inr, true, false, List, Some, refl, sym, ◌∙◌, ap, subst}
use Rattle.std.proofs.lemmas.Bool.{false≢true}
use Rattle.kishu_host.specs.Host.{State}
use Rattle.kishu_host.specs.Source.{SourceState}
use Rattle.kishu_store.specs.Graph.{Graph}
use Rattle.kishu_model.specs.Serve.{Item}
use Rattle.kishu_model.specs.Task.{Form, one_cell, session, notebook, one_request, generated, task}
use Rattle.kishu_gen.specs.declared.script.Script.{Script}
use Rattle.kishu_notebook.specs.declared.refusal.NotebookRefusal.{NotebookRefusal}
use Rattle.kishu_session.specs.Written.{begun}
use Rattle.kishu_serve.specs.Asking as asking
use Rattle.kishu_serve.specs.LiveAnswers.{AreAnswered, AnswersFrom, IsPartLive, EndsFrom}
use Rattle.kishu_serve.specs.Promise.{AsksEach}
use Rattle.kishu_serve.specs.Work.{to_do, answers_each, is_session, one_by_one, still_reads, Knows, KnowsForm, AsksFor}
use Rattle.kishu_serve.specs.declared.asking.Requests.{Requests}
use Rattle.kishu_serve.specs.declared.asking.Requests.TheVariants.{Done, One, Lines}
use Rattle.kishu_serve.specs.declared.book.Book.{Book}
use Rattle.kishu_serve.specs.declared.status.Status.{Status}
use Rattle.kishu_serve.specs.declared.status.Status.TheVariants as ended
use Rattle.kishu_serve.specs.declared.status.Status.TheVariants.{InputFault, InputTooLong, NoMemory, NotebookRefused}
use Rattle.kishu_serve.specs.declared.work.Work.{Work}
use Rattle.kishu_serve.specs.declared.work.Work.TheVariants.{Answers, Runs, Makes}
use Rattle.kishu_serve.proofs.Askings.{knows-told}

-- What is to do is known where no lines are read.
alone-asks : (rs : Requests) (s : SourceState) → asking.reads_lines rs ≡ false → asking.Knows rs s
alone-asks Done s alone = tt
alone-asks (One q) s alone = tt
alone-asks (Lines reader) s alone = absurd (cc alone)

alone-knows : (work : Work) (s : SourceState) → still_reads work ≡ false → Knows work s
alone-knows (Answers rs) s alone = alone-asks rs s alone
alone-knows (Runs book) s alone = tt
alone-knows (Makes script) s alone = tt

-- ---- work that answers no requests

pub runs-not-each : (work : Work) (book : Book) → work ≡ Runs book → answers_each work ≡ true → ⊥
runs-not-each work book is each = false≢true (sym (ap answers_each is) ∙ each)

pub makes-not-each : (work : Work) (script : Script) → work ≡ Makes script → answers_each work ≡ true → ⊥
makes-not-each work script is each = false≢true (sym (ap answers_each is) ∙ each)

-- A run whose input, read whole, isn't what its words ask for isn't done.
pub unread-not-done : {P : NotebookRefusal → Type 0} (status : Status)
    → (status ≡ InputFault) ⊎ (status ≡ InputTooLong) ⊎ (status ≡ NoMemory) ⊎ ((why : NotebookRefusal) × P why × (status ≡ NotebookRefused why)) → status ≡ ended.Done → ⊥
unread-not-done status (inl fault) done = cc (fault, done)
unread-not-done status (inr (inl long)) done = cc (long, done)
unread-not-done status (inr (inr (inl none))) done = cc (none, done)
unread-not-done status (inr (inr (inr (why, is, refused)))) done = cc (refused, done)

-- ---- what is known of a form that asks for requests one by one

pub each-form : (f : Form) (s : SourceState) → AsksEach (Some f) s → one_by_one f ≡ true
each-form one_cell s each = refl
each-form session s each = refl
each-form (notebook together) s each = absurd each
each-form (one_request q) s each = refl
each-form (generated start many) s each = absurd each

each-known : (f : Form) (s : SourceState) → AsksEach (Some f) s → KnowsForm f s
each-known one_cell s each = each
each-known session s each = each
each-known (notebook together) s each = absurd each
each-known (one_request q) s each = tt
each-known (generated start many) s each = absurd each

pub each-knows : (f : Form) (work : Work) (old mid : SourceState) → still_reads work ≡ is_session f → mid.tells ≡ old.tells → AsksEach (Some f) old → Knows work mid
each-knows one_cell work old mid lines tells each = knows-told work mid (tells ∙ each)
each-knows session work old mid lines tells each = knows-told work mid (tells ∙ each)
each-knows (notebook together) work old mid lines tells each = absurd each
each-knows (one_request q) work old mid lines tells each = alone-knows work mid lines
each-knows (generated start many) work old mid lines tells each = absurd each

-- ---- the items are those that the form asks for

module _ {host host2 : State} (work : Work) (old mid : SourceState) (f : Form) (asks : AsksFor f old work mid) (each : AsksEach (Some f) old) where
  pub each-answered : AnswersFrom (λ g. to_do work g mid.left) host host2 → AnswersFrom (λ g. task (Some f) g old.left) host host2
  each-answered w = record {
    graph = w.graph;
    changes = w.changes;
    state = w.state;
    holds = w.holds;
    gives = w.gives;
    loaded = w.loaded;
    answered =
        subst (λ (is : List Item). AreAnswered (begun host.file) host.out host2 w.changes w.graph w.state is) (asks (each-known f old each) w.graph) w.answered;
  }

  pub each-ends : {g : Graph} → EndsFrom (λ x. to_do work x mid.left) host host2 g → EndsFrom (λ x. task (Some f) x old.left) host host2 g
  each-ends (inl none) = inl none
  each-ends (inr w) =
      inr (record {
        graph = w.graph;
        changes = w.changes;
        state = w.state;
        holds = w.holds;
        gives = w.gives;
        loaded = w.loaded;
        part =
            subst (λ (is : List Item). IsPartLive (begun host.file) host.out w.changes w.graph w.state is host2.file host2.out) (asks (each-known f old each) w.graph) w.part;
      })
