-- One request, as part of a run.
use Rattle.std.proofs.Common.{◌≡◌, ◌⊎◌, inl, inr, ⊎_elim, ℕ, List, [], ◌∷◌, ◌++◌, refl, sym, ◌∙◌, ap, subst, Result, Ok, Err, OnOk}
use Rattle.std.proofs.lemmas.List.{append-nil}
use Rattle.kishu_host.specs.Host.{State, Only, Elapses, DuringPut}
use Rattle.kishu_host.specs.Going.{weaker, goes_on}
use Rattle.kishu_store.specs.Entries.{Entry}
use Rattle.kishu_store.specs.Graph.{Graph}
use Rattle.kishu_store.specs.Holds.{Holds, Gives, graph_of}
use Rattle.kishu_store.specs.Tables.{Change, change_of}
use Rattle.kishu_store_laws.specs.Laws.{ends-holds}
use Rattle.kishu_history.specs.Good as good
use Rattle.kishu_history.specs.Good.{IsGoodFileOf}
use Rattle.kishu_model.specs.Serve.{Item, after_item, bytes_of, IsPrefix}
use Rattle.kishu_session.specs.Attached.{IsAtEnd, IsAttached}
use Rattle.kishu_session.specs.Ends.{at-end-history}
use Rattle.kishu_session.specs.Journals.{IsJournalOf, GoodBeforeOrAfter}
use Rattle.kishu_session.specs.Lives.{state_of}
use Rattle.kishu_session.specs.Written.{IsRecorded}
use Rattle.kishu_session.specs.declared.session.Session.{Session}
use Rattle.kishu_serve.specs.Headline.{IsPart}

pub attached-holds : (session : Session) (s : State) (g : Graph) → IsAttached session s g → Holds s.file g
attached-holds session s g a =
    let journal = a.at_end.journal in
    subst (λ (x : Graph). Holds s.file x) (ap (λ (es : List Entry). graph_of es) journal.stands.says ∙ sym journal.graph) (ends-holds s.file journal.stands.found journal.stands.ends)

-- The file of an attached session is good.
pub attached-good : (session : Session) (s : State) (g : Graph) → IsAttached session s g → IsGoodFileOf s.file g
attached-good session s g a = record { changes = a.changes; holds = attached-holds session s g a; gives = a.gives; store = a.states.good }

-- The records of a file at whose end a session stands change something.
pub at-end-gives : (session : Session) (s : State) (g : Graph) → IsAtEnd session s g → (cs : List Change) × Gives s.file cs
at-end-gives session s g e = let h = at-end-history session s g e in (h.history.changes, h.gives)

-- A session stays at the end of a file that stays.
pub at-end-kept : (session : Session) (s0 s1 : State) (g : Graph) → s1.file ≡ s0.file → IsAtEnd session s0 g → IsAtEnd session s1 g
at-end-kept session s0 s1 g same e = record {
  journal = subst (λ (f : List ℕ). IsJournalOf session.journal f g) (sym same) e.journal;
  graph = e.graph;
  tables = λ cs gives. e.tables cs (subst (λ (f : List ℕ). Gives f cs) same gives);
}

-- A session stays attached where the output alone changes.
pub attached-kept : (session : Session) (s0 s1 : State) (g : Graph) → s1.file ≡ s0.file → ((c : List ℕ) → s1.may_leave c → s0.may_leave c) → IsAttached session s0 g → IsAttached session s1 g
attached-kept session s0 s1 g same crash a = record {
  going = a.going;
  durable = λ c now. a.durable c (crash c now) ∙ sym same;
  at_end = at-end-kept session s0 s1 g same a.at_end;
  count = a.count;
  changes = a.changes;
  gives = subst (λ (f : List ℕ). Gives f a.changes) (sym same) a.gives;
  states = subst (λ (f : List ℕ). good.IsAttached f g (change_of a.changes) (state_of session.head.live)) (sym same) a.states;
}

module _ (s : State) (g : Graph) (i : Item) where
  -- nothing is done yet
  pub part-none : (file out : List ℕ) → IsGoodFileOf file g → out ≡ s.out → IsPart s g (i ∷ []) file out
  part-none file out good same = record { now = g; printed = []; good = good; out_is = same ∙ sym (append-nil s.out); reached = inl (refl, refl) }

  -- it is done, and a part of what is written for it is out
  pub part-done : (file out p : List ℕ) → IsGoodFileOf file (after_item g i) → out ≡ s.out ++ p → IsPrefix p (bytes_of g i) → IsPart s g (i ∷ []) file out
  part-done file out p good is prefix = record {
    now = after_item g i;
    printed = p;
    good = good;
    out_is = is;
    reached = inr (inl (refl, prefix));
  }

  -- while it is applied
  pub part-applied : (file out : List ℕ) → GoodBeforeOrAfter s g (after_item g i) file out → IsPart s g (i ∷ []) file out
  part-applied file out w =
      ⊎_elim (λ (h : IsGoodFileOf file g). part-none file out h w.0)
      (λ (h : IsGoodFileOf file (after_item g i)). part-done file out [] h (w.0 ∙ sym (append-nil s.out)) (bytes_of g i, refl)) w.1

  -- while that goes out
  pub part-put : (s1 : State) (bytes : List ℕ) → bytes ≡ bytes_of g i → Only s1.file s1.may_leave → IsGoodFileOf s1.file (after_item g i) → s1.out ≡ s.out
      → (file out : List ℕ) → DuringPut s1 bytes file out → IsPart s g (i ∷ []) file out
  part-put s1 bytes is only good same file out d =
      part-done file out d.1 (subst (λ (f : List ℕ). IsGoodFileOf f (after_item g i)) (sym (only file d.0)) good) (d.3 ∙ ap (λ (l : List ℕ). l ++ d.1) same) (d.2.0, sym is ∙ d.2.1)

-- what holds of a call, where it succeeded
pub held : {T E P : Type 0} (r : Result T E) → P → OnOk r P
held (Ok x) p = p
held (Err e) p = tt

pub and_then : {T E P Q : Type 0} (r : Result T E) → OnOk r P → (P → Q) → OnOk r Q
and_then (Ok x) p then = then p
and_then (Err e) p then = tt

pub recorded-kept : (old mid new : List ℕ) → new ≡ mid → (mid ≡ old) ⊎ IsRecorded old mid → (new ≡ old) ⊎ IsRecorded old new
recorded-kept old mid new same recorded = subst (λ (f : List ℕ). (f ≡ old) ⊎ IsRecorded old f) (sym same) recorded

-- It leaves the graph as it is, and what is written for it goes out.
pub told-stop : (session : Session) (s0 s1 : State) (g : Graph) (i : Item) (bytes : List ℕ) → IsAttached session s0 g → after_item g i ≡ g → bytes ≡ bytes_of g i
    → Elapses s0 s1 (DuringPut s0 bytes) → Elapses s0 s1 (IsPart s0 g (i ∷ []))
told-stop session s0 s1 g i bytes a stays is put =
    weaker s0 s1 (IsPart s0 g (i ∷ [])) (DuringPut s0 bytes) put
    (part-put s0 g i s0 bytes is a.durable (subst (λ (x : Graph). IsGoodFileOf s0.file x) (sym stays) (attached-good session s0 g a)) refl)

-- It is applied.
pub applied-stop : (s0 s1 : State) (g : Graph) (i : Item) → Elapses s0 s1 (GoodBeforeOrAfter s0 g (after_item g i)) → Elapses s0 s1 (IsPart s0 g (i ∷ []))
applied-stop s0 s1 g i applied = weaker s0 s1 (IsPart s0 g (i ∷ [])) (GoodBeforeOrAfter s0 g (after_item g i)) applied (part-applied s0 g i)

-- It is applied, and what is written for it goes out.
pub served-stop : (session : Session) (s0 s1 s2 : State) (g : Graph) (i : Item) (bytes : List ℕ) → IsAttached session s1 (after_item g i) → bytes ≡ bytes_of g i → s1.out ≡ s0.out
    → Elapses s0 s1 (GoodBeforeOrAfter s0 g (after_item g i)) → Elapses s1 s2 (DuringPut s1 bytes) → Elapses s0 s2 (IsPart s0 g (i ∷ []))
served-stop session s0 s1 s2 g i bytes a is same applied put =
    goes_on s0 s1 s2 (IsPart s0 g (i ∷ [])) (DuringPut s1 bytes) (applied-stop s0 s1 g i applied) put
    (part-put s0 g i s1 bytes is a.durable (attached-good session s1 (after_item g i) a) same)
