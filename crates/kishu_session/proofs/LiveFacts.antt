-- What the live state becomes, on every store: after a request that was answered, and where it was loaded as a store was opened.
use Rattle.std.proofs.Common.{◌≡◌, ◌≤◌, ◌<◌, ◌⊎◌, inl, inr, ⊎_elim, ℕ, List, length, refl, sym, ◌∙◌, ap, subst, arith}
use Rattle.std.specs.Coded.{Coded-set, coded_ℕ, le_prop}
use Rattle.std.specs.Prelude.{true, Option, Some, None}
use Rattle.std.proofs.Math.Logic.{∥∥₁_elim}
use Rattle.kishu_host.specs.Host as host
use Rattle.kishu_meaning.specs.values.Values as values
use Rattle.kishu_objects.specs.Same.{Same}
use Rattle.kishu_objects_laws.specs.SameLaws.{same_self}
use Rattle.kishu_store.specs.Entries.{Record}
use Rattle.kishu_store.specs.Graph.{Graph, newest}
use Rattle.kishu_store.specs.Histories.{History, head_table}
use Rattle.kishu_store.specs.Holds.{Holds, Gives, history_by}
use Rattle.kishu_store.specs.Tables.{Table, Change, change_of}
use Rattle.kishu_store_laws.specs.Laws.{ends-gives, one_changes, one_graph}
use Rattle.kishu_history.specs.Checkout.{to_load, to_drop}
use Rattle.kishu_live_laws.specs.OnStates.{answer_on, head_rows, ran_by, state_on}
use Rattle.kishu_live_laws.specs.Outcomes.{still_state, when_none}
use Rattle.kishu_live_laws.specs.Refusals.{LeavesTooLarge}
use Rattle.kishu_model.specs.Answers.{Answer, ran_cell, ran_cells, checked_out, branched, logged, told_status, inspected, told_stored, told_plan, refused, Refusal, bad_request, cell_too_long, no_such_ref, bad_name, name_taken, store_full, state_too_large}
use Rattle.kishu_model.specs.Request.{Request}
use Rattle.kishu_model.specs.Values.{answer_of}
use Rattle.kishu_journal.specs.Going.{IsQuiet}
use Rattle.kishu_checkout.specs.Loads.{AreCarried, IsLoadedFrom}
use Rattle.kishu_checkout.specs.Pictures.{told_file}
use Rattle.kishu_commit.specs.declared.committing.Record as rust_record
use Rattle.kishu_session.specs.Attached.{IsAtEnd, StandsAtEnd}
use Rattle.kishu_session.specs.Becoming.{IsHeadLoaded, IsLeftAnew, IsLeftBy, IsNextState}
use Rattle.kishu_session.specs.Ends.{IsBehind, at-end-behind, at-end-history}
use Rattle.kishu_session.specs.Head.{CountsPath, IsGiven, IsKnown, IsLoaded}
use Rattle.kishu_session.specs.Known.{IsHistoryOf}
use Rattle.kishu_session.specs.Lives.{state_of}
use Rattle.kishu_session.specs.Prepared.{LeadsOn, RefusesNoSize, after_by, led_with, record_in}
use Rattle.kishu_session.specs.Refusing.{RefusesSize}
use Rattle.kishu_session.specs.Renewing.{BeginKept, left_anew}
use Rattle.kishu_session.specs.declared.head.Head.{Head}
use Rattle.kishu_session.specs.declared.prepared.Prepared.{Prepared}
use Rattle.kishu_session.specs.declared.session.Session.{Session}
use Rattle.kishu_session.proofs.Applied.{cells-are, graph-now, kept-now, kind-now, left-on}
use Rattle.kishu_session.proofs.AttachFacts.{head-table-of, told-some}
use Rattle.kishu_session.proofs.Carried.{carried-there}
use Rattle.kishu_session.proofs.OneTable.{one-count}
use Rattle.kishu_session.proofs.RecordKinds.{Kind, IsSameStore, IsStill, IsMoved, IsReloaded, IsCommitted}

-- ---- as a store is opened

-- A session whose head's state was loaded, and which stands at the end of its host's file.
pub head-loaded : (session : Session) (s : host.State) → s.tells ≡ true → StandsAtEnd session s → IsLoaded (told_file s) session.head
    → (g : Graph) → Holds s.file g → IsHeadLoaded s.file g (state_of session.head.live)
head-loaded session s told stands loaded g holds =
    let i = at-end-history session s stands.0 stands.1 in
    let h = i.history in
    let given = subst (λ (o : Option (List ℕ)). IsGiven o session.head h) (told-some s told) (loaded h i.kept).given in
    record {
      changes = h.changes;
      gives = i.gives;
      loaded =
          subst (λ (t : Table). IsLoadedFrom s.file t (state_of session.head.live))
          (head-table-of h g h.changes (one_graph s.file h.graph g i.holds holds) refl) given;
    }

-- ---- after a request

-- From a history that is kept, whose changes a file gives, to the one with the request's record.
module _ (file : List ℕ) (old new : Head) (h : History) (q : Request) (r : Option Record) (gives : Gives file h.changes)
    (after : (led_with h r).graph ≡ after_by h (state_of old.live) q)
    (large : r ≡ None → (new ≡ old) ⊎ ((bytes : ℕ) × LeavesTooLarge (head_table h) (state_of old.live) q bytes)) where
  abbrev of : ℕ → Change
  of = change_of h.changes

  abbrev u : values.State
  u = state_of old.live

  abbrev v : values.State
  v = state_of new.live

  abbrev now : Graph
  now = after_by h u q

  -- Where it is just what the request's cells left, it is that, and the same.
  left-exactly : v ≡ state_on of u h.graph q → IsLeftBy of h.graph u q v
  left-exactly e = record {
    same = subst (λ (x : values.State). Same x (state_on of u h.graph q)) (sym e) (same_self _ (state_on of u h.graph q));
    few = (let n = ap (λ (x : values.State). length x.nodes) e in omega (arith, n));
    exact = λ kept. e;
  }

  -- where the commits stay, the request makes none
  none-made : IsSameStore h (led_with h r) → newest now ≤ newest h.graph
  none-made k =
      let same : newest (led_with h r).graph ≡ newest h.graph = ap length k.commits in
      omega (arith, same, ap newest after)

  still-next : IsStill old new h (led_with h r) → IsNextState file of h.graph u q v
  still-next k = inl (left-exactly (k.live ∙ sym (still_state of u h.graph q (when_none of u h.graph q (none-made k.same)))))

  moved-next : IsHistoryOf new.graph (led_with h r) → IsMoved (Some file) old new h (led_with h r) → IsNextState file of h.graph u q v
  moved-next kept k =
      inr (inl (record {
        none = none-made k.same;
        start = k.start;
        starts = k.starts;
        carried =
            subst (λ (t : Table). AreCarried (Some file) (to_drop (head_table h) t) (to_load (head_table h) t) k.start v) (head-table-of (led_with h r) now h.changes after k.same.changes)
            (carried-there (Some file) old new h (led_with h r) k kept);
      }))

  loaded-next : IsHistoryOf new.graph (led_with h r) → IsReloaded (Some file) new h r (led_with h r) → ((bytes : ℕ) × LeavesTooLarge (head_table h) u q bytes)
      → IsNextState file of h.graph u q v
  loaded-next kept k leaves =
      inr (inr (
        sym after ∙ k.graph,
        record {
          changes = h.changes;
          gives = gives;
          loaded =
              subst (λ (t : Table). IsLoadedFrom file t v) (head-table-of (led_with h r) h.graph h.changes k.graph k.same.changes)
              (k.loaded (led_with h r) kept).given;
        },
        leaves,
      ))

  reloaded-next : IsHistoryOf new.graph (led_with h r) → IsReloaded (Some file) new h r (led_with h r) → IsNextState file of h.graph u q v
  reloaded-next kept k =
      ⊎_elim
      (λ (same : new ≡ old). inl (left-exactly (ap (λ (x : Head). state_of x.live) same ∙ sym (still_state of u h.graph q (when_none of u h.graph q (none-made k.same))))))
      (loaded-next kept k) (large k.none)

  committed-next : IsCommitted (Some file) old new h r → IsNextState file of h.graph u q v
  committed-next k =
      let grown = sym after ∙ ap (λ (o : Option Record). (led_with h o).graph) k.is in
      let left = left-on of u h.graph q k.cells grown in
      inl (record {
        same = subst (λ (x : values.State). Same v x) left k.ran.same;
        few = subst (λ (x : values.State). length v.nodes ≤ length x.nodes) left k.ran.few;
        exact = λ kept. k.ran.exact (subst (λ (texts : List (List ℕ)). BeginKept texts u) (cells-are of u h.graph q k.cells grown) kept) ∙ left;
      })

  -- It is just what its cells leave that may be loaded anew before each of them.
  committed-anew : IsCommitted (Some file) old new h r → v ≡ left_anew (ran_by (head_rows of h.graph) q u) u
  committed-anew k =
      let grown = sym after ∙ ap (λ (o : Option Record). (led_with h o).graph) k.is in
      k.ran.is ∙ ap (λ (texts : List (List ℕ)). left_anew texts u) (sym (cells-are of u h.graph q k.cells grown))

  made-anew : Kind (Some file) old new h r (led_with h r) → IsLeftAnew of h.graph u q v
  made-anew (inl k) more = absurd (let none = none-made k.same in omega (arith, none, more))
  made-anew (inr (inl k)) more = absurd (let none = none-made k.same in omega (arith, none, more))
  made-anew (inr (inr (inl k))) more = absurd (let none = none-made k.same in omega (arith, none, more))
  made-anew (inr (inr (inr k))) more = committed-anew k

  next-state : IsHistoryOf new.graph (led_with h r) → Kind (Some file) old new h r (led_with h r) → IsNextState file of h.graph u q v
  next-state kept kind = ⊎_elim still-next (⊎_elim (moved-next kept) (⊎_elim (reloaded-next kept) committed-next)) kind

-- The cells that a session counts are those on the path to the head of each history that is kept.
pub counts-known : (head : Head) (place : ℕ) (h : History) → IsHistoryOf head.graph h → IsKnown head place → CountsPath head h.graph
counts-known head place h kept known = record {
  is = ∥∥₁_elim known (Coded-set coded_ℕ _ _) (λ k. (one-count head.graph k.0 h k.1.kept kept head k.1.count).is);
  few = ∥∥₁_elim known le_prop (λ k. (one-count head.graph k.0 h k.1.kept kept head k.1.count).few);
}

-- A state is refused for its size, or none is.
no-size : (r : Refusal) → ((bytes : ℕ) × (r ≡ state_too_large bytes)) ⊎ ((bytes : ℕ) → Some (refused r) ≡ Some (refused (state_too_large bytes)) → ⊥)
no-size bad_request = inr (λ bytes e. cc (e))
no-size cell_too_long = inr (λ bytes e. cc (e))
no-size no_such_ref = inr (λ bytes e. cc (e))
no-size bad_name = inr (λ bytes e. cc (e))
no-size name_taken = inr (λ bytes e. cc (e))
no-size store_full = inr (λ bytes e. cc (e))
no-size (state_too_large bytes) = inl (bytes, refl)

sized-or-not : (o : Option Answer) → ((bytes : ℕ) × RefusesSize o bytes) ⊎ ((bytes : ℕ) → RefusesSize o bytes → ⊥)
sized-or-not None = inr (λ bytes e. cc (e))
sized-or-not (Some (refused r)) = ⊎_elim (λ (k : (bytes : ℕ) × (r ≡ state_too_large bytes)). inl (k.0, ap (λ (x : Refusal). Some (refused x)) k.1)) (λ no. inr no) (no-size r)
sized-or-not (Some (ran_cell commit count report)) = inr (λ bytes e. cc (e))
sized-or-not (Some (ran_cells commit results)) = inr (λ bytes e. cc (e))
sized-or-not (Some (checked_out commit at)) = inr (λ bytes e. cc (e))
sized-or-not (Some (branched commit title)) = inr (λ bytes e. cc (e))
sized-or-not (Some (logged branches path)) = inr (λ bytes e. cc (e))
sized-or-not (Some (told_status t)) = inr (λ bytes e. cc (e))
sized-or-not (Some (inspected commit names nodes)) = inr (λ bytes e. cc (e))
sized-or-not (Some (told_stored commit dropped more)) = inr (λ bytes e. cc (e))
sized-or-not (Some (told_plan commit drop keep load)) = inr (λ bytes e. cc (e))

none-in : (o : Option rust_record.Record) → record_in o ≡ None → o ≡ None
none-in None e = refl
none-in (Some x) e = absurd (cc (e))

module _ (old : Session) (new : Head) (s : host.State) (q : Request) (p : Prepared)
    (leads : LeadsOn (told_file s) old.journal.place old.head new q p) where
  abbrev live : values.State
  live = state_of old.head.live

  abbrev r : Option Record
  r = record_in p.recorded

  -- Without a record nothing changes, or the request's cells left a state that is too large.
  same-or-large : (p.recorded ≡ None → RefusesNoSize p.answer → new ≡ old.head) → (h : History) → IsHistoryOf old.head.graph h → r ≡ None
      → (new ≡ old.head) ⊎ ((bytes : ℕ) × LeavesTooLarge (head_table h) live q bytes)
  same-or-large stays h kept none =
      ⊎_elim (λ (k : (bytes : ℕ) × RefusesSize (answer_of p.answer) bytes). inr (k.0, (leads.large k.0 k.1).0 h kept)) (λ sizes. inl (stays (none-in p.recorded none) sizes))
      (sized-or-not (answer_of p.answer))

  -- of the history that it stands behind, and so of what the file holds and its records change
  module _ (g : Graph) (cs : List Change) (e : IsAtEnd old s g) (gives : Gives s.file cs) where
    abbrev behind : IsBehind old s.file g
    behind = at-end-behind old s g e

    abbrev found : History
    found = history_by behind.found

    changes-are : found.changes ≡ cs
    changes-are = one_changes s.file found.changes cs (ends-gives s.file behind.found behind.at.ends) gives

    pub answer-on-live : IsKnown old.head old.journal.place → answer_of p.answer ≡ Some (answer_on (change_of cs) live g q)
    answer-on-live known =
        let count = counts-known old.head old.journal.place found behind.kept known in
        subst (λ (x : Graph). answer_of p.answer ≡ Some (answer_on (change_of cs) live x q)) behind.graph
        (subst (λ (ds : List Change). answer_of p.answer ≡ Some (answer_on (change_of ds) live found.graph q)) changes-are (leads.answers found behind.kept count).answer)

    pub goes-on-live : (s1 : host.State) → IsQuiet s s1 → (p.recorded ≡ None → RefusesNoSize p.answer → new ≡ old.head) → s.tells ≡ true
        → IsNextState s.file (change_of cs) g live q (state_of new.live)
    goes-on-live s1 quiet stays told =
        let kind = subst (λ (o : Option (List ℕ)). Kind o old.head new found r (led_with found r)) (told-some s told)
        (kind-now old new s s1 q p leads quiet found behind.kept behind.place) in
        subst (λ (x : Graph). IsNextState s.file (change_of cs) x live q (state_of new.live)) behind.graph
        (subst (λ (ds : List Change). IsNextState s.file (change_of ds) found.graph live q (state_of new.live)) changes-are
        (next-state s.file old.head new found q r (ends-gives s.file behind.found behind.at.ends) (graph-now old new s s1 q p leads quiet found behind.kept behind.place)
        (same-or-large stays found behind.kept) (kept-now old new s s1 q p leads quiet found behind.kept behind.place) kind))

    pub goes-on-anew : (s1 : host.State) → IsQuiet s s1 → (p.recorded ≡ None → RefusesNoSize p.answer → new ≡ old.head) → s.tells ≡ true
        → IsLeftAnew (change_of cs) g live q (state_of new.live)
    goes-on-anew s1 quiet stays told =
        let kind = subst (λ (o : Option (List ℕ)). Kind o old.head new found r (led_with found r)) (told-some s told)
        (kind-now old new s s1 q p leads quiet found behind.kept behind.place) in
        subst (λ (x : Graph). IsLeftAnew (change_of cs) x live q (state_of new.live)) behind.graph
        (subst (λ (ds : List Change). IsLeftAnew (change_of ds) found.graph live q (state_of new.live)) changes-are
        (made-anew s.file old.head new found q r (ends-gives s.file behind.found behind.at.ends) (graph-now old new s s1 q p leads quiet found behind.kept behind.place)
        (same-or-large stays found behind.kept) kind))
