-- A request that was answered: what the session has then, from what was prepared and what was recorded.
use Rattle.std.proofs.Common.{◌≡◌, ◌<◌, ◌⊎◌, inl, inr, ⊎_elim, ℕ, suc, List, [], ◌∷◌, refl, sym, ◌∙◌, ap, subst, arith}
use Rattle.std.specs.Prelude.{true, Option}
use Rattle.std.proofs.Math.Logic.{∥∥₁_elim}
use Rattle.kishu_host.specs.Host as host
use Rattle.kishu_host.specs.Host.{Elapses, Now, Only}
use Rattle.kishu_host.specs.Going.{goes_on, weaker}
use Rattle.kishu_meaning.specs.values.Values as values
use Rattle.kishu_replay.specs.Replay.{after_cells}
use Rattle.kishu_store.specs.Entries.{Record, entries_in}
use Rattle.kishu_store.specs.Graph.{Commit, Graph, newest, with_commit}
use Rattle.kishu_store.specs.Histories.{History}
use Rattle.kishu_store.specs.Holds.{Gives, HasRecords, Holds, history_by, changes_by}
use Rattle.kishu_store.specs.Limits.{newest_profile}
use Rattle.kishu_store.specs.Tables.{Change, change_of}
use Rattle.kishu_store_laws.specs.Laws.{history-graph, ends-gives, ends-holds, ends-records, has-holds, one_changes}
use Rattle.kishu_graph.specs.Kept.{StandsFor, TellsChanges, KeepsHistory}
use Rattle.kishu_history.specs.Good as good
use Rattle.kishu_history.specs.Good.{IsGoodFileOf}
use Rattle.kishu_history.specs.Sizes.{StaySmall}
use Rattle.kishu_history.specs.Paths.{AreRows}
use Rattle.kishu_live_laws.specs.AtHead.{after_here, stays_small}
use Rattle.kishu_live_laws.specs.OnStates.{after_on, head_rows, ran_by, state_on}
use Rattle.kishu_live_laws.specs.Outcomes.{when_more, more_state}
use Rattle.kishu_model.specs.Request.{Request}
use Rattle.kishu_model.specs.Serve.{after}
use Rattle.kishu_journal.specs.Going.{IsQuiet}
use Rattle.kishu_checkout.specs.Pictures.{told_file}
use Rattle.kishu_session.specs.Attached.{IsAtEnd, IsAttached}
use Rattle.kishu_session.specs.Ends.{at-end-behind}
use Rattle.kishu_session.specs.Head.{CountsPath, IsKnown}
use Rattle.kishu_session.specs.Journals.{BeforeOrAfter, GoodBeforeOrAfter}
use Rattle.kishu_session.specs.Known.{IsHistoryOf}
use Rattle.kishu_session.specs.Lives.{state_of}
use Rattle.kishu_session.specs.Prepared.{LeadsTo, LeadsOn, led_with, record_in, after_by}
use Rattle.kishu_session.specs.Recording.{IsJournalAt, MayGoOn, WithOrWithout, LeavesOne, with_new}
use Rattle.kishu_session.specs.Written.{IsRecorded}
use Rattle.kishu_session.specs.declared.head.Head.{Head}
use Rattle.kishu_session.specs.declared.prepared.Prepared.{Prepared}
use Rattle.kishu_session.specs.declared.session.Session.{Session}
use Rattle.kishu_session.proofs.Grown.{held-led, led-is, lives-led}
use Rattle.kishu_session.proofs.RecordKinds.{Kind, kind-of, led-graph, led-kept}

-- ---- what a session stands behind

-- A session that stands behind records whose history is kept is at the end of their file.
pub behind-at-end : (session : Session) (s : host.State) (rs : List Record) (g : Graph) → IsJournalAt session.journal s.file rs
    → KeepsHistory session.head.graph (history_by rs) → (history_by rs).graph ≡ g → IsAtEnd session s g
behind-at-end session s rs g at keeps same = record {
  journal = record {
    entries = entries_in rs;
    stands = record { found = rs; says = refl; ends = at.ends; place = at.place };
    graph = sym same ∙ history-graph rs;
  };
  graph = subst (λ (x : Graph). StandsFor session.head.graph x) same keeps.graph;
  tables = λ cs gives. subst (λ (x : List Change). TellsChanges session.head.graph x)
      (one_changes s.file (changes_by rs) cs (ends-gives s.file rs at.ends) gives) keeps.changes;
}

-- ---- a request whose cells are committed

module _ (of : ℕ → Change) (s : values.State) (g : Graph) (q : Request) (cells : List (List ℕ)) (is : after_on of s g q ≡ with_commit newest_profile cells g) where
  abbrev first_cells : List Commit → List (List ℕ)
  first_cells [] = []
  first_cells (k ∷ ks) = k.cells

  more-commits : newest g < newest (after_on of s g q)
  more-commits = (let e : newest (after_on of s g q) ≡ suc (newest g) = ap newest is in omega (arith, e))

  -- Those of the commit are the request's, which left the state after it.
  pub cells-are : ran_by (head_rows of g) q s ≡ cells
  cells-are = ap (λ (x : Graph). first_cells x.commits) (sym (when_more of s g q more-commits).graph ∙ is)

  pub left-on : after_cells newest_profile cells s ≡ state_on of s g q
  left-on =
      ap (λ (cs : List (List ℕ)). after_cells newest_profile cs s) (sym cells-are) ∙ sym (more_state of s g q (when_more of s g q more-commits))

  -- On a good store no state after one of them is too large.
  module _ (file : List ℕ) (rows : AreRows of) (attached : good.IsAttached file g of s) where
    pub small-on : StaySmall newest_profile cells s
    small-on =
        let now : newest g < newest (after g q) = subst (λ (x : Graph). newest g < newest x) (after_here file of s g rows attached q) more-commits in
        subst (λ (cs : List (List ℕ)). StaySmall newest_profile cs s) cells-are (stays_small file of s g rows attached q now)

-- ---- the host is only read

pub durable-read : (s s1 : host.State) → IsQuiet s s1 → Only s.file s.may_leave → Only s1.file s1.may_leave
durable-read s s1 quiet only c left = only c (quiet.keeps.crash c left) ∙ sym quiet.keeps.file

-- The file has one record more than the one that was read, or it is that one.
pub recorded-most : (old : Session) (s s1 : host.State) → IsQuiet s s1 → (g : Graph) → IsAtEnd old s g → (t : host.State)
    → ((rs : List Record) → IsJournalAt old.journal s1.file rs → (t.file ≡ s1.file) ⊎ IsRecorded s1.file t.file)
    → (t.file ≡ s.file) ⊎ IsRecorded s.file t.file
recorded-most old s s1 quiet g e t bytes =
    let b = at-end-behind old s g e in
    subst (λ (f : List ℕ). (t.file ≡ f) ⊎ IsRecorded f t.file) quiet.keeps.file
    (bytes b.found (subst (λ (f : List ℕ). IsJournalAt old.journal f b.found) (sym quiet.keeps.file) b.at))

-- ---- what was prepared

module _ (old : Session) (new : Head) (s s1 : host.State) (q : Request) (p : Prepared)
    (leads : LeadsOn (told_file s) old.journal.place old.head new q p) (quiet : IsQuiet s s1) where
  abbrev r : Option Record
  r = record_in p.recorded

  abbrev live : values.State
  live = state_of old.head.live

  abbrev After : History → Graph
  After h = after_by h live q

  module _ (h : History) (kept : IsHistoryOf old.head.graph h) (place : h.place ≡ old.journal.place) where
    pub leads-to : LeadsTo h r (After h)
    leads-to = (leads.prepares h kept place).leads

    pub kept-now : IsHistoryOf new.graph (led_with h r)
    kept-now = led-kept new.graph h (After h) r leads-to (leads.prepares h kept place).keeps kept.good

    pub kind-now : Kind (told_file s) old.head new h r (led_with h r)
    kind-now = kind-of (told_file s) old.head new h (After h) kept r leads-to leads.tells

    pub graph-now : (led_with h r).graph ≡ After h
    graph-now = led-graph h (After h) r leads-to

  -- The file's records change what the history's do.
  pub after-at : (g : Graph) (cs : List Change) (e : IsAtEnd old s g) → Gives s.file cs → After (history_by (at-end-behind old s g e).found) ≡ after_on (change_of cs) live g q
  after-at g cs e gives =
      let b = at-end-behind old s g e in
      let h = history_by b.found in
      let changes : h.changes ≡ cs = one_changes s.file h.changes cs (ends-gives s.file b.found b.at.ends) gives in
      ap (λ (ds : List Change). after_on (change_of ds) live h.graph q) changes ∙ ap (λ (x : Graph). after_on (change_of cs) live x q) b.graph

  -- There is a history that is kept then.
  pub known-after : (place : ℕ) → IsKnown old.head old.journal.place
      → ((h : History) → h.place ≡ old.journal.place → (led_with h r).place ≡ place) → IsKnown new place
  known-after place known moves =
      ∥∥₁_elim known squash₁
      (λ k.
      let h = k.0 in
      let is = k.1 in
      ∣ (
        led_with h r,
        record {
          kept = kept-now h is.kept is.place_is;
          place_is = moves h is.place_is;
          count = subst (λ (g : Graph). CountsPath new g) (sym (graph-now h is.kept is.place_is)) (leads.answers h is.kept is.count).count;
          lives = lives-led (told_file s) old.head new h is.lives r (kept-now h is.kept is.place_is) (kind-now h is.kept is.place_is);
          held = held-led (told_file s) old.head new h is.held r (kept-now h is.kept is.place_is) (kind-now h is.kept is.place_is);
        },
      ) ∣₁)

  -- The record may be appended.
  pub may-go-on : s.tells ≡ true → (g : Graph) → IsAtEnd old s g → MayGoOn old.journal s1 r
  may-go-on told g e told1 =
      let b = at-end-behind old s g e in (
        b.found,
        After (history_by b.found),
        subst (λ (f : List ℕ). IsJournalAt old.journal f b.found) (sym quiet.keeps.file) b.at,
        leads-to
            (history_by b.found) b.kept b.place,
      )

  -- ---- what a stop leaves

  module _ (t : host.State) (leaves : LeavesOne old.journal s1 t r) (told : s.tells ≡ true) (only : Only s.file s.may_leave) where
    pub left-one : (rs : List Record) (now : Graph) → IsJournalAt old.journal s.file rs → LeadsTo (history_by rs) r now
        → Elapses s t (WithOrWithout s rs r)
    left-one rs now at to =
        let P = WithOrWithout s rs r in
        let here : HasRecords s.file rs = ends-records s.file rs at.ends in
        let before = weaker s s1 P (Now s) quiet.time (λ f o l. (l.1, inl (subst (λ (x : List ℕ). HasRecords x rs) (sym (only f l.0)) here))) in
        let later = leaves (quiet.time.tells ∙ told) (durable-read s s1 quiet only) rs now
        (subst (λ (f : List ℕ). IsJournalAt old.journal f rs) (sym quiet.keeps.file) at) to in
        goes_on s s1 t P (WithOrWithout s1 rs r) before later (λ f o w. (w.0 ∙ quiet.keeps.out, w.1))

    pub stop-here : (g : Graph) (cs : List Change) → IsAtEnd old s g → Gives s.file cs → Elapses s t (BeforeOrAfter s g (after_on (change_of cs) live g q))
    stop-here g cs e gives =
        let b = at-end-behind old s g e in
        let rs = b.found in
        let h = history_by rs in
        let After = after_on (change_of cs) live g q in
        let now : (history_by (with_new rs r)).graph ≡ After = ap (λ (x : History). x.graph) (sym (led-is rs r)) ∙ graph-now h b.kept b.place
        ∙ after-at g cs e gives in
        weaker s t (BeforeOrAfter s g After) (WithOrWithout s rs r) (left-one rs (after_by h live q) b.at (leads-to h b.kept b.place))
        (λ f o w. (
          w.0,
          ⊎_elim (λ (k : HasRecords f rs). inl (subst (λ (x : Graph). Holds f x) (sym (history-graph rs) ∙ b.graph) (has-holds f rs k)))
              (λ (k : HasRecords f (with_new rs r)). inr
              (subst (λ (x : Graph). Holds f x) (sym (history-graph (with_new rs r)) ∙ now) (has-holds f (with_new rs r) k))) w.1,
        ))

-- ---- where nothing was prepared, the host was only read

module _ (old : Session) (s s1 : host.State) (quiet : IsQuiet s s1) (only : Only s.file s.may_leave) (g : Graph) where
  at-end-holds : IsAtEnd old s g → Holds s.file g
  at-end-holds e =
      let b = at-end-behind old s g e in
      subst (λ (x : Graph). Holds s.file x) (sym (history-graph b.found) ∙ b.graph) (ends-holds s.file b.found b.at.ends)

  pub quiet-here : (now : Graph) → IsAtEnd old s g → Elapses s s1 (BeforeOrAfter s g now)
  quiet-here now e =
      weaker s s1 (BeforeOrAfter s g now) (Now s) quiet.time
      (λ f o l. (l.1, inl (subst (λ (x : List ℕ). Holds x g) (sym (only f l.0)) (at-end-holds e))))

  pub quiet-good : (now : Graph) → IsAttached old s g → Elapses s s1 (GoodBeforeOrAfter s g now)
  quiet-good now a =
      let is_good : IsGoodFileOf s.file g = record { changes = a.changes; holds = at-end-holds a.at_end; gives = a.gives; store = a.states.good } in
      weaker s s1 (GoodBeforeOrAfter s g now) (Now s) quiet.time
      (λ f o l. (l.1, inl (subst (λ (x : List ℕ). IsGoodFileOf x g) (sym (only f l.0)) is_good)))
