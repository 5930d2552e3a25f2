-- A session that was attached stays attached, and the live state stays the one that the head's table tells.
use Rattle.std.proofs.Common.{◌≡◌, ◌≤◌, ◌+◌, inl, inr, ⊎_elim, ℕ, List, refl, sym, ◌∙◌, ap, subst}
use Rattle.std.specs.Prelude.{Bool, true, false, if◌then◌else◌, Option, Some, None}
use Rattle.std.proofs.Math.Logic.{∥∥₁_elim}
use Rattle.kishu_host.specs.Host as host
use Rattle.kishu_host.specs.Host.{Elapses, Only}
use Rattle.kishu_host.specs.Going.{weaker}
use Rattle.kishu_meaning.specs.values.Values as values
use Rattle.kishu_objects.specs.Same.{Same}
use Rattle.kishu_store.specs.Entries.{Record}
use Rattle.kishu_store.specs.Graph.{Graph}
use Rattle.kishu_store.specs.Histories.{History, head_table}
use Rattle.kishu_store.specs.Holds.{Gives, HasRecords, Holds, history_by}
use Rattle.kishu_store.specs.Limits.{newest_profile}
use Rattle.kishu_store.specs.Tables.{Table, Change, change_of, table_at}
use Rattle.kishu_store_laws.specs.Laws.{ends-gives, ends-holds, ends-records, history-graph, one_changes}
use Rattle.kishu_graph.specs.Kept.{Kept, KeepsHistory}
use Rattle.kishu_history.specs.Good as good
use Rattle.kishu_history.specs.Good.{IsGoodFileOf}
use Rattle.kishu_history.specs.Live.{IsLive}
use Rattle.kishu_history.specs.Stored.{Held, Stored}
use Rattle.kishu_history_laws.specs.stores.BackLaws.{live_one}
use Rattle.kishu_history.specs.Paths.{AreRows}
use Rattle.kishu_history.specs.Sizes.{StaySmall}
use Rattle.kishu_history_laws.specs.tables.FileLaws.{changes_are_rows, changes_are_tables, root_changes}
use Rattle.kishu_live_laws.specs.AtHead.{answer_here, after_here, charge_here}
use Rattle.kishu_live_laws.specs.OnStates.{after_on}
use Rattle.kishu_model.specs.Answers.{Answer}
use Rattle.kishu_model.specs.Request.{Request}
use Rattle.kishu_model.specs.Serve.{after}
use Rattle.kishu_model.specs.Step.{step, charge_of}
use Rattle.kishu_model.specs.Values.{answer_of}
use Rattle.kishu_journal.specs.Going.{IsQuiet}
use Rattle.kishu_journal.specs.Stands.{JournalState}
use Rattle.kishu_checkout.specs.Pictures.{told_file}
use Rattle.kishu_session.specs.Attached.{IsAtEnd, IsAttached, StandsAtEnd, LivesIn}
use Rattle.kishu_session.specs.Ends.{IsBehind, at-end-behind}
use Rattle.kishu_session.specs.Head.{CountsPath, IsKnown, Lives, LivesAt}
use Rattle.kishu_session.specs.Journals.{GoodBeforeOrAfter}
use Rattle.kishu_session.specs.Known.{IsHistoryOf}
use Rattle.kishu_session.specs.Lives.{state_of}
use Rattle.kishu_session.specs.Prepared.{CountsOn, IsBack, LeadsOn, after_by, led_with, record_in}
use Rattle.kishu_session.specs.Recording.{IsJournalAt, GoesOn, LeavesOne, WithOrWithout, with_new}
use Rattle.kishu_session.specs.declared.head.Head.{Head}
use Rattle.kishu_session.specs.declared.prepared.Prepared.{Prepared}
use Rattle.kishu_session.specs.declared.session.Session.{Session}
use Rattle.kishu_session.proofs.Applied.{after-at, behind-at-end, graph-now, kept-now, kind-now, leads-to, left-one, small-on}
use Rattle.kishu_session.proofs.AttachFacts.{told-attached, told-some}
use Rattle.kishu_session.proofs.Grown.{led-is, lives-grown, good-grown}
use Rattle.kishu_session.proofs.RecordKinds.{Kind, IsCommitted}
use Rattle.kishu_session.proofs.OneTable.{one-head-table}
use Rattle.kishu_session.proofs.Untold.{live-there}

module _ (old : Session) (new : Head) (s s1 : host.State) (q : Request) (p : Prepared)
    (leads : LeadsOn (told_file s) old.journal.place old.head new q p) (quiet : IsQuiet s s1) where
  abbrev r : Option Record
  r = record_in p.recorded

  abbrev live : values.State
  live = state_of old.head.live

  abbrev After : History → Graph
  After h = after_by h live q

  -- ---- behind these records

  module _ (told : s.tells ≡ true) (rs : List Record) (at : IsJournalAt old.journal s.file rs) (kept : IsHistoryOf old.head.graph (history_by rs))
      (place : (history_by rs).place ≡ old.journal.place) where
    abbrev h : History
    h = history_by rs

    abbrev n : History
    n = history_by (with_new rs r)

    here : HasRecords s.file rs
    here = ends-records s.file rs at.ends

    kind : Kind (Some s.file) old.head new h r n
    kind =
        subst (λ (x : History). Kind (Some s.file) old.head new h r x) (led-is rs r)
        (subst (λ (f : Option (List ℕ)). Kind f old.head new h r (led_with h r)) (told-some s told)
        (kind-now old new s s1 q p leads quiet h kept place))

    kept-new : IsHistoryOf new.graph n
    kept-new = subst (λ (x : History). IsHistoryOf new.graph x) (led-is rs r) (kept-now old new s s1 q p leads quiet h kept place)

    graph-new : n.graph ≡ After h
    graph-new = ap (λ (x : History). x.graph) (sym (led-is rs r)) ∙ graph-now old new s s1 q p leads quiet h kept place

    -- The file that was appended to has the new head's pictures.
    pub lives-new : (grown : List ℕ) → HasRecords grown (with_new rs r) → LivesAt (Some s.file) old.head h → LivesAt (Some grown) new n
    lives-new grown has lives = lives-grown s.file grown rs r here has old.head new lives kept-new kind

    module _ (a : IsAttached old s h.graph) where
      states : good.IsAttached s.file h.graph (change_of h.changes) live
      states =
          subst (λ (cs : List Change). good.IsAttached s.file h.graph (change_of cs) live)
          (one_changes s.file a.changes h.changes a.gives (ends-gives s.file rs at.ends)) a.states

      rows : AreRows (change_of h.changes)
      rows = changes_are_rows h.graph h.changes h.place kept.good.changes

      after-is : After h ≡ after h.graph q
      after-is = after_here s.file (change_of h.changes) live h.graph rows states q

      small : (k : IsCommitted (Some s.file) old.head new h r) → StaySmall newest_profile k.cells live
      small k =
          small-on (change_of h.changes) live h.graph q k.cells
          (sym (graph-now old new s s1 q p leads quiet h kept place) ∙ ap (λ (o : Option Record). (led_with h o).graph) k.is)
          s.file rows states

      good-new : (grown : List ℕ) → HasRecords grown (with_new rs r) → IsGoodFileOf grown n.graph
      good-new grown has = good-grown s.file grown rs r here has old.head new states kind small

      -- a file with the records of before
      good-old : (grown : List ℕ) → HasRecords grown rs → IsGoodFileOf grown h.graph
      good-old grown has =
          good-grown s.file grown rs None here has old.head old.head states
          (inl (record { same = record { commits = refl; changes = refl }; head = refl; live = refl; table = refl; kept = refl })) (λ k. absurd (cc (k.is)))

      stop-new : (t : host.State) → LeavesOne old.journal s1 t r → Elapses s t (GoodBeforeOrAfter s h.graph (after h.graph q))
      stop-new t leaves =
          weaker s t (GoodBeforeOrAfter s h.graph (after h.graph q)) (WithOrWithout s rs r)
          (left-one old new s s1 q p leads quiet t leaves told a.durable rs (After h) at (leads-to old new s s1 q p leads quiet h kept place))
          (λ f o w. (
            w.0,
            ⊎_elim (λ (k : HasRecords f rs). inl (good-old f k))
                (λ (k : HasRecords f (with_new rs r)). inr (subst (λ (g : Graph). IsGoodFileOf f g) (graph-new ∙ after-is) (good-new f k))) w.1,
          ))

      -- the session that goes on
      module _ (next : Session) (is : next.head ≡ new) (going : next.halted ≡ false) (t : host.State)
          (goes : IsJournalAt next.journal t.file (with_new rs r)) (durable : Only t.file t.may_leave) where
        has : HasRecords t.file (with_new rs r)
        has = ends-records t.file (with_new rs r) goes.ends

        now_good : IsGoodFileOf t.file n.graph
        now_good = good-new t.file has

        told-new : IsLive (Held t.file) (table_at n.graph (change_of now_good.changes) n.graph.head.commit) (state_of new.live)
        told-new =
            subst (λ (cs : List Change). IsLive (Held t.file) (table_at n.graph (change_of cs) n.graph.head.commit) (state_of new.live))
            (one_changes t.file n.changes now_good.changes (ends-gives t.file (with_new rs r) goes.ends) now_good.gives)
            (lives-new t.file has states.told)

        attached-here : IsAttached next t n.graph
        attached-here = record {
          going = going;
          durable = durable;
          at_end = behind-at-end next t (with_new rs r) n.graph goes (subst (λ (x : Head). KeepsHistory x.graph n) (sym is) kept-new.keeps) refl;
          count = subst (λ (x : Head). CountsPath x n.graph) (sym is)
              (subst (λ (g : Graph). CountsPath new g) (sym graph-new) (leads.answers h kept a.count).count);
          changes = now_good.changes;
          gives = now_good.gives;
          states = subst (λ (x : Head). good.IsAttached t.file n.graph (change_of now_good.changes) (state_of x.live)) (sym is)
              (told-attached t.file n.graph now_good (state_of new.live) told-new);
        }

        pub attached-new : IsAttached next t (after h.graph q)
        attached-new = subst (λ (g : Graph). IsAttached next t g) (graph-new ∙ after-is) attached-here

  -- ---- from an attached session

  pub attached-after : s.tells ≡ true → (next : Session) → next.head ≡ new → next.halted ≡ false → (t : host.State)
      → GoesOn old.journal next.journal s1 t r → Only t.file t.may_leave
      → (g : Graph) → IsAttached old s g → IsAttached next t (after g q)
  attached-after told next is going t goes durable g a =
      let b = at-end-behind old s g a.at_end in
      let rs = b.found in
      let to = leads-to old new s s1 q p leads quiet (history_by rs) b.kept b.place in
      let at1 = subst (λ (f : List ℕ). IsJournalAt old.journal f rs) (sym quiet.keeps.file) b.at in
      subst (λ (x : Graph). IsAttached next t (after x q)) b.graph
      (attached-new told rs b.at b.kept b.place (subst (λ (x : Graph). IsAttached old s x) (sym b.graph) a) next is going t
      (goes (quiet.time.tells ∙ told) rs (After (history_by rs)) at1 to) durable)

  -- the facts of an attached session, of the history that it stands behind
  module _ (g : Graph) (a : IsAttached old s g) where
    abbrev behind : IsBehind old s.file g
    behind = at-end-behind old s g a.at_end

    abbrev found : History
    found = history_by behind.found

    found-gives : Gives s.file found.changes
    found-gives = ends-gives s.file behind.found behind.at.ends

    found-states : good.IsAttached s.file found.graph (change_of found.changes) live
    found-states =
        subst (λ (x : Graph). good.IsAttached s.file x (change_of found.changes) live) (sym behind.graph)
        (subst (λ (cs : List Change). good.IsAttached s.file g (change_of cs) live) (one_changes s.file a.changes found.changes a.gives found-gives) a.states)

    found-rows : AreRows (change_of found.changes)
    found-rows = changes_are_rows found.graph found.changes found.place behind.kept.good.changes

    found-holds : Holds s.file found.graph
    found-holds = subst (λ (x : Graph). Holds s.file x) (sym (history-graph behind.found)) (ends-holds s.file behind.found behind.at.ends)

    pub answer-after : answer_of p.answer ≡ Some (step g q).answer
    answer-after =
        subst (λ (x : Graph). answer_of p.answer ≡ Some (step x q).answer) behind.graph
        ((leads.answers found behind.kept (subst (λ (x : Graph). CountsPath old.head x) (sym behind.graph) a.count)).answer
        ∙ ap (λ (x : Answer). Some x) (answer_here s.file (change_of found.changes) live found.graph found-rows found-states found-holds (root_changes found.changes) q))

    pub counts-after : (before now : ℕ) → CountsOn old.head q before now → before + charge_of g q ≤ now
    counts-after before now counts =
        subst (λ (x : Graph). before + charge_of x q ≤ now) behind.graph
        (subst (λ (n : ℕ). before + n ≤ now) (charge_here s.file (change_of found.changes) live found.graph found-rows found-states q) (counts found behind.kept))

  pub stop-after : s.tells ≡ true → (t : host.State) → LeavesOne old.journal s1 t r → (g : Graph) → IsAttached old s g
      → Elapses s t (GoodBeforeOrAfter s g (after g q))
  stop-after told t leaves g a =
      let b = at-end-behind old s g a.at_end in
      subst (λ (x : Graph). Elapses s t (GoodBeforeOrAfter s x (after x q))) b.graph
      (stop-new told b.found b.at b.kept b.place (subst (λ (x : Graph). IsAttached old s x) (sym b.graph) a) t leaves)

  -- ---- from one at the file's end

  pub at-end-after : s.tells ≡ true → (next : Session) → next.head ≡ new → (t : host.State) → GoesOn old.journal next.journal s1 t r → (g : Graph) (cs : List Change)
      → IsAtEnd old s g → Gives s.file cs → IsAtEnd next t (after_on (change_of cs) live g q)
  at-end-after told next is t goes g cs e gives =
      let b = at-end-behind old s g e in
      let rs = b.found in
      let h = history_by rs in
      let to = leads-to old new s s1 q p leads quiet h b.kept b.place in
      let at1 = subst (λ (f : List ℕ). IsJournalAt old.journal f rs) (sym quiet.keeps.file) b.at in
      let now = goes (quiet.time.tells ∙ told) rs (After h) at1 to in
      let kept = kept-new told rs b.at b.kept b.place in
      behind-at-end next t (with_new rs r) (after_on (change_of cs) live g q) now
      (subst (λ (x : Head). KeepsHistory x.graph (history_by (with_new rs r))) (sym is) kept.keeps)
      (graph-new told rs b.at b.kept b.place ∙ after-at old new s s1 q p leads quiet g cs e gives)

  -- ---- the live state, on every store

  module _ (journal : JournalState) (t : host.State) (known : IsKnown new journal.place) (goes : GoesOn old.journal journal s1 t r)
      (ready : host.Told s (StandsAtEnd old s)) (tells : t.tells ≡ s.tells) where
    -- Each history that is kept has one table at its head.
    lives-one : (file : Option (List ℕ)) (m : History) → IsHistoryOf new.graph m → LivesAt file new m → (j : History) → IsHistoryOf new.graph j
        → LivesAt file new j
    lives-one file m kept lives j other =
        subst (λ (x : Table). IsLive (Stored file) x (state_of new.live)) (one-head-table new.graph m j kept other) lives

    lives-told : s.tells ≡ true → LivesIn old s → (j : History) → IsHistoryOf new.graph j → LivesAt (told_file t) new j
    lives-told told lives j other =
        let e = ready told in
        let b = at-end-behind old s e.0 e.1 in
        let rs = b.found in
        let h = history_by rs in
        let to = leads-to old new s s1 q p leads quiet h b.kept b.place in
        let at1 = subst (λ (f : List ℕ). IsJournalAt old.journal f rs) (sym quiet.keeps.file) b.at in
        let now = goes (quiet.time.tells ∙ told) rs (After h) at1 to in
        let before = subst (λ (f : Option (List ℕ)). LivesAt f old.head h) (told-some s told) (lives h b.kept) in
        let after = lives-new told rs b.at b.kept b.place t.file (ends-records t.file (with_new rs r) now.ends) before in
        subst (λ (f : Option (List ℕ)). LivesAt f new j) (sym (told-some t (tells ∙ told)))
        (lives-one (Some t.file) (history_by (with_new rs r)) (kept-new told rs b.at b.kept b.place) after j other)

    lives-untold-now : s.tells ≡ false → (j : History) → IsHistoryOf new.graph j → LivesAt (told_file t) new j
    lives-untold-now untold j other =
        subst (λ (f : Option (List ℕ)). LivesAt f new j) (sym (ap (λ (b : Bool). if b then Some t.file else None) (tells ∙ untold)))
        (live-there (head_table j) (state_of new.live) (∥∥₁_elim known squash₁ (λ k. ∣ lives-one None k.0 k.1.kept k.1.lives j other ∣₁)))

    lives-by : (b : Bool) → s.tells ≡ b → LivesIn old s → (j : History) → IsHistoryOf new.graph j → LivesAt (told_file t) new j
    lives-by true told lives = lives-told told lives
    lives-by false untold lives = lives-untold-now untold

    pub lives-after : LivesIn old s → Lives (told_file t) new
    lives-after = lives-by s.tells refl

-- ---- back at the head's state

-- It is the same as the one before, which the file tells, too.
pub back-same : (old : Session) (new : Head) (s : host.State) → s.tells ≡ true → StandsAtEnd old s → IsBack (told_file s) old.head new
    → LivesIn old s → Same (state_of new.live) (state_of old.head.live)
back-same old new s told e back lives =
    let b = at-end-behind old s e.0 e.1 in
    let h = history_by b.found in
    let kept = subst (λ (x : Kept). IsHistoryOf x h) (sym back.graph) b.kept in
    let now = subst (λ (f : Option (List ℕ)). LivesAt f new h) (told-some s told) (back.loaded h kept).lives in
    let before = subst (λ (f : Option (List ℕ)). LivesAt f old.head h) (told-some s told) (lives h b.kept) in
    (live_one s.file (head_table h) (state_of new.live) (state_of old.head.live)
    (changes_are_tables h.graph h.changes h.place b.kept.good.changes h.graph.head.commit) now before).0
