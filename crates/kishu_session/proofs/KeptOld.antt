-- A checkout of an attached session that isn't refused: which names keep their values, and how many bytes it reads.
use Rattle.std.proofs.Common.{◌≡◌, ◌≤◌, ⊎_elim, ℕ, true, List, None, sym, ◌∙◌, ap, subst, arith}
use Rattle.std.specs.List.{AllZip}
use Rattle.kishu_host.specs.Host as host
use Rattle.kishu_host.specs.Host.{ReadsMore}
use Rattle.kishu_meaning.specs.values.Values as values
use Rattle.kishu_meaning.specs.values.Values.{find}
use Rattle.kishu_objects.specs.Lists.{In}
use Rattle.kishu_objects.specs.Sizes.{size_among}
use Rattle.kishu_objects_laws.specs.ListLaws.{map_in}
use Rattle.kishu_store.specs.Graph.{Commit, Graph, Target, newest, with_head}
use Rattle.kishu_store.specs.Histories.{History}
use Rattle.kishu_store.specs.Holds.{Holds, history_by}
use Rattle.kishu_store.specs.Tables.{Change, Table, bytes_in, change_of, group_in, groups_in, table_at}
use Rattle.kishu_store_laws.specs.Laws.{ends-gives, one_changes}
use Rattle.kishu_store_laws.specs.PlaceLaws.{held-changes}
use Rattle.kishu_replay.specs.Replay.{replay}
use Rattle.kishu_history.specs.Changed.{Group}
use Rattle.kishu_history.specs.Checkout.{carried, to_drop, to_keep, to_load}
use Rattle.kishu_history.specs.Good.{IsGoodFileOf}
use Rattle.kishu_history.specs.Live.{IsPictureOf}
use Rattle.kishu_history.specs.Paths.{AreRows, stops}
use Rattle.kishu_history.specs.Stored.{Held}
use Rattle.kishu_history.specs.Tables.{AreOfOne, IsTable}
use Rattle.kishu_history.specs.Versions.{kept, loaded}
use Rattle.kishu_history_laws.specs.checkouts.PlaceLaws.{carried_names}
use Rattle.kishu_history_laws.specs.checkouts.PlanLaws.{keeps_kept}
use Rattle.kishu_history_laws.specs.stores.ReplayLaws.{good_table}
use Rattle.kishu_history_laws.specs.stores.StoreLaws.{tables_of_one}
use Rattle.kishu_history_laws.specs.tables.FileLaws.{changes_are_tables}
use Rattle.kishu_session_laws.specs.CellLaws.{replays_are_states}
use Rattle.kishu_live_laws.specs.LoadedBytes.{moved_bytes}
use Rattle.kishu_live_laws.specs.OnStates.{head_rows}
use Rattle.kishu_live_laws.specs.Outcomes.{still_state, when_none}
use Rattle.kishu_model.specs.Request.{Request, Stepped, checkout}
use Rattle.kishu_model.specs.Serve.{after}
use Rattle.kishu_model.specs.Values.{answer_of}
use Rattle.kishu_checkout.specs.Pictures.{told_file}
use Rattle.kishu_journal.specs.Going.{IsQuiet}
use Rattle.kishu_session.specs.Attached.{IsAttached}
use Rattle.kishu_session.specs.Becoming.{IsCarriedAfter, IsHeadCarried, IsLeftBy, IsLoadedAfter, IsNextState}
use Rattle.kishu_session.specs.Ends.{IsBehind, at-end-behind, at-end-history}
use Rattle.kishu_session.specs.Lives.{state_of}
use Rattle.kishu_session.specs.Prepared.{LeadsOn, RefusesNoSize}
use Rattle.kishu_session.specs.Refusing.{IsRefusal}
use Rattle.kishu_session.specs.Renewing.{StaysHere}
use Rattle.kishu_session.specs.Working.{ReadsRows}
use Rattle.kishu_session.specs.declared.head.Head.{Head}
use Rattle.kishu_session.specs.declared.prepared.Prepared.{Prepared}
use Rattle.kishu_session.specs.declared.session.Session.{Session}
use Rattle.kishu_session.proofs.AttachFacts.{good-graph, good-rows}
use Rattle.kishu_session.proofs.Gone.{free, went}
use Rattle.kishu_session.proofs.LiveFacts.{goes-on-live}
use Rattle.kishu_session.proofs.ReadFacts.{reads-there}

module _ (old : Session) (new : Head) (s : host.State) (q : Request) (p : Prepared) (leads : LeadsOn (told_file s) old.journal.place old.head new q p)
    (to : List ℕ) (is : q ≡ checkout to) (not : IsRefusal (answer_of p.answer) → ⊥) (g : Graph) (a : IsAttached old s g) where
  abbrev of : ℕ → Change
  of = change_of a.changes

  abbrev u : values.State
  u = state_of old.head.live

  abbrev v : values.State
  v = state_of new.live

  abbrev now : Graph
  now = after g (checkout to)

  abbrev c : ℕ
  c = now.head.commit

  abbrev is-good : IsGoodFileOf s.file g
  is-good = (let i = at-end-history old s g a.at_end in record { changes = a.changes; holds = subst (λ (x : Graph). Holds s.file x) i.graph i.holds; gives = a.gives; store = a.states.good })

  rows : AreRows of
  rows = good-rows s.file g is-good

  there : c ≤ newest g
  there = reads-there g (good-graph s.file g is-good) (checkout to)

  -- Its graph has the commits of before, and one record more.
  gone : (t : Target) × (now ≡ with_head t g)
  gone =
      let w = went g to (free old new s q p leads to is not g a.at_end.graph) in
      (w.0, ap (λ (x : Stepped). x.graph) w.1)

  none : newest now ≤ newest g
  none = omega (arith, ap newest gone.1)

  -- ---- names

  abbrev t : Table
  t = table_at g of g.head.commit

  abbrev w : Table
  w = table_at g of c

  are-tables : (n : ℕ) → IsTable (table_at g of n)
  are-tables n = (let k = held-changes s.file g a.changes is-good.holds a.gives in changes_are_tables g a.changes k.0 k.1 n)

  of-one : AreOfOne t w
  of-one = tables_of_one g.commits of rows g.head.commit c

  keeps : groups_in (to_keep t w) ≡ kept (stops g g.head.commit) (stops g c)
  keeps =
      keeps_kept (stops g g.head.commit) (stops g c) t w (good_table s.file g.commits of rows a.states.good (replays_are_states g) g.head.commit a.states.head)
      (good_table s.file g.commits of rows a.states.good (replays_are_states g) c there)

  module _ (group : Group) (m : In group (kept (stops g g.head.commit) (stops g c))) (x : List ℕ) (own : In x group) where
    abbrev Keeps : Type 0
    Keeps = find x v.names ≡ find x u.names

    carried-keep : IsHeadCarried s.file of g now u v → Keeps
    carried-keep k =
        let table : head_rows of now ≡ w = ap (λ (ks : List Commit). table_at (record now { commits = ks }) of c) (ap (λ (y : Graph). y.commits) gone.1) in
        let row = map_in group_in (to_keep t w) group (subst (λ (gs : List Group). In group gs) (sym keeps) m) in
        let zip = subst (λ (l : Table). AllZip (IsPictureOf (Held s.file)) (to_load t l) k.pictures) table k.each in
        ap (λ (y : values.State). find x y.names) (k.is ∙ ap (λ (l : Table). carried (to_drop t l) k.pictures u) table)
        ∙ carried_names (Held s.file) t w k.pictures u (are-tables g.head.commit) (are-tables c) of-one zip row.0 x row.1 (subst (λ (h : Group). In x h) row.2 own)

    -- It didn't load the state anew before.
    keeps-by : StaysHere old.head → IsNextState s.file of g u (checkout to) v → Keeps
    keeps-by few =
        ⊎_elim (λ (k : IsLeftBy of g u (checkout to) v). ap (λ (y : values.State). find x y.names) (k.exact tt ∙ still_state of u g (checkout to) (when_none of u g (checkout to) none)))
        (⊎_elim (λ (k : IsCarriedAfter s.file of g u (checkout to) v). carried-keep (subst (λ (y : values.State). IsHeadCarried s.file of g now y v) (k.starts.stays few) k.carried))
        (λ (k : IsLoadedAfter s.file of g u (checkout to) v). absurd (omega (arith, ap (λ (y : Graph). y.records) (sym k.0 ∙ gone.1)))))

    pub names-kept : StaysHere old.head → (s1 : host.State) → IsQuiet s s1 → (p.recorded ≡ None → RefusesNoSize p.answer → new ≡ old.head) → s.tells ≡ true → Keeps
    names-kept few s1 quiet stays told = keeps-by few (subst (λ (r : Request). IsNextState s.file of g u r v) is (goes-on-live old new s q p leads g a.changes a.at_end a.gives s1 quiet stays told))

  -- ---- bytes

  abbrev behind : IsBehind old s.file g
  behind = at-end-behind old s g a.at_end

  abbrev found : History
  found = history_by behind.found

  abbrev rows-by : Graph → List Change → Table
  rows-by x cs = to_load (table_at x (change_of cs) x.head.commit) (table_at x (change_of cs) (after x (checkout to)).head.commit)

  rows-are : rows-by found.graph found.changes ≡ to_load t w
  rows-are =
      ap (λ (x : Graph). rows-by x found.changes) behind.graph
      ∙ ap (λ (cs : List Change). rows-by g cs) (one_changes s.file found.changes a.changes (ends-gives s.file behind.found behind.at.ends) a.gives)

  -- They are those of the pictures of the groups that are loaded.
  pub reads-loaded : (s1 : host.State) → ReadsRows old.head.graph s s1 to p → (p.recorded ≡ None → ⊥)
      → ReadsMore s.reads s1.reads (size_among (loaded (stops g g.head.commit) (stops g c)) (replay g c))
  reads-loaded s1 reads some =
      subst (λ (n : ℕ). ReadsMore s.reads s1.reads n) (ap bytes_in rows-are ∙ moved_bytes s.file g of rows a.states.good g.head.commit c a.states.head there)
      (reads some found behind.kept)
