-- A session whose head's state was loaded from a good file is attached to the graph that the file holds.
use Rattle.std.proofs.Common.{◌≡◌, ◌≤◌, ℕ, List, length, ◌∙◌, ap, subst, arith}
use Rattle.std.specs.Prelude.{Bool, true, false, if◌then◌else◌, Option, Some, None}
use Rattle.kishu_host.specs.Host.{State, Told, Only}
use Rattle.kishu_meaning.specs.values.Values as values
use Rattle.kishu_objects.specs.Same.{Same}
use Rattle.kishu_store.specs.Graph.{Graph}
use Rattle.kishu_store.specs.Histories.{History, head_table}
use Rattle.kishu_store.specs.Holds.{Holds}
use Rattle.kishu_store.specs.Tables.{Table, Change, change_of, table_at}
use Rattle.kishu_store_laws.specs.GraphLaws.{IsGraph, held-graph}
use Rattle.kishu_store_laws.specs.Laws.{one_changes}
use Rattle.kishu_store_laws.specs.PlaceLaws.{held-changes}
use Rattle.kishu_replay.specs.Replay.{replay}
use Rattle.kishu_history.specs.Good as good
use Rattle.kishu_history.specs.Good.{IsGoodFileOf}
use Rattle.kishu_history.specs.Live.{IsLive}
use Rattle.kishu_history.specs.Paths.{AreRows}
use Rattle.kishu_history.specs.Stored.{Held, Stored}
use Rattle.kishu_history_laws.specs.stores.ReplayLaws.{live_replay}
use Rattle.kishu_history_laws.specs.tables.FileLaws.{changes_are_rows}
use Rattle.kishu_history_laws.specs.versions.PathLaws.{end_replay}
use Rattle.kishu_session_laws.specs.CellLaws.{replays_are_states}
use Rattle.kishu_live_laws.specs.Fewer.{opened_makes}
use Rattle.kishu_live_laws.specs.Made.{opened_nodes}
use Rattle.kishu_checkout.specs.Loads.{IsLoadedFrom}
use Rattle.kishu_checkout.specs.Pictures.{told_file}
use Rattle.kishu_session.specs.Attached.{IsAtEnd, IsAttached}
use Rattle.kishu_session.specs.Attaching.{KeepsGood}
use Rattle.kishu_session.specs.Becoming.{IsHeadLoaded}
use Rattle.kishu_session.specs.Ends.{IsHistoryIn, at-end-history}
use Rattle.kishu_session.specs.Head.{CountsPath, Counts, IsLoaded}
use Rattle.kishu_session.specs.Lives.{state_of}
use Rattle.kishu_session.specs.declared.head.Head.{Head}
use Rattle.kishu_session.specs.declared.session.Session.{Session}

-- ---- a good file

module _ (file : List ℕ) (g : Graph) (is : IsGoodFileOf file g) where
  abbrev of : ℕ → Change
  of = change_of is.changes

  abbrev t : Table
  t = table_at g of g.head.commit

  pub good-graph : IsGraph g
  good-graph = held-graph file g is.holds

  pub good-rows : AreRows of
  good-rows = (let k = held-changes file g is.changes is.holds is.gives in changes_are_rows g is.changes k.0 k.1)

  -- a state that the head's table tells
  module _ (live : values.State) (told : IsLive (Held file) t live) where
    pub told-same : Same live (replay g g.head.commit)
    told-same = subst (λ (s : values.State). Same live s) (end_replay g g.head.commit) (live_replay file g.commits of good-rows is.store (replays_are_states g) g.head.commit good-graph.head.there live told)

    pub told-attached : good.IsAttached file g of live
    told-attached = record { good = is.store; head = good-graph.head.there; told = told; same = told-same }

-- ---- what the host tells

pub told-some : (s : State) → s.tells ≡ true → told_file s ≡ Some s.file
told-some s told = ap (λ (b : Bool). if b then Some s.file else None) told

pub head-table-of : (h : History) (g : Graph) (cs : List Change) → h.graph ≡ g → h.changes ≡ cs → head_table h ≡ table_at g (change_of cs) g.head.commit
head-table-of h g cs same gives = ap (λ (x : Graph). table_at x (change_of h.changes) x.head.commit) same ∙ ap (λ (l : List Change). table_at g (change_of l) g.head.commit) gives

-- ---- the session

module _ (session : Session) (s : State) (told : s.tells ≡ true) (g : Graph) (is : IsGoodFileOf s.file g) (at_end : IsAtEnd session s g) where
  abbrev head : Head
  head = session.head

  in_file : IsHistoryIn session s.file g
  in_file = at-end-history session s g at_end

  abbrev h : History
  h = in_file.history

  table-here : head_table h ≡ table_at g (change_of is.changes) g.head.commit
  table-here = head-table-of h g is.changes in_file.graph (one_changes s.file h.changes is.changes in_file.gives is.gives)

  module _ (loaded : IsLoaded (told_file s) head) where
    lives-here : IsLive (Held s.file) (table_at g (change_of is.changes) g.head.commit) (state_of head.live)
    lives-here =
        subst (λ (t : Table). IsLive (Held s.file) t (state_of head.live)) table-here
        (subst (λ (o : Option (List ℕ)). IsLive (Stored o) (head_table h) (state_of head.live)) (told-some s told) (loaded h in_file.kept).lives)

    pub loaded-attached : session.halted ≡ false → Only s.file s.may_leave → Counts head → IsAttached session s g
    loaded-attached going durable counts = record {
      going = going;
      durable = durable;
      at_end = at_end;
      count = subst (CountsPath head) in_file.graph (counts h in_file.kept);
      changes = is.changes;
      gives = is.gives;
      states = told-attached s.file g is (state_of head.live) lives-here;
    }

-- ---- how many nodes were loaded

-- From a good file that stays good, where this state was loaded for the head of the graph: as many as the pictures of the head's groups have.
pub opens-nodes : (u : values.State) (s t : State) → Told s ((g : Graph) → Holds t.file g → IsHeadLoaded t.file g u) → KeepsGood s t
    → Told s ((g : Graph) → IsGoodFileOf s.file g → length u.nodes ≤ opened_nodes g g.head.commit)
opens-nodes u s t loads keeps told g was =
    let now = keeps told g was in
    let l = loads told g now.holds in
    let from = subst (λ (cs : List Change). IsLoadedFrom t.file (table_at g (change_of cs) g.head.commit) u) (one_changes t.file l.changes now.changes l.gives now.gives) l.loaded in
    let made = opened_makes t.file g (change_of now.changes) (good-rows t.file g now) now.store g.head.commit (good-graph t.file g now).head.there from.pictures from.each in
    let all = ap (λ (v : values.State). length v.nodes) from.is in
    omega (arith, made, all)
