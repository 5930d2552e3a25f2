-- When a store is good in what it keeps of states, and what a session attached to it has.
use Rattle.std.specs.Prelude.{◌≤◌, ℕ, List, length}
use Rattle.kishu_meaning.specs.values.Values.{State, empty}
use Rattle.kishu_store.specs.Graph.{Commit, Graph, path_in, newest}
use Rattle.kishu_store.specs.Holds.{Holds, Gives}
use Rattle.kishu_replay.specs.Replay.{replay}
use Rattle.kishu_objects.specs.Same.{Same}
use Rattle.kishu_objects.specs.Picture.{picture}
use Rattle.kishu_objects.specs.Lists.{In}
use Rattle.kishu_history.specs.Versions.{at_end}
use Rattle.kishu_history.specs.Tables.{Row, Change, AreRight}
use Rattle.kishu_history.specs.Paths.{stops_in, changes_in, table_in, change_of}
use Rattle.kishu_history.specs.Live.{IsLive}
use Rattle.kishu_history.specs.Stored.{Held, IsWritten}
use Rattle.kishu_history.specs.Sizes.{AllStaySmall}

-- Where `of` says for each commit's number what its record drops and stores: along each path these are the groups that each commit has to drop and to store, each stored picture is that of the group in the commit's replay, and no replay is too large after any cell. That the file holds the graph is said beside it.
pub record IsGoodStore (file : List ℕ) (ks : List Commit) (of : ℕ → Change) : Type 0 where
  pub right : (c : ℕ) → c ≤ length ks → AreRight (stops_in ks c) (changes_in ks of c)
  pub pictures : (c : ℕ) → c ≤ length ks → (r : Row) → In r (of c).stored → Held file r (picture (at_end (stops_in ks c)) r.group)
  pub small : (c : ℕ) → c ≤ length ks → AllStaySmall (path_in ks c) empty

-- The same, with nothing asked of the stored pictures but their bytes. Where the cells are texts it is one with a good store: what a replay gives can be written.
pub record IsWrittenStore (file : List ℕ) (ks : List Commit) (of : ℕ → Change) : Type 0 where
  pub right : (c : ℕ) → c ≤ length ks → AreRight (stops_in ks c) (changes_in ks of c)
  pub pictures : (c : ℕ) → c ≤ length ks → (r : Row) → In r (of c).stored → IsWritten file r (picture (at_end (stops_in ks c)) r.group)
  pub small : (c : ℕ) → c ≤ length ks → AllStaySmall (path_in ks c) empty

-- ---- files

-- A good file that holds this graph: what the commits of its records change is what they have to drop and store.
pub record IsGoodFileOf (file : List ℕ) (g : Graph) : Type 0 where
  pub changes : List Change
  pub holds : Holds file g
  pub gives : Gives file changes
  pub store : IsGoodStore file g.commits (change_of changes)

-- A good file holds some graph so.
abbrev pub IsGoodFile : List ℕ → Type 0
IsGoodFile file = (g : Graph) × IsGoodFileOf file g

-- the same by the bytes of its stored pictures
pub record IsWrittenFileOf (file : List ℕ) (g : Graph) : Type 0 where
  pub changes : List Change
  pub holds : Holds file g
  pub gives : Gives file changes
  pub store : IsWrittenStore file g.commits (change_of changes)

-- ---- sessions

-- What a session on such a store has of states: the head's commit is there, the live state is the one that the head's table tells, and it is the same as the head's replay.
pub record IsAttached (file : List ℕ) (g : Graph) (of : ℕ → Change) (live : State) : Type 0 where
  pub good : IsGoodStore file g.commits of
  pub head : g.head.commit ≤ newest g
  pub told : IsLive (Held file) (table_in g.commits of g.head.commit) live
  pub same : Same live (replay g g.head.commit)
