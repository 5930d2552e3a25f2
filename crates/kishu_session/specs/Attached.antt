-- A session that stands for the graph of its host's file.
use Rattle.std.specs.Prelude.{◌≡◌, false, List}
use Rattle.kishu_host.specs.Host as host
use Rattle.kishu_store.specs.Graph.{Graph}
use Rattle.kishu_store.specs.Holds.{Gives}
use Rattle.kishu_store.specs.Tables.{Change, change_of}
use Rattle.kishu_graph.specs.Kept.{StandsFor, TellsChanges}
use Rattle.kishu_history.specs.Good as good
use Rattle.kishu_checkout.specs.Pictures.{told_file}
use Rattle.kishu_session.specs.Head.{CountsPath, Lives}
use Rattle.kishu_session.specs.Journals.{IsJournalOf}
use Rattle.kishu_session.specs.Lives.{state_of}
use Rattle.kishu_session.specs.declared.session.Session.{Session}

-- The session's journal stands at the file's end, and its graph is the one that the file holds, with the tables that the file's records give.
pub record IsAtEnd (session : Session) (s : host.State) (g : Graph) : Type 0 where
  pub journal : IsJournalOf session.journal s.file g
  pub graph : StandsFor session.head.graph g
  pub tables : (cs : List Change) → Gives s.file cs → TellsChanges session.head.graph cs

-- No earlier call ended the session, and nothing is pending. It stands at the end of the file, which is good; and the live state is the one that the head's table tells, and the same as that of the head's replay, sharing and identity included.
pub record IsAttached (session : Session) (s : host.State) (g : Graph) : Type 0 where
  pub going : session.halted ≡ false
  pub durable : host.Only s.file s.may_leave
  pub at_end : IsAtEnd session s g
  pub count : CountsPath session.head g
  pub changes : List Change
  pub gives : Gives s.file changes
  pub states : good.IsAttached s.file g (change_of changes) (state_of session.head.live)

-- The session stands at the end of its host's file, whichever graph that holds.
abbrev pub StandsAtEnd : Session → host.State → Type 0
StandsAtEnd session s = (g : Graph) × IsAtEnd session s g

-- Where no earlier call ended the session, and the host tells its content, it stands there.
abbrev pub IsReady : Session → host.State → Type 0
IsReady session s = session.halted ≡ false → host.Told s (StandsAtEnd session s)

-- ---- the live state, on every store

-- The bound names are just those of the rows of the head's table, no two of these rows share a node, and each has a picture of the length that the row tells: where the host tells its file, the one that the file holds at the row's place.
abbrev pub LivesIn : Session → host.State → Type 0
LivesIn session s = Lives (told_file s) session.head
