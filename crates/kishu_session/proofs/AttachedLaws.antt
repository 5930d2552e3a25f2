-- A session at the end of a good file is attached where its live state is the same as the head's replay.
use Rattle.std.proofs.Common.{◌≡◌, subst}
use Rattle.std.specs.Prelude.{false}
use Rattle.kishu_host.specs.Host.{State, Only}
use Rattle.kishu_objects.specs.Same.{Same}
use Rattle.kishu_store.specs.Graph.{Graph}
use Rattle.kishu_store.specs.Tables.{change_of}
use Rattle.kishu_replay.specs.Replay.{replay}
use Rattle.kishu_history.specs.Good.{IsGoodFileOf}
use Rattle.kishu_history_laws.specs.stores.BackLaws.{attached_same}
use Rattle.kishu_session_laws.specs.CellLaws.{replays_are_states}
use Rattle.kishu_anew.specs.WholeLaws.{whole_sound}
use Rattle.kishu_session.specs.Attached.{IsAtEnd, IsAttached}
use Rattle.kishu_session.specs.Ends.{at-end-history}
use Rattle.kishu_session.specs.Head.{CountsPath}
use Rattle.kishu_session.specs.Lives.{state_of}
use Rattle.kishu_session.specs.declared.session.Session.{Session}
use Rattle.kishu_session.proofs.AttachFacts.{good-graph, good-rows}
use Rattle.kishu_session.proofs.LiveFacts.{counts-known}

pub same-attached : (session : Session) (s : State) (g : Graph) → session.halted ≡ false → Only s.file s.may_leave → IsAtEnd session s g → IsGoodFileOf s.file g → Same (state_of session.head.live) (replay g g.head.commit) → IsAttached session s g
same-attached session s g going durable at_end is same =
    let live = state_of session.head.live in
    let in_file = at-end-history session s g at_end in
    record {
      going = going;
      durable = durable;
      at_end = at_end;
      count = subst (CountsPath session.head) in_file.graph (counts-known session.head session.journal.place in_file.history in_file.kept (session.known going));
      changes = is.changes;
      gives = is.gives;
      states = attached_same s.file g (change_of is.changes) (good-rows s.file g is) (replays_are_states g) (good-graph s.file g is).head.there live (whole_sound live (session.whole going)) same is.store;
    }
