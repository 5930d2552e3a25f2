-- What a session keeps that stands at the end of a file: the history of the file's records, whose graph the file holds and whose changes it gives.
use Rattle.std.specs.Prelude.{◌≡◌, ℕ, List}
use Rattle.std.proofs.Common.{sym, ◌∙◌, ap, subst}
use Rattle.kishu_host.specs.Host as host
use Rattle.kishu_store.specs.Entries.{Entry, Record}
use Rattle.kishu_store.specs.Graph.{Graph}
use Rattle.kishu_store.specs.Histories.{History}
use Rattle.kishu_store.specs.Holds.{Holds, Gives, graph_of, history_by, changes_by}
use Rattle.kishu_store_laws.specs.HistoryLaws.{records-history, place-end}
use Rattle.kishu_store_laws.specs.Laws.{history-graph, ends-holds, ends-gives}
use Rattle.kishu_graph.specs.Kept.{StandsFor}
use Rattle.kishu_session.specs.Attached.{IsAtEnd}
use Rattle.kishu_session.specs.Known.{IsHistoryOf}
use Rattle.kishu_session.specs.Recording.{IsJournalAt}
use Rattle.kishu_session.specs.declared.session.Session.{Session}

-- The session stands behind these records. Their history is kept, and has this graph.
pub record IsBehind (session : Session) (file : List ℕ) (g : Graph) : Type 0 where
  pub found : List Record
  pub at : IsJournalAt session.journal file found
  pub kept : IsHistoryOf session.head.graph (history_by found)
  pub place : (history_by found).place ≡ session.journal.place
  pub graph : (history_by found).graph ≡ g

pub at-end-behind : (session : Session) (s : host.State) (g : Graph) → IsAtEnd session s g → IsBehind session s.file g
at-end-behind session s g e =
    let stands = e.journal.stands in
    let found = stands.found in
    let same : (history_by found).graph ≡ g = history-graph found ∙ ap (λ (es : List Entry). graph_of es) stands.says ∙ sym e.journal.graph in
    record {
      found = found;
      at = record { ends = stands.ends; place = stands.place };
      kept = record {
        keeps = record {
          graph = subst (λ (x : Graph). StandsFor session.head.graph x) (sym same) e.graph;
          changes = e.tables (changes_by found) (ends-gives s.file found stands.ends);
        };
        good = records-history found stands.ends.fit;
      };
      place = place-end found stands.ends.fit ∙ sym stands.place;
      graph = same;
    }

-- a history that is kept, of a file's records
pub record IsHistoryIn (session : Session) (file : List ℕ) (g : Graph) : Type 0 where
  pub history : History
  pub kept : IsHistoryOf session.head.graph history
  pub graph : history.graph ≡ g
  pub holds : Holds file history.graph
  pub gives : Gives file history.changes

pub at-end-history : (session : Session) (s : host.State) (g : Graph) → IsAtEnd session s g → IsHistoryIn session s.file g
at-end-history session s g e =
    let b = at-end-behind session s g e in
    record {
      history = history_by b.found;
      kept = b.kept;
      graph = b.graph;
      holds = subst (λ (x : Graph). Holds s.file x) (sym (history-graph b.found)) (ends-holds s.file b.found b.at.ends);
      gives = ends-gives s.file b.found b.at.ends;
    }
