-- What an opening answers that makes the graph of a store while it reads its records.
use Rattle.std.specs.Prelude.{ℕ, List}
use Rattle.std.specs.List.{AllByRecursion}
use Rattle.kishu_graph.specs.Kept.{Kept, StandsFor, TellsChanges}
use Rattle.kishu_host.specs.Host.{State, Told}
use Rattle.kishu_store.specs.Entries.{Record, entries_in}
use Rattle.kishu_store.specs.Histories.{new_history}
use Rattle.kishu_store.specs.Holds.{Holds, graph_of, history_of}
use Rattle.kishu_store.specs.Rules.{IsEntry}
use Rattle.kishu_journal.specs.Found.{AllFit}
use Rattle.kishu_journal.specs.Opened.{AreRead}
use Rattle.kishu_journal.specs.Stands.{Stands}
use Rattle.kishu_journal.specs.declared.open_store.OpenStore.{OpenStore}

-- This is the graph of records, with its tables, and behind them is this place; they are the host's file's, where the host tells it.
pub record IsRead (s : State) (place : ℕ) (kept : Kept) : Type 0 where
  pub records : List Record
  pub are_read : AreRead s place records
  pub graph : StandsFor kept (graph_of (entries_in records))
  pub changes : TellsChanges kept (history_of (entries_in records)).changes

-- So it is after an opening. Where the host tells its files, the old one held the graph of these records, and the journal stands behind
-- them in the new one. They fit and keep the rules, whatever the host tells.
pub record Opens (old new : State) (store : OpenStore) : Type 0 where
  pub read : IsRead new store.journal.place store.graph
  pub good : Told old (Holds old.file (graph_of (entries_in read.records)))
  pub stands : Told old (Stands store.journal new.file (entries_in read.records))
  pub fit : AllFit new_history (entries_in read.records)
  pub rules : AllByRecursion IsEntry (entries_in read.records)
