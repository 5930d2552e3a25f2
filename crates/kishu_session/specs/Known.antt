-- The history of a session, whatever its host tells.
use Rattle.kishu_store.specs.Histories.{History}
use Rattle.kishu_store_laws.specs.HistoryLaws.{IsHistory}
use Rattle.kishu_graph.specs.Kept.{Kept, KeepsHistory}

-- What is kept is this history's, to which records that fit can lead: its graph, and the tables of its commits.
pub record IsHistoryOf (kept : Kept) (h : History) : Type 0 where
  pub keeps : KeepsHistory kept h
  pub good : IsHistory h

-- There is such a history.
abbrev pub HasHistory : Kept → Type 0
HasHistory kept = ∥ ((h : History) × IsHistoryOf kept h) ∥₁
