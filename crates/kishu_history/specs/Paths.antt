-- The path to a commit of a graph, with the states that the replays give, and the rows of its records.
use Rattle.std.specs.Prelude.{◌≡◌, ℕ, suc, ◌==◌, if◌then◌else◌, List, [], ◌∷◌, map, length}
use Rattle.kishu_objects.specs.Lists.{In, Rise}
use Rattle.kishu_store.specs.Graph.{Commit, Graph}
pub use Rattle.kishu_store.specs.Tables.{changes_in, table_in, table_at, with_change, change_of}
use Rattle.kishu_replay.specs.Replay.{after_cells}
use Rattle.kishu_history.specs.Versions.{Stop, at_end, AreStates}
use Rattle.kishu_history.specs.Tables.{Row, Change, first_in}

-- the commits from this one back to the root, which is left out
abbrev pub stops_in : List Commit → ℕ → List Stop
stops_in [] c = []
stops_in (k ∷ ks) c = if c == suc (length ks) then record { commit = c; state = after_cells k.profile k.cells (at_end (stops_in ks k.parent)) } ∷ stops_in ks k.parent else stops_in ks c

abbrev pub stops : Graph → ℕ → List Stop
stops g c = stops_in g.commits c

-- The states of all replays are states.
abbrev pub ReplaysAreStates : List Commit → Type 0
ReplaysAreStates ks = (c : ℕ) → AreStates (stops_in ks c)

-- ---- tables

-- What holds of the rows of each record: their version is its commit, and they stand in the order of their first names.
pub record AreRows (of : ℕ → Change) : Type 0 where
  pub version : (c : ℕ) (r : Row) → In r (of c).stored → r.version ≡ c
  pub rise : (c : ℕ) → Rise (map first_in (of c).stored)
