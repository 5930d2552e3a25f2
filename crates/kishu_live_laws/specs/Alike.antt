-- States that are the same, and those that sessions have, as the laws name them.
use Rattle.std.specs.Prelude.{◌≡◌, ℕ, List}
use Rattle.kishu_meaning.specs.values.Values.{State}
use Rattle.kishu_store.specs.Graph.{Graph}
use Rattle.kishu_store.specs.Holds.{Holds}
use Rattle.kishu_store.specs.Tables.{Change, no_change}
use Rattle.kishu_replay.specs.Replay.{replay}
use Rattle.kishu_model.specs.Request.{Request}
use Rattle.kishu_model.specs.Serve.{after}
use Rattle.kishu_objects.specs.Same.{Same}
use Rattle.kishu_objects.specs.States.{IsSoundState}
use Rattle.kishu_history.specs.Good.{IsAttached}
use Rattle.kishu_history.specs.Paths.{AreRows}

-- the replay of the head, and that of the head after a request
abbrev pub head_of : Graph → State
head_of g = replay g g.head.commit

abbrev pub head_after : Graph → Request → State
head_after g q = head_of (after g q)

-- So it is of every two states that are the same.
abbrev pub OnSame : (State → State → Type 0) → Type 0
OnSame P = (s t : State) → IsSoundState s → IsSoundState t → Same s t → P s t

-- So it is of every state that a session attached to a good store has.
abbrev pub OnAttached : ((ℕ → Change) → State → Graph → Type 0) → Type 0
OnAttached P = (file : List ℕ) (of : ℕ → Change) (s : State) (g : Graph) → AreRows of → IsAttached file g of s → P of s g

-- So it is besides where the file holds the graph, and nothing is stored at the root.
abbrev pub OnHeld : ((ℕ → Change) → State → Graph → Type 0) → Type 0
OnHeld P = (file : List ℕ) (of : ℕ → Change) (s : State) (g : Graph) → AreRows of → IsAttached file g of s → Holds file g → of 0 ≡ no_change → P of s g
