-- States that are loaded anew before a cell runs, or before a checkout loads, and what cells leave then.
use Rattle.std.specs.Prelude.{◌≡◌, ◌≤◌, ⊤, ℕ, nat_le, if◌then◌else◌, List, [], ◌∷◌, length}
use Rattle.kishu_meaning.specs.cells.Meaning.{run}
use Rattle.kishu_meaning.specs.values.Values.{State}
use Rattle.kishu_objects.specs.Same.{Same}
use Rattle.kishu_objects.specs.States.{IsSoundState}
use Rattle.kishu_replay.specs.Replay.{after_cells}
use Rattle.kishu_store.specs.Limits.{newest_profile}
use Rattle.kishu_anew.specs.Anew.{loaded_anew}
pub use Rattle.kishu_anew.specs.Anew.{most_kept}
use Rattle.kishu_session.specs.Lives.{state_of}
use Rattle.kishu_session.specs.declared.head.Head.{Head}

-- The heap isn't loaded anew.
abbrev pub StaysHere : Head → Type 0
StaysHere head = length (state_of head.live).nodes ≤ most_kept

-- ---- the state from which one goes on

-- the state itself, and where it has more nodes than a heap keeps, that one loaded anew
abbrev pub renewed : State → State
renewed s = if nat_le (length s.nodes) most_kept then s else loaded_anew s

-- It is that one: the same as the first, with no more nodes, and the first itself where that has few.
pub record Starts (s u : State) : Type 0 where
  pub is : u ≡ renewed s
  pub same : Same s u
  pub sound : IsSoundState u
  pub few : length u.nodes ≤ length s.nodes
  pub stays : length s.nodes ≤ most_kept → u ≡ s

-- So it is with a head's live state. All else that is kept stays.
pub record IsRenewed (old new : Head) : Type 0 where
  pub graph : new.graph ≡ old.graph
  pub table : new.table ≡ old.table
  pub kept : new.kept ≡ old.kept
  pub cells : new.cells ≡ old.cells
  pub state : Starts (state_of old.live) (state_of new.live)

-- ---- what cells leave

-- Each of these cells begins with a heap that isn't loaded anew before it.
abbrev pub BeginKept : List (List ℕ) → State → Type 0
BeginKept [] s = ⊤
BeginKept (text ∷ texts) s = (length s.nodes ≤ most_kept) × BeginKept texts (run newest_profile text s).state

-- what they leave, where before each of them the state is loaded anew that has more nodes than a heap keeps
abbrev pub left_anew : List (List ℕ) → State → State
left_anew [] s = s
left_anew (text ∷ texts) s = left_anew texts (run newest_profile text (renewed s)).state

-- The second is just that. It is the same as what these cells leave of the first, and has no more nodes; where the heap was loaded anew before none of them, it is what they leave.
pub record IsLeft (texts : List (List ℕ)) (s t : State) : Type 0 where
  pub is : t ≡ left_anew texts s
  pub same : Same t (after_cells newest_profile texts s)
  pub few : length t.nodes ≤ length (after_cells newest_profile texts s).nodes
  pub exact : BeginKept texts s → t ≡ after_cells newest_profile texts s
