-- What loading leaves of a heap and of names.
use Rattle.std.specs.Prelude.{◌≡◌, ℕ, ◌++◌, IsTrue, List, length, Ok, Err}
use Rattle.kishu_meaning.specs.values.Sound.{are_sound_names}
use Rattle.kishu_meaning.specs.values.Values.{Node, State, find}
use Rattle.kishu_names.specs.Namespace.{Namespace}
use Rattle.kishu_objects.specs.Lists.{In}
use Rattle.kishu_objects.specs.Loading.{with_picture}
use Rattle.kishu_objects.specs.Picture.{listed}
use Rattle.kishu_reading.specs.FromBytes.{read_picture}
use Rattle.kishu_loading.specs.declared.fault.LoadFault.{LoadFault}
use Rattle.kishu_loading.specs.declared.fault.LoadFault.TheVariants as faults

-- the state that a heap's nodes and names hold
abbrev pub held : List Node → Namespace → State
held nodes names = record { names = names.bound; nodes = nodes }

-- The bytes are a picture, and what is left is the state with that picture loaded into it.
pub record IsLoaded (bytes : List ℕ) (before after : State) : Type 0 where
  pub picture : State
  pub read : read_picture bytes ≡ Ok picture
  pub is : after ≡ with_picture before picture

-- The bytes are no picture, and the first field at fault begins here; want of memory says nothing of them.
abbrev pub IsFault : List ℕ → LoadFault → Type 0
IsFault bytes (faults.Picture at) = read_picture bytes ≡ Err at
IsFault bytes faults.NoMemory = Unit {0}

-- Bytes that are no picture change nothing.
abbrev pub IsUntouched : (before after : State) → LoadFault → Type 0
IsUntouched before after (faults.Picture at) = after ≡ before
IsUntouched before after faults.NoMemory = Unit {0}

-- The old nodes stand as they were, and others may stand behind them.
pub record KeepsNodes (before after : List Node) : Type 0 where
  pub more : List Node
  pub is : after ≡ before ++ more

-- The bytes are no picture of which this is a name.
abbrev pub IsNotIn : List ℕ → List ℕ → Type 0
IsNotIn bytes x = (p : State) → read_picture bytes ≡ Ok p → In x (listed p) → ⊥

-- Names of which the bytes are no picture have the values that they had.
abbrev pub KeepsOthers : List ℕ → Namespace → Namespace → Type 0
KeepsOthers bytes before after = (x : List ℕ) → IsNotIn bytes x → find x after.bound ≡ find x before.bound

-- Each name leads to a node that is there.
abbrev pub LeadsWithin : State → Type 0
LeadsWithin s = IsTrue (are_sound_names (length s.nodes) s.names)
