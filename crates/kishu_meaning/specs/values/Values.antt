-- Values, names, and what a cell's run gives (Python Language Reference 3, "The standard type hierarchy" and "Naming and binding").
use Rattle.std.specs.Prelude.{ℕ, ℤ, Bool, List, [], ◌∷◌, map, Option, Some, None, if◌then◌else◌}
use Rattle.std.specs.Ordering.{nat_cmp, match_ordering}
use Rattle.std.specs.Cmp.Lexicographic.{slice_cmp}
use Rattle.std.specs.Str.{bytes_eq, chars}
use Rattle.std.specs.Rc.{rc_str_bytes}
use Rattle.kishu_language.specs.declared.profile.Profile.{Profile}
use Rattle.kishu_meaning.specs.declared.value.Value as rust
use Rattle.kishu_meaning.specs.declared.value.Value.TheVariants as rust_value
use Rattle.kishu_meaning.specs.declared.result.Output as rust_output
use Rattle.kishu_meaning.specs.declared.result.CellResult.{CellResult}
use Rattle.kishu_meaning.specs.declared.result.Outcome.{Outcome}
use Rattle.kishu_meaning.specs.values.Keys.{Key}

pub data Value : Type 0 where
  none : Value
  bool : Bool → Value
  integer : ℤ → Value
  -- the code points of a text
  text : List ℕ → Value
  -- its start, its stop and its step, which isn't 0
  range : (start stop step : ℤ) → Value
  -- a builtin function and a class, by their numbers
  builtin : ℕ → Value
  class : ℕ → Value
  -- a node of the heap, by its number
  node : ℕ → Value

abbrev pub value_of : rust.Value → Value
value_of rust_value.None = none
value_of (rust_value.Bool b) = bool b
value_of (rust_value.Int z) = integer z
value_of (rust_value.Text x) = text (chars (rc_str_bytes x))
value_of (rust_value.Range a b c) = range a b c
value_of (rust_value.Builtin n) = builtin n.0
value_of (rust_value.Class n) = class n.0
value_of (rust_value.Node n) = node n.0

-- A node of the heap: what has an identity and can be changed (Python Language Reference 3, "Objects, values and types").
pub data Node : Type 0 where
  list : List Value → Node
  tuple : List Value → Node
  -- the keys, no two of them one, with their values in the order of insertion
  dict : List (Key × Value) → Node
  -- the attributes, each once, with their values in the order of their first setting
  object : List (List ℕ × Value) → Node
  -- a function's code, by which its tree is known, and the values of its defaults in order
  function : Profile → (code : List ℕ) → (defaults : List Value) → Node
  -- the class by its number, and the arguments
  exception : (kind : ℕ) → (arguments : List Value) → Node

-- the names that are bound, each once, in byte order, with their values
abbrev pub Names : Type 0
Names = List (List ℕ × Value)

abbrev pub find : List ℕ → Names → Option Value
find name [] = None
find name (n ∷ ns) = if bytes_eq name n.0 then Some n.1 else find name ns

-- the names, with this one bound to v
abbrev pub bind : List ℕ → Value → Names → Names
bind name v [] = (name, v) ∷ []
bind name v (n ∷ ns) = match_ordering (slice_cmp nat_cmp name n.0) ((name, v) ∷ n ∷ ns) ((name, v) ∷ ns) (n ∷ bind name v ns)

-- all that one cell leaves to the next
pub record State : Type 0 where
  pub names : Names
  pub nodes : List Node

abbrev pub empty : State
empty = record { names = []; nodes = [] }

-- One output of a cell: what it printed, the value that it shows, or the exception that ended it (nbformat 4.5, "Code cell outputs").
pub data Output : Type 0 where
  stream : (text : List ℕ) → Output
  shown : (text : List ℕ) → Output
  fault : (ename evalue : List ℕ) → Output

abbrev pub output_of : rust_output.Output → Output
output_of (rust_output.TheVariants.Stream cs) = stream (rc_str_bytes cs)
output_of (rust_output.TheVariants.Shown cs) = shown (rc_str_bytes cs)
output_of (rust_output.TheVariants.Fault ename evalue) = fault (rc_str_bytes ename) (rc_str_bytes evalue)

-- how a run ended, and what it shows
pub record Report : Type 0 where
  pub outcome : Outcome
  pub outputs : List Output

abbrev pub report_of : CellResult → Report
report_of r = record { outcome = r.outcome; outputs = map output_of r.outputs.items }

-- what a run gives: the names that it accessed, in byte order and each once, and the number of steps that it took, besides what it leaves and shows
pub record Ran : Type 0 where
  pub state : State
  pub report : Report
  pub accessed : List (List ℕ)
  pub charge : ℕ
