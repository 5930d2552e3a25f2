-- The moments of a run: what holds of each, and what holds of each two, one after the other.
use Rattle.std.specs.Prelude.{◌≡◌, ℕ, ◌≤◌, List, length}
use Rattle.std.specs.List.{AllByRecursion as Each}
use Rattle.kishu_language.specs.declared.profile.Profile.{Profile}
use Rattle.kishu_meaning.specs.values.Values.{Value, integer, text, Node, list, tuple, dict, object, function, exception}
use Rattle.kishu_meaning.specs.moments.Moment.{Locals, Moment, M}
use Rattle.kishu_meaning.specs.items.Walks.{Walk, along_list, along_dict, along_tuple, along_text, along_range}
use Rattle.kishu_pairing_laws.specs.World.{end_of}
use Rattle.kishu_objects.specs.State.{IsValue, AreValues, IsNode, AreNames, values_in, Grown}
-- what stands there, if anything does
pub use Rattle.kishu_soundness_laws.specs.Below.{Maybe}

-- under this profile, where it is a function
abbrev pub IsUnder : Profile → Node → Type 0
IsUnder profile (list vs) = Unit {0}
IsUnder profile (tuple vs) = Unit {0}
IsUnder profile (dict es) = Unit {0}
IsUnder profile (object es) = Unit {0}
IsUnder profile (function other code vs) = other ≡ profile
IsUnder profile (exception kind vs) = Unit {0}

abbrev pub AreUnder : Profile → List Node → Type 0
AreUnder profile = Each (IsUnder profile)

-- A budget has at most as many steps as 64 bits hold.
abbrev pub widest_budget : ℕ
widest_budget = 18446744073709551615

-- among k nodes: as a state, and so are the names of the function in progress, the exception that is handled and the steps that are left
pub record IsMoment (k : ℕ) (s : Moment) : Type 0 where
  pub many : k ≡ length s.nodes
  pub nodes : Each (IsNode k) s.nodes
  pub names : AreNames k s.names
  pub locals : Maybe (λ (here : Locals). AreValues k (values_in here.values)) s.locals
  pub handled : Maybe (IsValue k) s.handled
  pub budget : s.left ≤ widest_budget

abbrev pub Holds : Moment → Type 0
Holds s = IsMoment (length s.nodes) s

-- from one moment to a later one: no step is given back, old nodes keep their numbers, and new ones stand behind them
pub record Leads (s t : Moment) : Type 0 where
  pub holds : Holds t
  pub left : t.left ≤ s.left
  pub grown : Grown s.nodes t.nodes

-- what leads on from each moment of a run, and what does so with each value
abbrev pub LeadsOn : {A : Type 0} → M A → Type 0
LeadsOn m = (s : Moment) → Holds s → Leads s (end_of (m s))

abbrev pub LeadsWith : {A : Type 0} → (Value → M A) → Type 0
LeadsWith turn = (v : Value) (s : Moment) → IsValue (length s.nodes) v → Holds s → Leads s (end_of (turn v s))

-- among k nodes: what is walked gives values
abbrev pub IsWalk : ℕ → Walk → Type 0
IsWalk k (along_list i) = Unit {0}
IsWalk k (along_dict i n view) = Unit {0}
IsWalk k (along_tuple vs) = AreValues k vs
IsWalk k (along_text cs) = IsValue k (text cs)
IsWalk k (along_range a b c) = IsValue k (integer a) × IsValue k (integer b)
