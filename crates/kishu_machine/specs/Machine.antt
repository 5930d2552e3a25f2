-- What the code's machine stands for, and when a call gives what the definition says.
use Rattle.std.specs.Prelude.{◌≡◌, ℕ, ◌+◌, ◌-◌, ◌*◌, ◌≤◌, ◌<◌, ◌^◌, Bool, ◌&&◌, IsTrue, List, [], ◌∷◌, length, Option, Some, None, option_map, Result, Ok, Err}
use Rattle.std.specs.Str.{chars}
use Rattle.std.specs.String.{string_bytes}
use Rattle.std.specs.declared.alloc.Global.{Global}
use Rattle.std.specs.declared.string.String.{String}
use Rattle.kishu_meaning.specs.declared.budget.Budget.{Budget}
use Rattle.kishu_meaning.specs.declared.result.Output as rust_output
use Rattle.kishu_meaning.specs.values.Values.{Node, State, Value, text, node, value_of, Output, output_of}
use Rattle.kishu_meaning.specs.values.Sound.{is_sound, are_sound, is_exception_class}
use Rattle.kishu_meaning.specs.moments.Moment.{Moment, Thrown, fresh, thrown_object, Ends, fine, raised, stopped}
use Rattle.kishu_names.specs.Namespace.{Namespace}
use Rattle.kishu_machine.specs.declared.fault.Fault.{Fault}
use Rattle.kishu_machine.specs.declared.fault.Fault.TheVariants as faults
use Rattle.kishu_machine.specs.declared.fault.Thrown as rust_thrown
use Rattle.kishu_machine.specs.declared.fault.Thrown.TheVariants as throws
use Rattle.kishu_machine.specs.declared.machine.Machine.{Machine}
use Rattle.kishu_machine.specs.Frames.{locals_of}

-- ---- the moment

abbrev pub moment_of : Machine → Moment
moment_of m = record {
  profile = m.profile;
  names = m.names.bound;
  nodes = m.heap;
  accessed = m.names.accessed;
  locals = locals_of m.locals;
  handled = option_map value_of m.handled;
  left = m.budget.left;
  depth = m.budget.depth;
  out = chars (string_bytes m.printed);
}

-- what a cell leaves to the next
abbrev pub state_in : List Node → Namespace → State
state_in nodes names = record { names = names.bound; nodes = nodes }

abbrev pub state_of : Machine → State
state_of m = state_in m.heap m.names

-- the same moment with another budget, and with other nodes
abbrev pub placed : Moment → Budget → Moment
placed s b = record s { left = b.left; depth = b.depth }

abbrev pub placed_in : Moment → List Node → Budget → Moment
placed_in s ns b = record s { nodes = ns; left = b.left; depth = b.depth }

-- ---- how a call ends

abbrev pub thrown_of : rust_thrown.Thrown → Thrown
thrown_of (throws.With class v) = fresh class.0 (value_of v ∷ [])
thrown_of (throws.Plain class) = fresh class.0 []
thrown_of (throws.Object id) = thrown_object id.0

abbrev pub Fails : {A : Type 0} → Fault → Moment → Ends A → Type 0
Fails (faults.Raised x) s e = e ≡ raised (thrown_of x) s
Fails faults.Stopped s e = e ≡ stopped s
Fails faults.NoMemory s e = Unit {0}

-- A call returned this and left this moment, as the definition says, unless memory ran out.
abbrev pub Gives : {X A : Type 0} → (X → A) → Result X Fault → Moment → Ends A → Type 0
Gives view (Ok x) s e = e ≡ fine (view x) s
Gives view (Err f) s e = Fails f s e

-- It raised an exception of this class with this value, unless memory ran out.
abbrev pub IsRaisedWith : {X : Type 0} → Result X Fault → ℕ → Value → Type 0
IsRaisedWith (Ok x) kind v = ⊥
IsRaisedWith (Err (faults.Raised x)) kind v = thrown_of x ≡ fresh kind (v ∷ [])
IsRaisedWith (Err faults.Stopped) kind v = ⊥
IsRaisedWith (Err faults.NoMemory) kind v = Unit {0}

-- the same with a text
abbrev pub IsRaised : {X : Type 0} → Result X Fault → ℕ → List ℕ → Type 0
IsRaised r kind message = IsRaisedWith r kind (text message)

-- ---- what is kept

-- Room for the nodes that the steps that are left can make, four for each, and for so many more.
abbrev pub HasRoomBy : ℕ → Machine → Type 0
HasRoomBy k m = length m.heap + 4 * m.budget.left + k < 2 ^ 32 - 64

abbrev pub HasRoom : Machine → Type 0
HasRoom = HasRoomBy 0

-- The heap grew, by so many nodes more than the steps pay for, and each step of the budget was counted.
abbrev pub GrownBy : ℕ → Machine → ℕ → Machine → ℕ → Type 0
GrownBy k old a new b = (length old.heap ≤ length new.heap) × (length new.heap + 4 * new.budget.left ≤ length old.heap + 4 * old.budget.left + k) × (old.budget.left + a ≤ new.budget.left + b)

-- The counter rose by at most 128 for each step that was taken, and by so many more.
abbrev pub ReadsBy : ℕ → Machine → ℕ → Machine → ℕ → Type 0
ReadsBy k old a new b = b + 128 * new.budget.left ≤ a + 128 * old.budget.left + k

-- What a call costs: nodes, and reads of them.
pub record Costs (made read : ℕ) (old : Machine) (a : ℕ) (new : Machine) (b : ℕ) : Type 0 where
  pub kept : GrownBy made old a new b
  pub reads : ReadsBy read old a new b

-- A call that returned left so many reads over; another way out left none.
abbrev pub LeavesReads : {X : Type 0} → ℕ → Machine → ℕ → Result X Fault → Machine → ℕ → Type 0
LeavesReads k old a (Ok x) new b = b + 128 * new.budget.left + k ≤ a + 128 * old.budget.left
LeavesReads k old a (Err f) new b = b + 128 * new.budget.left ≤ a + 128 * old.budget.left

-- ---- what is sound among n nodes

abbrev pub is_sound_thrown : ℕ → Thrown → Bool
is_sound_thrown n (fresh kind vs) = is_exception_class kind && are_sound n vs
is_sound_thrown n (thrown_object i) = is_sound n (node i)

-- What a call returned is sound, and what it raised.
abbrev pub IsSound : {X : Type 0} → (X → Bool) → ℕ → Result X Fault → Type 0
IsSound holds n (Ok x) = IsTrue (holds x)
IsSound holds n (Err (faults.Raised x)) = IsTrue (is_sound_thrown n (thrown_of x))
IsSound holds n (Err faults.Stopped) = Unit {0}
IsSound holds n (Err faults.NoMemory) = Unit {0}

-- ---- what a cell shows

abbrev pub shown_of : Option (String Global) → Option (List ℕ)
shown_of None = None
shown_of (Some s) = Some (chars (string_bytes s))

abbrev pub outputs_in : Option rust_output.Output → List Output
outputs_in None = []
outputs_in (Some o) = output_of o ∷ []
