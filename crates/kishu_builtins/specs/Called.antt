-- When a call of a builtin function or a class gives what the definition says.
use Rattle.std.specs.Prelude.{ℕ, List, [], IsTrue, Result, Ok, Err}
use Rattle.kishu_meaning.specs.values.Sound.{is_exception_class, is_sound}
use Rattle.kishu_meaning.specs.values.Values.{Value, value_of}
use Rattle.kishu_meaning.specs.calls.Callees.{Given}
use Rattle.kishu_heap.specs.declared.fault.CallFault.{CallFault}
use Rattle.kishu_heap.specs.declared.fault.CallFault.TheVariants as faults
pub use Rattle.kishu_items.specs.Called.{moment_of, Fails, Gives}

-- arguments without keywords
abbrev pub plainly : List Value → Given
plainly vs = record { plain = vs; named = [] }

-- unless memory ran out
abbrev pub Unlimited : {X : Type 0} → Result X CallFault → Type 0 → Type 0
Unlimited (Ok x) P = P
Unlimited (Err (faults.Raise kind t)) P = P
Unlimited (Err (faults.RaiseWith kind v)) P = P
Unlimited (Err faults.Spent) P = P
Unlimited (Err faults.NoMemory) P = Unit {0}

-- What is raised has a class of exceptions, and its value is sound among so many nodes.
abbrev pub ThrowsSound : {X : Type 0} → ℕ → Result X CallFault → Type 0
ThrowsSound n (Ok x) = Unit {0}
ThrowsSound n (Err (faults.Raise kind t)) = IsTrue (is_exception_class kind.0)
ThrowsSound n (Err (faults.RaiseWith kind v)) = IsTrue (is_exception_class kind.0) × IsTrue (is_sound n (value_of v))
ThrowsSound n (Err faults.Spent) = Unit {0}
ThrowsSound n (Err faults.NoMemory) = Unit {0}
