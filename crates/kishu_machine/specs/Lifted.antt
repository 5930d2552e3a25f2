-- What a builtin function or a method gives on a heap and a budget, it gives in a run.
use Rattle.std.proofs.Common.{◌∙◌, ap, Result, Ok, Err}
use Rattle.kishu_meaning.specs.moments.Moment.{Moment, M}
use Rattle.kishu_meaning_laws.specs.Bare.{bare, changed_to, over, IsBare}
use Rattle.kishu_heap.specs.declared.fault.CallFault.{CallFault}
use Rattle.kishu_heap.specs.declared.fault.CallFault.TheVariants as calls
use Rattle.kishu_items.specs.Called as called
use Rattle.kishu_machine.specs.declared.fault.Fault.{Fault}
use Rattle.kishu_machine.specs.Faults.{fault_of}
use Rattle.kishu_machine.specs.Machine.{Gives}

-- the same answer, with the fault of a run
abbrev pub passed : {X : Type 0} → Result X CallFault → Result X Fault
passed (Ok x) = Ok x
passed (Err f) = Err (fault_of f)

module _ {X A : Type 0} (view : X → A) (m : M A) (b : IsBare m) (s t : Moment) where
  pub lifted : (r : Result X CallFault) → called.Gives view r t (m (bare s.nodes s.left s.depth)) → Gives view (passed r) (changed_to s t) (m s)
  lifted (Ok x) e = b.ends s ∙ ap (over s) e
  lifted (Err (calls.Raise class message)) e = b.ends s ∙ ap (over s) e
  lifted (Err (calls.RaiseWith class v)) e = b.ends s ∙ ap (over s) e
  lifted (Err calls.Spent) e = b.ends s ∙ ap (over s) e
  lifted (Err calls.NoMemory) e = tt
