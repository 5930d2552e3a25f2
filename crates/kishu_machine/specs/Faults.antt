-- The faults of builtin functions and methods, as faults of a run.
use Rattle.kishu_heap.specs.declared.fault.CallFault.{CallFault}
use Rattle.kishu_heap.specs.declared.fault.CallFault.TheVariants as calls
use Rattle.kishu_meaning.specs.declared.value.Value.TheVariants as values
use Rattle.kishu_machine.specs.declared.fault.Fault.{Fault}
use Rattle.kishu_machine.specs.declared.fault.Fault.TheVariants as faults
use Rattle.kishu_machine.specs.declared.fault.Thrown.TheVariants as throws

abbrev pub fault_of : CallFault → Fault
fault_of (calls.Raise class t) = faults.Raised (throws.With class (values.Text t))
fault_of (calls.RaiseWith class v) = faults.Raised (throws.With class v)
fault_of calls.Spent = faults.Stopped
fault_of calls.NoMemory = faults.NoMemory
