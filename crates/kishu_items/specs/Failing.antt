-- What fails in front of something.
use Rattle.std.proofs.Common.{refl}
use Rattle.kishu_meaning.specs.moments.Moment.{M, Moment, Ends, and_then}
use Rattle.kishu_heap.specs.declared.fault.CallFault.{CallFault}
use Rattle.kishu_heap.specs.declared.fault.CallFault.TheVariants as faults
use Rattle.kishu_items.specs.Called.{Fails}

-- What fails in front fails as a whole.
pub fails_through : {A B : Type 0} (f : CallFault) (t : Moment) (e : Ends A) (g : A → M B) → Fails {A = A} f t e → Fails {A = B} f t (and_then e g)
fails_through (faults.Raise class x) t e g h = rw h refl
fails_through (faults.RaiseWith class v) t e g h = rw h refl
fails_through faults.Spent t e g h = rw h refl
fails_through faults.NoMemory t e g h = tt
