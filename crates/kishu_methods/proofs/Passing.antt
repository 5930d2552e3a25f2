-- What a call makes of a comparison's answer.
use Rattle.std.proofs.Common.{◌≡◌, ap, subst, ℕ, IfOk, Result, Ok, Err}
use Rattle.kishu_meaning.specs.moments.Counting.{Counted, ended_in}
use Rattle.kishu_meaning.specs.moments.Moment.{Moment, Ends, fine, raised, stopped}
use Rattle.kishu_heap.specs.Compared as compared
use Rattle.kishu_heap.specs.declared.fault.CallFault.{CallFault}
use Rattle.kishu_heap.specs.declared.fault.CompareFault.{CompareFault}
use Rattle.kishu_heap.specs.declared.fault.CompareFault.TheVariants as compare_faults
use Rattle.kishu_methods.specs.Called.{Gives}

abbrev value_or : {A : Type 0} → A → Ends A → A
value_or a (fine b s) = b
value_or a (raised x s) = a
value_or a (stopped s) = a

-- What holds of a comparison's answer holds of what the call answers.
pub answer_holds : {A : Type 0} (P : A → Type 0) (a : Result A CompareFault) (r : Result A CallFault) (left : ℕ) (e : Counted A) (s : Moment) → compared.Gives a left e → Gives (λ x. x) r (record s { left = left }) (ended_in s e) → IfOk a P → IfOk r P
answer_holds P (Ok v) (Ok x) left e s g h p =
    (let same : fine v (record s { left = left }) ≡ fine x (record s { left = left }) = rw g at h in subst P (ap (value_or v) same) p)
answer_holds P (Ok v) (Err f) left e s g h p = tt
answer_holds P (Err compare_faults.Unordered) r left e s g h p = absurd g
answer_holds P (Err compare_faults.Depth) (Ok x) left e s g h p = absurd (cc (rw g at h))
answer_holds P (Err compare_faults.Depth) (Err f) left e s g h p = tt
answer_holds P (Err compare_faults.Spent) (Ok x) left e s g h p = absurd (cc (rw g at h))
answer_holds P (Err compare_faults.Spent) (Err f) left e s g h p = tt
