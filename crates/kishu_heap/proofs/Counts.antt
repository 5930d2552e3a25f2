-- What is passed on where a call stops, and steps that are there or not.
use Rattle.std.proofs.Common.{◌≡◌, refl, arith, ℕ, ◌-◌, ◌<◌, ◌≤◌, true, false, Err}
use Rattle.std.specs.Prelude.{nat_le}
use Rattle.std.proofs.lemmas.Bool.Decides.{nat_tests}
use Rattle.kishu_meaning.specs.moments.Counting.{Counted, Count, answer, spent, and_then, spend}
use Rattle.kishu_heap.specs.declared.fault.CompareFault.{CompareFault}
use Rattle.kishu_heap.specs.declared.fault.CompareFault.TheVariants as faults
use Rattle.kishu_heap.specs.Compared.{Gives}

pub fault_through : {A B : Type 0} (f : CompareFault) (n : ℕ) (e : Counted A) (g : A → Count B) → Gives {A = A} (Err f) n e → Gives {A = B} (Err f) n (and_then e g)
fault_through faults.Unordered n e g h = h
fault_through faults.Depth n e g h = rw h refl
fault_through faults.Spent n e g h = rw h refl

pub enough : (k n : ℕ) → k ≤ n → spend k n ≡ answer tt (n - k)
enough k n p = let h : nat_le k n ≡ true = grind (arith, nat_tests) in rw h refl

pub short : (k n : ℕ) → n < k → spend k n ≡ spent 0
short k n p = let h : nat_le k n ≡ false = grind (arith, nat_tests) in rw h refl
