-- Steps that are there or not, at a moment that has nothing else.
use Rattle.std.proofs.Common.{◌≡◌, refl, arith, ℕ, ◌-◌, ◌+◌, ◌<◌, true, false, List}
use Rattle.std.specs.Prelude.{nat_le}
use Rattle.std.proofs.lemmas.Bool.Decides.{nat_tests}
use Rattle.kishu_meaning.specs.values.Values.{Node}
use Rattle.kishu_meaning.specs.moments.Moment.{fine, stopped, spend}
use Rattle.kishu_meaning_laws.specs.Bare.{bare}

pub enough : (ns : List Node) (k n d m e : ℕ) → m + k ≡ n → e ≡ d → spend k (bare ns n d) ≡ fine tt (bare ns m e)
enough ns k n d m e p q =
    let h : nat_le k n ≡ true = grind (arith, nat_tests) in
    let left : n - k ≡ m = omega arith in
    rw (h, left, q) refl

pub short : (ns : List Node) (k n d m e : ℕ) → n < k → m ≡ 0 → e ≡ d → spend k (bare ns n d) ≡ stopped (bare ns m e)
short ns k n d m e p z q =
    let h : nat_le k n ≡ false = grind (arith, nat_tests) in
    rw (h, z, q) refl
