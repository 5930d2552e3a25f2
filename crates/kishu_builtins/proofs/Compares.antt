-- How a comparison with the best so far ends.
use Rattle.std.proofs.Common.{◌≡◌, ◌≤◌, refl, ℕ, Bool, IsTrue, List, Option, Some, None, Result, Ok, Err}
use Rattle.std.specs.Prelude.{nat_lt}
use Rattle.std.specs.List.{list_all}
use Rattle.kishu_meaning.specs.comparing.Comparing.{compare, comparison_sign}
use Rattle.kishu_meaning.specs.moments.Counting.{Count, answer, too_deep, spent}
use Rattle.kishu_meaning_laws.specs.CountingLaws.{Falls}
use Rattle.kishu_heap.specs.Compared.{Orders}
use Rattle.kishu_heap.specs.declared.fault.CompareFault.{CompareFault}
use Rattle.kishu_heap.specs.declared.fault.CompareFault.TheVariants as faults
use Rattle.kishu_meaning.specs.moments.Moment.{fine, stopped, recursion_error}
use Rattle.kishu_meaning.specs.calls.Operators.{bad_operands}
use Rattle.kishu_meaning.specs.values.Values.{Value, Node}
use Rattle.kishu_meaning_laws.specs.Bare.{bare}
use Rattle.kishu_builtins.specs.declared.best.Extreme.{Extreme}
use Rattle.kishu_builtins.specs.declared.best.Extreme.TheVariants.{Greatest, Least}
use Rattle.kishu_builtins.specs.Extremes.{comparison_of, best_name, before_in}

module _ (ns : List Node) (n m d : ℕ) (v best : Value) where
  pub told : (which : Extreme) (b : Bool) → before_in which ns d v best n ≡ answer (Some b) m → compare (comparison_of which) v best (bare ns n d) ≡ fine b (bare ns m d)
  told Greatest b h = rw h refl
  told Least b h = rw h refl

  pub unordered : (which : Extreme) → before_in which ns d v best n ≡ answer None m → compare (comparison_of which) v best (bare ns n d) ≡ bad_operands (comparison_sign (comparison_of which)) v best (bare ns m d)
  unordered Greatest h = rw h refl
  unordered Least h = rw h refl

  pub deep : (which : Extreme) → before_in which ns d v best n ≡ too_deep m → compare (comparison_of which) v best (bare ns n d) ≡ recursion_error (bare ns m d)
  deep Greatest h = rw h refl
  deep Least h = rw h refl

  pub ends : (which : Extreme) → before_in which ns d v best n ≡ spent m → compare (comparison_of which) v best (bare ns n d) ≡ stopped (bare ns m d)
  ends Greatest h = rw h refl
  ends Least h = rw h refl

-- The names are plain letters.
pub plain_name : (which : Extreme) → IsTrue (list_all (λ c. nat_lt c 128) (best_name which))
plain_name Greatest = refl
plain_name Least = refl

-- No step is given back.
pub takes : (r : Result Bool CompareFault) (m n : ℕ) (count : Count (Option Bool)) → Falls count → Orders r m (count n) → m ≤ n
takes (Ok a) m n count f h = rw h at (f.falls n)
takes (Err faults.Unordered) m n count f h = rw h at (f.falls n)
takes (Err faults.Depth) m n count f h = rw h at (f.falls n)
takes (Err faults.Spent) m n count f h = rw h at (f.falls n)
