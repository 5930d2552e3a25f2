-- Places in a sequence that whole numbers say (Python Language Reference 3, "Subscriptions" and "Slicings").
use Rattle.std.specs.Prelude.{ℕ, ◌-◌, suc, min, nat_lt, ℤ, pos, negsuc, if◌then◌else◌, codes, Option, Some, None}
use Rattle.kishu_meaning.specs.values.Values.{Value}
use Rattle.kishu_meaning.specs.comparing.Equal.{number_in}
use Rattle.kishu_meaning.specs.values.Kinds.{bad_index, index_error}
use Rattle.kishu_meaning.specs.moments.Moment.{M, or_else}

-- the whole number that an index or a bound is
abbrev pub index_of : Value → M ℤ
index_of v = or_else (bad_index v) (number_in v)

-- the place among n that an index says; a negative one counts from the end
abbrev pub place_in : ℕ → ℤ → Option ℕ
place_in n (pos k) = if nat_lt k n then Some k else None
place_in n (negsuc k) = if nat_lt k n then Some (n - suc k) else None

abbrev pub out_of_range : {A : Type 0} → M A
out_of_range = index_error (codes "index out of range")

abbrev pub place_of : ℕ → ℤ → M ℕ
place_of n z = or_else out_of_range (place_in n z)

-- a bound of a slice that goes forwards, brought into 0 to n; a negative one counts from the end
abbrev pub bound_in : ℕ → ℤ → ℕ
bound_in n (pos k) = min k n
bound_in n (negsuc k) = n - suc k
