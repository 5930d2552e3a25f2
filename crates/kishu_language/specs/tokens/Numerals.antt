-- Numbers (Python Language Reference 3, "Integer literals").
use Rattle.std.specs.Prelude.{ℕ, ℤ, pos, ◌+◌, ◌*◌, ◌^◌, Bool, true, false, not, ◌&&◌, ◌||◌, nat_lt, ◌==◌, if◌then◌else◌, List, [], ◌∷◌, drop, fold, slice_index, Option, Some, None}
use Rattle.std.specs.Char.{is_digit, digit_value}

abbrev pub underscore : ℕ
underscore = 95

-- Digits of a base, and single `_` between them. A digit has to come next where `wants` is true, and no `_` may.
abbrev pub are_digits : ℕ → Bool → List ℕ → Bool
are_digits base wants [] = not wants
are_digits base wants (c ∷ cs) = if c == underscore then not wants && are_digits base true cs else is_digit c base && are_digits base false cs

abbrev pub with_digit : ℕ → ℕ → ℕ → ℕ
with_digit base n c = if c == underscore then n else base * n + digit_value c

-- the value of digits, among which each `_` stands for nothing
abbrev pub digits_value : ℕ → List ℕ → ℕ
digits_value base digits = fold (with_digit base) 0 digits

abbrev pub is_empty : List ℕ → Bool
is_empty [] = true
is_empty (c ∷ cs) = false

-- the numbers are below this
abbrev pub number_bound : ℕ
number_bound = 2 ^ 127

abbrev pub small_value : ℕ → List ℕ → Option ℤ
small_value base digits = if nat_lt (digits_value base digits) number_bound then Some (pos (digits_value base digits)) else None

-- after a prefix: at least one digit, before which a `_` may stand
abbrev pub prefixed : ℕ → List ℕ → Option ℤ
prefixed base digits = if not (is_empty digits) && are_digits base false digits then small_value base digits else None

-- a zero stands before other digits than zeros
abbrev pub is_padded : List ℕ → Bool
is_padded digits = slice_index digits 0 == 48 && not (digits_value 10 digits == 0)

-- `0` with further zeros, or a digit from 1 to 9 with further digits
abbrev pub decimal : List ℕ → Option ℤ
decimal digits = if are_digits 10 true digits && not (is_padded digits) then small_value 10 digits else None

-- the base that a letter after `0` says
abbrev pub base_of : ℕ → Option ℕ
base_of c =
    if c == 120 || c == 88 then Some 16
    else if c == 111 || c == 79 then Some 8
    else if c == 98 || c == 66 then Some 2
    else None

abbrev pub in_base : Option ℕ → List ℕ → Option ℤ
in_base None word = decimal word
in_base (Some base) word = prefixed base (drop 2 word)

-- the value of a run of letters, digits and `_`, where it is a number
unfoldable pub numeral : List ℕ → Option ℤ
numeral word = if slice_index word 0 == 48 then in_base (base_of (slice_index word 1)) word else decimal word
