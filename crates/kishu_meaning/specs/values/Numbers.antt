-- Whole numbers (Python Language Reference 3, "Binary arithmetic operations" and "The power operator"; Python Standard Library, "Numeric Types" and `int`). The operators mean what they mean on all whole numbers; a program keeps those in a range.
use Rattle.std.specs.Prelude.{ℕ, zero, suc, ◌-◌, ◌/◌, ◌^◌, ◌≡◌, ℤ, pos, negsuc, ◌+ℤ◌, ◌-ℤ◌, ◌*ℤ◌, neg_ℤ, ◌≤ℤ◌, ◌<ℤ◌, int_le, Bool, ◌&&◌, ◌==◌, if◌then◌else◌, List, [], ◌∷◌, Option, Some, None, option_map}
use Rattle.std.specs.List.{list_all}
use Rattle.std.specs.Str.Parse.{digits_value}
use Rattle.kishu_language.specs.tokens.Names.{is_digit}
use Rattle.kishu_meaning.specs.values.White.{stripped}

-- ---- the range

-- Whole numbers lie in -2^127 to 2^127-1.
abbrev pub is_whole : ℤ → Bool
is_whole z = int_le (negsuc (2 ^ 127 - 1)) z && int_le z (pos (2 ^ 127 - 1))

-- ---- `//` and `%`, by a divisor that isn't 0

-- a over n, rounded towards minus infinity: `negsuc a` is -(a + 1)
abbrev pub floor_over : ℤ → ℕ → ℤ
floor_over (pos a) n = pos (a / n)
floor_over (negsuc a) n = negsuc (a / n)

-- The quotient, rounded towards minus infinity. It stays where both signs change.
abbrev pub floor_quotient : ℤ → ℤ → ℤ
floor_quotient a (pos b) = floor_over a b
floor_quotient a (negsuc b) = floor_over (neg_ℤ a) (suc b)

-- what the divisor, taken that many times, leaves
abbrev pub floor_remainder : ℤ → ℤ → ℤ
floor_remainder a b = a -ℤ floor_quotient a b *ℤ b

-- r is 0, or it has b's sign and lies nearer to 0
abbrev pub IsRemainder : ℤ → ℤ → Type 0
IsRemainder (pos b) r = (pos 0 ≤ℤ r) × (r <ℤ pos b)
IsRemainder (negsuc b) r = (negsuc b <ℤ r) × (r ≤ℤ pos 0)

-- What joins `//` and `%`: a is q times b and r more, and r is what a division by b may leave. No other q and r are so.
pub record IsDivision (a b q r : ℤ) : Type 0 where
  pub parts : a ≡ q *ℤ b +ℤ r
  pub remainder : IsRemainder b r

-- ---- `**`

-- a as a factor, n times; the empty product is 1
unfoldable pub power : ℤ → ℕ → ℤ
power a zero = pos 1
power a (suc n) = power a n *ℤ a

-- ---- `int` of a text

-- decimal digits, at least one; leading zeros may stand there
abbrev pub unsigned_read : List ℕ → Option ℕ
unsigned_read [] = None
unsigned_read (c ∷ cs) = if list_all is_digit (c ∷ cs) then Some (digits_value 10 (c ∷ cs)) else None

-- the same, behind a `+` or a `-` or no sign
abbrev pub signed_read : List ℕ → Option ℤ
signed_read [] = None
signed_read (c ∷ cs) = if c == 43 then option_map pos (unsigned_read cs) else (if c == 45 then option_map (λ n. neg_ℤ (pos n)) (unsigned_read cs) else option_map pos (unsigned_read (c ∷ cs)))

abbrev pub if_whole : Option ℤ → Option ℤ
if_whole None = None
if_whole (Some z) = if is_whole z then Some z else None

-- the number that a text writes, white space around it aside
abbrev pub number_read : List ℕ → Option ℤ
number_read text = if_whole (signed_read (stripped text))
