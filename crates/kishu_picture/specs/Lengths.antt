-- How long a picture is, in a number of 64 bits.
use Rattle.std.specs.Prelude.{ℕ, ◌^◌, ◌-◌, min}

-- a length, and the greatest number of 64 bits in the place of all that are greater
abbrev pub capped : ℕ → ℕ
capped n = min n (2 ^ 64 - 1)
