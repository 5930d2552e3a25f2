-- Numbers as bytes. They are big-endian.
use Rattle.std.specs.Prelude.{ℕ, ℤ, List}
use Rattle.std.specs.Int.{w32, w128, to_be_bytes, cast_unsigned}
use Rattle.kishu_language.specs.declared.profile.Profile.{Profile}
use Rattle.kishu_language.specs.declared.profile.Profile.TheVariants.{One, Two}

-- a number in four bytes
abbrev pub four : ℕ → List ℕ
four n = to_be_bytes w32 n

-- a whole number in sixteen bytes, in two's complement
unfoldable pub sixteen : ℤ → List ℕ
sixteen z = to_be_bytes w128 (cast_unsigned w128 z)

-- a profile as a byte
abbrev pub profile_number : Profile → ℕ
profile_number One = 1
profile_number Two = 2
