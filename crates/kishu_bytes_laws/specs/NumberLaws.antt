-- Two numbers with the same bytes are one.
use Rattle.std.specs.Prelude.{◌≡◌, ℕ, ◌/◌, ◌%◌, ◌^◌, ◌<◌, ℤ, FitsSigned, List, ◌++◌, length, take, drop, refl}
use Rattle.std.specs.Int.{w32, w64, w128, to_be_bytes, from_be_bytes, cast_unsigned, cast_signed}
use Rattle.std.proofs.Common.{sym, ◌∙◌, ap, arith}
use Rattle.std.proofs.lemmas.List.{take_at, drop_at}
use Rattle.std.proofs.lemmas.Nat.{from_be_bytes-to_be_bytes_4, from_be_bytes-to_be_bytes_8}
use Rattle.std.proofs.lemmas.Int.{to_z-of_z}
use mir.ValLaws as laws
use Rattle.kishu_language.specs.declared.profile.Profile.{Profile}
use Rattle.kishu_language.specs.declared.profile.Profile.TheVariants.{One, Two}
use Rattle.kishu_bytes.specs.Numbers.{four, sixteen, profile_number}

-- what two equal lists begin with, where it is as long in both
pub append-unique : (a b x y : List ℕ) → length a ≡ length b → a ++ x ≡ b ++ y → (a ≡ b) × (x ≡ y)
append-unique a b x y size e = (
  sym (take_at a x (length a) refl) ∙ ap (λ (l : List ℕ). take (length a) l) e ∙ take_at b y (length a) (sym size),
  sym (drop_at a x (length a) refl) ∙ ap (λ (l : List ℕ). drop (length a) l) e ∙ drop_at b y (length a) (sym size),
)

-- ---- four bytes

pub four-unique : (m n : ℕ) (x y : List ℕ) → m < 2 ^ 32 → n < 2 ^ 32 → four m ++ x ≡ four n ++ y → (m ≡ n) × (x ≡ y)
four-unique m n x y hm hn e =
    let both = append-unique (four m) (four n) x y refl e in (
      sym (from_be_bytes-to_be_bytes_4 m hm) ∙ ap (λ (l : List ℕ). from_be_bytes w32 l) both.0 ∙ from_be_bytes-to_be_bytes_4 n hn,
      both.1,
    )

-- ---- sixteen bytes, as two times eight

pub halves : (n : ℕ) → to_be_bytes w128 n ≡ to_be_bytes w64 (n / 18446744073709551616) ++ to_be_bytes w64 (n % 18446744073709551616)
halves n =
    let h7 : n / 1329227995784915872903807060280344576 % 256 ≡ n / 18446744073709551616 / 72057594037927936 % 256 = omega arith in
    let h6 : n / 5192296858534827628530496329220096 % 256 ≡ n / 18446744073709551616 / 281474976710656 % 256 = omega arith in
    let h5 : n / 20282409603651670423947251286016 % 256 ≡ n / 18446744073709551616 / 1099511627776 % 256 = omega arith in
    let h4 : n / 79228162514264337593543950336 % 256 ≡ n / 18446744073709551616 / 4294967296 % 256 = omega arith in
    let h3 : n / 309485009821345068724781056 % 256 ≡ n / 18446744073709551616 / 16777216 % 256 = omega arith in
    let h2 : n / 1208925819614629174706176 % 256 ≡ n / 18446744073709551616 / 65536 % 256 = omega arith in
    let h1 : n / 4722366482869645213696 % 256 ≡ n / 18446744073709551616 / 256 % 256 = omega arith in
    let l7 : n / 72057594037927936 % 256 ≡ n % 18446744073709551616 / 72057594037927936 % 256 = omega arith in
    let l6 : n / 281474976710656 % 256 ≡ n % 18446744073709551616 / 281474976710656 % 256 = omega arith in
    let l5 : n / 1099511627776 % 256 ≡ n % 18446744073709551616 / 1099511627776 % 256 = omega arith in
    let l4 : n / 4294967296 % 256 ≡ n % 18446744073709551616 / 4294967296 % 256 = omega arith in
    let l3 : n / 16777216 % 256 ≡ n % 18446744073709551616 / 16777216 % 256 = omega arith in
    let l2 : n / 65536 % 256 ≡ n % 18446744073709551616 / 65536 % 256 = omega arith in
    let l1 : n / 256 % 256 ≡ n % 18446744073709551616 / 256 % 256 = omega arith in
    let l0 : n % 256 ≡ n % 18446744073709551616 % 256 = omega arith in
    cc

sixteen_numbers : (m n : ℕ) → m < 2 ^ 128 → n < 2 ^ 128 → to_be_bytes w128 m ≡ to_be_bytes w128 n → m ≡ n
sixteen_numbers m n hm hn e =
    let both = append-unique (to_be_bytes w64 (m / 18446744073709551616)) (to_be_bytes w64 (n / 18446744073709551616)) (to_be_bytes w64 (m % 18446744073709551616)) (to_be_bytes w64 (n % 18446744073709551616)) refl (sym (halves m) ∙ e ∙ halves n) in
    let high = sym (from_be_bytes-to_be_bytes_8 (m / 18446744073709551616) (omega arith)) ∙ ap (λ (l : List ℕ). from_be_bytes w64 l) both.0 ∙ from_be_bytes-to_be_bytes_8 (n / 18446744073709551616) (omega arith) in
    let low = sym (from_be_bytes-to_be_bytes_8 (m % 18446744073709551616) (omega arith)) ∙ ap (λ (l : List ℕ). from_be_bytes w64 l) both.1 ∙ from_be_bytes-to_be_bytes_8 (n % 18446744073709551616) (omega arith) in
    let h : m / 18446744073709551616 ≡ n / 18446744073709551616 = high in
    let l : m % 18446744073709551616 ≡ n % 18446744073709551616 = low in
    omega (arith, h, l)

below_128 : (z : ℤ) → FitsSigned w128 z → cast_unsigned w128 z < 2 ^ 128
below_128 z h = (laws.of_z_fits w128 z h).fits

pub sixteen-unique : (a b : ℤ) (x y : List ℕ) → FitsSigned w128 a → FitsSigned w128 b → sixteen a ++ x ≡ sixteen b ++ y → (a ≡ b) × (x ≡ y)
unfolding sixteen
sixteen-unique a b x y ha hb e =
    let k = append-unique (sixteen a) (sixteen b) x y refl e in
    let n = sixteen_numbers (cast_unsigned w128 a) (cast_unsigned w128 b) (below_128 a ha) (below_128 b hb) k.0 in
    (sym (to_z-of_z w128 a ha) ∙ ap (cast_signed w128) n ∙ to_z-of_z w128 b hb, k.1)

-- ---- a profile

pub profile-unique : (p q : Profile) → profile_number p ≡ profile_number q → p ≡ q
profile-unique One One e = refl
profile-unique One Two e = absurd (omega (arith, e))
profile-unique Two One e = absurd (omega (arith, e))
profile-unique Two Two e = refl
