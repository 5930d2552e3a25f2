-- Whole numbers of sixteen bytes, as two times eight.
use Rattle.std.specs.Prelude.{◌≡◌, ℕ, zero, suc, ◌+◌, ◌*◌, ◌/◌, ◌%◌, ◌^◌, ◌<◌, ℤ, FitsSigned, List, [], ◌∷◌, ◌++◌, length, get_or, refl}
use Rattle.std.specs.Int.{w64, w128, to_be_bytes, from_be_bytes, cast_unsigned, cast_signed}
use Rattle.std.proofs.Common.{◌∙◌, ap, arith}
use Rattle.std.proofs.lemmas.Nat.{be_bytes_8, from_be_bytes-to_be_bytes_8}
use Rattle.std.proofs.lemmas.Int.{of_z-to_z}
use Rattle.kishu_bytes_laws.specs.NumberLaws.{halves}
use mir.ValLaws as laws

joined : (a b c d e f g h i j k l m n o p high low all : ℕ)
    → a * 72057594037927936 + b * 281474976710656 + c * 1099511627776 + d * 4294967296 + e * 16777216 + f * 65536 + g * 256 + h ≡ high
    → i * 72057594037927936 + j * 281474976710656 + k * 1099511627776 + l * 4294967296 + m * 16777216 + n * 65536 + o * 256 + p ≡ low
    → all ≡ high * 18446744073709551616 + low
    → a * 1329227995784915872903807060280344576 + b * 5192296858534827628530496329220096 + c * 20282409603651670423947251286016 + d *
    79228162514264337593543950336 + e * 309485009821345068724781056
    + f * 1208925819614629174706176 + g * 4722366482869645213696 + h * 18446744073709551616
    + i * 72057594037927936 + j * 281474976710656 + k * 1099511627776 + l * 4294967296 + m * 16777216 + n * 65536 + o * 256 + p ≡ all
joined a b c d e f g h i j k l m n o p high low all x y z = omega arith

-- sixteen bytes that are written are read back
pub from_sixteen : (n : ℕ) → n < 2 ^ 128 → from_be_bytes w128 (to_be_bytes w128 n) ≡ n
from_sixteen n fits =
    let high = n / 18446744073709551616 in
    let low = n % 18446744073709551616 in
    let a = from_be_bytes-to_be_bytes_8 high (omega arith) in
    let b = from_be_bytes-to_be_bytes_8 low (omega arith) in
    let split : n ≡ high * 18446744073709551616 + low = omega arith in
    ap (from_be_bytes w128) (halves n) ∙ joined _ _ _ _ _ _ _ _ _ _ _ _ _ _ _ _ high low n a b split

pub below_128 : (z : ℤ) → FitsSigned w128 z → cast_unsigned w128 z < 2 ^ 128
below_128 z h = (laws.of_z_fits w128 z h).fits

pub signed_fits : (n : ℕ) → n < 2 ^ 128 → FitsSigned w128 (cast_signed w128 n)
signed_fits n l = laws.to_z-Fits w128 n (record { fits = l })

pub unsigned_back : (n : ℕ) → n < 2 ^ 128 → cast_unsigned w128 (cast_signed w128 n) ≡ n
unsigned_back n l = of_z-to_z w128 n l

read_below : (bs : List ℕ) → ((i : ℕ) → get_or bs i 0 < 256) → from_be_bytes w64 bs < 18446744073709551616
read_below bs low = (let a = low 0 in let b = low 1 in let c = low 2 in let d = low 3 in let e = low 4 in let f = low 5 in let g = low 6 in
    let h = low 7 in omega arith)

front_small : (xs ys : List ℕ) → ((i : ℕ) → get_or (xs ++ ys) i 0 < 256) → (i : ℕ) → get_or xs i 0 < 256
front_small [] ys h i = omega arith
front_small (x ∷ xs) ys h zero = h 0
front_small (x ∷ xs) ys h (suc i) = front_small xs ys (λ j. h (suc j)) i

back_small : (xs ys : List ℕ) → ((i : ℕ) → get_or (xs ++ ys) i 0 < 256) → (i : ℕ) → get_or ys i 0 < 256
back_small [] ys h i = h i
back_small (x ∷ xs) ys h i = back_small xs ys (λ j. h (suc j)) i

-- sixteen bytes that are read, of the eight and the eight
two_eights : (a b c d e f g h i j k l m n o p : ℕ) → from_be_bytes w128 (a ∷ b ∷ c ∷ d ∷ e ∷ f ∷ g ∷ h ∷ i ∷ j ∷ k ∷ l ∷ m ∷ n ∷ o ∷ p ∷ [])
    ≡ from_be_bytes w64 (a ∷ b ∷ c ∷ d ∷ e ∷ f ∷ g ∷ h ∷ []) * 18446744073709551616 + from_be_bytes w64 (i ∷ j ∷ k ∷ l ∷ m ∷ n ∷ o ∷ p ∷ [])
two_eights a b c d e f g h i j k l m n o p =
    joined a b c d e f g h i j k l m n o p (from_be_bytes w64 (a ∷ b ∷ c ∷ d ∷ e ∷ f ∷ g ∷ h ∷ []))
    (from_be_bytes w64 (i ∷ j ∷ k ∷ l ∷ m ∷ n ∷ o ∷ p ∷ [])) _ (omega arith) (omega arith) refl

sixteen_back : (high low : List ℕ) → length high ≡ 8 → length low ≡ 8 → ((i : ℕ) → get_or high i 0 < 256) → ((i : ℕ) → get_or low i 0 < 256)
    → (n : ℕ) → n ≡ from_be_bytes w64 high * 18446744073709551616 + from_be_bytes w64 low → to_be_bytes w128 n ≡ high ++ low
sixteen_back high low lh ll sh sl n e =
    let a = read_below high sh in
    let b = read_below low sl in
    let q : n / 18446744073709551616 ≡ from_be_bytes w64 high = omega arith in
    let r : n % 18446744073709551616 ≡ from_be_bytes w64 low = omega arith in
    halves n ∙ ap (λ x. x ++ to_be_bytes w64 (n % 18446744073709551616)) (be_bytes_8 high (n / 18446744073709551616) lh sh q)
    ∙ ap (λ x. high ++ x) (be_bytes_8 low (n % 18446744073709551616) ll sl r)

pub to_sixteen : (bs : List ℕ) → length bs ≡ 16 → ((i : ℕ) → get_or bs i 0 < 256)
    → (to_be_bytes w128 (from_be_bytes w128 bs) ≡ bs) × (from_be_bytes w128 bs < 2 ^ 128)
to_sixteen ([]) size small = absurd (omega arith)
to_sixteen (a ∷ []) size small = absurd (omega arith)
to_sixteen (a ∷ b ∷ []) size small = absurd (omega arith)
to_sixteen (a ∷ b ∷ c ∷ []) size small = absurd (omega arith)
to_sixteen (a ∷ b ∷ c ∷ d ∷ []) size small = absurd (omega arith)
to_sixteen (a ∷ b ∷ c ∷ d ∷ e ∷ []) size small = absurd (omega arith)
to_sixteen (a ∷ b ∷ c ∷ d ∷ e ∷ f ∷ []) size small = absurd (omega arith)
to_sixteen (a ∷ b ∷ c ∷ d ∷ e ∷ f ∷ g ∷ []) size small = absurd (omega arith)
to_sixteen (a ∷ b ∷ c ∷ d ∷ e ∷ f ∷ g ∷ h ∷ []) size small = absurd (omega arith)
to_sixteen (a ∷ b ∷ c ∷ d ∷ e ∷ f ∷ g ∷ h ∷ i ∷ []) size small = absurd (omega arith)
to_sixteen (a ∷ b ∷ c ∷ d ∷ e ∷ f ∷ g ∷ h ∷ i ∷ j ∷ []) size small = absurd (omega arith)
to_sixteen (a ∷ b ∷ c ∷ d ∷ e ∷ f ∷ g ∷ h ∷ i ∷ j ∷ k ∷ []) size small = absurd (omega arith)
to_sixteen (a ∷ b ∷ c ∷ d ∷ e ∷ f ∷ g ∷ h ∷ i ∷ j ∷ k ∷ l ∷ []) size small = absurd (omega arith)
to_sixteen (a ∷ b ∷ c ∷ d ∷ e ∷ f ∷ g ∷ h ∷ i ∷ j ∷ k ∷ l ∷ m ∷ []) size small = absurd (omega arith)
to_sixteen (a ∷ b ∷ c ∷ d ∷ e ∷ f ∷ g ∷ h ∷ i ∷ j ∷ k ∷ l ∷ m ∷ n ∷ []) size small = absurd (omega arith)
to_sixteen (a ∷ b ∷ c ∷ d ∷ e ∷ f ∷ g ∷ h ∷ i ∷ j ∷ k ∷ l ∷ m ∷ n ∷ o ∷ []) size small = absurd (omega arith)
to_sixteen (a ∷ b ∷ c ∷ d ∷ e ∷ f ∷ g ∷ h ∷ i ∷ j ∷ k ∷ l ∷ m ∷ n ∷ o ∷ p ∷ []) size small =
    let high = front_small (a ∷ b ∷ c ∷ d ∷ e ∷ f ∷ g ∷ h ∷ []) (i ∷ j ∷ k ∷ l ∷ m ∷ n ∷ o ∷ p ∷ []) small in
    let low = back_small (a ∷ b ∷ c ∷ d ∷ e ∷ f ∷ g ∷ h ∷ []) (i ∷ j ∷ k ∷ l ∷ m ∷ n ∷ o ∷ p ∷ []) small in
    let whole = two_eights a b c d e f g h i j k l m n o p in
    let x = read_below (a ∷ b ∷ c ∷ d ∷ e ∷ f ∷ g ∷ h ∷ []) high in
    let y = read_below (i ∷ j ∷ k ∷ l ∷ m ∷ n ∷ o ∷ p ∷ []) low in
    (sixteen_back (a ∷ b ∷ c ∷ d ∷ e ∷ f ∷ g ∷ h ∷ []) (i ∷ j ∷ k ∷ l ∷ m ∷ n ∷ o ∷ p ∷ []) refl refl high low _ whole, omega arith)
to_sixteen (a ∷ b ∷ c ∷ d ∷ e ∷ f ∷ g ∷ h ∷ i ∷ j ∷ k ∷ l ∷ m ∷ n ∷ o ∷ p ∷ q ∷ qs) size small = absurd (omega arith)
