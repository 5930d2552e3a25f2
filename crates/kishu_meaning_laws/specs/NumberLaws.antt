-- What `//` and `%` give is joined as it should be, and nothing else is: the two definitions are the one quotient and the one rest.
use Rattle.std.specs.Prelude.{◌≡◌, ◌≢◌, ℕ, zero, suc, ◌+◌, ◌*◌, ◌<◌, ℤ, pos, negsuc, neg_ℤ, ◌+ℤ◌, ◌-ℤ◌, ◌*ℤ◌}
use Rattle.std.proofs.Common.{refl, sym, ap, ◌∙◌, arith}
use Rattle.std.proofs.Math.IntN.{neg_ℤ-neg_ℤ}
use Rattle.std.proofs.lemmas.Int.{ints}
use Rattle.std.proofs.lemmas.Nat.{same_from_place}
use Rattle.kishu_meaning.specs.values.Numbers.{floor_quotient, floor_remainder, IsRemainder, IsDivision}

-- ---- what they give is joined so

some : (b : ℕ) → pos b ≢ pos 0 → 0 < b
some zero h = absurd (h refl)
some (suc b) h = omega arith

rejoined : (a x : ℤ) → a ≡ x +ℤ (a -ℤ x)
rejoined a x = omega (arith, ints)

remainder_is : (a b : ℤ) → b ≢ pos 0 → IsRemainder b (floor_remainder a b)
remainder_is (pos a) (pos b) h = let p : 0 < b = some b h in (omega (arith, ints), omega (arith, ints))
remainder_is (negsuc a) (pos b) h = let p : 0 < b = some b h in (omega (arith, ints), omega (arith, ints))
remainder_is (pos zero) (negsuc b) h = (omega (arith, ints), omega (arith, ints))
remainder_is (pos (suc a)) (negsuc b) h = (omega (arith, ints), omega (arith, ints))
remainder_is (negsuc a) (negsuc b) h = (omega (arith, ints), omega (arith, ints))

pub division : (a b : ℤ) → b ≢ pos 0 → IsDivision a b (floor_quotient a b) (floor_remainder a b)
division a b h = record { parts = rejoined a (floor_quotient a b *ℤ b); remainder = remainder_is a b h }

-- ---- nothing else is

place : (q q' : ℤ) (m s s' : ℕ) → s < m → s' < m → q *ℤ pos m +ℤ pos s ≡ q' *ℤ pos m +ℤ pos s' → (q ≡ q') × (s ≡ s')
place (pos x) (pos y) m s s' l l' e =
    let sums : x * m + s ≡ y * m + s' = omega (arith, ints) in
    let same = same_from_place x s y s' m l l' sums in
    (ap pos same.0, same.1)
place (negsuc x) (negsuc y) m s s' l l' e =
    let sums : suc y * m + s ≡ suc x * m + s' = omega (arith, ints) in
    let same = same_from_place (suc y) s (suc x) s' m l l' sums in
    let turned : x ≡ y = omega (arith, same.0) in
    (ap negsuc turned, same.1)
place (pos x) (negsuc y) m s s' l l' e =
    let sums : (x + suc y) * m + s ≡ 0 * m + s' = omega (arith, ints) in
    let same = same_from_place (x + suc y) s 0 s' m l l' sums in
    absurd (omega (arith, same.0))
place (negsuc x) (pos y) m s s' l l' e =
    let sums : 0 * m + s ≡ (suc x + y) * m + s' = omega (arith, ints) in
    let same = same_from_place 0 s (suc x + y) s' m l l' sums in
    absurd (omega (arith, same.0))

by_positive : (m : ℕ) (q q' r r' : ℤ) → IsRemainder (pos m) r → IsRemainder (pos m) r' → q *ℤ pos m +ℤ r ≡ q' *ℤ pos m +ℤ r' → (q ≡ q') × (r ≡ r')
by_positive m q q' (pos s) (pos s') h h' e = let same = place q q' m s s' (omega (arith, ints, h.1)) (omega (arith, ints, h'.1)) e in (same.0, ap pos same.1)
by_positive m q q' (pos s) (negsuc s') h h' e = absurd (omega (arith, ints, h'.0))
by_positive m q q' (negsuc s) r' h h' e = absurd (omega (arith, ints, h.0))

size_of : (b : ℕ) (r : ℤ) → IsRemainder (negsuc b) r → (s : ℕ) × (r ≡ neg_ℤ (pos s)) × (s < suc b)
size_of b (pos zero) h = (0, refl, omega arith)
size_of b (pos (suc s)) h = absurd (omega (arith, ints, h.1))
size_of b (negsuc s) h = (suc s, refl, omega (arith, ints, h.0))

turned_sign : (q : ℤ) (b : ℕ) → q *ℤ negsuc b ≡ neg_ℤ (q *ℤ pos (suc b))
turned_sign (pos x) b = refl
turned_sign (negsuc x) b = sym (neg_ℤ-neg_ℤ (pos (suc x * suc b)))

turned_sum : (x x' y y' : ℤ) (s s' : ℕ) → y ≡ neg_ℤ x → y' ≡ neg_ℤ x' → y +ℤ neg_ℤ (pos s) ≡ y' +ℤ neg_ℤ (pos s') → x +ℤ pos s ≡ x' +ℤ pos s'
turned_sum x x' y y' s s' h h' e = omega (arith, ints)

by_negative : (b : ℕ) (q q' r r' : ℤ) → IsRemainder (negsuc b) r → IsRemainder (negsuc b) r' → q *ℤ negsuc b +ℤ r ≡ q' *ℤ negsuc b +ℤ r' → (q ≡ q') × (r ≡ r')
by_negative b q q' r r' h h' e =
    let size = size_of b r h in
    let size' = size_of b r' h' in
    let same = place q q' (suc b) size.0 size'.0 size.2 size'.2 (turned_sum _ _ _ _ size.0 size'.0 (turned_sign q b) (turned_sign q' b) (rw (size.1, size'.1) at e)) in
    (same.0, size.1 ∙ ap (λ s. neg_ℤ (pos s)) same.1 ∙ sym size'.1)

by_any : (b q q' r r' : ℤ) → IsRemainder b r → IsRemainder b r' → q *ℤ b +ℤ r ≡ q' *ℤ b +ℤ r' → (q ≡ q') × (r ≡ r')
by_any (pos m) q q' r r' h h' e = by_positive m q q' r r' h h' e
by_any (negsuc b) q q' r r' h h' e = by_negative b q q' r r' h h' e

pub division_only : (a b q r q' r' : ℤ) → IsDivision a b q r → IsDivision a b q' r' → (q ≡ q') × (r ≡ r')
division_only a b q r q' r' h h' = by_any b q q' r r' h.remainder h'.remainder (sym h.parts ∙ h'.parts)
