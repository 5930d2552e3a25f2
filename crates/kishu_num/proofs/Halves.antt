-- Powers by halves, and powers that are too great.
use Rattle.std.proofs.Common.{◌≡◌, ◌≢◌, ◌⊎◌, inl, inr, ℕ, zero, suc, ◌+◌, ◌*◌, ◌/◌, ◌%◌, ◌^◌, ◌<◌, ◌≤◌, ℤ, pos, ◌*ℤ◌, false, refl, sym, ap, ◌∙◌, arith, add-zero, add-suc}
use Rattle.std.specs.Prelude.{Err, unsigned_abs}
use Rattle.std.proofs.Math.Nat.{pow-zero, pow-suc, pow-le-pow_left, pow-le-pow_right, eq-or-lt_of_le}
use Rattle.std.proofs.Math.IntN.{*ℤ-one}
use Rattle.std.proofs.lemmas.Nat.{mul-le}
use Rattle.std.proofs.lemmas.Int.{unsigned_abs-mul}
use Rattle.kishu_meaning.specs.values.Numbers.{is_whole, power}
use Rattle.kishu_num.specs.declared.fault.NumFault.{NumFault}
use Rattle.kishu_num.specs.Results.{in_range}
use Rattle.kishu_num.proofs.Ranges.{outside, too_great, from_err}
use Rattle.kishu_num.proofs.Products.{grouped}

times_one : (z : ℤ) → z *ℤ pos 1 ≡ z
unfolding lib.IntN.one
times_one z = *ℤ-one z

pub power_sum : (a : ℤ) (m n : ℕ) → power a (m + n) ≡ power a m *ℤ power a n
unfolding power
power_sum a m zero = ap (power a) (add-zero m) ∙ sym (times_one (power a m))
power_sum a m (suc n) = ap (power a) (add-suc m n) ∙ ap (λ z. z *ℤ a) (power_sum a m n) ∙ grouped (power a m) (power a n) a

power_next : (a : ℤ) (n : ℕ) → power a (suc n) ≡ power a n *ℤ a
unfolding power
power_next a n = refl

pub power_zero : (a : ℤ) → power a 0 ≡ pos 1
unfolding power
power_zero a = refl

size : (a : ℤ) (n : ℕ) → unsigned_abs (power a n) ≡ unsigned_abs a ^ n
unfolding power
size a zero = sym (pow-zero (unsigned_abs a))
size a (suc n) = unsigned_abs-mul (power a n) a ∙ ap (λ k. k * unsigned_abs a) (size a n) ∙ sym (pow-suc (unsigned_abs a) n)

one_power : (n : ℕ) → 1 ^ n ≡ 1
one_power zero = refl
one_power (suc n) = omega (arith, pow-suc 1 n, one_power n)

-- a number that grows beyond 2^127 goes on to grow
grown : (m k e : ℕ) → 2 ^ 127 ≤ m ^ k → k < e → 2 ^ 127 < m ^ e
grown zero k e h l = absurd (omega (arith, pow-le-pow_left {n = 0} {m = 1} (omega arith) k, one_power k))
grown (suc zero) k e h l = absurd (omega (arith, one_power k))
grown (suc (suc m)) k e h l =
    let more : suc (suc m) ^ suc k ≤ suc (suc m) ^ e = pow-le-pow_right {n = suc (suc m)} (omega arith) {i = suc k} {j = e} (omega arith) in
    let doubled : 2 ^ 127 * 2 ≤ suc (suc m) ^ k * suc (suc m) = mul-le (2 ^ 127) 2 (suc (suc m) ^ k) (suc (suc m)) h (omega arith) in
    omega (arith, pow-suc (suc (suc m)) k)

beyond_step : (a : ℤ) (k e : ℕ) → is_whole (power a k) ≡ false → (k ≡ e) ⊎ (k < e) → is_whole (power a e) ≡ false
beyond_step a k e h (inl same) = rw (← same) h
beyond_step a k e h (inr l) = too_great (power a e) (let reached : 2 ^ 127 ≤ unsigned_abs a ^ k = rw (size a k) at (outside (power a k) h) in rw (size a e) (grown (unsigned_abs a) k e reached l))

-- a power that is too great on the way is too great at the end
pub beyond : (a : ℤ) (k e : ℕ) (f : NumFault) → in_range (power a k) ≡ Err f → k ≤ e → Err f ≡ in_range (power a e)
beyond a k e f h l =
    let was = from_err (power a k) f h in
    rw (beyond_step a k e was.0 (eq-or-lt_of_le l), was.1) refl

pub beyond_square : (a : ℤ) (half : ℤ) (e : ℕ) (f : NumFault) → power a (e / 2) ≡ half → in_range (half *ℤ half) ≡ Err f → Err f ≡ in_range (power a e)
beyond_square a half e f h over = beyond a (e / 2 + e / 2) e f (rw (power_sum a (e / 2) (e / 2), h) over) (omega arith)

pub even_power : (a half : ℤ) (e : ℕ) → power a (e / 2) ≡ half → e % 2 ≡ 0 → half *ℤ half ≡ power a e
even_power a half e h even =
    let twice : e / 2 + e / 2 ≡ e = omega arith in
    rw (← twice, power_sum a (e / 2) (e / 2), h) refl

pub odd_power : (a half : ℤ) (e : ℕ) → power a (e / 2) ≡ half → e % 2 ≢ 0 → half *ℤ half *ℤ a ≡ power a e
odd_power a half e h odd =
    let twice : suc (e / 2 + e / 2) ≡ e = omega arith in
    rw (← twice, power_next a (e / 2 + e / 2), power_sum a (e / 2) (e / 2), h) refl
