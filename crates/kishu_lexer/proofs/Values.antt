-- The value of digits.
use Rattle.std.proofs.Common.{◌≡◌, ℕ, suc, ◌<◌, ◌≤◌, List, [], ◌∷◌, drop, fold, length, get_or, refl, sym, ap, ◌∙◌, arith}
use Rattle.std.proofs.Math.Seq.{drop-cons}
use Rattle.kishu_language.specs.tokens.Numerals.{with_digit, digits_value}

step_grows : (base n c : ℕ) → 1 ≤ base → n ≤ with_digit base n c
step_grows base n c h = grind arith

pub grows : (base : ℕ) (cs : List ℕ) (n : ℕ) → 1 ≤ base → n ≤ fold (with_digit base) n cs
grows base [] n h = omega arith
grows base (c ∷ cs) n h = omega (arith, step_grows base n c h, grows base cs (with_digit base n c) h)

-- The value is past a limit once it is so in the middle.
pub past : (base : ℕ) (cs : List ℕ) (i c n limit : ℕ) → 1 ≤ base → i < length cs → c ≡ get_or cs i c → limit ≤ with_digit base n c
    → fold (with_digit base) n (drop i cs) ≡ digits_value base cs → limit ≤ digits_value base cs
past base cs i c n limit h lt is over so_far =
    let cut : fold (with_digit base) n (drop i cs) ≡ fold (with_digit base) (with_digit base n (get_or cs i c)) (drop (suc i) cs) = rw (drop-cons cs i c) refl in
    omega (arith, grows base (drop (suc i) cs) (with_digit base n (get_or cs i c)) h, sym cut ∙ so_far, ap (with_digit base n) is)
