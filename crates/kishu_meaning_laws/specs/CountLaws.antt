-- What only counts gives no step back, and goes the same way with more steps to spend, or takes more steps than it was begun with: how such computations are put together.
use Rattle.std.specs.Prelude.{◌≡◌, ℕ, ◌+◌, ◌-◌, ◌<◌, ◌≤◌, nat_le, Bool, true, false, if◌then◌else◌}
use Rattle.std.proofs.Common.{refl, subst, arith, leb-true}
use Rattle.std.proofs.lemmas.Bool.{leb-false}
use Rattle.kishu_meaning.specs.moments.Counting.{Count, Counted, answer, too_deep, spent, and_then, ◌>>=◌, ◌>>◌, give, spend, stop_deep}

abbrev pub left_of : {A : Type 0} → Counted A → ℕ
left_of (answer a left) = left
left_of (too_deep left) = left
left_of (spent left) = left

-- An end, and that with d more steps to spend: the same with d more steps left, or a spent budget, where the other took more steps than there were.
pub data Wider {A : Type 0} (d : ℕ) : Counted A → Counted A → Type 0 where
  both_answer : {a : A} {n : ℕ} → Wider d (answer a n) (answer a (n + d))
  both_deep : {n : ℕ} → Wider d (too_deep n) (too_deep (n + d))
  one_spent : {n : ℕ} {e : Counted A} → n ≡ 0 → left_of e < d → Wider d (spent n) e

pub record Falls {A : Type 0} (m : Count A) : Type 0 where
  pub falls : (n : ℕ) → left_of (m n) ≤ n
  pub wide : (n d : ℕ) → 0 < d → Wider d (m n) (m (n + d))

after : {A B : Type 0} (f : A → Count B) → ((a : A) → Falls (f a)) → (n : ℕ) (e : Counted A) → left_of e ≤ n → left_of (and_then e f) ≤ n
after f h n (answer a k) fits = (let t = (h a).falls k in omega (arith, t, fits))
after f h n (too_deep k) fits = fits
after f h n (spent k) fits = fits

short_after : {A B : Type 0} (f : A → Count B) → ((a : A) → Falls (f a)) → (d : ℕ) (e : Counted A) → left_of e < d → left_of (and_then e f) < d
short_after f h d (answer a k) short = (let t = (h a).falls k in omega (arith, t, short))
short_after f h d (too_deep k) short = short
short_after f h d (spent k) short = short

wide_after : {A B : Type 0} (f : A → Count B) → ((a : A) → Falls (f a)) → (d : ℕ) → 0 < d → {e g : Counted A} → Wider d e g → Wider d (and_then e f) (and_then g f)
wide_after f h d p (both_answer {a = a} {n = n}) = (h a).wide n d p
wide_after f h d p both_deep = both_deep
wide_after f h d p (one_spent {e = g} z short) = one_spent z (short_after f h d g short)

pub then_falls : {A B : Type 0} (m : Count A) (f : A → Count B) → Falls m → ((a : A) → Falls (f a)) → Falls (m >>= f)
then_falls m f hm hf = record { falls = λ n. after f hf n (m n) (hm.falls n); wide = λ n d p. wide_after f hf d p (hm.wide n d p) }

pub both_fall : {A B : Type 0} (m : Count A) (k : Count B) → Falls m → Falls k → Falls (m >> k)
both_fall m k hm hk = then_falls m (λ _. k) hm (λ _. hk)

pub give_falls : {A : Type 0} (a : A) → Falls (give a)
give_falls a = record { falls = λ n. omega arith; wide = λ n d p. both_answer }

-- what is left of n steps where k are spent
abbrev spent_of : Bool → ℕ → ℕ → Counted (Unit {0})
spent_of b k n = if b then answer tt (n - k) else spent 0

either_spent : (k n : ℕ) (b : Bool) → left_of (spent_of b k n) ≤ n
either_spent k n true = omega arith
either_spent k n false = omega arith

either_wide : (k n d : ℕ) (b c : Bool) → nat_le k n ≡ b → nat_le k (n + d) ≡ c → 0 < d → Wider d (spent_of b k n) (spent_of c k (n + d))
either_wide k n d true true e f p =
    let fits : k ≤ n = leb-true k n e in
    let rest : n - k + d ≡ n + d - k = omega (arith, fits) in
    subst (λ (j : ℕ). Wider {A = Unit {0}} d (answer tt (n - k)) (answer tt j)) rest both_answer
either_wide k n d true false e f p =
    let fits : k ≤ n = leb-true k n e in
    let short : n + d < k = leb-false k (n + d) f in
    absurd (omega (arith, fits, short))
either_wide k n d false true e f p =
    let short : n < k = leb-false k n e in
    let fits : k ≤ n + d = leb-true k (n + d) f in
    one_spent refl (omega (arith, short, fits, p))
either_wide k n d false false e f p = one_spent refl p

pub spend_falls : (k : ℕ) → Falls (spend k)
spend_falls k = record { falls = λ n. either_spent k n (nat_le k n); wide = λ n d p. either_wide k n d (nat_le k n) (nat_le k (n + d)) refl refl p }

pub deep_falls : {A : Type 0} → Falls (stop_deep {A = A})
deep_falls = record { falls = λ n. omega arith; wide = λ n d p. both_deep }

pub either_falls : {A : Type 0} (b : Bool) (m k : Count A) → Falls m → Falls k → Falls (if b then m else k)
either_falls true m k hm hk = hm
either_falls false m k hm hk = hk
