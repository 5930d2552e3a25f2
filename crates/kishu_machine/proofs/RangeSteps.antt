-- The numbers of a range, by how far they lie from its start.
use Rattle.std.proofs.Common.{◌≡◌, ◌∙◌, refl, sym, ap, arith, ℕ, zero, suc, ◌+◌, ◌-◌, ◌*◌, ◌/◌, ◌%◌, ◌<◌, ◌≤◌, Bool, true, false, ℤ, pos, negsuc, neg_ℤ, ◌-ℤ◌, ◌*ℤ◌, ◌≤ℤ◌, ◌<ℤ◌}
use Rattle.std.specs.Prelude.{◌&&◌, ◌==◌, nat_lt, int_lt, unsigned_abs}
use Rattle.std.specs.Ordering.{int_eq}
use Rattle.std.proofs.Math.IntN.{neg_ℤ-neg_ℤ}
use Rattle.std.proofs.Math.Nat.{mul-le-mul_left}
use Rattle.std.proofs.lemmas.Bool.Decides.{nat_tests}
use Rattle.std.proofs.lemmas.Int.{ints}
use borrow.Author.Tests.{ltb-true}
use Rattle.kishu_meaning.specs.values.Numbers.{floor_over, floor_quotient, floor_remainder}
use Rattle.kishu_meaning.specs.comparing.Equal.{steps_between}
use Rattle.kishu_meaning.specs.comparing.Comparing.{is_place_of, is_number_of}
use Rattle.kishu_machine.specs.Forms.{natural, is_step_on}

-- ---- how many numbers there are, by how far the stop lies from the start

abbrev count_in : ℕ → ℤ → ℕ
count_in n (pos zero) = 0
count_in n (pos (suc k)) = k / n + 1
count_in n (negsuc k) = 0

not_less : (from to s : ℤ) → to -ℤ from ≡ s → s ≤ℤ pos 0 → int_lt from to ≡ false
not_less from to s e h = grind (arith, ints)

is_less : (from to s : ℤ) → to -ℤ from ≡ s → pos 0 <ℤ s → int_lt from to ≡ true
is_less from to s e h = grind (arith, ints)

one_before : (k : ℕ) → suc k - 1 ≡ k
one_before k = omega arith

count_is : (n : ℕ) (from to s : ℤ) → to -ℤ from ≡ s → steps_between n from to ≡ count_in n s
count_is n from to (pos zero) e = rw (not_less from to (pos zero) e (omega (arith, ints))) refl
count_is n from to (pos (suc k)) e = rw (is_less from to (pos (suc k)) e (omega (arith, ints)), e, one_before k) refl
count_is n from to (negsuc k) e = rw (not_less from to (negsuc k) e (omega (arith, ints))) refl

-- ---- what a division leaves

less_than_none : (n : ℕ) → nat_lt n 0 ≡ false
less_than_none n = grind (arith, nat_tests)

more_than_none : (n : ℕ) → nat_lt 0 (suc n) ≡ true
more_than_none n = grind (arith, nat_tests)

not_none : (n : ℕ) → (suc n == 0) ≡ false
not_none n = grind (arith, nat_tests)

not_zero : (n : ℕ) → int_eq (pos (suc n)) (pos 0) ≡ false
not_zero n = rw (less_than_none (suc n), more_than_none n) refl

is_zero : (k : ℕ) → int_eq (pos k) (pos 0) ≡ (k == 0)
is_zero zero = refl
is_zero (suc n) = not_zero n ∙ sym (not_none n)

rest_is : (k n : ℕ) → 0 < n → int_eq (pos k -ℤ pos (k / n) *ℤ pos n) (pos 0) ≡ (k % n == 0)
rest_is k n h = (let e : pos k -ℤ pos (k / n) *ℤ pos n ≡ pos (k % n) = omega (arith, ints) in rw e (is_zero (k % n)))

turned_sign : (q : ℤ) (n : ℕ) → q *ℤ negsuc n ≡ neg_ℤ (q *ℤ pos (suc n))
turned_sign (pos x) n = refl
turned_sign (negsuc x) n = sym (neg_ℤ-neg_ℤ (pos (suc x * suc n)))

turned_rest : (e x y : ℤ) → y ≡ neg_ℤ x → neg_ℤ e -ℤ y ≡ neg_ℤ (e -ℤ x)
turned_rest e x y h = omega (arith, ints)

turned_zero : (x : ℤ) → int_eq (neg_ℤ x) (pos 0) ≡ int_eq x (pos 0)
turned_zero (pos zero) = refl
turned_zero (pos (suc n)) = sym (not_zero n)
turned_zero (negsuc n) = not_zero n

rest_turned : (e q : ℤ) (n : ℕ) → int_eq (neg_ℤ e -ℤ q *ℤ negsuc n) (pos 0) ≡ int_eq (e -ℤ q *ℤ pos (suc n)) (pos 0)
rest_turned e q n = ap (λ x. int_eq x (pos 0)) (turned_rest e (q *ℤ pos (suc n)) (q *ℤ negsuc n) (turned_sign q n)) ∙ turned_zero (e -ℤ q *ℤ pos (suc n))

-- ---- places

same_tests : (a b c d : ℕ) → (a < b → c < d) → (c < d → a < b) → nat_lt a b ≡ nat_lt c d
same_tests a b c d f g = grind (arith, nat_tests)

fits_on : (k m n : ℕ) → 0 < n → k % n ≡ 0 → k / n < m / n + 1 → k < suc m
fits_on k m n h r p = (let q : k / n ≤ m / n = omega arith in omega (arith, mul-le-mul_left n q))

fits_by : (k m n a b : ℕ) → k ≡ n * a → m < n * (b + 1) → b + 1 ≤ a → m < k
fits_by k m n a b e f p = omega (arith, mul-le-mul_left n p)

apart : (m k : ℕ) → m < k → k < suc m → ⊥
apart m k h p = omega arith

not_below : (a b : ℕ) → nat_lt a b ≡ false → b ≤ a
not_below a b h = grind (arith, nat_tests)

below_by : (a b : ℕ) (t : Bool) → nat_lt a b ≡ t → (b ≤ a → ⊥) → a < b
below_by a b true e h = ltb-true a b e
below_by a b false e h = absurd (h (not_below a b e))

fits_back : (k m n : ℕ) → 0 < n → k % n ≡ 0 → k < suc m → k / n < m / n + 1
fits_back k m n h r p =
    let e : k ≡ n * (k / n) = omega arith in
    let f : m < n * (m / n + 1) = omega arith in
    below_by (k / n) (m / n + 1) (nat_lt (k / n) (m / n + 1)) refl (λ q. apart m k (fits_by k m n (k / n) (m / n) e f q) p)

fits : (k m n : ℕ) → 0 < n → k % n ≡ 0 → nat_lt (k / n) (m / n + 1) ≡ nat_lt k (suc m)
fits k m n h r = same_tests (k / n) (m / n + 1) k (suc m) (fits_on k m n h r) (fits_back k m n h r)

never : (x y : ℕ) → nat_lt x 0 ≡ nat_lt y 0
never x y = grind (arith, nat_tests)

is_nothing : (r : ℕ) → (r == 0) ≡ true → r ≡ 0
is_nothing r h = grind (arith, nat_tests)

and_true : (q : Bool) → q ≡ (q && true)
and_true true = refl
and_true false = refl

and_false : (q : Bool) → (q && false) ≡ false
and_false true = refl
and_false false = refl

swapped : (r p q : Bool) → (r ≡ true → p ≡ q) → (r && p) ≡ (q && r)
swapped true p q h = h refl ∙ and_true q
swapped false p q h = sym (and_false q)

at_place : (e s : ℤ) (n : ℕ) → 0 < n → (int_eq (e -ℤ floor_over e n *ℤ pos n) (pos 0) && is_place_of (count_in n s) (floor_over e n)) ≡ is_step_on (natural e) (natural s) n
at_place (pos k) (pos zero) n h = ap (λ r. r && nat_lt (k / n) 0) (rest_is k n h) ∙ swapped (k % n == 0) (nat_lt (k / n) 0) (nat_lt k 0) (λ r. never (k / n) k)
at_place (pos k) (pos (suc m)) n h = ap (λ r. r && nat_lt (k / n) (m / n + 1)) (rest_is k n h) ∙ swapped (k % n == 0) (nat_lt (k / n) (m / n + 1)) (nat_lt k (suc m)) (λ r. fits k m n h (is_nothing (k % n) r))
at_place (pos k) (negsuc m) n h = ap (λ p. int_eq (pos k -ℤ pos (k / n) *ℤ pos n) (pos 0) && p) (less_than_none (k / n)) ∙ and_false _
at_place (negsuc k) s n h = and_false _

turned_place : (d e : ℤ) (n count : ℕ) → d ≡ neg_ℤ e → neg_ℤ d ≡ e
    → (int_eq (d -ℤ floor_over (neg_ℤ d) (suc n) *ℤ negsuc n) (pos 0) && is_place_of count (floor_over (neg_ℤ d) (suc n)))
    ≡ (int_eq (e -ℤ floor_over e (suc n) *ℤ pos (suc n)) (pos 0) && is_place_of count (floor_over e (suc n)))
turned_place d e n count p q = rw (q, p) (ap (λ r. r && is_place_of count (floor_over e (suc n))) (rest_turned e (floor_over e (suc n)) n))

turned : (a z : ℤ) → z -ℤ a ≡ neg_ℤ (a -ℤ z)
turned a z = omega (arith, ints)

turned_back : (a z : ℤ) → neg_ℤ (z -ℤ a) ≡ a -ℤ z
turned_back a z = omega (arith, ints)

some : (n : ℕ) → 0 < suc n
some n = omega arith

-- ---- by the sign of the step

pub steps_up : (z a b step : ℤ) → int_lt (pos 0) step ≡ true → is_step_on (natural (z -ℤ a)) (natural (b -ℤ a)) (unsigned_abs step) ≡ is_number_of z a b step
steps_up z a b (pos zero) h = absurd (cc)
steps_up z a b (pos (suc n)) h = sym (rw (count_is (suc n) a b (b -ℤ a) refl) (at_place (z -ℤ a) (b -ℤ a) (suc n) (some n)))
steps_up z a b (negsuc n) h = absurd (cc)

pub steps_down : (z a b step : ℤ) → int_lt step (pos 0) ≡ true → is_step_on (natural (a -ℤ z)) (natural (a -ℤ b)) (unsigned_abs step) ≡ is_number_of z a b step
steps_down z a b (pos n) h = absurd (cc (less_than_none n))
steps_down z a b (negsuc n) h =
    sym (rw (count_is (suc n) b a (a -ℤ b) refl) (turned_place (z -ℤ a) (a -ℤ z) n (count_in (suc n) (a -ℤ b)) (turned a z) (turned_back a z) ∙ at_place (a -ℤ z) (a -ℤ b) (suc n) (some n)))

none_at : (q : ℤ) → is_place_of 0 q ≡ false
none_at (pos i) = less_than_none i
none_at (negsuc i) = refl

pub no_steps : (z a b step : ℤ) → int_lt (pos 0) step ≡ false → int_lt step (pos 0) ≡ false → false ≡ is_number_of z a b step
no_steps z a b (pos zero) h k =
    let rest = int_eq (floor_remainder (z -ℤ a) (pos 0)) (pos 0) in
    sym (ap (λ p. rest && p) (none_at (floor_quotient (z -ℤ a) (pos 0))) ∙ and_false rest)
no_steps z a b (pos (suc n)) h k = absurd (cc (more_than_none n))
no_steps z a b (negsuc n) h k = absurd (cc)
