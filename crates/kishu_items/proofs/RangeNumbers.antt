-- The numbers of a range: they lie between its start and its stop, and follow one another.
use Rattle.std.proofs.Common.{◌≡◌, ◌∙◌, ap, sym, refl, arith, ℕ, zero, suc, ◌+◌, ◌-◌, ◌*◌, ◌/◌, ◌<◌, ◌≤◌, ◌^◌, Bool, true, false, List, [], ◌∷◌, ◌++◌, map, add-one}
use lib.Signed.{mag}
use Rattle.std.specs.Prelude.{ℤ, pos, negsuc, ◌+ℤ◌, ◌*ℤ◌, ◌-ℤ◌, ◌<ℤ◌, ◌≤ℤ◌, int_lt, unsigned_abs, if◌then◌else◌}
use Rattle.std.proofs.lemmas.Int.{ints}
use Rattle.std.proofs.lemmas.List.{map-append}
use Rattle.std.proofs.Math.IntN.{suc_ℤ-*ℤ, zero-*ℤ, +ℤ_idr}
use Rattle.std.proofs.Math.Nat.{mul-le-mul_left}
use Rattle.kishu_meaning.specs.declared.value.Value as rust
use Rattle.kishu_meaning.specs.comparing.Equal.{steps_between, range_length}
use Rattle.kishu_meaning.specs.values.Texts.{places}
use Rattle.kishu_meaning.specs.values.Values.{value_of, integer}

-- As many whole steps as there are don't pass the way.
within_way : (k d n : ℕ) → k < (d - 1) / suc n + 1 → 0 < d → k * suc n < d
within_way k d n h p =
    let q : k ≤ (d - 1) / suc n = omega arith in
    let less : suc n * k ≤ suc n * ((d - 1) / suc n) = mul-le-mul_left (suc n) q in
    grind arith

either_within : (b : Bool) (k d n : ℕ) → (b ≡ true → 0 < d) → k < (if b then (d - 1) / suc n + 1 else 0) → k * suc n < d
either_within true k d n p h = within_way k d n h (p refl)
either_within false k d n p h = absurd (omega arith)

way_there : (a b : ℤ) → int_lt a b ≡ true → 0 < unsigned_abs (b -ℤ a)
way_there a b h = grind (arith, ints)

-- so far is less than the whole way
pub below_way : (a b : ℤ) (n k : ℕ) → k < steps_between (suc n) a b → k * suc n < unsigned_abs (b -ℤ a)
below_way a b n k h = either_within (int_lt a b) k (unsigned_abs (b -ℤ a)) n (way_there a b) h

if_there : (b : Bool) (k m : ℕ) → k < (if b then m else 0) → b ≡ true
if_there true k m h = refl
if_there false k m h = absurd (omega arith)

reaches : (a b : ℤ) (n k : ℕ) → k < steps_between (suc n) a b → int_lt a b ≡ true
reaches a b n k h = if_there (int_lt a b) k ((unsigned_abs (b -ℤ a) - 1) / suc n + 1) h

goes_up : (a b : ℤ) (d : ℕ) → int_lt a b ≡ true → d < unsigned_abs (b -ℤ a) → (a +ℤ pos d) <ℤ b
goes_up a b d h l = grind (arith, ints)

goes_down : (a b : ℤ) (d : ℕ) → int_lt b a ≡ true → d < unsigned_abs (a -ℤ b) → b <ℤ (a -ℤ pos d)
goes_down a b d h l = grind (arith, ints)

-- Numbers of a width lie less than two such widths apart.
way_small : (a b : ℤ) → mag a < 2 ^ 127 → mag b < 2 ^ 127 → unsigned_abs (b -ℤ a) < 2 ^ 128
way_small (pos m) (pos n) p q = grind (arith, ints)
way_small (pos m) (negsuc n) p q = grind (arith, ints)
way_small (negsuc m) (pos n) p q = grind (arith, ints)
way_small (negsuc m) (negsuc n) p q = grind (arith, ints)

pub distance_fits : (a b z : ℤ) (k : ℕ) → mag a < 2 ^ 127 → mag b < 2 ^ 127 → k < range_length a b z → k * unsigned_abs z < 2 ^ 128
distance_fits a b (pos zero) k p q h = absurd (omega arith)
distance_fits a b (pos (suc n)) k p q h = omega (arith, below_way a b n k h, way_small a b p q)
distance_fits a b (negsuc n) k p q h = omega (arith, below_way b a n k h, way_small b a q p)

most : (b : ℤ) → mag b < 2 ^ 127 → b <ℤ pos (2 ^ 127)
most (pos n) p = omega (arith, ints)
most (negsuc n) p = omega (arith, ints)

least : (b : ℤ) → mag b < 2 ^ 127 → negsuc (2 ^ 127 - 1) ≤ℤ b
least (pos n) p = omega (arith, ints)
least (negsuc n) p = omega (arith, ints)

pub above_fits : (a b z : ℤ) (k : ℕ) → mag b < 2 ^ 127 → pos 0 <ℤ z → k < range_length a b z → (a +ℤ pos (k * unsigned_abs z)) <ℤ pos (2 ^ 127)
above_fits a b (pos zero) k q u h = absurd (omega arith)
above_fits a b (pos (suc n)) k q u h = omega (arith, ints, goes_up a b (k * suc n) (reaches a b n k h) (below_way a b n k h), most b q)
above_fits a b (negsuc n) k q u h = absurd (omega (arith, ints))

pub below_fits : (a b z : ℤ) (k : ℕ) → mag b < 2 ^ 127 → z ≤ℤ pos 0 → k < range_length a b z → negsuc (2 ^ 127 - 1) ≤ℤ (a -ℤ pos (k * unsigned_abs z))
below_fits a b (pos zero) k q u h = absurd (omega arith)
below_fits a b (pos (suc n)) k q u h = absurd (omega (arith, ints))
below_fits a b (negsuc n) k q u h = omega (arith, ints, goes_down a b (k * suc n) (reaches b a n k h) (below_way b a n k h), least b q)

pub is_up : (z : ℤ) → int_lt (pos 0) z ≡ true → pos 0 <ℤ z
is_up z h = grind (arith, ints)

pub is_down : (z : ℤ) → int_lt (pos 0) z ≡ false → z ≤ℤ pos 0
is_down z h = grind (arith, ints)

-- ---- the numbers in order

further : (a step : ℤ) (m : ℕ) → (a +ℤ step) +ℤ (pos m *ℤ step) ≡ a +ℤ (pos (suc m) *ℤ step)
further a step m = let more : pos (suc m) *ℤ step ≡ pos m *ℤ step +ℤ step = suc_ℤ-*ℤ (pos m) step in omega (arith, ints, more)

-- one more place stands behind the others
pub places_end : (a step : ℤ) (m : ℕ) → places a step (suc m) ≡ places a step m ++ (a +ℤ (pos m *ℤ step)) ∷ []
places_end a step zero = ap (λ z. z ∷ []) (sym (ap (λ z. a +ℤ z) (zero-*ℤ step) ∙ +ℤ_idr a))
places_end a step (suc m) = ap (λ zs. a ∷ zs) (places_end (a +ℤ step) step m) ∙ ap (λ z. a ∷ (places (a +ℤ step) step m ++ z ∷ [])) (further a step m)

pub number_on : (items new : List rust.Value) (v : rust.Value) (start step : ℤ) (k : ℕ) → value_of v ≡ integer (start +ℤ (pos k *ℤ step)) → new ≡ items ++ v ∷ []
    → map value_of items ≡ map integer (places start step k) → map value_of new ≡ map integer (places start step (k + 1))
number_on items new v start step k is made told = rw add-one (
    ap (map value_of) made ∙ map-append value_of items (v ∷ [])
    ∙ ap (λ vs. vs ++ value_of v ∷ []) told ∙ ap (λ w. map integer (places start step k) ++ w ∷ []) is
    ∙ sym (map-append integer (places start step k) ((start +ℤ (pos k *ℤ step)) ∷ []))
    ∙ ap (map integer) (sym (places_end start step k)))
