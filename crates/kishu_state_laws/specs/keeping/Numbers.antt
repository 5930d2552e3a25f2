-- Whole numbers stay in range: those of ranges, of places and of code points.
use Rattle.std.proofs.Common.{◌≡◌, refl, sym, subst, arith}
use lib.Signed.{mag}
use lib.Utf8.{scalar, scalar_fits}
use Rattle.std.specs.Prelude.{ℕ, zero, suc, ◌+◌, ◌-◌, ◌*◌, ◌/◌, ◌^◌, ◌<◌, ◌≤◌, ℤ, pos, negsuc, ◌+ℤ◌, ◌-ℤ◌, ◌*ℤ◌, int_lt, unsigned_abs, Bool, true, false, IsTrue, if◌then◌else◌, List, [], ◌∷◌, length, Option, Some, None, option_map}
use Rattle.std.specs.List.{AllByRecursion as Each, onto_first}
use Rattle.std.proofs.lemmas.Bool.Decides.{nat_tests}
use Rattle.std.proofs.lemmas.Int.{ints}
use Rattle.std.proofs.Math.Nat.{mul-le-mul_left}
use Rattle.kishu_meaning.specs.values.Numbers.{is_whole, if_whole, number_read, signed_read}
use Rattle.kishu_meaning.specs.values.White.{stripped}
use Rattle.kishu_meaning.specs.values.Texts.{places, begins, first_place, pieces_behind, occurrences}
use Rattle.kishu_meaning.specs.values.Values.{Value, none, bool, integer, text, range, builtin, class, node}
use Rattle.kishu_meaning.specs.comparing.Equal.{number_in, steps_between, range_length}
use Rattle.kishu_state_laws.specs.Moments.{widest_budget}
use Rattle.kishu_objects.specs.State.{IsValue}
use Rattle.kishu_state_laws.specs.keeping.Logic.{Maybe}

abbrev pub IsWhole : ℤ → Type 0
IsWhole z = IsTrue (is_whole z)

whole_small : (z : ℤ) → IsWhole z → mag z < 2 ^ 127
whole_small (pos n) h = grind (arith, nat_tests)
whole_small (negsuc n) h = grind (arith, nat_tests)

small_whole : (z : ℤ) → mag z < 2 ^ 127 → IsWhole z
small_whole (pos n) h = grind (arith, nat_tests)
small_whole (negsuc n) h = grind (arith, nat_tests)

pub whole_few : (n : ℕ) → n ≤ widest_budget → IsWhole (pos n)
whole_few n h = small_whole (pos n) (omega (arith, h))

pub whole_scalar : (c : ℕ) → scalar c ≡ true → IsWhole (pos c)
whole_scalar c h = let p = scalar_fits c h in small_whole (pos c) (omega (arith, p))

pub whole_number : (k : ℕ) (v : Value) → IsValue k v → Maybe IsWhole (number_in v)
whole_number k none h = tt
whole_number k (bool true) h = refl
whole_number k (bool false) h = refl
whole_number k (integer z) h = h
whole_number k (text cs) h = tt
whole_number k (range a b c) h = tt
whole_number k (builtin n) h = tt
whole_number k (class n) h = tt
whole_number k (node i) h = tt

whole_if : (o : Option ℤ) → Maybe IsWhole (if_whole o)
whole_if None = tt
whole_if (Some z) = kept (is_whole z) refl
  where
    kept : (b : Bool) → is_whole z ≡ b → Maybe IsWhole (if b then Some z else None)
    kept true e = e
    kept false e = tt

pub whole_read : (cs : List ℕ) → Maybe IsWhole (number_read cs)
whole_read cs = whole_if (signed_read (stripped cs))

-- ---- ranges

-- As many whole steps as there are don't pass the way.
within_way : (k d n : ℕ) → k < (d - 1) / suc n + 1 → 0 < d → k * suc n < d
within_way k d n h p =
    let q : k ≤ (d - 1) / suc n = omega arith in
    let less : suc n * k ≤ suc n * ((d - 1) / suc n) = mul-le-mul_left (suc n) q in
    grind arith

either_within : (b : Bool) (k d n : ℕ) → (b ≡ true → 0 < d) → k < (if b then (d - 1) / suc n + 1 else 0) → k * suc n < d
either_within true k d n p h = within_way k d n h (p refl)
either_within false k d n p h = absurd (omega arith)

way_there : (a b : ℤ) → int_lt a b ≡ true → 0 < unsigned_abs (b -ℤ a)
way_there a b h = grind (arith, ints)

below_way : (a b : ℤ) (n k : ℕ) → k < steps_between (suc n) a b → k * suc n < unsigned_abs (b -ℤ a)
below_way a b n k h = either_within (int_lt a b) k (unsigned_abs (b -ℤ a)) n (way_there a b) h

if_there : (b : Bool) (k m : ℕ) → k < (if b then m else 0) → b ≡ true
if_there true k m h = refl
if_there false k m h = absurd (omega arith)

reaches : (a b : ℤ) (n k : ℕ) → k < steps_between (suc n) a b → int_lt a b ≡ true
reaches a b n k h = if_there (int_lt a b) k ((unsigned_abs (b -ℤ a) - 1) / suc n + 1) h

goes_up : (a b : ℤ) (d : ℕ) → int_lt a b ≡ true → d < unsigned_abs (b -ℤ a) → mag a < 2 ^ 127 → mag b < 2 ^ 127 → mag (a +ℤ pos d) < 2 ^ 127
goes_up a b d h l p q = grind (arith, ints)

goes_down : (a b : ℤ) (d : ℕ) → int_lt b a ≡ true → d < unsigned_abs (a -ℤ b) → mag a < 2 ^ 127 → mag b < 2 ^ 127 → mag (a -ℤ pos d) < 2 ^ 127
goes_down a b d h l p q = grind (arith, ints)

up_is : (a : ℤ) (k n : ℕ) → a +ℤ pos k *ℤ pos n ≡ a +ℤ pos (k * n)
up_is a k n = omega (arith, ints)

down_is : (a : ℤ) (k n : ℕ) → a +ℤ pos k *ℤ negsuc n ≡ a -ℤ pos (k * suc n)
down_is a k n = omega (arith, ints)

pub whole_range : (a b c : ℤ) (k : ℕ) → IsWhole a → IsWhole b → k < range_length a b c → IsWhole (a +ℤ pos k *ℤ c)
whole_range a b (pos zero) k p q h = absurd (omega arith)
whole_range a b (pos (suc n)) k p q h =
    subst IsWhole (sym (up_is a k (suc n))) (small_whole (a +ℤ pos (k * suc n)) (goes_up a b (k * suc n) (reaches a b n k h) (below_way a b n k h) (whole_small a p) (whole_small b q)))
whole_range a b (negsuc n) k p q h =
    subst IsWhole (sym (down_is a k n)) (small_whole (a -ℤ pos (k * suc n)) (goes_down a b (k * suc n) (reaches b a n k h) (below_way b a n k h) (whole_small a p) (whole_small b q)))

first_is : (a c : ℤ) → a +ℤ pos 0 *ℤ c ≡ a
first_is a c = omega (arith, ints)

next_is : (a c : ℤ) (i : ℕ) → (a +ℤ c) +ℤ pos i *ℤ c ≡ a +ℤ pos (suc i) *ℤ c
next_is a c i = grind (arith, ints)

wholes_places : (n : ℕ) (a c : ℤ) → ((i : ℕ) → i < n → IsWhole (a +ℤ pos i *ℤ c)) → Each IsWhole (places a c n)
wholes_places zero a c h = tt
wholes_places (suc n) a c h = (subst IsWhole (first_is a c) (h 0 (omega arith)), wholes_places n (a +ℤ c) c (λ i l. subst IsWhole (sym (next_is a c i)) (h (suc i) (omega (arith, l)))))

pub wholes_range : (a b c : ℤ) → IsWhole a → IsWhole b → Each IsWhole (places a c (range_length a b c))
wholes_range a b c p q = wholes_places (range_length a b c) a c (λ i l. whole_range a b c i p q l)

-- ---- places in a text

pub first_few : (part cs : List ℕ) → Maybe (λ p. p ≤ length cs) (first_place part cs)
first_few part [] = found (begins part [])
  where
    found : (b : Bool) → Maybe (λ p. p ≤ 0) (if b then Some 0 else None)
    found true = omega arith
    found false = tt
first_few part (c ∷ cs) = found (begins part (c ∷ cs)) (first_place part cs) (first_few part cs)
  where
    found : (b : Bool) (o : Option ℕ) → Maybe (λ p. p ≤ length cs) o → Maybe (λ p. p ≤ suc (length cs)) (if b then Some 0 else option_map suc o)
    found true o h = omega arith
    found false None h = tt
    found false (Some p) h = omega (arith, h)

onto_long : (c : ℕ) (parts : List (List ℕ)) (n : ℕ) → length parts ≤ n → length (onto_first c parts) ≤ suc n
onto_long c [] n h = omega arith
onto_long c (part ∷ parts) n h = omega (arith, h)

behind_few : (part : List ℕ) (n : ℕ) (cs : List ℕ) → length (pieces_behind part n cs) ≤ suc (length cs)
behind_few part n [] = omega arith
behind_few part (suc n) (c ∷ cs) = let p = behind_few part n cs in omega (arith, p)
behind_few part zero (c ∷ cs) = piece_if (begins part (c ∷ cs)) (behind_few part (length part - 1) cs) (behind_few part zero cs)
  where
    piece_if : (b : Bool) → length (pieces_behind part (length part - 1) cs) ≤ suc (length cs) → length (pieces_behind part zero cs) ≤ suc (length cs) → length (if b then [] ∷ pieces_behind part (length part - 1) cs else onto_first c (pieces_behind part zero cs)) ≤ suc (suc (length cs))
    piece_if true f g = omega (arith, f)
    piece_if false f g = onto_long c (pieces_behind part zero cs) (suc (length cs)) g

pub occurrences_few : (part cs : List ℕ) → occurrences part cs ≤ length cs
occurrences_few part cs = let p = behind_few part 0 cs in omega (arith, p)
