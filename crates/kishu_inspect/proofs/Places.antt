-- The place of a number in a list, found or not.
use Rattle.std.proofs.Common.{◌≡◌, ◌+◌, ◌≤◌, ℕ, suc, Bool, true, false, List, [], ◌∷◌, length, Some, None, nat_eq, nat_lt, refl, sym, ap, ◌∙◌, arith}
use Rattle.std.specs.Prelude.{◌==◌, if◌then◌else◌, position}
use Rattle.std.specs.List.{position_or_len}
use Rattle.std.proofs.lemmas.Bool.Decides.{nat_tests}
use Rattle.std.proofs.lemmas.List.Recursion.{is_position_or_len}
use Rattle.kishu_objects.specs.Picture.{place}

flip : (i k : ℕ) → (k == i) ≡ nat_eq i k
flip i k = grind (arith, nat_tests)

stepped : (i k : ℕ) (more : List ℕ) → place (k ∷ more) i ≡ (if nat_eq i k then 0 else 1 + place more i)
stepped i k more =
    let one : suc (place more i) ≡ 1 + place more i = omega arith in
    ap (λ (b : Bool). if b then 0 else suc (place more i)) (flip i k) ∙ ap (λ (n : ℕ). if nat_eq i k then 0 else n) one

place_is : (i : ℕ) (ks : List ℕ) → place ks i ≡ position_or_len (nat_eq i) ks
place_is i ks = is_position_or_len (λ (l : List ℕ). place l i) (nat_eq i) refl (stepped i) ks

place_by : (n m : ℕ) (b : Bool) → n ≤ m → (if b then 0 else suc n) ≤ suc m
place_by n m true le = omega arith
place_by n m false le = omega (arith, le)

place_most : (i : ℕ) (ks : List ℕ) → place ks i ≤ length ks
place_most i [] = omega arith
place_most i (k ∷ ks) = place_by (place ks i) (length ks) (k == i) (place_most i ks)

found_by : (b : Bool) (n p : ℕ) → Some p ≡ (if b then Some n else None) → p ≡ n
found_by true n p is = cc (is)
found_by false n p is = absurd (cc (is))

none_by : (b : Bool) (n : ℕ) → None ≡ (if b then Some n else None) → b ≡ false
none_by true n is = absurd (cc (is))
none_by false n is = refl

pub found_place : (ks : List ℕ) (i p : ℕ) → Some p ≡ position (nat_eq i) ks → p ≡ place ks i
found_place ks i p is = found_by (nat_lt (position_or_len (nat_eq i) ks) (length ks)) (position_or_len (nat_eq i) ks) p is ∙ sym (place_is i ks)

pub missing_place : (ks : List ℕ) (i n : ℕ) → n ≡ length ks → None ≡ position (nat_eq i) ks → n ≡ place ks i
missing_place ks i n len is =
    let no = none_by (nat_lt (position_or_len (nat_eq i) ks) (length ks)) (position_or_len (nat_eq i) ks) is in
    let le : length ks ≤ position_or_len (nat_eq i) ks = grind (arith, nat_tests) in
    omega (arith, len, le, place_is i ks, place_most i ks)
