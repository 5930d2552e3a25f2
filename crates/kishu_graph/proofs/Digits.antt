-- Numbers that digits spell.
use Rattle.std.proofs.Common.{◌≡◌, ◌≤◌, ◌<◌, ◌+◌, ◌*◌, ◌-◌, ℕ, zero, suc, Bool, true, false, IsTrue, List, [], ◌∷◌, length, get_or, drop, ap, refl, arith}
use Rattle.std.proofs.lemmas.Bool.Decides.{nat_tests}
use Rattle.std.proofs.lemmas.List.{drop_more, drop_all}
use Rattle.std.proofs.lemmas.Bool.{false≢true}
use Rattle.std.specs.Prelude.{◌&&◌}
use Rattle.std.specs.List.{list_all}
use Rattle.kishu_language.specs.tokens.Names.{is_digit}
use Rattle.kishu_store.specs.References.{is_decimal, number_from}

-- More digits make no smaller number.
pub number-grows : (n : ℕ) (ds : List ℕ) → n ≤ number_from n ds
number-grows n [] = omega arith
number-grows n (d ∷ ds) = omega (arith, number-grows (10 * n + (d - 48)) ds)

and_first : (a b : Bool) → (a && b) ≡ true → a ≡ true
and_first true b h = refl
and_first false b h = h

and_both : (a b c : Bool) → (a && (b && c)) ≡ true → (a && b) ≡ true
and_both true b c h = and_first b c h
and_both false b c h = h

pub decimal-digits : (t : List ℕ) → is_decimal t ≡ true → IsTrue (list_all is_digit t)
decimal-digits [] h = refl
decimal-digits (c ∷ cs) h = and_both (is_digit c) (list_all is_digit cs) _ h

and_second : (a b : Bool) → (a && b) ≡ true → b ≡ true
and_second true b h = h
and_second false b h = absurd (false≢true h)

digit_at : (ds : List ℕ) (i d : ℕ) → list_all is_digit ds ≡ true → i < length ds → is_digit (get_or ds i d) ≡ true
digit_at [] i d all h = absurd (omega (arith, h))
digit_at (c ∷ cs) zero d all h = and_first (is_digit c) _ all
digit_at (c ∷ cs) (suc i) d all h = digit_at cs i d (and_second (is_digit c) _ all) (omega (arith, h))

pub digit-least : (ds : List ℕ) (i d : ℕ) → IsTrue (list_all is_digit ds) → i < length ds → 48 ≤ get_or ds i d
digit-least ds i d all h = (let one = digit_at ds i d all h in grind (arith, nat_tests, one))

-- One digit more is taken.
pub number-step : (n : ℕ) (ds : List ℕ) (i d : ℕ) → i < length ds → number_from n (drop i ds) ≡ number_from (10 * n + (get_or ds i d - 48)) (drop (i + 1) ds)
number-step n ds i d h = ap (number_from n) (drop_more ds i d h)

pub number-end : (n : ℕ) (ds : List ℕ) (i : ℕ) → length ds ≤ i → number_from n (drop i ds) ≡ n
number-end n ds i h = ap (number_from n) (drop_all i ds h)
