-- Digits and their numbers are those that `parse` reads.
use Rattle.std.proofs.Common.{◌≡◌, ◌≤◌, ◌<◌, ◌^◌, ℕ, Bool, true, false, IfSome, List, [], ◌∷◌, length, None, Result, Ok, Err, refl, arith, rules}
use Rattle.std.proofs.lemmas.Bool.{false≢true}
use Rattle.std.proofs.lemmas.Str.Parse.{IsNumeralModel, numerals_by_fold, parse_digits}
use Rattle.std.specs.Prelude.{◌&&◌}
use Rattle.std.specs.Result.{result_ok}
use Rattle.std.specs.List.{list_all}
use Rattle.std.specs.Str.Parse.{ParsesUnsigned}
use Rattle.kishu_language.specs.tokens.Names.{is_digit}
use Rattle.kishu_store.specs.References.{is_decimal, number_from}

own : IsNumeralModel (λ ds. list_all is_digit ds ≡ true) (number_from 0)
own = numerals_by_fold _ (search rules) number_from (search rules)

and_both : (a b c : Bool) → (a && (b && c)) ≡ true → (a && b) ≡ true
and_both true true c h = refl
and_both true false c h = h
and_both false b c h = h

all-digits : (word : List ℕ) → is_decimal word ≡ true → list_all is_digit word ≡ true
all-digits [] h = refl
all-digits (c ∷ cs) h = and_both (is_digit c) (list_all is_digit cs) _ h

some-digit : (word : List ℕ) → is_decimal word ≡ true → 0 < length word
some-digit [] h = absurd (false≢true h)
some-digit (c ∷ cs) h = omega arith

at-least : (n most : ℕ) → (n < most → ⊥) → most ≤ n
at-least n most not_below = grind (arith, not_below)

-- what is read of decimal digits
pub digits-read : {E : Type 0} (word : List ℕ) (r : Result ℕ E) → is_decimal word ≡ true → ParsesUnsigned 32 10 word r
    → IfSome (result_ok r) (λ n. n ≡ number_from 0 word)
digits-read {E = E} word (Ok n) decimal parsed = (parse_digits own {E = E} 32 word (Ok n) parsed (all-digits word decimal)).1
digits-read word (Err e) decimal parsed = tt

pub digits-unread : {E : Type 0} (word : List ℕ) (r : Result ℕ E) → is_decimal word ≡ true → ParsesUnsigned 32 10 word r
    → result_ok r ≡ None → 2 ^ 32 ≤ number_from 0 word
digits-unread word (Ok n) decimal parsed none = absurd (cc none)
digits-unread {E = E} word (Err e) decimal parsed none =
    let too_large = parse_digits own {E = E} 32 word (Err e) parsed (all-digits word decimal) in
    at-least (number_from 0 word) (2 ^ 32) (λ below. too_large (some-digit word decimal, below))
