-- What `parse` reads is what the rule of `int` reads, and all that it reads is UTF-8.
use Rattle.std.proofs.Common.{◌≡◌, ℕ, zero, suc, ◌<◌, ◌≤◌, ◌^◌, ℤ, pos, neg_ℤ, Bool, true, false, List, [], ◌∷◌, length, refl, ap, arith, rules, Some, None}
use Rattle.std.specs.Prelude.{Result, Ok, Err, option_map, ◌==◌, ◌&&◌, if◌then◌else◌}
use Rattle.std.specs.Result.{result_ok, OkIff}
use Rattle.std.specs.Int.{w128}
use Rattle.std.specs.List.{list_all}
use Rattle.std.specs.Str.{IsAscii, IsUtf8}
use Rattle.std.specs.Str.Parse.{digits_value, ParsesSigned}
use Rattle.std.proofs.lemmas.Str.{IsUtf8-from_ascii}
use Rattle.std.proofs.lemmas.Str.Ascii.{IsAscii-nil, IsAscii-cons}
use Rattle.std.proofs.lemmas.Str.Parse.{IsDigitsTest, IsNumeralModel, numerals_by_value, parse_signed_plain, parse_signed_plus, parse_signed_minus}
use Rattle.std.proofs.lemmas.Bool.Decides.{nat_tests}
use borrow.Author.Tests.{eqb-true, eqb-false}
use Rattle.kishu_language.specs.tokens.Names.{is_digit}
use Rattle.kishu_meaning.specs.values.Numbers.{is_whole, unsigned_read, signed_read, if_whole}

tells : IsDigitsTest (λ ds. list_all is_digit ds ≡ true)
tells = search rules

own : IsNumeralModel (λ ds. list_all is_digit ds ≡ true) (digits_value 10)
own = numerals_by_value _ tells

abbrev Fits : Type 0 → ℤ → Type 0
Fits B z = (B → is_whole z ≡ true) × (is_whole z ≡ true → B)

plain_fits : (n : ℕ) → Fits (n < 2 ^ 127) (pos n)
plain_fits n = (λ h. grind (arith, nat_tests), λ h. grind (arith, nat_tests))

minus_fits : (n : ℕ) → Fits (n ≤ 2 ^ 127) (neg_ℤ (pos n))
minus_fits zero = (λ h. grind (arith, nat_tests), λ h. omega arith)
minus_fits (suc n) = (λ h. grind (arith, nat_tests), λ h. grind (arith, nat_tests))

one_way : {E : Type 0} (r : Result ℤ E) (B D : Type 0) (n : ℕ) (z : ℤ) (w : Bool) → is_whole z ≡ w → D → 0 < n → Fits B z → OkIff r (D × (0 < n) × B) z → result_ok r ≡ (if w then Some z else None)
one_way (Ok x) B D n z true e d l f h = ap Some h.1
one_way (Ok x) B D n z false e d l f h = let t : is_whole z ≡ true = f.0 h.0.2 in absurd (cc)
one_way (Err x) B D n z true e d l f h = absurd (h (d, l, f.1 e))
one_way (Err x) B D n z false e d l f h = refl

no_way : {E : Type 0} (r : Result ℤ E) (Q : Type 0) (z : ℤ) → ¬ Q → OkIff r Q z → result_ok r ≡ None
no_way (Ok x) Q z n h = absurd (n h.0)
no_way (Err x) Q z n h = refl

digits_step : {E : Type 0} (r : Result ℤ E) (f : ℕ → ℤ) (B : Type 0) (n v : ℕ) (all t : Bool) → all ≡ t → 0 < n → Fits B (f v) → OkIff r ((all ≡ true) × (0 < n) × B) (f v) → result_ok r ≡ if_whole (option_map f (if t then Some v else None))
digits_step r f B n v all true e l fits h = one_way r B (all ≡ true) n (f v) (is_whole (f v)) refl e l fits h
digits_step r f B n v all false e l fits h = no_way r _ (f v) (λ q. absurd (let t : all ≡ true = q.0 in cc)) h

-- the digits behind a sign, and the number that they and the sign write
behind : {E : Type 0} (ds : List ℕ) (r : Result ℤ E) (f : ℕ → ℤ) (B : Type 0) → Fits B (f (digits_value 10 ds)) → OkIff r ((list_all is_digit ds ≡ true) × (0 < length ds) × B) (f (digits_value 10 ds)) → result_ok r ≡ if_whole (option_map f (unsigned_read ds))
behind [] r f B fits h = no_way r _ (f 0) (λ q. omega (arith, q.1)) h
behind (d ∷ ds) r f B fits h = digits_step r f B (length (d ∷ ds)) (digits_value 10 (d ∷ ds)) (list_all is_digit (d ∷ ds)) (list_all is_digit (d ∷ ds)) refl (omega arith) fits h

sign_step : {E : Type 0} (c : ℕ) (cs : List ℕ) (r : Result ℤ E) (p m : Bool) → (c == 43) ≡ p → (c == 45) ≡ m → ParsesSigned w128 10 (c ∷ cs) r
    → result_ok r ≡ if_whole (if p then option_map pos (unsigned_read cs) else (if m then option_map (λ n. neg_ℤ (pos n)) (unsigned_read cs) else option_map pos (unsigned_read (c ∷ cs))))
sign_step c cs r true m e e' h = behind cs r pos (digits_value 10 cs < 2 ^ 127) (plain_fits (digits_value 10 cs)) (parse_signed_plus own w128 (c ∷ cs) r h (eqb-true c 43 e))
sign_step c cs r false true e e' h = behind cs r (λ n. neg_ℤ (pos n)) (digits_value 10 cs ≤ 2 ^ 127) (minus_fits (digits_value 10 cs)) (parse_signed_minus own w128 (c ∷ cs) r h (eqb-true c 45 e'))
sign_step c cs r false false e e' h = behind (c ∷ cs) r pos (digits_value 10 (c ∷ cs) < 2 ^ 127) (plain_fits (digits_value 10 (c ∷ cs))) (parse_signed_plain own w128 (c ∷ cs) r h (eqb-false c 43 e) (eqb-false c 45 e'))

pub parsed : {E : Type 0} (bs : List ℕ) (r : Result ℤ E) → ParsesSigned w128 10 bs r → result_ok r ≡ if_whole (signed_read bs)
parsed [] r h = no_way r _ _ (λ q. omega (arith, q.0.0)) h
parsed (c ∷ cs) r h = sign_step c cs r (c == 43) (c == 45) refl refl h

-- ---- what isn't UTF-8

both : (a b : Bool) → (a && b) ≡ true → (a ≡ true) × (b ≡ true)
both true b h = (refl, h)
both false b h = absurd (cc)

digits_ascii : (ds : List ℕ) → list_all is_digit ds ≡ true → IsAscii ds
digits_ascii [] h = IsAscii-nil
digits_ascii (d ∷ ds) h = let parts = both (is_digit d) (list_all is_digit ds) h in IsAscii-cons d ds (let t : is_digit d ≡ true = parts.0 in grind (arith, nat_tests)) (digits_ascii ds parts.1)

unsigned_step : (c : ℕ) (cs : List ℕ) (f : ℕ → ℤ) (v : ℕ) (t : Bool) → list_all is_digit cs ≡ t → c < 128 → (IsUtf8 (c ∷ cs) → ⊥) → None ≡ if_whole (option_map f (if t then Some v else None))
unsigned_step c cs f v true e l n = absurd (n (IsUtf8-from_ascii (c ∷ cs) (IsAscii-cons c cs l (digits_ascii cs e))))
unsigned_step c cs f v false e l n = refl

unsigned_text : (c : ℕ) (cs : List ℕ) (f : ℕ → ℤ) → c < 128 → (IsUtf8 (c ∷ cs) → ⊥) → None ≡ if_whole (option_map f (unsigned_read cs))
unsigned_text c [] f l n = refl
unsigned_text c (d ∷ ds) f l n = unsigned_step c (d ∷ ds) f (digits_value 10 (d ∷ ds)) (list_all is_digit (d ∷ ds)) refl l n

bare_step : (cs : List ℕ) (v : ℕ) (t : Bool) → list_all is_digit cs ≡ t → (IsUtf8 cs → ⊥) → None ≡ if_whole (option_map pos (if t then Some v else None))
bare_step cs v true e n = absurd (n (IsUtf8-from_ascii cs (digits_ascii cs e)))
bare_step cs v false e n = refl

text_step : (c : ℕ) (cs : List ℕ) (p m : Bool) → (c == 43) ≡ p → (c == 45) ≡ m → (IsUtf8 (c ∷ cs) → ⊥)
    → None ≡ if_whole (if p then option_map pos (unsigned_read cs) else (if m then option_map (λ n. neg_ℤ (pos n)) (unsigned_read cs) else option_map pos (unsigned_read (c ∷ cs))))
text_step c cs true m e e' n = unsigned_text c cs pos (omega (arith, eqb-true c 43 e)) n
text_step c cs false true e e' n = unsigned_text c cs (λ n. neg_ℤ (pos n)) (omega (arith, eqb-true c 45 e')) n
text_step c cs false false e e' n = bare_step (c ∷ cs) (digits_value 10 (c ∷ cs)) (list_all is_digit (c ∷ cs)) refl n

pub not_text : (bs : List ℕ) → (IsUtf8 bs → ⊥) → None ≡ if_whole (signed_read bs)
not_text [] n = refl
not_text (c ∷ cs) n = text_step c cs (c == 43) (c == 45) refl refl n
