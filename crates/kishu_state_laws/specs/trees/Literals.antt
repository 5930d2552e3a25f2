-- A text in quotes means Unicode scalar values where it stands in a text of such, and a number is in range.
use Rattle.std.proofs.Common.{◌≡◌, ℕ, ◌<◌, ◌≤◌, ◌^◌, Bool, true, false, ◌&&◌, List, [], ◌∷◌, ◌++◌, length, refl, ap, arith}
use Rattle.std.proofs.lemmas.Bool.Decides.{nat_tests}
use Rattle.std.specs.Prelude.{pos, IsTrue}
use Rattle.std.specs.Char.{is_digit, digit_value}
use Rattle.std.specs.Str.{all_scalars}
use lib.Utf8.{scalar}
use Rattle.kishu_language.specs.rules.TextRules as r
use Rattle.kishu_language.specs.rules.TextRules.{Short, number, are_digits, Escape, Item, Body, Text}
use Rattle.kishu_language_laws.specs.codes.CodeTexts.{scalars_behind}
use Rattle.kishu_meaning.specs.values.Numbers.{is_whole}

both : (a b : Bool) → (a && b) ≡ true → (a ≡ true) × (b ≡ true)
both true b h = (refl, h)
both false b h = absurd cc

-- ---- numbers

pub whole_below : (n : ℕ) → n < 2 ^ 127 → IsTrue (is_whole (pos n))
whole_below n h = grind (arith, nat_tests)

-- ---- texts

pub scalars_append : (xs ys : List ℕ) → all_scalars xs ≡ true → all_scalars ys ≡ true → all_scalars (xs ++ ys) ≡ true
scalars_append [] ys h k = k
scalars_append (x ∷ xs) ys h k = let p = both (scalar x) (all_scalars xs) h in λ i. p.0 i && scalars_append xs ys p.1 k i

octal_value : (d : ℕ) → is_digit d 8 ≡ true → digit_value d ≤ 7
octal_value d h = grind (arith, nat_tests)

octal_small : (ds : List ℕ) → are_digits 8 ds ≡ true → length ds ≤ 3 → number 8 ds < 512
octal_small [] h small = omega arith
octal_small (a ∷ []) h small = omega (arith, octal_value a (both _ _ h).0)
octal_small (a ∷ b ∷ []) h small =
    let p : (is_digit a 8 ≡ true) × (are_digits 8 (b ∷ []) ≡ true) = both _ _ h in
    let q : (is_digit b 8 ≡ true) × (are_digits 8 [] ≡ true) = both _ _ p.1 in
    omega (arith, octal_value a p.0, octal_value b q.0)
octal_small (a ∷ b ∷ c ∷ []) h small =
    let p : (is_digit a 8 ≡ true) × (are_digits 8 (b ∷ c ∷ []) ≡ true) = both _ _ h in
    let q : (is_digit b 8 ≡ true) × (are_digits 8 (c ∷ []) ≡ true) = both _ _ p.1 in
    let r : (is_digit c 8 ≡ true) × (are_digits 8 [] ≡ true) = both _ _ q.1 in
    omega (arith, octal_value a p.0, octal_value b q.0, octal_value c r.0)
octal_small (a ∷ b ∷ c ∷ d ∷ ds) h small = absurd (omega arith)

small_scalar : (n : ℕ) → n < 512 → scalar n ≡ true
small_scalar n h = grind (arith, nat_tests)

one_scalar : (c : ℕ) → scalar c ≡ true → all_scalars (c ∷ []) ≡ true
one_scalar c h = ap (λ b. b && true) h

short_scalar : {e c : ℕ} → Short e c → scalar c ≡ true
short_scalar r.one_backslash = refl
short_scalar r.single_quote = refl
short_scalar r.double_quote = refl
short_scalar r.bell = refl
short_scalar r.backspace = refl
short_scalar r.form_feed = refl
short_scalar r.feed = refl
short_scalar r.carriage_return = refl
short_scalar r.tab = refl
short_scalar r.vertical_tab = refl

-- what follows, and what is meant
abbrev Scalars : List ℕ → List ℕ → Type 0
Scalars rest meaning = (all_scalars rest ≡ true) × (all_scalars meaning ≡ true)

escape_scalars : {cs rest meaning : List ℕ} → Escape cs rest meaning → all_scalars cs ≡ true → Scalars rest meaning
escape_scalars r.line_end h = (h, refl)
escape_scalars (r.short {e = e} {c = c} {cs = cs} s) h = ((both (scalar e) (all_scalars cs) h).1, one_scalar c (short_scalar s))
escape_scalars (r.octal ds {cs = cs} digits some few stops) h = (scalars_behind ds cs h, one_scalar (number 8 ds) (small_scalar (number 8 ds) (octal_small ds digits few)))
escape_scalars (r.hexadecimal {e = e} ds {cs = cs} l long digits fits) h = (scalars_behind ds cs (both (scalar e) (all_scalars (ds ++ cs)) h).1, one_scalar (number 16 ds) fits)
escape_scalars (r.other {e = e} {cs = cs} plain no_digit) h = let p = both (scalar e) (all_scalars cs) h in (p.1, one_scalar e p.0)

item_scalars : {is_raw is_triple : Bool} {cs rest meaning : List ℕ} → Item is_raw is_triple cs rest meaning → all_scalars cs ≡ true → Scalars rest meaning
item_scalars (r.plain {c = c} {cs = cs} no_backslash no_feed) h = let p = both (scalar c) (all_scalars cs) h in (p.1, one_scalar c p.0)
item_scalars (r.escape e) h = escape_scalars e h
item_scalars (r.stays {c = c} {cs = cs}) h = let p = both (scalar c) (all_scalars cs) h in (p.1, one_scalar c p.0)

body_scalars : {is_raw is_triple : Bool} {quotes cs rest meaning : List ℕ} → Body is_raw is_triple quotes cs rest meaning → all_scalars cs ≡ true → all_scalars meaning ≡ true
body_scalars r.closed h = refl
body_scalars (r.next {first = first} {rest = rest} no_end item body) h = let p = item_scalars item h in scalars_append first rest p.1 (body_scalars body p.0)

pub text_scalars : {cs rest meaning : List ℕ} → Text cs rest meaning → all_scalars cs ≡ true → all_scalars meaning ≡ true
text_scalars (r.text {letters = letters} {quotes = quotes} {cs = cs} before around front body) h = body_scalars body (scalars_behind quotes cs (scalars_behind letters (quotes ++ cs) h))
