-- The rules of numbers and the reading of them agree.
use Rattle.std.proofs.Common.{◌≡◌, ℕ, ◌+◌, ◌*◌, ◌<◌, ◌≤◌, Bool, true, false, cond, not, ◌&&◌, ◌||◌, List, [], ◌∷◌, length, fold, Option, Some, None, refl, sym, ap, subst, ◌∙◌, arith, inl, inr, ⊎_elim, ◌⊎◌}
use Rattle.std.proofs.lemmas.Bool.{eqb-true, eq-eqb}
use Rattle.std.proofs.lemmas.Bool.Decides.{nat_tests}
use Rattle.std.specs.Prelude.{ℤ, pos, ◌==◌, slice_index, nat_eq, nat_lt}
use Rattle.std.specs.List.{list_all}
use Rattle.std.specs.Char.{is_digit, digit_value}
use Rattle.kishu_language.specs.tokens.Names.{is_word_char}
use Rattle.kishu_language.specs.tokens.Numerals.{are_digits, with_digit, digits_value, number_bound, small_value, prefixed, is_padded, is_empty, decimal, base_of, in_base, numeral}
use Rattle.kishu_language.specs.rules.TextRules.{number}
use Rattle.kishu_token_laws.specs.TextItems.{split, both, no_underscore, apart}
use Rattle.kishu_token_laws.specs.TextBodies.{same_either}
use Rattle.kishu_language.specs.rules.PieceRules as r
use Rattle.kishu_language.specs.rules.PieceRules.{Digits, Base, Number}

-- ---- digits

abbrev plus : ℕ → ℕ → ℕ → ℕ
plus base n c = base * n + digit_value c

later_digits : (base : ℕ) (cs : List ℕ) → are_digits base true cs ≡ true → are_digits base false cs ≡ true
later_digits base [] h = absurd cc
later_digits base (c ∷ cs) h = go (c == 95) h
  where
    go : (b : Bool) → cond b (not true && are_digits base true cs) (is_digit c base && are_digits base false cs) ≡ true → cond b (not false && are_digits base true cs) (is_digit c base && are_digits base false cs) ≡ true
    go true h = absurd cc
    go false h = h

first_passes : (base c : ℕ) (cs : List ℕ) → base ≤ 36 → is_digit c base ≡ true → are_digits base false cs ≡ true → are_digits base true (c ∷ cs) ≡ true
first_passes base c cs small h k = ap (λ b. cond b (not true && are_digits base true cs) (is_digit c base && are_digits base false cs)) (no_underscore base c small h) ∙ ap (λ b. b && are_digits base false cs) h ∙ k

pub digits_pass : {base : ℕ} {cs ds : List ℕ} → base ≤ 36 → Digits base cs ds → are_digits base true cs ≡ true
digits_pass small (r.last {base = base} {c = c} h) = first_passes base c [] small h refl
digits_pass small (r.next {base = base} {c = c} {cs = cs} h d) = first_passes base c cs small h (later_digits base cs (digits_pass small d))
digits_pass small (r.spaced {base = base} {c = c} {cs = cs} h d) = first_passes base c (95 ∷ cs) small h (digits_pass small d)

one_worth : (base n c : ℕ) → base ≤ 36 → is_digit c base ≡ true → with_digit base n c ≡ plus base n c
one_worth base n c small h = ap (λ b. cond b n (plus base n c)) (no_underscore base c small h)

digits_worth : {base : ℕ} {cs ds : List ℕ} (n : ℕ) → base ≤ 36 → Digits base cs ds → fold (with_digit base) n cs ≡ fold (plus base) n ds
digits_worth n small (r.last {base = base} {c = c} h) = one_worth base n c small h
digits_worth n small (r.next {base = base} {c = c} {cs = cs} h d) = ap (λ m. fold (with_digit base) m cs) (one_worth base n c small h) ∙ digits_worth (plus base n c) small d
digits_worth n small (r.spaced {base = base} {c = c} {cs = cs} h d) = ap (λ m. fold (with_digit base) m cs) (one_worth base n c small h) ∙ digits_worth (plus base n c) small d

all_digits : {base : ℕ} {cs ds : List ℕ} → Digits base cs ds → list_all (λ c. is_digit c base) ds ≡ true
all_digits (r.last h) = ap (λ b. b && true) h
all_digits (r.next {base = base} {ds = ds} h d) = ap (λ b. b && list_all (λ c. is_digit c base) ds) h ∙ all_digits d
all_digits (r.spaced {base = base} {ds = ds} h d) = ap (λ b. b && list_all (λ c. is_digit c base) ds) h ∙ all_digits d

record Reads (base : ℕ) (cs : List ℕ) : Type 0 where
  digits : List ℕ
  rule : Digits base cs digits

digits_step : (base c d : ℕ) (cs : List ℕ) → are_digits base true (c ∷ d ∷ cs) ≡ true → (are_digits base true cs ≡ true → Reads base cs) → (are_digits base true (d ∷ cs) ≡ true → Reads base (d ∷ cs)) → Reads base (c ∷ d ∷ cs)
digits_step base c d cs h far near = go (c == 95) refl h
  where
    behind : is_digit c base ≡ true → (b : Bool) → (d == 95) ≡ b → cond b (not false && are_digits base true cs) (is_digit d base && are_digits base false cs) ≡ true → Reads base (c ∷ d ∷ cs)
    behind digit true e h = (let a = far h in subst (λ v. Reads base (c ∷ v ∷ cs)) (sym (eqb-true d 95 e)) (record { digits = c ∷ a.digits; rule = r.spaced digit a.rule }))
    behind digit false e h =
        let a = near (ap (λ b. cond b (not true && are_digits base true cs) (is_digit d base && are_digits base false cs)) e ∙ h) in
        record { digits = c ∷ a.digits; rule = r.next digit a.rule }

    go : (b : Bool) → (c == 95) ≡ b → cond b (not true && are_digits base true (d ∷ cs)) (is_digit c base && are_digits base false (d ∷ cs)) ≡ true → Reads base (c ∷ d ∷ cs)
    go true e h = absurd cc
    go false e h = (let p = both (is_digit c base) (are_digits base false (d ∷ cs)) h in behind p.0 (d == 95) refl p.1)

digits_read : (base : ℕ) (cs : List ℕ) → are_digits base true cs ≡ true → Reads base cs
digits_read base [] h = absurd cc
digits_read base (c ∷ []) h = go (c == 95) refl h
  where
    go : (b : Bool) → (c == 95) ≡ b → cond b (not true && not true) (is_digit c base && not false) ≡ true → Reads base (c ∷ [])
    go true e h = absurd cc
    go false e h = record { digits = c ∷ []; rule = r.last (both (is_digit c base) true h).0 }
digits_read base (c ∷ d ∷ cs) h = digits_step base c d cs h (λ k. digits_read base cs k) (λ k. digits_read base (d ∷ cs) k)

-- ---- what the rules say is read

small_is : (base n : ℕ) (cs : List ℕ) → digits_value base cs ≡ n → n < number_bound → small_value base cs ≡ Some (pos n)
small_is base n cs e small =
    let fits : nat_lt n number_bound ≡ true = grind (arith, nat_tests) in
    ap (λ v. cond (nat_lt v number_bound) (Some (pos v)) None) e ∙ ap (λ b. cond b (Some (pos n)) None) fits

decimal_is : (n : ℕ) (cs : List ℕ) → are_digits 10 true cs ≡ true → is_padded cs ≡ false → digits_value 10 cs ≡ n → n < number_bound → decimal cs ≡ Some (pos n)
decimal_is n cs h k e small = (λ i. cond (h i && not (k i)) (small_value 10 cs) None) ∙ small_is 10 n cs e small

prefixed_is : (base n : ℕ) (cs : List ℕ) → is_empty cs ≡ false → are_digits base false cs ≡ true → digits_value base cs ≡ n → n < number_bound → prefixed base cs ≡ Some (pos n)
prefixed_is base n cs h k e small = (λ i. cond (not (h i) && k i) (small_value base cs) None) ∙ small_is base n cs e small

some_digit : {base : ℕ} {cs ds : List ℕ} → Digits base cs ds → is_empty cs ≡ false
some_digit (r.last h) = refl
some_digit (r.next h d) = refl
some_digit (r.spaced h d) = refl

base_small : {b base : ℕ} → Base b base → base ≤ 36
base_small r.small_x = omega arith
base_small r.large_x = omega arith
base_small r.small_o = omega arith
base_small r.large_o = omega arith
base_small r.small_b = omega arith
base_small r.large_b = omega arith

base_is : {b base : ℕ} (cs : List ℕ) → Base b base → numeral (48 ∷ b ∷ cs) ≡ prefixed base cs
unfolding numeral
base_is cs r.small_x = refl
base_is cs r.large_x = refl
base_is cs r.small_o = refl
base_is cs r.large_o = refl
base_is cs r.small_b = refl
base_is cs r.large_b = refl

zero_first : {cs ds : List ℕ} → Digits 10 cs ds → list_all (nat_eq 48) ds ≡ true → (slice_index cs 0 == 48) ≡ true
zero_first (r.last {c = c} h) z = sym (same_either 48 c) ∙ (both (nat_eq 48 c) true z).0
zero_first (r.next {c = c} {ds = ds} h d) z = sym (same_either 48 c) ∙ (both (nat_eq 48 c) (list_all (nat_eq 48) ds) z).0
zero_first (r.spaced {c = c} {ds = ds} h d) z = sym (same_either 48 c) ∙ (both (nat_eq 48 c) (list_all (nat_eq 48) ds) z).0

zeros_worth : (ds : List ℕ) → list_all (nat_eq 48) ds ≡ true → fold (plus 10) 0 ds ≡ 0
zeros_worth [] h = refl
zeros_worth (d ∷ ds) h =
    let p = both (nat_eq 48 d) (list_all (nat_eq 48) ds) h in
    let e : d ≡ 48 = eqb-true d 48 (sym (same_either 48 d) ∙ p.0) in
    ap (λ v. fold (plus 10) (plus 10 0 v) ds) e ∙ zeros_worth ds p.1

digit_range : (c : ℕ) → is_digit c 10 ≡ true → (48 ≤ c) × (c < 58)
digit_range c h = (grind (arith, nat_tests), grind (arith, nat_tests))

no_base : (c : ℕ) → (48 ≤ c) × (c < 58) → base_of c ≡ None
no_base c h = rw (apart c 120 (λ e. omega arith), apart c 88 (λ e. omega arith), apart c 111 (λ e. omega arith), apart c 79 (λ e. omega arith), apart c 98 (λ e. omega arith), apart c 66 (λ e. omega arith)) refl

first_range : {cs ds : List ℕ} → Digits 10 cs ds → (48 ≤ slice_index cs 0) × (slice_index cs 0 < 58)
first_range (r.last {c = c} h) = digit_range c h
first_range (r.next {c = c} h d) = digit_range c h
first_range (r.spaced {c = c} h d) = digit_range c h

second_plain : {cs ds : List ℕ} → Digits 10 cs ds → base_of (slice_index cs 1) ≡ None
second_plain (r.last h) = refl
second_plain (r.next {cs = cs} h d) = no_base (slice_index cs 0) (first_range d)
second_plain (r.spaced h d) = refl

numeral_zero : (cs : List ℕ) → (slice_index cs 0 == 48) ≡ true → base_of (slice_index cs 1) ≡ None → numeral cs ≡ decimal cs
unfolding numeral
numeral_zero cs h k = (λ i. cond (h i) (in_base (k i) cs) (decimal cs))

numeral_other : (cs : List ℕ) → (slice_index cs 0 == 48) ≡ false → numeral cs ≡ decimal cs
unfolding numeral
numeral_other cs h = (λ i. cond (h i) (in_base (base_of (slice_index cs 1)) cs) (decimal cs))

pub number_is_read : {cs : List ℕ} {n : ℕ} → Number cs n → n < number_bound → numeral cs ≡ Some (pos n)
number_is_read (r.zeros {cs = cs} {ds = ds} d z) small =
    let worth : digits_value 10 cs ≡ 0 = digits_worth 0 (omega arith) d ∙ zeros_worth ds z in
    let first = zero_first d z in
    let plain : is_padded cs ≡ false = (λ i. first i && not (worth i == 0)) in
    numeral_zero cs first (second_plain d) ∙ decimal_is 0 cs (digits_pass (omega arith) d) plain worth small
number_is_read (r.decimal {c = c} {cs = cs} {ds = ds} h d) small =
    let plain : is_padded (c ∷ cs) ≡ false = ap (λ b. b && not (digits_value 10 (c ∷ cs) == 0)) h in
    numeral_other (c ∷ cs) h ∙ decimal_is (number 10 ds) (c ∷ cs) (digits_pass (omega arith) d) plain (digits_worth 0 (omega arith) d) small
number_is_read (r.based {base = base} {cs = cs} {ds = ds} b d) small =
    base_is cs b ∙ prefixed_is base (number base ds) cs (some_digit d) (later_digits base cs (digits_pass (base_small b) d)) (digits_worth 0 (base_small b) d) small
number_is_read (r.based_spaced {base = base} {cs = cs} {ds = ds} b d) small =
    base_is (95 ∷ cs) b ∙ prefixed_is base (number base ds) (95 ∷ cs) refl (digits_pass (base_small b) d) (digits_worth 0 (base_small b) d) small

-- ---- what is read, the rules say

pub record IsNumeral (cs : List ℕ) (z : ℤ) : Type 0 where
  pub n : ℕ
  pub rule : Number cs n
  pub value : z ≡ pos n
  pub small : n < number_bound

abbrev pub Good : List ℕ → Option ℤ → Type 0
Good cs None = Unit {0}
Good cs (Some z) = IsNumeral cs z

below : (n : ℕ) → nat_lt n number_bound ≡ true → n < number_bound
below n h = grind (arith, nat_tests)

good_small : (base n : ℕ) (cs ds : List ℕ) → digits_value base ds ≡ n → Number cs n → Good cs (small_value base ds)
good_small base n cs ds e rule = split (Good cs) (nat_lt (digits_value base ds) number_bound) (Some (pos (digits_value base ds))) None
    (λ h. record { n = n; rule = rule; value = ap pos e; small = subst (λ v. v < number_bound) e (below (digits_value base ds) h) })
    (λ h. tt)

zero_digit : (d : ℕ) → is_digit d 10 ≡ true → digit_value d ≡ 0 → d ≡ 48
zero_digit d h e = grind (arith, nat_tests)

all_zero : (ds : List ℕ) (n : ℕ) → list_all (λ c. is_digit c 10) ds ≡ true → fold (plus 10) n ds ≡ 0 → (n ≡ 0) × (list_all (nat_eq 48) ds ≡ true)
all_zero [] n h e = (e, refl)
all_zero (d ∷ ds) n h e =
    let p = both (is_digit d 10) (list_all (λ c. is_digit c 10) ds) h in
    let k = all_zero ds (plus 10 n d) p.1 e in
    let none : digit_value d ≡ 0 = omega (arith, k.0) in
    let zero_is : nat_eq 48 d ≡ true = same_either 48 d ∙ eq-eqb d 48 (zero_digit d p.0 none) in
    (omega (arith, k.0), (λ i. zero_is i && k.1 i))

true_of : (a : Bool) → not a ≡ false → a ≡ true
true_of true h = refl
true_of false h = absurd cc

padded_not : (a b : Bool) → a ≡ true → not (a && not b) ≡ true → b ≡ true
padded_not true true e h = refl
padded_not true false e h = absurd cc
padded_not false b e h = absurd cc

decimal_rule : (cs : List ℕ) → are_digits 10 true cs ≡ true → not (is_padded cs) ≡ true → Reads 10 cs → Good cs (small_value 10 cs)
decimal_rule [] h k a = absurd cc
decimal_rule (c ∷ cs) h k a = go (c == 48) refl
  where
    worth : digits_value 10 (c ∷ cs) ≡ number 10 a.digits
    worth = digits_worth 0 (omega arith) a.rule

    go : (b : Bool) → (c == 48) ≡ b → Good (c ∷ cs) (small_value 10 (c ∷ cs))
    go true e =
        let none : digits_value 10 (c ∷ cs) ≡ 0 = eqb-true _ _ (padded_not (c == 48) (digits_value 10 (c ∷ cs) == 0) e k) in
        good_small 10 0 (c ∷ cs) (c ∷ cs) none (r.zeros a.rule (all_zero a.digits 0 (all_digits a.rule) (sym worth ∙ none)).1)
    go false e = good_small 10 (number 10 a.digits) (c ∷ cs) (c ∷ cs) worth (r.decimal e a.rule)

good_decimal : (cs : List ℕ) → Good cs (decimal cs)
good_decimal cs = split (Good cs) (are_digits 10 true cs && not (is_padded cs)) (small_value 10 cs) None
    (λ h. (let p = both (are_digits 10 true cs) (not (is_padded cs)) h in decimal_rule cs p.0 p.1 (digits_read 10 cs p.0)))
    (λ h. tt)

based_rule : (b base : ℕ) (ds : List ℕ) → Base b base → are_digits base true ds ≡ true → Reads base ds → Good (48 ∷ b ∷ ds) (small_value base ds)
based_rule b base ds k h a = good_small base (number base a.digits) (48 ∷ b ∷ ds) ds (digits_worth 0 (base_small k) a.rule) (r.based k a.rule)

spaced_rule : (b base : ℕ) (ds : List ℕ) → Base b base → are_digits base true ds ≡ true → Reads base ds → Good (48 ∷ b ∷ 95 ∷ ds) (small_value base (95 ∷ ds))
spaced_rule b base ds k h a = good_small base (number base a.digits) (48 ∷ b ∷ 95 ∷ ds) (95 ∷ ds) (digits_worth 0 (base_small k) a.rule) (r.based_spaced k a.rule)

good_based : (b base d : ℕ) (ds : List ℕ) → Base b base → are_digits base false (d ∷ ds) ≡ true → Good (48 ∷ b ∷ d ∷ ds) (small_value base (d ∷ ds))
good_based b base d ds k h = go (d == 95) refl h
  where
    go : (p : Bool) → (d == 95) ≡ p → cond p (not false && are_digits base true ds) (is_digit d base && are_digits base false ds) ≡ true → Good (48 ∷ b ∷ d ∷ ds) (small_value base (d ∷ ds))
    go true e h = subst (λ v. Good (48 ∷ b ∷ v ∷ ds) (small_value base (v ∷ ds))) (sym (eqb-true d 95 e)) (spaced_rule b base ds k h (digits_read base ds h))
    go false e h =
        let all : are_digits base true (d ∷ ds) ≡ true = ap (λ p. cond p (not true && are_digits base true ds) (is_digit d base && are_digits base false ds)) e ∙ h in
        based_rule b base (d ∷ ds) k all (digits_read base (d ∷ ds) all)

good_prefixed : (b base : ℕ) (ds : List ℕ) → Base b base → Good (48 ∷ b ∷ ds) (prefixed base ds)
good_prefixed b base [] k = tt
good_prefixed b base (d ∷ ds) k = split (Good (48 ∷ b ∷ d ∷ ds)) (are_digits base false (d ∷ ds)) (small_value base (d ∷ ds)) None (λ h. good_based b base d ds k h) (λ h. tt)

abbrev Known : ℕ → Option ℕ → Type 0
Known b None = Unit {0}
Known b (Some base) = Base b base

base_at : (b k base : ℕ) → (b == k) ≡ true → Base k base → Known b (Some base)
base_at b k base e h = subst (λ v. Base v base) (sym (eqb-true b k e)) h

one_of : (a b : Bool) → (a || b) ≡ true → (a ≡ true) ⊎ (b ≡ true)
one_of true b h = inl refl
one_of false b h = inr h

base_known : (b : ℕ) → Known b (base_of b)
base_known b =
    split (Known b) ((b == 120) || (b == 88)) (Some 16) _ (λ h. ⊎_elim (λ e. base_at b 120 16 e r.small_x) (λ e. base_at b 88 16 e r.large_x) (one_of (b == 120) (b == 88) h))
    (λ h1. split (Known b) ((b == 111) || (b == 79)) (Some 8) _ (λ h. ⊎_elim (λ e. base_at b 111 8 e r.small_o) (λ e. base_at b 79 8 e r.large_o) (one_of (b == 111) (b == 79) h))
    (λ h2. split (Known b) ((b == 98) || (b == 66)) (Some 2) None (λ h. ⊎_elim (λ e. base_at b 98 2 e r.small_b) (λ e. base_at b 66 2 e r.large_b) (one_of (b == 98) (b == 66) h)) (λ h3. tt)))

good_in_base : (b : ℕ) (ds : List ℕ) (o : Option ℕ) → Known b o → Good (48 ∷ b ∷ ds) (in_base o (48 ∷ b ∷ ds))
good_in_base b ds None k = good_decimal (48 ∷ b ∷ ds)
good_in_base b ds (Some base) k = good_prefixed b base ds k

pub good_numeral : (cs : List ℕ) → Good cs (numeral cs)
unfolding numeral
good_numeral [] = good_decimal []
good_numeral (c ∷ []) = split (Good (c ∷ [])) (c == 48) _ _ (λ h. good_decimal (c ∷ [])) (λ h. good_decimal (c ∷ []))
good_numeral (c ∷ b ∷ cs) = split (Good (c ∷ b ∷ cs)) (c == 48) _ _
    (λ h. subst (λ v. Good (v ∷ b ∷ cs) (in_base (base_of b) (v ∷ b ∷ cs))) (sym (eqb-true c 48 h)) (good_in_base b cs (base_of b) (base_known b)))
    (λ h. good_decimal (c ∷ b ∷ cs))

-- ---- its characters

word_digit : (base c : ℕ) → base ≤ 36 → is_digit c base ≡ true → is_word_char c ≡ true
word_digit base c small h = grind (arith, nat_tests)

digits_are_word : {base : ℕ} {cs ds : List ℕ} → base ≤ 36 → Digits base cs ds → list_all is_word_char cs ≡ true
digits_are_word small (r.last {base = base} {c = c} h) = ap (λ b. b && true) (word_digit base c small h)
digits_are_word small (r.next {base = base} {c = c} {cs = cs} h d) = ap (λ b. b && list_all is_word_char cs) (word_digit base c small h) ∙ digits_are_word small d
digits_are_word small (r.spaced {base = base} {c = c} {cs = cs} h d) = ap (λ b. b && list_all is_word_char (95 ∷ cs)) (word_digit base c small h) ∙ digits_are_word small d

base_is_word : {b base : ℕ} (cs : List ℕ) → Base b base → list_all is_word_char (48 ∷ b ∷ cs) ≡ list_all is_word_char cs
base_is_word cs r.small_x = refl
base_is_word cs r.large_x = refl
base_is_word cs r.small_o = refl
base_is_word cs r.large_o = refl
base_is_word cs r.small_b = refl
base_is_word cs r.large_b = refl

pub number_is_word : {cs : List ℕ} {n : ℕ} → Number cs n → list_all is_word_char cs ≡ true
number_is_word (r.zeros d z) = digits_are_word (omega arith) d
number_is_word (r.decimal h d) = digits_are_word (omega arith) d
number_is_word (r.based {cs = cs} b d) = base_is_word cs b ∙ digits_are_word (base_small b) d
number_is_word (r.based_spaced {cs = cs} b d) = base_is_word (95 ∷ cs) b ∙ digits_are_word (base_small b) d

some_length : {base : ℕ} {cs ds : List ℕ} → Digits base cs ds → 0 < length cs
some_length (r.last h) = omega arith
some_length (r.next h d) = omega arith
some_length (r.spaced h d) = omega arith

-- it begins with a digit
pub number_begins : {cs : List ℕ} {n : ℕ} → Number cs n → (0 < length cs) × ((48 ≤ slice_index cs 0) × (slice_index cs 0 < 58))
number_begins (r.zeros d z) = (some_length d, first_range d)
number_begins (r.decimal h d) = (omega arith, first_range d)
number_begins (r.based b d) = (omega arith, (omega arith, omega arith))
number_begins (r.based_spaced b d) = (omega arith, (omega arith, omega arith))
