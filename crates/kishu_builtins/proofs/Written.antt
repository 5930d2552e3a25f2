-- A text's bytes write the number that its code points write.
use Rattle.std.proofs.Common.{◌≡◌, ◌∙◌, ap, sym, refl, arith, ℕ, ◌<◌, Bool, true, false, ◌&&◌, List, [], ◌∷◌, reverse, None}
use Rattle.std.specs.Prelude.{nat_lt, ◌==◌, pos, neg_ℤ, option_map, if◌then◌else◌}
use Rattle.std.specs.List.{list_all}
use Rattle.std.specs.Str.{chars, IsUtf8}
use Rattle.std.proofs.lemmas.Bool.Decides.{nat_tests}
use Rattle.std.proofs.lemmas.List.{reverse-append}
use Rattle.std.proofs.lemmas.List.Folds.{list_all-append}
use Rattle.std.proofs.lemmas.Str.{encodes-chars, encodes-IsAscii}
use Rattle.kishu_language.specs.tokens.Names.{is_digit}
use Rattle.kishu_meaning.specs.values.White.{is_white, without_front, without_back, stripped}
use Rattle.kishu_meaning.specs.values.Numbers.{unsigned_read, signed_read, if_whole, number_read}
use Rattle.kishu_items.specs.Messages.{is_plain, plain-IsAscii, chars-plain}

-- ---- white space and digits are plain

white_small : (c : ℕ) → is_white c ≡ true → nat_lt c 128 ≡ true
white_small c e = grind (arith, nat_tests)

digit_small : (c : ℕ) → is_digit c ≡ true → nat_lt c 128 ≡ true
digit_small c e = grind (arith, nat_tests)

front_by : (c : ℕ) (cs : List ℕ) (b : Bool) → is_white c ≡ b → is_plain (without_front cs) ≡ is_plain cs → is_plain (if b then without_front cs else c ∷ cs) ≡ is_plain (c ∷ cs)
front_by c cs true e h = h ∙ ap (λ t. t && is_plain cs) (sym (white_small c e))
front_by c cs false e h = refl

front_plain : (cs : List ℕ) → is_plain (without_front cs) ≡ is_plain cs
front_plain [] = refl
front_plain (c ∷ cs) = front_by c cs (is_white c) refl (front_plain cs)

last_too : (b t : Bool) → (b && (t && true)) ≡ (t && b)
last_too true true = refl
last_too true false = refl
last_too false true = refl
last_too false false = refl

reversed_plain : (cs : List ℕ) → is_plain (reverse cs) ≡ is_plain cs
reversed_plain [] = refl
reversed_plain (c ∷ cs) =
    ap is_plain (reverse-append (c ∷ []) cs) ∙ (list_all-append (λ d. nat_lt d 128) (reverse cs) (c ∷ []) ∙ (ap (λ b. b && (nat_lt c 128 && true)) (reversed_plain cs) ∙ last_too (is_plain cs) (nat_lt c 128)))

back_plain : (cs : List ℕ) → is_plain (without_back cs) ≡ is_plain cs
back_plain cs = reversed_plain (without_front (reverse cs)) ∙ (front_plain (reverse cs) ∙ reversed_plain cs)

stripped_plain : (cs : List ℕ) → is_plain (stripped cs) ≡ is_plain cs
stripped_plain cs = back_plain (without_front cs) ∙ front_plain cs

-- ---- a text that isn't plain writes no number

digits_by : (c : ℕ) (d : Bool) (rest : Bool) (plain : Bool) → is_digit c ≡ d → (plain ≡ false → rest ≡ false) → (nat_lt c 128 && plain) ≡ false → (d && rest) ≡ false
digits_by c true rest plain e h f = h (rw (digit_small c e) at f)
digits_by c false rest plain e h f = refl

no_digits : (cs : List ℕ) → is_plain cs ≡ false → list_all is_digit cs ≡ false
no_digits [] e = absurd cc
no_digits (c ∷ cs) e = digits_by c (is_digit c) (list_all is_digit cs) (is_plain cs) refl (no_digits cs) e

unsigned_none : (cs : List ℕ) → is_plain cs ≡ false → unsigned_read cs ≡ None
unsigned_none [] e = refl
unsigned_none (c ∷ cs) e = rw (no_digits (c ∷ cs) e) refl

rest_not : (b : Bool) (c k : ℕ) → (c == k) ≡ true → k < 128 → (nat_lt c 128 && b) ≡ false → b ≡ false
rest_not b c k e l f =
    let small : nat_lt c 128 ≡ true = grind (arith, nat_tests) in
    rw small at f

signed_by : (c : ℕ) (cs : List ℕ) (plus minus : Bool) → (c == 43) ≡ plus → (c == 45) ≡ minus → is_plain (c ∷ cs) ≡ false
    → (if plus then option_map pos (unsigned_read cs) else (if minus then option_map (λ n. neg_ℤ (pos n)) (unsigned_read cs) else option_map pos (unsigned_read (c ∷ cs)))) ≡ None
signed_by c cs true minus p m e = rw (unsigned_none cs (rest_not (is_plain cs) c 43 p (omega arith) e)) refl
signed_by c cs false true p m e = rw (unsigned_none cs (rest_not (is_plain cs) c 45 m (omega arith) e)) refl
signed_by c cs false false p m e = ap (option_map pos) (unsigned_none (c ∷ cs) e)

signed_none : (cs : List ℕ) → is_plain cs ≡ false → signed_read cs ≡ None
signed_none [] e = refl
signed_none (c ∷ cs) e = signed_by c cs (c == 43) (c == 45) refl refl e

number_none : (cs : List ℕ) → is_plain cs ≡ false → number_read cs ≡ None
number_none cs e = ap if_whole (signed_none (stripped cs) (stripped_plain cs ∙ e))

-- ---- bytes and code points

chars_not : (bs : List ℕ) → IsUtf8 bs → (b : Bool) → is_plain (chars bs) ≡ b → is_plain bs ≡ false → b ≡ false
chars_not bs u false e f = refl
chars_not bs u true e f =
    let same : chars bs ≡ bs = sym (encodes-IsAscii (chars bs) (plain-IsAscii (chars bs) e)) ∙ encodes-chars bs u in
    sym e ∙ (ap is_plain same ∙ f)

same_by : (bs : List ℕ) → IsUtf8 bs → (b : Bool) → is_plain bs ≡ b → number_read (chars bs) ≡ number_read bs
same_by bs u true e = ap number_read (chars-plain bs e)
same_by bs u false e = number_none (chars bs) (chars_not bs u (is_plain (chars bs)) refl e) ∙ sym (number_none bs e)

pub same_number : (bs : List ℕ) → IsUtf8 bs → number_read (chars bs) ≡ number_read bs
same_number bs u = same_by bs u (is_plain bs) refl
