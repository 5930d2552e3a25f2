-- The rules of texts and the scanning of them give the same pieces the same meaning: escapes and items.
use Rattle.std.proofs.Common.{◌≡◌, ℕ, zero, suc, ◌+◌, ◌*◌, ◌<◌, ◌≤◌, Bool, true, false, cond, not, ◌&&◌, ◌||◌, List, [], ◌∷◌, ◌++◌, length, take, drop, fold, Option, Some, None, refl, sym, ap, subst, ◌∙◌, arith, inl, inr, ⊎_elim, ◌⊎◌}
use Rattle.std.proofs.lemmas.List.{take-append-drop, take_at}
use Rattle.std.proofs.lemmas.List.Sums.{prefix_len-le-length}
use Rattle.std.proofs.lemmas.Bool.{eqb-true, eq-eqb}
use Rattle.std.proofs.lemmas.Bool.Decides.{nat_tests}
use Rattle.std.specs.Prelude.{◌==◌, slice_index, nat_eq, nat_lt}
use Rattle.std.specs.List.{prefix_len, list_any}
use Rattle.std.specs.Char.{is_digit, digit_value}
use lib.Utf8.{scalar}
use Rattle.kishu_language.specs.tokens.Numerals.{with_digit, digits_value}
use Rattle.kishu_language.specs.tokens.Quoted.{Read, short_escape, long_escape, short_or, hexadecimal, coded, octal, kept, escape, item}
use Rattle.kishu_language.specs.rules.TextRules as r
use Rattle.kishu_language.specs.rules.TextRules.{number, are_digits, begins_with_digit, special, is_special, Short, Long, Escape, Item}

-- ---- tests

pub split : {A : Type 0} (P : A → Type 0) (b : Bool) (x y : A) → (b ≡ true → P x) → (b ≡ false → P y) → P (cond b x y)
split P true x y f g = f refl
split P false x y f g = g refl

pub both : (a b : Bool) → (a && b) ≡ true → (a ≡ true) × (b ≡ true)
both true b h = (refl, h)
both false b h = absurd cc

pub neither : (a b : Bool) → (a || b) ≡ false → (a ≡ false) × (b ≡ false)
neither true b h = absurd cc
neither false b h = (refl, h)

-- ---- digits

pub no_underscore : (base c : ℕ) → base ≤ 36 → is_digit c base ≡ true → (c == 95) ≡ false
no_underscore base c small h = grind (arith, nat_tests)

number_from : (base n : ℕ) (ds : List ℕ) → base ≤ 36 → are_digits base ds ≡ true → fold (with_digit base) n ds ≡ fold (λ n c. base * n + digit_value c) n ds
number_from base n [] small h = refl
number_from base n (d ∷ ds) small h =
    let p = both _ _ h in
    let e : with_digit base n d ≡ base * n + digit_value d = ap (λ b. cond b n (base * n + digit_value d)) (no_underscore base d small p.0) in
    ap (λ m. fold (with_digit base) m ds) e ∙ number_from base (base * n + digit_value d) ds small p.1

number_is : (base : ℕ) (ds : List ℕ) → base ≤ 36 → are_digits base ds ≡ true → digits_value base ds ≡ number base ds
number_is base ds small h = number_from base 0 ds small h

-- so many characters from the front on are digits
record Run (base limit : ℕ) (cs : List ℕ) (n : ℕ) : Type 0 where
  digits : are_digits base (take n cs) ≡ true
  small : n ≤ limit
  long : length (take n cs) ≡ n
  stops : (n ≡ limit) ⊎ (begins_with_digit base (drop n cs) ≡ false)

run : (base limit : ℕ) (cs : List ℕ) → Run base limit cs (prefix_len (λ c. is_digit c base) (take limit cs))
run base zero cs = record { digits = refl; small = omega arith; long = refl; stops = inl refl }
run base (suc k) [] = record { digits = refl; small = omega arith; long = refl; stops = inr refl }
run base (suc k) (c ∷ cs) = go (is_digit c base) refl _ (run base k cs)
  where
    go : (b : Bool) → is_digit c base ≡ b → (m : ℕ) → Run base k cs m → Run base (suc k) (c ∷ cs) (cond b (1 + m) 0)
    go true e m h =
        let one : suc m ≡ 1 + m = omega arith in
        subst (λ n. Run base (suc k) (c ∷ cs) n) one (record {
          digits = ap (λ b. b && are_digits base (take m cs)) e ∙ h.digits;
          small = omega (arith, h.small);
          long = ap suc h.long;
          stops = ⊎_elim (λ x. inl (ap suc x)) (λ x. inr x) h.stops;
        })
    go false e m h = record { digits = refl; small = omega arith; long = refl; stops = inr e }

full : (base limit : ℕ) (ds cs : List ℕ) → are_digits base ds ≡ true → length ds ≤ limit → (length ds ≡ limit) ⊎ (begins_with_digit base cs ≡ false)
    → prefix_len (λ c. is_digit c base) (take limit (ds ++ cs)) ≡ length ds
full base zero [] cs h small stops = refl
full base (suc k) [] [] h small stops = refl
full base (suc k) [] (c ∷ cs) h small stops = ⊎_elim (λ x. absurd (omega arith)) (λ x. ap (λ b. cond b (1 + prefix_len (λ c. is_digit c base) (take k cs)) 0) x) stops
full base zero (d ∷ ds) cs h small stops = absurd (omega arith)
full base (suc k) (d ∷ ds) cs h small stops =
    let p = both _ _ h in
    let rest = full base k ds cs p.1 (omega arith) (⊎_elim (λ x. inl (omega arith)) (λ x. inr x) stops) in
    let one : 1 + prefix_len (λ c. is_digit c base) (take k (ds ++ cs)) ≡ suc (length ds) = omega (arith, rest) in
    ap (λ b. cond b (1 + prefix_len (λ c. is_digit c base) (take k (ds ++ cs))) 0) p.0 ∙ one

all_run : (base : ℕ) (ds : List ℕ) → are_digits base ds ≡ true → prefix_len (λ c. is_digit c base) ds ≡ length ds
all_run base [] h = refl
all_run base (d ∷ ds) h =
    let p = both _ _ h in
    let one : 1 + prefix_len (λ c. is_digit c base) ds ≡ suc (length ds) = omega (arith, all_run base ds p.1) in
    ap (λ b. cond b (1 + prefix_len (λ c. is_digit c base) ds) 0) p.0 ∙ one

run_all_step : (base d : ℕ) (ds : List ℕ) (b : Bool) → is_digit d base ≡ b → cond b (1 + prefix_len (λ c. is_digit c base) ds) 0 ≡ suc (length ds)
    → (prefix_len (λ c. is_digit c base) ds ≡ length ds → are_digits base ds ≡ true) → (is_digit d base && are_digits base ds) ≡ true
run_all_step base d ds true e k next = ap (λ b. b && are_digits base ds) e ∙ next (omega (arith, k))
run_all_step base d ds false e k next = absurd (omega arith)

run_all : (base : ℕ) (ds : List ℕ) → prefix_len (λ c. is_digit c base) ds ≡ length ds → are_digits base ds ≡ true
run_all base [] h = refl
run_all base (d ∷ ds) h = run_all_step base d ds (is_digit d base) refl h (run_all base ds)

-- ---- what the rules say, the scanning gives

-- The piece between two lists is not empty, and the scanning gives this for it.
pub record Scanned (scan : List ℕ → Read) (cs ds out : List ℕ) : Type 0 where
  pub piece : List ℕ
  pub whole : cs ≡ piece ++ ds
  pub some : 0 < length piece
  pub is : scan cs ≡ Some (out, length piece)

short_is : {e c : ℕ} → Short e c → short_escape e ≡ Some c
short_is r.one_backslash = refl
short_is r.single_quote = refl
short_is r.double_quote = refl
short_is r.bell = refl
short_is r.backspace = refl
short_is r.form_feed = refl
short_is r.feed = refl
short_is r.carriage_return = refl
short_is r.tab = refl
short_is r.vertical_tab = refl

long_is : {e n : ℕ} (cs : List ℕ) → Long e n → escape (92 ∷ e ∷ cs) ≡ hexadecimal n (92 ∷ e ∷ cs)
unfolding escape
long_is cs r.two = refl
long_is cs r.four = refl
long_is cs r.eight = refl

hexadecimal_is : (e n : ℕ) (ds cs : List ℕ) → length ds ≡ n → are_digits 16 ds ≡ true → scalar (number 16 ds) ≡ true → hexadecimal n (92 ∷ e ∷ (ds ++ cs)) ≡ Some (number 16 ds ∷ [], suc (suc (length ds)))
hexadecimal_is e n ds cs long h fits =
    let front : take n (ds ++ cs) ≡ ds = take_at ds cs n long in
    let count : (prefix_len (λ c. is_digit c 16) ds == n) ≡ true = eq-eqb _ _ (all_run 16 ds h ∙ long) in
    let two : 2 + n ≡ suc (suc (length ds)) = omega arith in
    let value : digits_value 16 ds ≡ number 16 ds = number_is 16 ds (omega arith) h in
    ap (λ l. cond (prefix_len (λ c. is_digit c 16) l == n) (coded (digits_value 16 l) (2 + n)) None) front
    ∙ ap (λ b. cond b (coded (digits_value 16 ds) (2 + n)) None) count
    ∙ (λ i. coded (value i) (two i))
    ∙ ap (λ b. cond b (Some (number 16 ds ∷ [], suc (suc (length ds)))) None) fits

octal_range : (d : ℕ) → is_digit d 8 ≡ true → (48 ≤ d) × (d < 56)
octal_range d h = (grind (arith, nat_tests), grind (arith, nat_tests))

pub apart : (a b : ℕ) → (a ≡ b → ⊥) → (a == b) ≡ false
apart a b h = grind (arith, nat_tests)

octal_escape : (d : ℕ) (cs : List ℕ) → is_digit d 8 ≡ true → escape (92 ∷ d ∷ cs) ≡ octal (92 ∷ d ∷ cs)
unfolding escape
octal_escape d cs h =
    let k = octal_range d h in
    rw (
      apart d 92 (λ e. omega arith),
      apart d 39 (λ e. omega arith),
      apart d 34 (λ e. omega arith),
      apart d 97 (λ e. omega arith),
      apart d 98 (λ e. omega arith),
      apart d 102 (λ e. omega arith),
      apart d 110 (λ e. omega arith),
      apart d 114 (λ e. omega arith),
      apart d 116 (λ e. omega arith),
      apart d 118 (λ e. omega arith),
      apart d 10 (λ e. omega arith),
      apart d 120 (λ e. omega arith),
      apart d 117 (λ e. omega arith),
      apart d 85 (λ e. omega arith),
      apart d 78 (λ e. omega arith),
      h,
    ) refl

octal_value : (d : ℕ) → is_digit d 8 ≡ true → digit_value d ≤ 7
octal_value d h = grind (arith, nat_tests)

octal_small : (ds : List ℕ) → are_digits 8 ds ≡ true → length ds ≤ 3 → number 8 ds < 512
octal_small [] h small = omega arith
octal_small (a ∷ []) h small = omega (arith, octal_value a (both _ _ h).0)
octal_small (a ∷ b ∷ []) h small = let p = both _ _ h in let q = both _ _ p.1 in omega (arith, octal_value a p.0, octal_value b q.0)
octal_small (a ∷ b ∷ c ∷ []) h small = let p = both _ _ h in let q = both _ _ p.1 in let s = both _ _ q.1 in omega (arith, octal_value a p.0, octal_value b q.0, octal_value c s.0)
octal_small (a ∷ b ∷ c ∷ d ∷ ds) h small = absurd (omega arith)

small_scalar : (n : ℕ) → n < 512 → scalar n ≡ true
small_scalar n h = grind (arith, nat_tests)

octal_is : (ds cs : List ℕ) → are_digits 8 ds ≡ true → length ds ≤ 3 → (length ds ≡ 3) ⊎ (begins_with_digit 8 cs ≡ false) → octal (92 ∷ (ds ++ cs)) ≡ Some (number 8 ds ∷ [], suc (length ds))
octal_is ds cs h small stops =
    let count : prefix_len (λ c. is_digit c 8) (take 3 (ds ++ cs)) ≡ length ds = full 8 3 ds cs h small stops in
    let front : take (length ds) (ds ++ cs) ≡ ds = take_at ds cs (length ds) refl in
    let one : 1 + length ds ≡ suc (length ds) = omega arith in
    let value : digits_value 8 ds ≡ number 8 ds = number_is 8 ds (omega arith) h in
    ap (λ n. coded (digits_value 8 (take n (ds ++ cs))) (1 + n)) count
    ∙ (λ i. coded (digits_value 8 (front i)) (one i))
    ∙ ap (λ v. coded v (suc (length ds))) value
    ∙ ap (λ b. cond b (Some (number 8 ds ∷ [], suc (length ds))) None) (small_scalar (number 8 ds) (octal_small ds h small))

none_of : (e : ℕ) (cs : List ℕ) (i : ℕ) → list_any (nat_eq e) cs ≡ false → i < length cs → (e == slice_index cs i) ≡ false
none_of e [] i h lt = absurd (omega arith)
none_of e (c ∷ cs) zero h lt = (neither _ _ h).0
none_of e (c ∷ cs) (suc i) h lt = none_of e cs i (neither _ _ h).1 (omega arith)

other_is : (e : ℕ) (cs : List ℕ) → is_special e ≡ false → is_digit e 8 ≡ false → escape (92 ∷ e ∷ cs) ≡ Some (92 ∷ e ∷ [], 2)
unfolding escape
other_is e cs h k =
    let at : (i : ℕ) → i < 15 → (e == slice_index special i) ≡ false = λ i lt. none_of e special i h lt in
    let a0 : (e == 10) ≡ false = at 0 (omega arith) in
    let a1 : (e == 92) ≡ false = at 1 (omega arith) in
    let a2 : (e == 39) ≡ false = at 2 (omega arith) in
    let a3 : (e == 34) ≡ false = at 3 (omega arith) in
    let a4 : (e == 97) ≡ false = at 4 (omega arith) in
    let a5 : (e == 98) ≡ false = at 5 (omega arith) in
    let a6 : (e == 102) ≡ false = at 6 (omega arith) in
    let a7 : (e == 110) ≡ false = at 7 (omega arith) in
    let a8 : (e == 114) ≡ false = at 8 (omega arith) in
    let a9 : (e == 116) ≡ false = at 9 (omega arith) in
    let a10 : (e == 118) ≡ false = at 10 (omega arith) in
    let a11 : (e == 120) ≡ false = at 11 (omega arith) in
    let a12 : (e == 117) ≡ false = at 12 (omega arith) in
    let a13 : (e == 85) ≡ false = at 13 (omega arith) in
    let a14 : (e == 78) ≡ false = at 14 (omega arith) in
    rw (a0, a1, a2, a3, a4, a5, a6, a7, a8, a9, a10, a11, a12, a13, a14, k) refl

-- a backslash stands first, and a character after it
starts_is : (raw : Bool) (is_triple : Bool) (e : ℕ) (cs : List ℕ) → item raw is_triple (92 ∷ e ∷ cs) ≡ cond raw (kept (92 ∷ e ∷ cs)) (escape (92 ∷ e ∷ cs))
unfolding item
starts_is raw is_triple e cs =
    let more : nat_lt 1 (suc (suc (length cs))) ≡ true = grind (arith, nat_tests) in
    ap (λ b. cond b (cond raw (kept (92 ∷ e ∷ cs)) (escape (92 ∷ e ∷ cs))) None) more

end_is : (cs : List ℕ) → escape (92 ∷ 10 ∷ cs) ≡ Some ([], 2)
unfolding escape
end_is cs = refl

short_escaped : (e c : ℕ) (cs : List ℕ) → Short e c → escape (92 ∷ e ∷ cs) ≡ Some (c ∷ [], 2)
unfolding escape
short_escaped e c cs h = ap (λ o. short_or o (long_escape e (92 ∷ e ∷ cs))) (short_is h)

scanned_escape : {cs ds meaning : List ℕ} (is_triple : Bool) → Escape cs ds meaning → Scanned (item false is_triple) cs ds meaning
scanned_escape t (r.line_end {cs = cs}) = record { piece = 92 ∷ 10 ∷ []; whole = refl; some = omega arith; is = starts_is false t 10 cs ∙ end_is cs }
scanned_escape t (r.short {e = e} {c = c} {cs = cs} h) = record { piece = 92 ∷ e ∷ []; whole = refl; some = omega arith; is = starts_is false t e cs ∙ short_escaped e c cs h }
scanned_escape t (r.octal [] {cs = cs} h some small stops) = absurd (omega arith)
scanned_escape t (r.octal (d ∷ ds) {cs = cs} h some small stops) = record {
  piece = 92 ∷ d ∷ ds;
  whole = refl;
  some = omega arith;
  is = starts_is false t d (ds ++ cs) ∙ octal_escape d (ds ++ cs) (both _ _ h).0 ∙ octal_is (d ∷ ds) cs h small stops;
}
scanned_escape t (r.hexadecimal {e = e} {n = n} ds {cs = cs} l long h fits) = record {
  piece = 92 ∷ e ∷ ds;
  whole = refl;
  some = omega arith;
  is = starts_is false t e (ds ++ cs) ∙ long_is (ds ++ cs) l ∙ hexadecimal_is e n ds cs long h fits;
}
scanned_escape t (r.other {e = e} {cs = cs} h k) = record { piece = 92 ∷ e ∷ []; whole = refl; some = omega arith; is = starts_is false t e cs ∙ other_is e cs h k }

plain_is : (is_raw is_triple : Bool) (c : ℕ) (cs : List ℕ) → (c == 92) ≡ false → ((c == 10) && not is_triple) ≡ false → item is_raw is_triple (c ∷ cs) ≡ Some (c ∷ [], 1)
unfolding item
plain_is is_raw is_triple c cs h k = rw (h, k) refl

feed_is : (is_raw is_triple : Bool) (c : ℕ) (cs : List ℕ) → (c == 92) ≡ false → ((c == 10) && not is_triple) ≡ true → item is_raw is_triple (c ∷ cs) ≡ None
unfolding item
feed_is is_raw is_triple c cs h k = rw (h, k) refl

pub scanned_item : {is_raw is_triple : Bool} {cs ds meaning : List ℕ} → Item is_raw is_triple cs ds meaning → Scanned (item is_raw is_triple) cs ds meaning
scanned_item (r.plain {is_raw = x} {is_triple = t} {c = c} {cs = cs} h k) = record { piece = c ∷ []; whole = refl; some = omega arith; is = plain_is x t c cs h k }
scanned_item (r.escape {is_triple = t} h) = scanned_escape t h
scanned_item (r.stays {is_triple = t} {c = c} {cs = cs}) = record { piece = 92 ∷ c ∷ []; whole = refl; some = omega arith; is = starts_is true t c cs }

-- ---- what the scanning gives, the rules say

-- a rule, with the scanning's answer
abbrev pub Sound : (List ℕ → List ℕ → List ℕ → Type 0) → List ℕ → Read → Type 0
Sound Rule cs None = Unit {0}
Sound Rule cs (Some i) = Rule cs (drop i.1 cs) i.0 × ((0 < i.1) × (i.1 ≤ length cs))

-- the letters and marks with one character
abbrev shorts : List ℕ
shorts = 92 ∷ 39 ∷ 34 ∷ 97 ∷ 98 ∷ 102 ∷ 110 ∷ 114 ∷ 116 ∷ 118 ∷ []

abbrev Known : ℕ → Option ℕ → Type 0
Known e (Some c) = Short e c
Known e None = list_any (nat_eq e) shorts ≡ false

known_next : (e k c : ℕ) (rest : Option ℕ) → Short k c → ((e == k) ≡ false → Known e rest) → Known e (cond (e == k) (Some c) rest)
known_next e k c rest h f = split (Known e) (e == k) (Some c) rest (λ x. subst (λ v. Short v c) (sym (eqb-true e k x)) h) f

short_known : (e : ℕ) → Known e (short_escape e)
short_known e =
    known_next e 92 92 _ r.one_backslash (λ a1. known_next e 39 39 _ r.single_quote (λ a2. known_next e 34 34 _ r.double_quote (λ a3.
    known_next e 97 7 _ r.bell (λ a4. known_next e 98 8 _ r.backspace (λ a5. known_next e 102 12 _ r.form_feed (λ a6.
    known_next e 110 10 _ r.feed (λ a7. known_next e 114 13 _ r.carriage_return (λ a8. known_next e 116 9 _ r.tab (λ a9.
    known_next e 118 11 _ r.vertical_tab (λ a10. rw (a1, a2, a3, a4, a5, a6, a7, a8, a9, a10) refl))))))))))

from_pieces : (ds cs : List ℕ) (v : List ℕ) (n : ℕ) → Escape (92 ∷ (take n cs ++ drop n cs)) ds v → Escape (92 ∷ cs) ds v
from_pieces ds cs v n h = subst (λ l. Escape (92 ∷ l) ds v) (take-append-drop n cs) h

within_list : (n : ℕ) (cs : List ℕ) → length (take n cs) ≡ n → n ≤ length cs
within_list zero cs h = omega arith
within_list (suc n) [] h = absurd (omega arith)
within_list (suc n) (c ∷ cs) h = omega (arith, within_list n cs (omega (arith, h)))

octal_sound : (e : ℕ) (cs : List ℕ) → is_digit e 8 ≡ true → Sound Escape (92 ∷ e ∷ cs) (octal (92 ∷ e ∷ cs))
octal_sound e cs h =
    let n = prefix_len (λ c. is_digit c 8) (take 3 (e ∷ cs)) in
    let g = run 8 3 (e ∷ cs) in
    let ds = take n (e ∷ cs) in
    let some : 1 ≤ n = subst (λ b. 1 ≤ cond b (1 + prefix_len (λ c. is_digit c 8) (take 2 cs)) 0) (sym h) (omega arith) in
    let one : suc n ≡ 1 + n = omega arith in
    let value : number 8 ds ≡ digits_value 8 ds = sym (number_is 8 ds (omega arith) g.digits) in
    let rule : Escape (92 ∷ (e ∷ cs)) (drop n (e ∷ cs)) (number 8 ds ∷ []) =
    from_pieces (drop n (e ∷ cs)) (e ∷ cs) (number 8 ds ∷ []) n
    (r.octal ds g.digits (omega (arith, g.long)) (omega (arith, g.long, g.small)) (⊎_elim (λ x. inl (g.long ∙ x)) (λ x. inr x) g.stops)) in
    let within : suc n ≤ suc (length (e ∷ cs)) = omega (arith, g.long, within_list n (e ∷ cs) g.long) in
    split (Sound Escape (92 ∷ e ∷ cs)) (scalar (digits_value 8 ds)) (Some (digits_value 8 ds ∷ [], 1 + n)) None
    (λ x. subst (λ m. Escape (92 ∷ e ∷ cs) (drop m (92 ∷ e ∷ cs)) (digits_value 8 ds ∷ []) × ((0 < m) × (m ≤ length (92 ∷ e ∷ cs)))) one
    (subst (λ v. Escape (92 ∷ e ∷ cs) (drop n (e ∷ cs)) (v ∷ [])) value rule, (omega arith, within)))
    (λ x. tt)

took : (n : ℕ) (cs : List ℕ) → n ≤ length (take n cs) → length (take n cs) ≡ n
took zero cs h = refl
took (suc n) [] h = absurd (omega arith)
took (suc n) (c ∷ cs) h = ap suc (took n cs (omega arith))

hexadecimal_sound : (e n : ℕ) (cs : List ℕ) → Long e n → Sound Escape (92 ∷ e ∷ cs) (hexadecimal n (92 ∷ e ∷ cs))
hexadecimal_sound e n cs l =
    let ds = take n cs in
    split (Sound Escape (92 ∷ e ∷ cs)) (prefix_len (λ c. is_digit c 16) ds == n) (coded (digits_value 16 ds) (2 + n)) None
    (λ x.
    let count : prefix_len (λ c. is_digit c 16) ds ≡ n = eqb-true _ _ x in
    let long : length ds ≡ n = took n cs (omega (arith, prefix_len-le-length (λ c. is_digit c 16) ds, count)) in
    let digits : are_digits 16 ds ≡ true = run_all 16 ds (count ∙ sym long) in
    let value : number 16 ds ≡ digits_value 16 ds = sym (number_is 16 ds (omega arith) digits) in
    let two : suc (suc n) ≡ 2 + n = omega arith in
    let within : suc (suc n) ≤ suc (suc (length cs)) = omega (arith, within_list n cs long) in
    split (Sound Escape (92 ∷ e ∷ cs)) (scalar (digits_value 16 ds)) (Some (digits_value 16 ds ∷ [], 2 + n)) None
    (λ fits.
    let rule : Escape (92 ∷ e ∷ (ds ++ drop n cs)) (drop n cs) (number 16 ds ∷ []) = r.hexadecimal ds l long digits (ap scalar value ∙ fits) in
    let moved : Escape (92 ∷ e ∷ cs) (drop n cs) (number 16 ds ∷ []) = subst (λ l. Escape (92 ∷ e ∷ l) (drop n cs) (number 16 ds ∷ [])) (take-append-drop n cs) rule in
    subst (λ m. Escape (92 ∷ e ∷ cs) (drop m (92 ∷ e ∷ cs)) (digits_value 16 ds ∷ []) × ((0 < m) × (m ≤ length (92 ∷ e ∷ cs)))) two
    (subst (λ v. Escape (92 ∷ e ∷ cs) (drop n cs) (v ∷ [])) value moved, (omega arith, within)))
    (λ y. tt))
    (λ x. tt)

at_letter : (e k : ℕ) (cs : List ℕ) (f : ℕ → Read) → (e == k) ≡ true → Sound Escape (92 ∷ k ∷ cs) (f k) → Sound Escape (92 ∷ e ∷ cs) (f e)
at_letter e k cs f h s = subst (λ v. Sound Escape (92 ∷ v ∷ cs) (f v)) (sym (eqb-true e k h)) s

others_is : (e : ℕ) → Known e None → (e == 10) ≡ false → (e == 120) ≡ false → (e == 117) ≡ false → (e == 85) ≡ false → (e == 78) ≡ false → is_special e ≡ false
others_is e known b1 b2 b3 b4 b5 =
    let at : (i : ℕ) → i < 10 → (e == slice_index shorts i) ≡ false = λ i lt. none_of e shorts i known lt in
    let a0 : (e == 92) ≡ false = at 0 (omega arith) in
    let a1 : (e == 39) ≡ false = at 1 (omega arith) in
    let a2 : (e == 34) ≡ false = at 2 (omega arith) in
    let a3 : (e == 97) ≡ false = at 3 (omega arith) in
    let a4 : (e == 98) ≡ false = at 4 (omega arith) in
    let a5 : (e == 102) ≡ false = at 5 (omega arith) in
    let a6 : (e == 110) ≡ false = at 6 (omega arith) in
    let a7 : (e == 114) ≡ false = at 7 (omega arith) in
    let a8 : (e == 116) ≡ false = at 8 (omega arith) in
    let a9 : (e == 118) ≡ false = at 9 (omega arith) in
    rw (b1, a0, a1, a2, a3, a4, a5, a6, a7, a8, a9, b2, b3, b4, b5) refl

long_sound : (e : ℕ) (cs : List ℕ) → Known e None → Sound Escape (92 ∷ e ∷ cs) (long_escape e (92 ∷ e ∷ cs))
long_sound e cs known =
    let S : Read → Type 0 = Sound Escape (92 ∷ e ∷ cs) in
    let text = 92 ∷ e ∷ cs in
    split S (e == 10) _ _ (λ h. at_letter e 10 cs (λ v. Some ([], 2)) h (r.line_end, (omega arith, omega arith)))
    (λ b1. split S (e == 120) _ _ (λ h. at_letter e 120 cs (λ v. hexadecimal 2 (92 ∷ v ∷ cs)) h (hexadecimal_sound 120 2 cs r.two))
    (λ b2. split S (e == 117) _ _ (λ h. at_letter e 117 cs (λ v. hexadecimal 4 (92 ∷ v ∷ cs)) h (hexadecimal_sound 117 4 cs r.four))
    (λ b3. split S (e == 85) _ _ (λ h. at_letter e 85 cs (λ v. hexadecimal 8 (92 ∷ v ∷ cs)) h (hexadecimal_sound 85 8 cs r.eight))
    (λ b4. split S (e == 78) None _ (λ h. tt)
    (λ b5. split S (is_digit e 8) (octal text) (kept text) (λ h. octal_sound e cs h)
    (λ b6. (r.other (others_is e known b1 b2 b3 b4 b5) b6, (omega arith, omega arith))))))))

short_sound : (e : ℕ) (cs : List ℕ) (o : Option ℕ) → Known e o → Sound Escape (92 ∷ e ∷ cs) (short_or o (long_escape e (92 ∷ e ∷ cs)))
short_sound e cs None known = long_sound e cs known
short_sound e cs (Some c) known = (r.short known, (omega arith, omega arith))

escape_sound : (e : ℕ) (cs : List ℕ) → Sound Escape (92 ∷ e ∷ cs) (escape (92 ∷ e ∷ cs))
unfolding escape
escape_sound e cs = short_sound e cs (short_escape e) (short_known e)

raw_sound : (is_triple : Bool) (e : ℕ) (cs : List ℕ) (is_raw : Bool) → Sound (Item is_raw is_triple) (92 ∷ e ∷ cs) (cond is_raw (kept (92 ∷ e ∷ cs)) (escape (92 ∷ e ∷ cs)))
raw_sound t e cs true = (r.stays, (omega arith, omega arith))
raw_sound t e cs false = go (escape (92 ∷ e ∷ cs)) (escape_sound e cs)
  where
    go : (o : Read) → Sound Escape (92 ∷ e ∷ cs) o → Sound (Item false t) (92 ∷ e ∷ cs) o
    go None h = tt
    go (Some i) h = (r.escape h.0, h.1)

backslash_sound : (is_raw is_triple : Bool) (cs : List ℕ) → Sound (Item is_raw is_triple) (92 ∷ cs) (item is_raw is_triple (92 ∷ cs))
unfolding item
backslash_sound is_raw t [] = tt
backslash_sound is_raw t (e ∷ cs) = subst (Sound (Item is_raw t) (92 ∷ e ∷ cs)) (sym (starts_is is_raw t e cs)) (raw_sound t e cs is_raw)

pub item_sound : (is_raw is_triple : Bool) (c : ℕ) (cs : List ℕ) → Sound (Item is_raw is_triple) (c ∷ cs) (item is_raw is_triple (c ∷ cs))
item_sound is_raw t c cs = go (c == 92) refl ((c == 10) && not t) refl
  where
    go : (p : Bool) → (c == 92) ≡ p → (n : Bool) → ((c == 10) && not t) ≡ n → Sound (Item is_raw t) (c ∷ cs) (item is_raw t (c ∷ cs))
    go true e n f = subst (λ v. Sound (Item is_raw t) (v ∷ cs) (item is_raw t (v ∷ cs))) (sym (eqb-true c 92 e)) (backslash_sound is_raw t cs)
    go false e true f = subst (Sound (Item is_raw t) (c ∷ cs)) (sym (feed_is is_raw t c cs e f)) tt
    go false e false f = subst (Sound (Item is_raw t) (c ∷ cs)) (sym (plain_is is_raw t c cs e f)) (r.plain e f, (omega arith, omega arith))
