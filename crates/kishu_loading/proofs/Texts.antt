-- Which bytes are texts, and which texts are names.
use Rattle.std.specs.Prelude.{◌≡◌, ◌<◌, ◌⊎◌, ℕ, zero, suc, nat_le, ◌==◌, not, Bool, true, false, ◌&&◌, ◌||◌, if◌then◌else◌, List, [], ◌∷◌, length, Option, Some, Ok, Err}
use Rattle.std.specs.Cmp.Lexicographic.{bytes_decides, slice_cmp}
use Rattle.std.specs.List.{list_all}
use Rattle.std.specs.Ordering.{nat_cmp, is_lt, match_ordering}
use Rattle.std.specs.Str.{IsUtf8, IsAscii, chars, all_scalars, bytes_eq, encode_utf8_all}
use Rattle.std.proofs.Common.{refl, sym, ap, ◌∙◌, inl, inr, arith, leb-true, eqb-true, Ordering}
use Rattle.std.specs.declared.cmp.Ordering.TheVariants.{Less, Equal, Greater}
use Rattle.std.proofs.lemmas.Bool.{cases_Bool, and_parts}
use Rattle.std.proofs.lemmas.Str.{IsUtf8-from_ascii, encodes-chars, scalars-chars}
use Rattle.kishu_language.specs.tokens.Names.{is_digit, is_letter, is_word_char, begins_with_letter, is_name, is_reserved_word}
use Rattle.kishu_reading.specs.FromBytes.{Front, Reader, ◌>>=◌, and_then, give, keeping, byte, bytes, number, is_utf8, spelled, short_name, is_behind}
use Rattle.kishu_loading.specs.Moving.{attribute, name_behind}

-- ---- texts

pub utf8_true : (bs : List ℕ) → IsUtf8 bs → is_utf8 bs ≡ true
utf8_true bs u = ap (λ b. b && bytes_eq (encode_utf8_all (chars bs)) bs) (scalars-chars bs u)
    ∙ (bytes_decides (encode_utf8_all (chars bs)) bs).1 (encodes-chars bs u)

pub utf8_false : (bs : List ℕ) → (IsUtf8 bs → ⊥) → is_utf8 bs ≡ false
utf8_false bs n = elim (cases_Bool (is_utf8 bs)) [
  | inl t ↦ absurd (let h = and_parts (all_scalars (chars bs)) (bytes_eq (encode_utf8_all (chars bs)) bs) t in
      n (chars bs, (h.0, (bytes_decides (encode_utf8_all (chars bs)) bs).0 h.1)))
  | inr f ↦ f
]

-- what a rule lets through, and what it doesn't
module _ {A : Type 0} (rule : A → Bool) (p : Reader A) (s t : Front) (a : A) (e : p s ≡ Ok (a, t)) where
  pub keeps : rule a ≡ true → keeping rule p s ≡ Ok (a, t)
  keeps h = ap (λ o. and_then o (λ b u. if rule b then Ok (b, u) else Err (length s.rest))) e
      ∙ ap (λ b. if b then Ok (a, t) else Err (length s.rest)) h

  pub breaks : rule a ≡ false → keeping rule p s ≡ Err (length s.rest)
  breaks h = ap (λ o. and_then o (λ b u. if rule b then Ok (b, u) else Err (length s.rest))) e
      ∙ ap (λ b. if b then Ok (a, t) else Err (length s.rest)) h

module _ (s t u : Front) (n : ℕ) (bs : List ℕ) (long : number s ≡ Ok (n, t)) (taken : bytes n t ≡ Ok (bs, u)) where
  pub spelled_is : (cs : List ℕ) → IsUtf8 bs → cs ≡ bs → spelled s ≡ Ok (chars cs, u)
  spelled_is cs h e =
      ap (λ o. and_then o (λ k. keeping is_utf8 (bytes k) >>= λ x. give (chars x))) long
      ∙ ap (λ o. and_then o (λ x. give (chars x))) (keeps is_utf8 (bytes n) t u bs taken (utf8_true bs h))
      ∙ ap (λ x. Ok (chars x, u)) (sym e)

  pub not_spelled : (IsUtf8 bs → ⊥) → spelled s ≡ Err (length t.rest)
  not_spelled h =
      ap (λ o. and_then o (λ k. keeping is_utf8 (bytes k) >>= λ x. give (chars x))) long
      ∙ ap (λ o. and_then o (λ x. give (chars x))) (breaks is_utf8 (bytes n) t u bs taken (utf8_false bs h))

-- ---- names

first : (a b : Bool) → (a && b) ≡ true → a ≡ true
first a b e = (and_parts a b e).0

second : (a b : Bool) → (a && b) ≡ true → b ≡ true
second a b e = (and_parts a b e).1

either : (a b : Bool) → (a || b) ≡ true → (a ≡ true) ⊎ (b ≡ true)
either true b e = inl refl
either false b e = inr e

letter_low : (c : ℕ) → is_letter c ≡ true → c < 128
letter_low c e = elim (either (nat_le 65 c && nat_le c 90) ((nat_le 97 c && nat_le c 122) || (c == 95)) e) [
  | inl a ↦ omega (arith, leb-true c 90 (second (nat_le 65 c) (nat_le c 90) a))
  | inr m ↦ elim (either (nat_le 97 c && nat_le c 122) (c == 95) m) [
    | inl b ↦ omega (arith, leb-true c 122 (second (nat_le 97 c) (nat_le c 122) b))
    | inr d ↦ omega (arith, eqb-true c 95 d)
  ]
]

word_low : (c : ℕ) → is_word_char c ≡ true → c < 128
word_low c e = elim (either (is_letter c) (is_digit c) e) [
  | inl l ↦ letter_low c l
  | inr d ↦ omega (arith, leb-true c 57 (second (nat_le 48 c) (nat_le c 57) d))
]

-- characters of which each is of ASCII
all_low : (cs : List ℕ) → list_all is_word_char cs ≡ true → IsAscii cs
all_low [] e i = omega arith
all_low (c ∷ cs) e zero = word_low c (first (is_word_char c) (list_all is_word_char cs) e)
all_low (c ∷ cs) e (suc i) = all_low cs (second (is_word_char c) (list_all is_word_char cs) e) i

name_utf8 : (x : List ℕ) → is_name x ≡ true → IsUtf8 x
name_utf8 x e =
    let behind = second (begins_with_letter x) (list_all is_word_char x && (nat_le (length x) 255 && not (is_reserved_word x))) e in
    IsUtf8-from_ascii x (all_low x (first (list_all is_word_char x) (nat_le (length x) 255 && not (is_reserved_word x)) behind))

pub no_name : (x : List ℕ) → (IsUtf8 x → ⊥) → is_name x ≡ false
no_name x n = elim (cases_Bool (is_name x)) [ inl t ↦ absurd (n (name_utf8 x t)) | inr f ↦ f ]

pub behind_is : (last x : List ℕ) → is_lt (slice_cmp nat_cmp last x) ≡ is_behind (Some last) x
behind_is last x = by (slice_cmp nat_cmp last x)
  where
    by : (o : Ordering) → is_lt o ≡ match_ordering o true false false
    by Less = refl
    by Equal = refl
    by Greater = refl

-- What a rule says of bytes behind a length that isn't 0.
module _ (rule : List ℕ → Bool) (s t u : Front) (n : ℕ) (bs : List ℕ) (long : keeping (λ k. not (k == 0)) byte s ≡ Ok (n, t))
    (taken : bytes n t ≡ Ok (bs, u)) where
  short_is : rule bs ≡ true → short_name rule s ≡ Ok (bs, u)
  short_is h = ap (λ o. and_then o (λ k. keeping rule (bytes k))) long ∙ keeps rule (bytes n) t u bs taken h

  not_short : rule bs ≡ false → short_name rule s ≡ Err (length t.rest)
  not_short h = ap (λ o. and_then o (λ k. keeping rule (bytes k))) long ∙ breaks rule (bytes n) t u bs taken h

module _ (s t u : Front) (n : ℕ) (bs : List ℕ) (long : keeping (λ k. not (k == 0)) byte s ≡ Ok (n, t)) (taken : bytes n t ≡ Ok (bs, u)) where
  pub attribute_is : (cs : List ℕ) → is_name bs ≡ true → cs ≡ bs → attribute s ≡ Ok (cs, u)
  unfolding attribute
  attribute_is cs h e = short_is is_name s t u n bs long taken h ∙ ap (λ x. Ok (x, u)) (sym e)

  pub no_attribute : is_name bs ≡ false → attribute s ≡ Err (length t.rest)
  unfolding attribute
  no_attribute h = not_short is_name s t u n bs long taken h

  module _ (last : Option (List ℕ)) where
    pub name_is : (cs : List ℕ) → is_name bs ≡ true → is_behind last bs ≡ true → cs ≡ bs → name_behind last s ≡ Ok (cs, u)
    unfolding name_behind
    name_is cs h k e = short_is (λ x. is_name x && is_behind last x) s t u n bs long taken (ap (λ b. b && is_behind last bs) h ∙ k)
        ∙ ap (λ x. Ok (x, u)) (sym e)

    pub unnamed : is_name bs ≡ false → name_behind last s ≡ Err (length t.rest)
    unfolding name_behind
    unnamed h = not_short (λ x. is_name x && is_behind last x) s t u n bs long taken (ap (λ b. b && is_behind last bs) h)

    pub not_behind : is_name bs ≡ true → is_behind last bs ≡ false → name_behind last s ≡ Err (length t.rest)
    unfolding name_behind
    not_behind h k = not_short (λ x. is_name x && is_behind last x) s t u n bs long taken (ap (λ b. b && is_behind last bs) h ∙ k)

-- where the length is at fault
pub attribute_fault : (s : Front) (left : ℕ) → keeping (λ k. not (k == 0)) byte s ≡ Err left → attribute s ≡ Err left
unfolding attribute
attribute_fault s left e = ap (λ o. and_then o (λ k. keeping is_name (bytes k))) e

pub name_fault : (last : Option (List ℕ)) (s : Front) (left : ℕ) → keeping (λ k. not (k == 0)) byte s ≡ Err left → name_behind last s ≡ Err left
unfolding name_behind
name_fault last s left e = ap (λ o. and_then o (λ k. keeping (λ x. is_name x && is_behind last x) (bytes k))) e
