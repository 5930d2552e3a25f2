-- Texts with plain line ends, their parts, and their bytes.
use Rattle.std.proofs.Common.{◌≡◌, ℕ, ◌+◌, ◌-◌, ◌≤◌, Bool, true, false, cond, List, [], ◌∷◌, ◌++◌, length, take, drop, refl, sym, ap, ◌∙◌, arith, length-append}
use Rattle.std.proofs.Math.Seq.{take-append_seam, drop-append_seam}
use Rattle.std.proofs.lemmas.List.{append-nil}
use Rattle.std.proofs.lemmas.List.Sums.{sum_by-append, sum_by-cons}
use Rattle.std.proofs.lemmas.Str.{encodes-append, length-encode, len_utf8_bounds, len_utf8_ascii}
use Rattle.std.specs.Prelude.{◌&&◌, ◌==◌, not, slice_index}
use Rattle.std.specs.Char.{len_utf8, encode_utf8}
use Rattle.std.specs.Str.{encode_utf8_all, all_scalars}
use Rattle.kishu_language.specs.tokens.PlainLines.{plain_lines}
use Rattle.kishu_language.specs.tokens.Layout.{Token, width}
use Rattle.kishu_language.specs.trees.Code.{begin_of, end_after, code_of}

both : (a b : Bool) → (a && b) ≡ true → (a ≡ true) × (b ≡ true)
both true b h = (refl, h)
both false b h = absurd cc

-- ---- characters

pub scalars_before : (xs ys : List ℕ) → all_scalars (xs ++ ys) ≡ true → all_scalars xs ≡ true
scalars_before [] ys h = refl
scalars_before (x ∷ xs) ys h = ap (λ b. b && all_scalars xs) (both _ _ h).0 ∙ scalars_before xs ys (both _ _ h).1

pub scalars_behind : (xs ys : List ℕ) → all_scalars (xs ++ ys) ≡ true → all_scalars ys ≡ true
scalars_behind [] ys h = h
scalars_behind (x ∷ xs) ys h = scalars_behind xs ys (both _ _ h).1

first_scalar : (a b : Bool) (c : ℕ) (cs rest : List ℕ) → all_scalars (c ∷ cs) ≡ true → all_scalars rest ≡ true → all_scalars (cond a (cond b rest (10 ∷ rest)) (c ∷ rest)) ≡ true
first_scalar true true c cs rest h k = k
first_scalar true false c cs rest h k = k
first_scalar false b c cs rest h k = ap (λ v. v && all_scalars rest) (both _ _ h).0 ∙ k

pub plain_scalars : (cs : List ℕ) → all_scalars cs ≡ true → all_scalars (plain_lines cs) ≡ true
plain_scalars [] h = h
plain_scalars (c ∷ cs) h = first_scalar (c == 13) (slice_index cs 0 == 10) c cs (plain_lines cs) h (plain_scalars cs (both _ _ h).1)

-- ---- carriage returns

abbrev pub has_none : List ℕ → Bool
has_none [] = true
has_none (c ∷ cs) = not (c == 13) && has_none cs

first_none : (a b : Bool) (c : ℕ) (rest : List ℕ) → (c == 13) ≡ a → has_none rest ≡ true → has_none (cond a (cond b rest (10 ∷ rest)) (c ∷ rest)) ≡ true
first_none true true c rest e k = k
first_none true false c rest e k = k
first_none false b c rest e k = ap (λ v. not v && has_none rest) e ∙ k

pub plain_none : (cs : List ℕ) → has_none (plain_lines cs) ≡ true
plain_none [] = refl
plain_none (c ∷ cs) = first_none (c == 13) (slice_index cs 0 == 10) c (plain_lines cs) refl (plain_none cs)

pub none_before : (xs ys : List ℕ) → has_none (xs ++ ys) ≡ true → has_none xs ≡ true
none_before [] ys h = refl
none_before (x ∷ xs) ys h = ap (λ b. b && has_none xs) (both _ _ h).0 ∙ none_before xs ys (both _ _ h).1

pub none_behind : (xs ys : List ℕ) → has_none (xs ++ ys) ≡ true → has_none ys ≡ true
none_behind [] ys h = h
none_behind (x ∷ xs) ys h = none_behind xs ys (both _ _ h).1

false_from : (b : Bool) → not b ≡ true → b ≡ false
false_from true h = absurd cc
false_from false h = refl

-- Without one the line ends are plain.
pub plain_already : (cs : List ℕ) → has_none cs ≡ true → plain_lines cs ≡ cs
plain_already [] h = refl
plain_already (c ∷ cs) h =
    ap (λ b. cond b (cond (slice_index cs 0 == 10) (plain_lines cs) (10 ∷ plain_lines cs)) (c ∷ plain_lines cs)) (false_from (c == 13) (both _ _ h).0)
    ∙ ap (λ (v : List ℕ). c ∷ v) (plain_already cs (both _ _ h).1)

-- ---- bytes

pub bytes_width : (cs : List ℕ) → length (encode_utf8_all cs) ≡ width cs
bytes_width [] = refl
bytes_width (c ∷ cs) = omega (arith, length-append (encode_utf8 c) (encode_utf8_all cs), length-encode c, bytes_width cs, sum_by-cons len_utf8 c cs)

pub width_parts : (xs ys : List ℕ) → width (xs ++ ys) ≡ width xs + width ys
width_parts xs ys = sum_by-append len_utf8 xs ys

first_narrow : (a b : Bool) (c : ℕ) (cs rest : List ℕ) → width rest ≤ width cs → width (cond a (cond b rest (10 ∷ rest)) (c ∷ rest)) ≤ width (c ∷ cs)
first_narrow true true c cs rest h = omega (arith, h, sum_by-cons len_utf8 c cs)
first_narrow true false c cs rest h = omega (arith, h, sum_by-cons len_utf8 c cs, sum_by-cons len_utf8 10 rest, len_utf8_ascii 10 (omega arith), (len_utf8_bounds c).0)
first_narrow false b c cs rest h = omega (arith, h, sum_by-cons len_utf8 c cs, sum_by-cons len_utf8 c rest)

pub plain_narrow : (cs : List ℕ) → width (plain_lines cs) ≤ width cs
plain_narrow [] = omega arith
plain_narrow (c ∷ cs) = first_narrow (c == 13) (slice_index cs 0 == 10) c cs (plain_lines cs) (plain_narrow cs)

-- ---- the code of tokens

part : (xs ys zs : List ℕ) → take (length ys) (drop (length xs) (xs ++ (ys ++ zs))) ≡ ys
part xs ys zs = ap (take (length ys)) (drop-append_seam xs (ys ++ zs)) ∙ take-append_seam ys zs

-- between two places
pub code_between : (front code back : List ℕ) (own : List Token) → begin_of own ≡ width front → end_after 0 own ≡ width front + width code
    → code_of (encode_utf8_all (front ++ (code ++ back))) own ≡ encode_utf8_all code
unfolding code_of
code_between front code back own first last =
    let source : encode_utf8_all (front ++ (code ++ back)) ≡ encode_utf8_all front ++ (encode_utf8_all code ++ encode_utf8_all back) =
    encodes-append front (code ++ back) ∙ ap (λ (v : List ℕ). encode_utf8_all front ++ v) (encodes-append code back) in
    let from : begin_of own ≡ length (encode_utf8_all front) = first ∙ sym (bytes_width front) in
    let size : end_after 0 own - begin_of own ≡ length (encode_utf8_all code) = omega (arith, first, last, bytes_width code) in
    (λ i. take (size i) (drop (from i) (source i))) ∙ part (encode_utf8_all front) (encode_utf8_all code) (encode_utf8_all back)

-- the whole text
pub code_whole : (code : List ℕ) (own : List Token) → begin_of own ≡ 0 → end_after 0 own ≡ width code → code_of (encode_utf8_all code) own ≡ encode_utf8_all code
code_whole code own first last =
    ap (λ v. code_of (encode_utf8_all v) own) (sym (append-nil code)) ∙ code_between [] code [] own first (last ∙ zero_first (width code))
  where
    zero_first : (n : ℕ) → n ≡ width [] + n
    zero_first n = omega arith
