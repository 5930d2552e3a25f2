-- Texts character by character.
use Rattle.std.proofs.Common.{◌≡◌, ℕ, zero, suc, ◌+◌, ◌<◌, Bool, true, false, cond, List, [], ◌∷◌, ◌++◌, drop, length, get_or, refl, arith, append_assoc, add-one}
use Rattle.std.proofs.Math.Seq.{drop-cons}
use Rattle.std.specs.Prelude.{◌==◌, slice_index}
use Rattle.std.specs.Char.{encode_utf8}
use Rattle.std.specs.Str.{encode_utf8_all}
use Rattle.kishu_language.specs.tokens.PlainLines.{plain_lines}
use Rattle.kishu_lexer.specs.Views.{plain_char}

-- a character that was pushed, and the rest
pub pushed : (out cs : List ℕ) (i : ℕ) → i < length cs → (out ++ encode_utf8 (get_or cs i 0)) ++ encode_utf8_all (drop (i + 1) cs) ≡ out ++ encode_utf8_all (drop i cs)
pushed out cs i h = rw (append_assoc, add-one, drop-cons cs i 0) refl

-- the first line end is made plain, and then the rest
first_plain : (a b : Bool) (c : ℕ) (rest : List ℕ) → cond a (cond b rest (10 ∷ rest)) (c ∷ rest) ≡ cond a (cond b [] (10 ∷ [])) (c ∷ []) ++ rest
first_plain a b c rest = elim a as (λ v. cond v (cond b rest (10 ∷ rest)) (c ∷ rest) ≡ cond v (cond b [] (10 ∷ [])) (c ∷ []) ++ rest)
    [ true ↦ elim b as (λ w. cond w rest (10 ∷ rest) ≡ cond w [] (10 ∷ []) ++ rest) [ true ↦ refl | false ↦ refl ] | false ↦ refl ]

pub plain_first : (cs : List ℕ) (i : ℕ) → i < length cs → plain_lines (drop i cs) ≡ plain_char (get_or cs i 0) (get_or cs (i + 1) 0) ++ plain_lines (drop (i + 1) cs)
plain_first [] i h = absurd (omega arith)
plain_first (c ∷ cs) zero h = first_plain (c == 13) (slice_index cs 0 == 10) c (plain_lines cs)
plain_first (c ∷ cs) (suc i) h = let e : suc i + 1 ≡ suc (i + 1) = omega arith in rw e (plain_first cs i (omega arith))
