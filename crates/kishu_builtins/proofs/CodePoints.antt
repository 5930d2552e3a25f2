-- Texts of one code point, and the numbers that are code points.
use Rattle.std.proofs.Common.{◌≡◌, ap, sym, refl, ℕ, true, false, List, [], ◌∷◌, Some, None}
use Rattle.std.specs.Prelude.{slice_get, unwrap_or, codes, pos}
use Rattle.kishu_meaning.specs.calls.Builtins.{code_point, character, is_character}
use Rattle.kishu_meaning.specs.values.Kinds.{bad_arguments, value_error}
use Rattle.kishu_meaning.specs.moments.Moment.{Moment, fine}
use Rattle.kishu_meaning.specs.values.Values.{text, integer}

pub only_one : (cs : List ℕ) (c : ℕ) (s : Moment) → Some c ≡ slice_get cs 0 → None ≡ slice_get cs 1 → code_point (text cs) s ≡ fine (integer (pos c)) s
only_one [] c s e f = absurd cc
only_one (d ∷ []) c s e f = ap (λ o. fine (integer (pos (unwrap_or o c))) s) (sym e)
only_one (d ∷ (x ∷ xs)) c s e f = absurd cc

pub two_or_more : (cs : List ℕ) (d : ℕ) → Some d ≡ slice_get cs 1 → code_point (text cs) ≡ bad_arguments (codes "ord")
two_or_more [] d e = absurd cc
two_or_more (c ∷ []) d e = absurd cc
two_or_more (c ∷ (x ∷ xs)) d e = refl

pub nothing_there : (cs : List ℕ) → None ≡ slice_get cs 0 → code_point (text cs) ≡ bad_arguments (codes "ord")
nothing_there [] e = refl
nothing_there (c ∷ cs) e = absurd cc

pub is_code_point : (n : ℕ) (s : Moment) → is_character n ≡ true → character (pos n) s ≡ fine (text (n ∷ [])) s
is_code_point n s h = rw h refl

pub is_none : (n : ℕ) (s : Moment) → is_character n ≡ false → character (pos n) s ≡ value_error (codes "not a character") s
is_none n s h = rw h refl
