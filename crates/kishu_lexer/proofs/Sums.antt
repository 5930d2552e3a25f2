-- Sums over a text that is cut in two.
use Rattle.std.proofs.Common.{◌≡◌, ℕ, ◌+◌, ◌*◌, ◌≤◌, List, [], ◌∷◌, length, take, drop, arith}
use Rattle.std.specs.Char.{len_utf8}
use Rattle.std.proofs.lemmas.List.Sums.{sum_by-cons, sum_by-take-drop, sum_by-take-le}
use Rattle.std.proofs.lemmas.Bool.Decides.{nat_tests}
use Rattle.kishu_language.specs.tokens.Lexemes.{feeds}
use Rattle.kishu_language.specs.tokens.Layout.{width}

pub width_split : (n : ℕ) (xs : List ℕ) → width (take n xs) + width (drop n xs) ≡ width xs
width_split n xs = sum_by-take-drop len_utf8 xs n

pub feeds_taken : (n : ℕ) (xs : List ℕ) → feeds (take n xs) ≤ feeds xs
feeds_taken n xs = sum_by-take-le _ xs n

char_small : (c : ℕ) → len_utf8 c ≤ 4
char_small c = grind (arith, nat_tests)

-- a character takes at most four bytes
pub width_small : (xs : List ℕ) → width xs ≤ 4 * length xs
width_small [] = omega arith
width_small (c ∷ cs) = omega (arith, sum_by-cons len_utf8 c cs, char_small c, width_small cs)
