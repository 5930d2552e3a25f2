-- White space of texts (Python Library Reference, "Text Sequence Type": str.strip, str.split), of ASCII characters.
use Rattle.std.specs.Prelude.{ℕ, ◌==◌, Bool, ◌||◌, if◌then◌else◌, List, [], ◌∷◌, reverse}
use Rattle.std.specs.Int.{is_in_range}

-- space, and the characters from tab to carriage return, which are \t \n \v \f \r
abbrev pub is_white : ℕ → Bool
is_white c = c == 32 || is_in_range 9 13 c

abbrev pub without_front : List ℕ → List ℕ
without_front [] = []
without_front (c ∷ cs) = if is_white c then without_front cs else c ∷ cs

abbrev pub without_back : List ℕ → List ℕ
without_back cs = reverse (without_front (reverse cs))

-- the text without the white space at both ends
abbrev pub stripped : List ℕ → List ℕ
stripped cs = without_back (without_front cs)
