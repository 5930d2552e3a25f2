-- The line by which a commit is told: its first cell up to the first line end, cut to 60 characters.
use Rattle.std.specs.Prelude.{ℕ, suc, zero, nat_le, ◌&&◌, ◌||◌, ◌==◌, Bool, if◌then◌else◌, List, [], ◌∷◌}
use Rattle.kishu_language.specs.tokens.Lines.{line_feed}
use Rattle.kishu_language.specs.tokens.PlainLines.{carriage_return}
use Rattle.kishu_store.specs.Graph.{Commit}

-- the bytes before the first line feed or carriage return
abbrev pub first_line : List ℕ → List ℕ
first_line [] = []
first_line (c ∷ cs) = if c == line_feed || c == carriage_return then [] else c ∷ first_line cs

-- a byte that goes on with a character (UTF-8: RFC 3629, section 3)
abbrev pub goes_on : ℕ → Bool
goes_on c = nat_le 128 c && nat_le c 191

-- the first so many characters of a text in UTF-8
abbrev pub first_characters : ℕ → List ℕ → List ℕ
first_characters n [] = []
first_characters zero (c ∷ cs) = if goes_on c then c ∷ first_characters zero cs else []
first_characters (suc n) (c ∷ cs) = if goes_on c then c ∷ first_characters (suc n) cs else c ∷ first_characters n cs

abbrev pub longest_line : ℕ
longest_line = 60

abbrev pub line_in : List (List ℕ) → List ℕ
line_in [] = []
line_in (text ∷ texts) = first_characters longest_line (first_line text)

abbrev pub line_of : Commit → List ℕ
line_of k = line_in k.cells
