-- Line ends (Python Language Reference 3, "Physical lines").
use Rattle.std.specs.Prelude.{ℕ, ◌==◌, if◌then◌else◌, List, [], ◌∷◌, slice_index}
use Rattle.kishu_language.specs.tokens.Lines.{line_feed}

abbrev pub carriage_return : ℕ
carriage_return = 13

-- Each carriage return with a line feed, and each lone one, becomes one line feed: before a line feed it goes, and elsewhere it becomes one.
abbrev pub plain_lines : List ℕ → List ℕ
plain_lines [] = []
plain_lines (c ∷ cs) =
    if c == carriage_return then (if slice_index cs 0 == line_feed then plain_lines cs else line_feed ∷ plain_lines cs)
    else c ∷ plain_lines cs
