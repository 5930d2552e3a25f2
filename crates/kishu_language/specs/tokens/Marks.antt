-- Reserved words, operators and delimiters (Python Language Reference 3, "Keywords", "Operators" and "Delimiters").
use Rattle.std.specs.Prelude.{ℕ, ◌==◌, if◌then◌else◌, List, [], ◌∷◌, codes, Option, Some, None}
use Rattle.std.specs.Str.{bytes_eq}
use Rattle.kishu_language.specs.declared.token.Mark.{Mark}
use Rattle.kishu_language.specs.declared.token.Mark.TheVariants as m

-- a spelling, and the mark that it is
abbrev pub Spelled : Type 0
Spelled = List ℕ × Mark

unfoldable pub reserved_marks : List Spelled
reserved_marks =
    (codes "False", m.False) ∷ (codes "None", m.None) ∷ (codes "True", m.True) ∷ (codes "and", m.And) ∷ (codes "as", m.As) ∷ (codes "assert", m.Assert) ∷ (codes "async", m.Async)
    ∷ (codes "await", m.Await) ∷ (codes "break", m.Break) ∷ (codes "class", m.Class) ∷ (codes "continue", m.Continue) ∷ (codes "def", m.Def) ∷ (codes "del", m.Del)
    ∷ (codes "elif", m.Elif) ∷ (codes "else", m.Else) ∷ (codes "except", m.Except) ∷ (codes "finally", m.Finally) ∷ (codes "for", m.For) ∷ (codes "from", m.From)
    ∷ (codes "global", m.Global) ∷ (codes "if", m.If) ∷ (codes "import", m.Import) ∷ (codes "in", m.In) ∷ (codes "is", m.Is) ∷ (codes "lambda", m.Lambda)
    ∷ (codes "nonlocal", m.Nonlocal) ∷ (codes "not", m.Not) ∷ (codes "or", m.Or) ∷ (codes "pass", m.Pass) ∷ (codes "raise", m.Raise) ∷ (codes "return", m.Return)
    ∷ (codes "try", m.Try) ∷ (codes "while", m.While) ∷ (codes "with", m.With) ∷ (codes "yield", m.Yield) ∷ []

-- the first with this spelling
abbrev pub mark_among : List Spelled → List ℕ → Option Mark
mark_among [] word = None
mark_among (s ∷ ss) word = if bytes_eq word s.0 then Some s.1 else mark_among ss word

abbrev pub reserved_mark : List ℕ → Option Mark
reserved_mark word = mark_among reserved_marks word

-- a mark, and how many characters it takes
abbrev pub Taken : Type 0
Taken = Option (Mark × ℕ)

abbrev pub taken : Mark → ℕ → Taken
taken k n = Some (k, n)

-- the marks of one character that begin no longer one
unfoldable pub delimiter : ℕ → Taken
delimiter b =
    if b == 40 then taken m.LeftParenthesis 1
    else if b == 41 then taken m.RightParenthesis 1
    else if b == 91 then taken m.LeftBracket 1
    else if b == 93 then taken m.RightBracket 1
    else if b == 123 then taken m.LeftBrace 1
    else if b == 125 then taken m.RightBrace 1
    else if b == 44 then taken m.Comma 1
    else if b == 58 then taken m.Colon 1
    else if b == 46 then taken m.Dot 1
    else if b == 59 then taken m.Semicolon 1
    else None

-- the first of two marks where `=` follows, else the second
abbrev pub with_equals : ℕ → Mark → Mark → Taken
with_equals next longer shorter = if next == 61 then taken longer 2 else taken shorter 1

-- the same after a character that stands twice
abbrev pub doubled : ℕ → Mark → Mark → Taken
doubled next longer shorter = if next == 61 then taken longer 3 else taken shorter 2

-- the longest operator at the front, by the first three characters
unfoldable pub operator : ℕ → ℕ → ℕ → Taken
operator b c d =
    if b == 43 then with_equals c m.PlusAssign m.Plus
    else if b == 45 then with_equals c m.MinusAssign m.Minus
    else if b == 42 then (if c == 42 then doubled d m.PowerAssign m.Power else with_equals c m.StarAssign m.Star)
    else if b == 47 then (if c == 47 then doubled d m.FloorDivideAssign m.FloorDivide else None)
    else if b == 37 then with_equals c m.PercentAssign m.Percent
    else if b == 61 then with_equals c m.Equal m.Assign
    else if b == 33 then (if c == 61 then taken m.NotEqual 2 else None)
    else if b == 60 then with_equals c m.LessEqual m.Less
    else if b == 62 then with_equals c m.GreaterEqual m.Greater
    else delimiter b
