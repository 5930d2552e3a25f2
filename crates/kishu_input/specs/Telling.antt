-- What one call of a reader tells, and what it takes: of the reader and the source before it and after it.
use Rattle.std.specs.Prelude.{◌≡◌, ℕ, ◌+◌, true, List, [], ◌∷◌, ◌++◌, length, None, IsSome}
use Rattle.kishu_host.specs.Source.{SourceState}
use Rattle.kishu_input.specs.Begun.{GoesOn, Ends, Stops}
use Rattle.kishu_input.specs.Lines.{ahead, lines_left, limit_left}
use Rattle.kishu_input.specs.declared.lines.LineReader.{LineReader}

-- ---- the lines and the limit that are to come

-- This line is the first of those that are to come, and a limit stays where it is.
abbrev pub IsNextLine : LineReader → SourceState → LineReader → SourceState → List ℕ → Type 0
IsNextLine old from new to line = from.tells ≡ true
    → (lines_left old from.left ≡ line ∷ lines_left new to.left) × (limit_left old from.left ≡ limit_left new to.left)

-- No line is to come, no limit was reached, and nothing is left.
abbrev pub IsAtEnd : LineReader → SourceState → SourceState → Type 0
IsAtEnd old from to = from.tells ≡ true
    → (lines_left old from.left ≡ []) × (limit_left old from.left ≡ None) × (to.left ≡ [])

-- No line is to come, and a limit is reached.
abbrev pub IsAtLimit : LineReader → SourceState → Type 0
IsAtLimit old from = from.tells ≡ true → (lines_left old from.left ≡ []) × IsSome (limit_left old from.left)

-- ---- the bytes

-- how many bytes were taken for a reader
abbrev pub bytes_taken : LineReader → ℕ
bytes_taken reader = reader.before + length (ahead reader)

-- Each byte that was taken is told or ahead.
abbrev pub KeepsCount : LineReader → SourceState → LineReader → SourceState → Type 0
KeepsCount old from new to = from.tells ≡ true → bytes_taken old + length from.left ≡ bytes_taken new + length to.left

-- The same bytes are to come, ahead or in the source.
abbrev pub KeepsBytes : LineReader → SourceState → LineReader → SourceState → Type 0
KeepsBytes old from new to = from.tells ≡ true → ahead old ++ from.left ≡ ahead new ++ to.left

-- What is ahead now comes from the source's front.
abbrev pub IsTaken : SourceState → LineReader → SourceState → Type 0
IsTaken from new to = from.tells ≡ true → from.left ≡ ahead new ++ to.left

-- Neither ahead nor in the source is a byte left.
abbrev pub IsUsedUp : SourceState → LineReader → SourceState → Type 0
IsUsedUp from new to = from.tells ≡ true → (ahead new ≡ []) × (to.left ≡ [])

-- Where none was taken, the source is at its end.
abbrev pub TakesSome : SourceState → LineReader → SourceState → Type 0
TakesSome from new to = from.tells ≡ true → new.taken.items ≡ [] → to.left ≡ []

-- ---- a line that was begun, whatever the source has left

abbrev pub LineGoesOn : LineReader → List ℕ → LineReader → List ℕ → Type 0
LineGoesOn old line new grown = (rest : List ℕ) → GoesOn line old.before (ahead old ++ rest) grown new.before (ahead new ++ rest)

abbrev pub LineEnds : LineReader → List ℕ → LineReader → List ℕ → Type 0
LineEnds old line new whole = (rest : List ℕ) → Ends line old.before (ahead old ++ rest) whole new.before (ahead new ++ rest)

abbrev pub LineStops : LineReader → List ℕ → Type 0
LineStops old line = (rest : List ℕ) → Stops line old.before (ahead old ++ rest)
