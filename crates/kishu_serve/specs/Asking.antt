-- The requests of a run that answers each as it comes.
use Rattle.std.specs.Prelude.{◌≡◌, ℕ, ◌+◌, ◌-◌, ◌^◌, Bool, true, false, List, [], ◌∷◌, map, length, None, IsSome}
use Rattle.kishu_host.specs.Source.{SourceState}
use Rattle.kishu_model.specs.Request.{Request, unreadable}
use Rattle.kishu_model.specs.requests.Cells.{HasRoom}
use Rattle.kishu_model.specs.Serve.{Item, answered}
use Rattle.kishu_model.specs.Task.{line_request}
use Rattle.kishu_model.specs.Values.{request_of}
use Rattle.kishu_input.specs.Lines.{ahead, lines_left, limit_left}
use Rattle.kishu_input.specs.declared.lines.LineReader.{LineReader}
use Rattle.kishu_serve.specs.declared.asking.Asked.{Asked}
use Rattle.kishu_serve.specs.declared.asking.Asked.TheVariants as asked
use Rattle.kishu_serve.specs.declared.asking.Requests.{Requests}
use Rattle.kishu_serve.specs.declared.asking.Requests.TheVariants.{Done, One, Lines}

abbrev pub asked_of : Asked → Request
asked_of (asked.Request q) = request_of q
asked_of asked.Unreadable = unreadable

-- the requests that are to come, where the source has this left
abbrev pub to_come : Requests → List ℕ → List Item
to_come Done left = []
to_come (One q) left = answered (asked_of q) ∷ []
to_come (Lines reader) left = map answered (map line_request (lines_left reader left))

-- A record has room for each.
abbrev pub HaveRoom : Requests → Type 0
HaveRoom Done = Unit {0}
HaveRoom (One q) = HasRoom (asked_of q)
HaveRoom (Lines reader) = Unit {0}

-- whether lines are read for them
abbrev pub reads_lines : Requests → Bool
reads_lines Done = false
reads_lines (One q) = false
reads_lines (Lines reader) = true

-- What is to come is known: of lines where the source tells what it has left.
abbrev pub Knows : Requests → SourceState → Type 0
Knows Done s = Unit {0}
Knows (One q) s = Unit {0}
Knows (Lines reader) s = s.tells ≡ true

-- A limit of the input is reached.
abbrev pub IsLimited : Requests → SourceState → Type 0
IsLimited Done s = ⊥
IsLimited (One q) s = ⊥
IsLimited (Lines reader) s = IsSome (limit_left reader s.left)

-- Lines were read to the end of the input.
abbrev pub IsRead : Requests → SourceState → Type 0
IsRead Done s = Unit {0}
IsRead (One q) s = Unit {0}
IsRead (Lines reader) s = s.left ≡ []

-- how many bytes were taken for them, and how many of them are to come at most
abbrev pub taken_by : Requests → ℕ
taken_by Done = 0
taken_by (One q) = 0
taken_by (Lines reader) = reader.before + length (ahead reader)

abbrev pub turns_left : Requests → ℕ
turns_left Done = 0
turns_left (One q) = 1
turns_left (Lines reader) = 2 ^ 30 - reader.before

-- ---- one call for the next request: of what is to come and the source before it and after it

-- This request is the first of those to come, and a limit stays where it is.
abbrev pub IsNext : Requests → SourceState → Requests → SourceState → Request → Type 0
IsNext old from new to q = Knows old from
    → (to_come old from.left ≡ answered q ∷ to_come new to.left)
    × (IsLimited new to → IsLimited old from) × (IsLimited old from → IsLimited new to)

-- None is to come, no limit was reached, and lines were read to the end.
abbrev pub IsAtEnd : Requests → SourceState → SourceState → Type 0
IsAtEnd old from to = Knows old from → (to_come old from.left ≡ []) × (IsLimited old from → ⊥) × IsRead old to

-- None is to come, and a limit is reached.
abbrev pub IsAtLimit : Requests → SourceState → Type 0
IsAtLimit old from = Knows old from → (to_come old from.left ≡ []) × IsLimited old from

-- Each byte that was taken is counted.
abbrev pub KeepsTaken : Requests → SourceState → Requests → SourceState → Type 0
KeepsTaken old from new to = from.tells ≡ true → taken_by old + length from.left ≡ taken_by new + length to.left

-- So it is with the lines that a reader tells.
abbrev pub IsNextOfLines : LineReader → SourceState → LineReader → SourceState → Request → Type 0
IsNextOfLines old from new to q = from.tells ≡ true
    → (to_come (Lines old) from.left ≡ answered q ∷ to_come (Lines new) to.left) × (limit_left old from.left ≡ limit_left new to.left)

abbrev pub IsAtEndOfLines : LineReader → SourceState → SourceState → Type 0
IsAtEndOfLines old from to = from.tells ≡ true
    → (to_come (Lines old) from.left ≡ []) × (limit_left old from.left ≡ None) × (to.left ≡ [])

abbrev pub IsAtLimitOfLines : LineReader → SourceState → Type 0
IsAtLimitOfLines old from = from.tells ≡ true → (to_come (Lines old) from.left ≡ []) × IsSome (limit_left old from.left)
