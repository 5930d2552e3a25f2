-- The lines that are to come of an input of which some bytes were read already.
use Rattle.std.specs.Prelude.{ℕ, ◌-◌, List, [], ◌++◌, take, drop, Option, Some, None}
use Rattle.kishu_model.specs.Task.{limit_from, ended_from, rest_from, last_line, session_limits}
use Rattle.kishu_input.specs.declared.lines.LineReader.{LineReader}

-- where a limit is reached, counted from the first byte of the input, if one is; `before` bytes were read
abbrev pub limit_after : (before : ℕ) → List ℕ → Option ℕ
limit_after before input = limit_from session_limits 0 before input

-- Where a limit is reached, only the lines count whose line feed comes before that.
abbrev pub lines_until : (before : ℕ) → Option ℕ → List ℕ → List (List ℕ)
lines_until before None input = ended_from [] input ++ last_line (rest_from [] input)
lines_until before (Some n) input = ended_from [] (take (n - before) input)

abbrev pub lines_after : (before : ℕ) → List ℕ → List (List ℕ)
lines_after before input = lines_until before (limit_after before input) input

-- what a reader has taken and not told, and all that is to come where the source has this left
abbrev pub ahead : LineReader → List ℕ
ahead reader = drop reader.at reader.taken.items

abbrev pub to_read : LineReader → List ℕ → List ℕ
to_read reader left = ahead reader ++ left

abbrev pub lines_left : LineReader → List ℕ → List (List ℕ)
lines_left reader left = lines_after reader.before (to_read reader left)

abbrev pub limit_left : LineReader → List ℕ → Option ℕ
limit_left reader left = limit_after reader.before (to_read reader left)
