-- The lines of a text.
use Rattle.std.specs.Prelude.{ℕ}

-- the end of a line
abbrev pub line_feed : ℕ
line_feed = 10
