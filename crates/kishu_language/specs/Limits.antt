-- How long a text is at most, and how high a tree.
use Rattle.std.specs.Prelude.{ℕ, ◌^◌}

-- the longest text of a cell, and so the longest code of a function, in bytes
abbrev pub longest_text : ℕ
longest_text = 1048576

-- Each tree that is run is lower than this.
abbrev pub height_limit : ℕ
height_limit = 2 ^ 20
