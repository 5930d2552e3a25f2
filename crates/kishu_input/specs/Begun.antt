-- The lines that are to come where one was begun, byte by byte, and what reading on comes to.
use Rattle.std.specs.Prelude.{◌≡◌, ℕ, suc, ◌==◌, nat_le, if◌then◌else◌, List, [], ◌∷◌, ◌++◌, length, Option, IsSome}
use Rattle.kishu_language.specs.tokens.Lines.{line_feed}
use Rattle.kishu_model.specs.Task.{limit_from, last_line, session_limits}

-- `line` was begun, and `before` bytes were read
abbrev pub lines_begun : (line : List ℕ) (before : ℕ) → List ℕ → List (List ℕ)
lines_begun line before [] = last_line line
lines_begun line before (c ∷ cs) =
    if nat_le session_limits.input (suc before) then []
    else if c == line_feed then line ∷ lines_begun [] (suc before) cs
    else if nat_le session_limits.line (suc (length line)) then []
    else lines_begun (line ++ c ∷ []) (suc before) cs

abbrev pub limit_begun : (line : List ℕ) (before : ℕ) → List ℕ → Option ℕ
limit_begun line before input = limit_from session_limits (length line) before input

-- The line grew, and there are the same lines and the same limit to come.
pub record GoesOn (line : List ℕ) (before : ℕ) (input : List ℕ) (grown : List ℕ) (after : ℕ) (rest : List ℕ) : Type 0 where
  pub lines : lines_begun line before input ≡ lines_begun grown after rest
  pub limit : limit_begun line before input ≡ limit_begun grown after rest

-- The line is whole, and a new one is begun.
pub record Ends (line : List ℕ) (before : ℕ) (input : List ℕ) (whole : List ℕ) (after : ℕ) (rest : List ℕ) : Type 0 where
  pub lines : lines_begun line before input ≡ whole ∷ lines_begun [] after rest
  pub limit : limit_begun line before input ≡ limit_begun [] after rest

-- A limit is reached before the line is whole.
pub record Stops (line : List ℕ) (before : ℕ) (input : List ℕ) : Type 0 where
  pub lines : lines_begun line before input ≡ []
  pub limit : IsSome (limit_begun line before input)
