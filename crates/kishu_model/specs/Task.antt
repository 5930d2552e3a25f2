-- What a run does, by the form of its words, the graph of its store and its input.
use Rattle.std.specs.Prelude.{ℕ, suc, ◌^◌, ◌==◌, nat_le, Bool, if◌then◌else◌, List, [], ◌∷◌, ◌++◌, take, map, Option, Some, None, unwrap_or}
use Rattle.std.specs.Str.{is_utf8}
use Rattle.kishu_language.specs.tokens.Lines.{line_feed}
use Rattle.kishu_store.specs.Graph.{Graph}
use Rattle.kishu_model.specs.Reading.{reading}
use Rattle.kishu_model.specs.Request.{Request, cell, unreadable}
use Rattle.kishu_model.specs.Serve.{Item, answered}
use Rattle.kishu_model.specs.notebooks.Notebook.{opening}
use Rattle.kishu_model.specs.notebooks.Run.{notebook_run}
use Rattle.kishu_model.specs.generated.Run.{generated_run}

pub data Form : Type 0 where
  -- the whole input is one cell
  one_cell : Form
  -- each line of the input is a request
  session : Form
  -- the whole input is a notebook, whose code cells are run, and committed one by one or in one commit
  notebook : (together : Bool) → Form
  -- the words tell the request, and no input is read
  one_request : Request → Form
  -- the words tell how many requests are made from which number, and no input is read
  generated : (start many : ℕ) → Form

-- Bytes are a cell's text where they are UTF-8.
abbrev pub cell_request : List ℕ → Request
cell_request input = if is_utf8 input then cell input else unreadable

abbrev pub line_request : List ℕ → Request
line_request line = unwrap_or (reading line) unreadable

-- the lines that a line feed ends, which is no part of them; `line` stands before the bytes
abbrev pub ended_from : (line : List ℕ) → List ℕ → List (List ℕ)
ended_from line [] = []
ended_from line (c ∷ cs) = if c == line_feed then line ∷ ended_from [] cs else ended_from (line ++ c ∷ []) cs

-- what stands behind the last line feed
abbrev pub rest_from : (line : List ℕ) → List ℕ → List ℕ
rest_from line [] = line
rest_from line (c ∷ cs) = if c == line_feed then rest_from [] cs else rest_from (line ++ c ∷ []) cs

abbrev pub ended_lines : List ℕ → List (List ℕ)
ended_lines input = ended_from [] input

-- A last rest is a line where it isn't empty.
abbrev pub last_line : List ℕ → List (List ℕ)
last_line [] = []
last_line (c ∷ cs) = (c ∷ cs) ∷ []

abbrev pub lines : List ℕ → List (List ℕ)
lines input = ended_lines input ++ last_line (rest_from [] input)

-- so many bytes no line reaches before its line feed, and so many no input
pub record Limits : Type 0 where
  pub line : ℕ
  pub input : ℕ

abbrev pub session_limits : Limits
session_limits = record { line = 2 ^ 24; input = 2 ^ 30 }

-- so many bytes no notebook reaches
abbrev pub notebook_limit : ℕ
notebook_limit = 2 ^ 26

-- How many bytes come before the first one at which a limit is reached, if one is. Before the bytes stand `before` others, and `in_line` of them in the line.
abbrev pub limit_from : Limits → (in_line before : ℕ) → List ℕ → Option ℕ
limit_from limits in_line before [] = None
limit_from limits in_line before (c ∷ cs) =
    if nat_le limits.input (suc before) then Some before
    else if c == line_feed then limit_from limits 0 (suc before) cs
    else if nat_le limits.line (suc in_line) then Some before
    else limit_from limits (suc in_line) (suc before) cs

abbrev pub limit_place : Limits → List ℕ → Option ℕ
limit_place limits input = limit_from limits 0 0 input

-- Where a limit is reached, only the lines count whose line feed comes before that.
abbrev pub lines_before : Option ℕ → List ℕ → List (List ℕ)
lines_before None input = lines input
lines_before (Some n) input = ended_lines (take n input)

abbrev pub session_lines : Limits → List ℕ → List (List ℕ)
session_lines limits input = lines_before (limit_place limits input) input

-- Words that have no form ask for nothing.
abbrev pub task : Option Form → Graph → List ℕ → List Item
task None g input = []
task (Some one_cell) g input = answered (cell_request input) ∷ []
task (Some session) g input = map answered (map line_request (session_lines session_limits input))
task (Some (notebook together)) g input = notebook_run together g (opening input)
task (Some (one_request q)) g input = answered q ∷ []
task (Some (generated start many)) g input = generated_run start many g
