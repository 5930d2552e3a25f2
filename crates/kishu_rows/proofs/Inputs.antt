-- What inputs ask for, and the readings of lines, computed on the definitions.
use Rattle.std.proofs.Common.{◌≡◌, [], ◌∷◌, ◌++◌, map, codes, Some, None, refl}
use Rattle.kishu_store.specs.Graph.{new_graph}
use Rattle.kishu_model.specs.Reading.{reading}
use Rattle.kishu_model.specs.Request.{cell, cells, checkout, branch, log, status, unreadable}
use Rattle.kishu_model.specs.Serve.{answered}
use Rattle.kishu_model.specs.Task.{task, session, one_request, Limits, limit_place, session_lines}
use Rattle.kishu_rows.proofs.OnLiterals.{lines_on_literals}

empty_input : task (Some session) new_graph [] ≡ []
empty_input = refl

last_line : task (Some session) new_graph (codes "{\"op\":\"status\"}") ≡ answered status ∷ []
unfolding lines_on_literals
last_line = refl

one_line_feed : task (Some session) new_graph (10 ∷ []) ≡ answered unreadable ∷ []
unfolding lines_on_literals
one_line_feed = refl

several_lines : task (Some session) new_graph (codes "{\"op\":\"cell\",\"text\":\"a\\nb\"}\n\n{\"to\":\"1\",\"op\":\"checkout\"}\r\n{\"op\":\"fly\"}\n{\"op\":\"log\"}\n")
    ≡ map answered (cell (codes "a\nb") ∷ unreadable ∷ checkout (codes "1") ∷ unreadable ∷ log ∷ [])
unfolding lines_on_literals
several_lines = refl

one_request_asked : task (Some (one_request log)) new_graph (codes "{\"op\":\"status\"}") ≡ answered log ∷ []
one_request_asked = refl

branch_read : reading (codes "{\"op\":\"branch\",\"name\":\"try\"}") ≡ Some (branch (codes "try") None)
unfolding lines_on_literals
branch_read = refl

branch_at_read : reading (codes "{\"op\":\"branch\",\"name\":\"try\",\"at\":\"main\"}") ≡ Some (branch (codes "try") (Some (codes "main")))
unfolding lines_on_literals
branch_at_read = refl

-- The keys stand in any order, and a list has one text at least, and nothing else.
cells_read : reading (codes "{\"texts\":[\"a = 1\",\"\"],\"op\":\"cells\"}") ≡ Some (cells (codes "a = 1" ∷ [] ∷ []))
unfolding lines_on_literals
cells_read = refl

no_cells_read : reading (codes "{\"op\":\"cells\",\"texts\":[]}") ≡ None
unfolding lines_on_literals
no_cells_read = refl

no_text_read : reading (codes "{\"op\":\"cells\",\"texts\":[\"a\",1]}") ≡ None
unfolding lines_on_literals
no_text_read = refl

no_list_read : reading (codes "{\"op\":\"cells\",\"texts\":\"a\"}") ≡ None
unfolding lines_on_literals
no_list_read = refl

-- Of a repeated key the last value counts.
repeated : reading (codes "{\"op\":\"log\",\"op\":\"status\"}") ≡ Some status
unfolding lines_on_literals
repeated = refl

too_many_keys : reading (codes "{\"op\":\"log\",\"text\":\"\"}") ≡ None
unfolding lines_on_literals
too_many_keys = refl

number_for_a_text : reading (codes "{\"op\":\"checkout\",\"to\":1}") ≡ None
unfolding lines_on_literals
number_for_a_text = refl

two_values : reading (codes "{\"op\":\"log\"}{\"op\":\"log\"}") ≡ None
unfolding lines_on_literals
two_values = refl

not_utf8 : reading (codes "{\"op\":\"cell\",\"text\":\"" ++ 255 ∷ codes "\"}") ≡ None
unfolding lines_on_literals
not_utf8 = refl

-- Lines and limits, on limits of 4 bytes a line and 10 an input: a limit is reached by the byte that makes so many.
abbrev small : Limits
small = record { line = 4; input = 10 }

within : session_lines small (codes "ab\n\nabc\n") ≡ codes "ab" ∷ [] ∷ codes "abc" ∷ []
within = refl

short_rest : session_lines small (codes "ab\nabc") ≡ codes "ab" ∷ codes "abc" ∷ []
short_rest = refl

line_reached : session_lines small (codes "ab\nabcd\nef") ≡ codes "ab" ∷ []
line_reached = refl

line_place : limit_place small (codes "ab\nabcd\nef") ≡ Some 6
line_place = refl

rest_reached : session_lines small (codes "abcd") ≡ []
rest_reached = refl

nine_bytes : session_lines small (codes "ab\ncd\nef\n") ≡ codes "ab" ∷ codes "cd" ∷ codes "ef" ∷ []
nine_bytes = refl

nine_bytes_rest : session_lines small (codes "abc\nabc\na") ≡ codes "abc" ∷ codes "abc" ∷ codes "a" ∷ []
nine_bytes_rest = refl

-- the line feed that is the tenth byte ends no line
tenth_byte : session_lines small (codes "abc\nabc\na\n") ≡ codes "abc" ∷ codes "abc" ∷ []
tenth_byte = refl

tenth_place : limit_place small (codes "abc\nabc\na\n") ≡ Some 9
tenth_place = refl
