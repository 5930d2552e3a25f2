-- What a script has to make still.
use Rattle.std.specs.Prelude.{ℕ, zero, suc, ◌+◌, ◌-◌, if◌then◌else◌, List, [], ◌∷◌}
use Rattle.kishu_model.specs.Request.{Request}
use Rattle.kishu_model.specs.generated.Requests.{next_number, drawn, is_checkout, request_with}
use Rattle.kishu_gen.specs.declared.script.Script.{Script}

-- how many requests are cells, with the one behind so many others
abbrev pub cells_with : (before cells d : ℕ) → ℕ
cells_with before cells d = (if is_checkout before d then 0 else 1) + cells

-- so many requests behind others, of which so many are cells; this number drew the last of them
abbrev pub requests_from : (many x before cells : ℕ) → List Request
requests_from zero x before cells = []
requests_from (suc many) x before cells =
    request_with before cells (drawn (next_number x))
    ∷ requests_from many (next_number x) (suc before) (cells_with before cells (drawn (next_number x)))

abbrev pub left : Script → ℕ
left s = s.many - s.made

abbrev pub to_come : Script → List Request
to_come s = requests_from (left s) s.number s.made s.cells
