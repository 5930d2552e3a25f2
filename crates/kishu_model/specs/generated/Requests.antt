-- Requests that are made from a number: they make lists, share them, let them grow, look at them, and go back to earlier commits. The numbers are those of the example of `rand` in the C standard (ISO/IEC 9899, "The rand function"), kept to 31 bits.
use Rattle.std.specs.Prelude.{ℕ, zero, suc, ◌+◌, ◌*◌, ◌/◌, ◌%◌, ◌^◌, ◌==◌, nat_le, nat_lt, Bool, ◌&&◌, if◌then◌else◌, List, [], ◌∷◌, ◌++◌, codes, decimal}
use Rattle.kishu_model.specs.Request.{Request, cell, checkout}

-- ---- what is drawn

-- the number behind another
abbrev pub next_number : ℕ → ℕ
next_number x = (1103515245 * x + 12345) % 2 ^ 31

-- the k-th number, of which the 0-th is the start
abbrev pub number : (start k : ℕ) → ℕ
number start zero = start
number start (suc k) = next_number (number start k)

-- what is drawn by a number, and the last three digits of that
abbrev pub drawn : ℕ → ℕ
drawn x = x / 65536

abbrev pub ones : ℕ → ℕ
ones d = d % 10

abbrev pub tens : ℕ → ℕ
tens d = d / 10 % 10

abbrev pub hundreds : ℕ → ℕ
hundreds d = d / 100 % 10

-- ---- the request behind so many others, where d is drawn for it

-- the name of a list, by a digit
abbrev pub list_named : ℕ → List ℕ
list_named i = codes "v" ++ decimal i

-- Each of the first ten makes a list of its own.
abbrev pub first_cell : (before : ℕ) → List ℕ
first_cell before = list_named before ++ codes " = [" ++ decimal (before + 1) ++ codes "]"

-- a new list of two numbers
abbrev pub pair_cell : (before d : ℕ) → List ℕ
pair_cell before d = list_named (ones d) ++ codes " = [" ++ decimal (before + 1) ++ codes ", " ++ decimal (tens d) ++ codes "]"

-- a new list that holds a list
abbrev pub holding_cell : (d : ℕ) → List ℕ
holding_cell d = list_named (ones d) ++ codes " = [" ++ list_named (tens d) ++ codes "]"

-- a list that grows
abbrev pub growing_cell : (before d : ℕ) → List ℕ
growing_cell before d = list_named (ones d) ++ codes ".append(" ++ decimal (before + 1) ++ codes ")"

-- a look at two lists
abbrev pub looking_cell : (d : ℕ) → List ℕ
looking_cell d = codes "print(" ++ list_named (ones d) ++ codes " is " ++ list_named (tens d) ++ codes ", len(" ++ list_named (tens d) ++ codes "))"

-- a further name of a list
abbrev pub sharing_cell : (d : ℕ) → List ℕ
sharing_cell d = list_named (ones d) ++ codes " = " ++ list_named (tens d)

abbrev pub later_cell : (before d : ℕ) → List ℕ
later_cell before d =
    if nat_le (hundreds d) 2 then pair_cell before d
    else if nat_le (hundreds d) 4 then holding_cell d
    else if nat_le (hundreds d) 6 then growing_cell before d
    else if hundreds d == 7 then looking_cell d
    else sharing_cell d

abbrev pub cell_text : (before d : ℕ) → List ℕ
cell_text before d = if nat_lt before 10 then first_cell before else later_cell before d

abbrev pub is_checkout : (before d : ℕ) → Bool
is_checkout before d = nat_le 10 before && hundreds d == 9

-- A checkout goes to a number up to that of the cells before it.
abbrev pub request_with : (before cells d : ℕ) → Request
request_with before cells d = if is_checkout before d then checkout (decimal (d % (cells + 1))) else cell (cell_text before d)

-- ---- all of them

-- what is drawn for the request behind so many others
abbrev pub drawn_behind : (start before : ℕ) → ℕ
drawn_behind start before = drawn (number start (suc before))

-- how many of the first so many are cells
abbrev pub cells_among : (start before : ℕ) → ℕ
cells_among start zero = 0
cells_among start (suc before) = (if is_checkout before (drawn_behind start before) then 0 else 1) + cells_among start before

abbrev pub request_behind : (start before : ℕ) → Request
request_behind start before = request_with before (cells_among start before) (drawn_behind start before)

-- so many behind others
abbrev pub requests_behind : (start before many : ℕ) → List Request
requests_behind start before zero = []
requests_behind start before (suc many) = request_behind start before ∷ requests_behind start (suc before) many

abbrev pub generated_requests : (start many : ℕ) → List Request
generated_requests start many = requests_behind start 0 many
