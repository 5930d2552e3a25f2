-- The words of a command line, and which of them have which form.
use Rattle.std.specs.Prelude.{ℕ, zero, suc, Bool, true, false, not, ◌==◌, ◌||◌, nat_le, if◌then◌else◌, List, [], ◌∷◌, length, map, filter, find, codes, Option, Some, None, option_map, option_and_then}
use Rattle.std.specs.List.{list_all}
use Rattle.std.specs.Str.{bytes_eq}
use Rattle.std.specs.String.{string_bytes}
use Rattle.std.specs.declared.string.String.{String}
use Rattle.std.specs.declared.alloc.Global.{Global}
use Rattle.kishu_store.specs.References.{is_decimal, number_from}
use Rattle.kishu_model.specs.Request.{checkout, branch, log, status, inspect}
use Rattle.kishu_model.specs.Task.{Form, one_cell, session, one_request, notebook, generated}

abbrev pub texts : List (String Global) → List (List ℕ)
texts words = map (λ w. string_bytes w) words

-- ---- what stands on a command line

abbrev pub is_flag : List ℕ → Bool
is_flag word = bytes_eq word (codes "--together")

abbrev pub begins_with_dash : List ℕ → Bool
begins_with_dash [] = false
begins_with_dash (c ∷ cs) = c == 45

-- the word isn't empty and doesn't begin with `-`
abbrev pub is_plain : List ℕ → Bool
is_plain [] = false
is_plain (c ∷ cs) = not (c == 45)

abbrev pub is_word : List ℕ → Bool
is_word word = is_flag word || is_plain word

-- a command line: the store, the command, the words behind it, and whether `--together` stands anywhere
pub record Line : Type 0 where
  pub store : List ℕ
  pub command : List ℕ
  pub args : List (List ℕ)
  pub together : Bool

abbrev pub line_with : (together : Bool) → List (List ℕ) → Option Line
line_with together [] = None
line_with together (store ∷ []) = None
line_with together (store ∷ command ∷ args) = Some (record { store = store; command = command; args = args; together = together })

-- where the flag stands so many times
abbrev pub line_in : (flags : ℕ) → List (List ℕ) → Option Line
line_in zero plain = line_with false plain
line_in (suc zero) plain = line_with true plain
line_in (suc (suc flags)) plain = None

abbrev pub line_of : List (List ℕ) → Option Line
line_of words = if list_all is_word words then line_in (length (filter is_flag words)) (filter (λ w. not (is_flag w)) words) else None

-- the first word that doesn't begin with `-`: the store of each command line
abbrev pub store_word : List (List ℕ) → Option (List ℕ)
store_word = find (λ w. not (begins_with_dash w))

-- ---- the forms

-- a command alone; the flag goes with `run`
abbrev pub alone_form : (together : Bool) → List ℕ → Option Form
alone_form together command =
    if bytes_eq command (codes "run") then Some (notebook together)
    else if together then None
    else if bytes_eq command (codes "session") then Some session
    else if bytes_eq command (codes "cell") then Some one_cell
    else if bytes_eq command (codes "log") then Some (one_request log)
    else if bytes_eq command (codes "status") then Some (one_request status)
    else if bytes_eq command (codes "inspect") then Some (one_request inspect)
    else None

-- with one word behind it, and with two
abbrev pub one_form : List ℕ → List ℕ → Option Form
one_form command first =
    if bytes_eq command (codes "checkout") then Some (one_request (checkout first))
    else if bytes_eq command (codes "branch") then Some (one_request (branch first None))
    else None

-- the number that a word is in decimal digits without leading zeros, up to a largest
abbrev pub number_within : (most : ℕ) → List ℕ → Option ℕ
number_within most word = if is_decimal word then (if nat_le (number_from 0 word) most then Some (number_from 0 word) else None) else None

-- the number from which requests are made, and how many
abbrev pub gen_form : List ℕ → List ℕ → Option Form
gen_form first second = option_and_then (λ start. option_map (generated start) (number_within 100000 second)) (number_within 2147483647 first)

abbrev pub two_form : List ℕ → List ℕ → List ℕ → Option Form
two_form command first second =
    if bytes_eq command (codes "branch") then Some (one_request (branch first (Some second)))
    else if bytes_eq command (codes "gen") then gen_form first second
    else None

abbrev pub form_behind : List ℕ → List (List ℕ) → Option Form
form_behind command [] = alone_form false command
form_behind command (first ∷ []) = one_form command first
form_behind command (first ∷ second ∷ []) = two_form command first second
form_behind command (first ∷ second ∷ third ∷ args) = None

-- with these words behind it, and with the flag or without
abbrev pub form_with : (together : Bool) → List ℕ → List (List ℕ) → Option Form
form_with together command [] = alone_form together command
form_with together command (first ∷ args) = if together then None else form_behind command (first ∷ args)

abbrev pub form_at : Line → Option Form
form_at line = form_with line.together line.command line.args

abbrev pub form_of : List (List ℕ) → Option Form
form_of words = option_and_then form_at (line_of words)
