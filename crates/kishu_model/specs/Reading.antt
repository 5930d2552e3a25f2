-- Which line is which request: a JSON value (RFC 8259) as serde_json reads it. Of a repeated key it keeps the last value, and it reads no value that nests deeper than 127.
use Rattle.std.specs.Prelude.{◌≡◌, ℕ, ◌==◌, Bool, true, false, if◌then◌else◌, List, [], ◌∷◌, map, codes, Option, Some, None, option_map, option_and_then, unwrap_or}
use Rattle.std.specs.Str.{bytes_eq, is_utf8}
use Rattle.serde_json.specs.Data.{Data, string, array, object, Items, no_items, item, no_members, member}
use Rattle.serde_json.specs.Events.{members_len}
use Rattle.serde_json.specs.Find.{get, as_str, as_array, as_object}
use Rattle.serde_json.specs.Read.{read}
use Rattle.serde_json.specs.View.{items_of}
use Rattle.kishu_model.specs.Request.{Request, cell, cells, checkout, branch, log, status, inspect, stored, plan}

-- A request's value is an object with these keys and no others. Their order in the line is free; here they stand in byte order.
pub data Tells : Data → Request → Type 0 where
  tells_cell : (text : List ℕ) → Tells (object (member (codes "op") (string (codes "cell")) (member (codes "text") (string text) no_members))) (cell text)
  tells_cells : (text : List ℕ) → (texts : List (List ℕ)) → Tells (object (member (codes "op") (string (codes "cells")) (member (codes "texts") (array (items_of (map string (text ∷ texts)))) no_members))) (cells (text ∷ texts))
  tells_checkout : (to : List ℕ) → Tells (object (member (codes "op") (string (codes "checkout")) (member (codes "to") (string to) no_members))) (checkout to)
  tells_branch : (name : List ℕ) → Tells (object (member (codes "name") (string name) (member (codes "op") (string (codes "branch")) no_members))) (branch name None)
  tells_branch_at : (name at : List ℕ) → Tells (object (member (codes "at") (string at) (member (codes "name") (string name) (member (codes "op") (string (codes "branch")) no_members)))) (branch name (Some at))
  tells_log : Tells (object (member (codes "op") (string (codes "log")) no_members)) log
  tells_status : Tells (object (member (codes "op") (string (codes "status")) no_members)) status
  tells_inspect : Tells (object (member (codes "op") (string (codes "inspect")) no_members)) inspect
  tells_stored : (of : List ℕ) → Tells (object (member (codes "of") (string of) (member (codes "op") (string (codes "stored")) no_members))) (stored of)
  tells_plan : (to : List ℕ) → Tells (object (member (codes "op") (string (codes "plan")) (member (codes "to") (string to) no_members))) (plan to)

-- The line is UTF-8, and its value tells the request.
pub record Reads (line : List ℕ) (q : Request) : Type 0 where
  pub utf8 : is_utf8 line ≡ true
  pub data_read : Data
  pub is_read : read line ≡ Some data_read
  pub tells : Tells data_read q

-- The same, worked out from the line. `read_request` of kishu_lines has the proof that the two agree.
abbrev pub has_members : ℕ → Data → Bool
has_members n d = unwrap_or (option_map (λ ms. members_len ms == n) (as_object d)) false

abbrev pub text_at : List ℕ → Data → Option (List ℕ)
text_at key d = option_and_then as_str (get key d)

abbrev pub cell_in : Data → Option Request
cell_in d = if has_members 2 d then option_map cell (text_at (codes "text") d) else None

-- the texts of a list that has nothing else
abbrev pub texts_in : Items → Option (List (List ℕ))
texts_in no_items = Some []
texts_in (item d ds) = option_and_then (λ text. option_map (λ texts. text ∷ texts) (texts_in ds)) (as_str d)

abbrev pub texts_at : List ℕ → Data → Option (List (List ℕ))
texts_at key d = option_and_then texts_in (option_and_then as_array (get key d))

-- One text at least makes a request.
abbrev pub cells_of_texts : List (List ℕ) → Option Request
cells_of_texts [] = None
cells_of_texts (text ∷ texts) = Some (cells (text ∷ texts))

abbrev pub cells_in : Data → Option Request
cells_in d = if has_members 2 d then option_and_then cells_of_texts (texts_at (codes "texts") d) else None

abbrev pub checkout_in : Data → Option Request
checkout_in d = if has_members 2 d then option_map checkout (text_at (codes "to") d) else None

abbrev pub stored_in : Data → Option Request
stored_in d = if has_members 2 d then option_map stored (text_at (codes "of") d) else None

abbrev pub plan_in : Data → Option Request
plan_in d = if has_members 2 d then option_map plan (text_at (codes "to") d) else None

abbrev pub branch_at_in : List ℕ → Data → Option Request
branch_at_in name d = if has_members 3 d then option_map (λ at. branch name (Some at)) (text_at (codes "at") d) else None

abbrev pub branch_named_in : List ℕ → Data → Option Request
branch_named_in name d = if has_members 2 d then Some (branch name None) else branch_at_in name d

abbrev pub branch_in : Data → Option Request
branch_in d = option_and_then (λ name. branch_named_in name d) (text_at (codes "name") d)

abbrev pub alone_in : Request → Data → Option Request
alone_in q d = if has_members 1 d then Some q else None

abbrev pub asked_in : List ℕ → Data → Option Request
asked_in op d =
    if bytes_eq op (codes "cell") then cell_in d
    else if bytes_eq op (codes "cells") then cells_in d
    else if bytes_eq op (codes "checkout") then checkout_in d
    else if bytes_eq op (codes "branch") then branch_in d
    else if bytes_eq op (codes "log") then alone_in log d
    else if bytes_eq op (codes "status") then alone_in status d
    else if bytes_eq op (codes "inspect") then alone_in inspect d
    else if bytes_eq op (codes "stored") then stored_in d
    else if bytes_eq op (codes "plan") then plan_in d
    else None

unfoldable pub request_in : Data → Option Request
request_in d = option_and_then (λ op. asked_in op d) (text_at (codes "op") d)

unfoldable pub reading : List ℕ → Option Request
reading line = if is_utf8 line then option_and_then request_in (read line) else None
