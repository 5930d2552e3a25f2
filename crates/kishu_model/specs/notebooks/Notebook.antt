-- Which bytes are a notebook (nbformat 4.5, "Top-level structure"; serde_json), and which fault others have: the first in the order of `fault_in`.
use Rattle.std.specs.Prelude.{ℕ, suc, Bool, false, not, ◌==◌, if◌then◌else◌, List, [], ◌∷◌, ◌++◌, codes, decimal, is_some, Option, Some, None, option_map, option_and_then, unwrap_or, Result, Ok, Err}
use Rattle.std.specs.Option.{option_or}
use Rattle.std.specs.List.{list_any}
use Rattle.std.specs.Str.{bytes_eq, is_utf8}
use Rattle.serde_json.specs.Data.{Data, Items, no_items, item}
use Rattle.serde_json.specs.Find.{get, as_array}
use Rattle.serde_json.specs.Read.{read}
use Rattle.serde_json.specs.Written.{has_float}
use Rattle.kishu_model.specs.notebooks.Cells.{whole_in, has_object, id_of, is_cell, sources_in}

-- the keys that a notebook has
pub data Key : Type 0 where
  format_key : Key
  minor_key : Key
  metadata_key : Key
  cells_key : Key

-- why bytes are no notebook
pub data Fault : Type 0 where
  not_json : Fault
  -- this key is the first that is missing or has another kind of value; a value that is no object has no key
  not_notebook : Key → Fault
  -- the minor version
  version : (minor : ℕ) → Fault
  -- the first cell that is none, and the first whose id stood in an earlier one; cells are counted from 0
  bad_cell : (index : ℕ) → Fault
  repeated_id : (index : ℕ) → Fault
  -- a number is none of -2^63 to 2^64-1
  not_whole : Fault

abbrev pub format_version : ℕ
format_version = 4

abbrev pub format_minor : ℕ
format_minor = 5

-- ---- the keys

abbrev pub whole_at : List ℕ → Data → Option ℕ
whole_at key d = option_and_then whole_in (get key d)

abbrev pub cells_at : Data → Option Items
cells_at d = option_and_then as_array (get (codes "cells") d)

unfoldable pub has_format : Data → Bool
has_format d = unwrap_or (option_map (λ n. n == format_version) (whole_at (codes "nbformat") d)) false

abbrev pub minor_of : Data → ℕ
minor_of d = unwrap_or (whole_at (codes "nbformat_minor") d) 0

abbrev pub cells_of : Data → Items
cells_of d = unwrap_or (cells_at d) no_items

-- the first key that is missing or of another kind
unfoldable pub missing_key : Data → Option Key
missing_key d =
    if not (has_format d) then Some format_key
    else if not (is_some (whole_at (codes "nbformat_minor") d)) then Some minor_key
    else if not (has_object (codes "metadata") d) then Some metadata_key
    else if not (is_some (cells_at d)) then Some cells_key
    else None

unfoldable pub other_minor : Data → Option ℕ
other_minor d = if minor_of d == format_minor then None else Some (minor_of d)

-- ---- the cells

-- the first value that is no cell; the first of these has the number n
abbrev pub bad_cell_from : ℕ → Items → Option ℕ
bad_cell_from n no_items = None
bad_cell_from n (item c cs) = if is_cell c then bad_cell_from (suc n) cs else Some n

-- the first cell whose id stood in an earlier one, or is among the ids seen
abbrev pub repeated_from : (seen : List (List ℕ)) → ℕ → Items → Option ℕ
repeated_from seen n no_items = None
repeated_from seen n (item c cs) = if list_any (bytes_eq (id_of c)) seen then Some n else repeated_from (id_of c ∷ seen) (suc n) cs

-- ---- the whole

-- serde_json reads a number that isn't whole, or is none of -2^63 to 2^64-1, as a float.
unfoldable pub unwhole : Data → Option Fault
unwhole d = if has_float d then Some not_whole else None

unfoldable pub fault_from : Items → Data → Option Fault
fault_from cells d = option_or (option_map bad_cell (bad_cell_from 0 cells)) (option_or (option_map repeated_id (repeated_from [] 0 cells)) (unwhole d))

unfoldable pub fault_in : Data → Option Fault
fault_in d = option_or (option_map not_notebook (missing_key d)) (option_or (option_map version (other_minor d)) (fault_from (cells_of d) d))

abbrev pub judged : Data → Option Fault → Result Data Fault
judged d None = Ok d
judged d (Some fault) = Err fault

unfoldable pub verdict : Data → Result Data Fault
verdict d = judged d (fault_in d)

abbrev pub verdict_on : Option Data → Result Data Fault
verdict_on None = Err not_json
verdict_on (Some d) = verdict d

-- the notebook that bytes are, or their fault
unfoldable pub opening : List ℕ → Result Data Fault
opening bytes = verdict_on (if is_utf8 bytes then read bytes else None)

-- the texts of its code cells, in order
unfoldable pub sources_of : Data → List (List ℕ)
sources_of d = sources_in (cells_of d)

-- ---- how a fault is told

abbrev pub key_name : Key → List ℕ
key_name format_key = codes "nbformat"
key_name minor_key = codes "nbformat_minor"
key_name metadata_key = codes "metadata"
key_name cells_key = codes "cells"

abbrev pub reason : Fault → List ℕ
reason not_json = codes "not JSON"
reason (not_notebook key) = codes "key " ++ key_name key
reason (version minor) = codes "minor " ++ decimal minor
reason (bad_cell index) = codes "cell " ++ decimal index
reason (repeated_id index) = codes "repeated id at cell " ++ decimal index
reason not_whole = codes "a number is not whole"
