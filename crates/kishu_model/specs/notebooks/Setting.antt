-- What a run sets in a notebook (nbformat 4.5, "Code cell outputs"), and the bytes of a notebook. All else stays as it was.
use Rattle.std.specs.Prelude.{ℕ, ◌-◌, ◌==◌, if◌then◌else◌, List, [], ◌∷◌, ◌++◌, map, codes}
use Rattle.std.specs.Str.{bytes_eq}
use Rattle.json.specs.Layout.{pretty}
use Rattle.json.specs.Tree.{json_tokens}
use Rattle.serde_json.specs.Data.{Data, null, boolean, number, string, array, object, Items, no_items, item, Members, no_members, member, unsigned}
use Rattle.serde_json.specs.View.{items_of}
use Rattle.serde_json.specs.Written.{outline}
use Rattle.kishu_language.specs.tokens.Lines.{line_feed}
use Rattle.kishu_meaning.specs.values.Values.{Output, fault, Report}
use Rattle.kishu_model.specs.Answers.{output_data}
use Rattle.kishu_model.specs.notebooks.Cells.{is_code}

-- ---- one change in a value

-- the members, with the value at a key changed
abbrev pub members_changed : List ℕ → (Data → Data) → Members → Members
members_changed key f no_members = no_members
members_changed key f (member k d ms) = if bytes_eq key k then member k (f d) ms else member k d (members_changed key f ms)

abbrev pub changed_at : List ℕ → (Data → Data) → Data → Data
changed_at key f null = null
changed_at key f (boolean b) = boolean b
changed_at key f (number n) = number n
changed_at key f (string text) = string text
changed_at key f (array ds) = array ds
changed_at key f (object ms) = object (members_changed key f ms)

-- the cells, with one code cell changed; code cells are counted from 0
abbrev pub code_cell_changed : ℕ → (Data → Data) → Items → Items
code_cell_changed n f no_items = no_items
code_cell_changed n f (item c cs) =
    if is_code c then (if n == 0 then item (f c) cs else item c (code_cell_changed (n - 1) f cs))
    else item c (code_cell_changed n f cs)

abbrev pub in_cells : (Items → Items) → Data → Data
in_cells f null = null
in_cells f (boolean b) = boolean b
in_cells f (number n) = number n
in_cells f (string text) = string text
in_cells f (array ds) = array (f ds)
in_cells f (object ms) = object ms

-- ---- what is set in a code cell

-- these outputs, and this count
abbrev pub with_run : (outputs count : Data) → Data → Data
with_run outputs count cell = changed_at (codes "execution_count") (λ _. count) (changed_at (codes "outputs") (λ _. outputs) cell)

unfoldable pub with_run_at : ℕ → (outputs count : Data) → Data → Data
with_run_at at outputs count d = changed_at (codes "cells") (in_cells (code_cell_changed at (with_run outputs count))) d

abbrev pub outputs_data : ℕ → List Output → Data
outputs_data count outputs = array (items_of (map (output_data count) outputs))

-- The notebook, with what the run of a code cell showed and the cell's number on its commit's path.
abbrev pub with_result : (at count : ℕ) → Report → Data → Data
with_result at count report d = with_run_at at (outputs_data count report.outputs) (number (unsigned count)) d

-- The notebook, with the reason why a code cell was refused, as an error without a text. No count stands in that output, nor in the cell.
abbrev pub with_refused : (at : ℕ) → (reason : List ℕ) → Data → Data
with_refused at reason d = with_run_at at (outputs_data 0 (fault reason [] ∷ [])) null d

-- ---- the bytes

-- serde_json's pretty text of a value that has no float
abbrev pub pretty_text : Data → List ℕ
pretty_text d = pretty (json_tokens (outline d))

abbrev pub written : Data → List ℕ
written d = pretty_text d ++ line_feed ∷ []
