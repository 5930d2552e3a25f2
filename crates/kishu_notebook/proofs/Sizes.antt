-- A notebook that was read has at most as many cells as its text has bytes, and the texts of its code cells are no larger than its text.
use Rattle.std.proofs.Common.{◌≡◌, ℕ, suc, ◌+◌, ◌≤◌, ◌<◌, ◌^◌, Bool, true, false, cond, List, [], ◌∷◌, length, Option, Some, None, option_map, option_and_then, unwrap_or, codes, refl, arith}
use Rattle.std.proofs.lemmas.Bool.{false≢true}
use Rattle.std.proofs.lemmas.List.{length-append}
use Rattle.serde_json.specs.Data.{Data, null, boolean, number, string, array, object, Items, no_items, item}
use Rattle.serde_json.specs.Events.{items_len}
use Rattle.serde_json.specs.Find.{get_member, as_str, as_array}
use Rattle.serde_json.specs.Read.{read}
use Rattle.kishu_json_laws.specs.ValueSizes.{size, items_size, members_size, AtMost, keyed, read_size, some_size, items_len-size, found_size}
use Rattle.kishu_model.specs.requests.Cells.{texts_size, largest_texts}
use Rattle.kishu_model.specs.notebooks.Cells.{is_code_word, is_code, text_in, joined, source_in, source_of, sources_in}
use Rattle.kishu_model.specs.notebooks.Notebook.{cells_of, sources_of}

-- ---- the cells

list_size : (o : Option Data) (n : ℕ) → AtMost keyed n o → items_size (unwrap_or (option_and_then as_array o) no_items) ≤ n
list_size None n h = omega arith
list_size (Some null) n h = omega arith
list_size (Some (boolean b)) n h = omega arith
list_size (Some (number x)) n h = omega arith
list_size (Some (string s)) n h = omega arith
list_size (Some (array ds)) n h = omega arith
list_size (Some (object ms)) n h = omega arith

cells_size : (d : Data) → items_size (cells_of d) ≤ size d
cells_size null = omega arith
cells_size (boolean b) = omega arith
cells_size (number n) = omega arith
cells_size (string s) = omega arith
cells_size (array ds) = omega arith
cells_size (object ms) = omega (arith, list_size (get_member (codes "cells") ms) (members_size ms) (found_size (codes "cells") ms))

pub cells_within : (text : List ℕ) (d : Data) → read text ≡ Some d → items_len (cells_of d) ≤ length text
cells_within text d is = omega (arith, items_len-size (cells_of d), cells_size d, read_size text d is)

-- ---- a cell's text

text_size : (d : Data) → length (text_in d) ≤ size d
text_size null = omega arith
text_size (boolean b) = omega arith
text_size (number n) = omega arith
text_size (string s) = omega arith
text_size (array ds) = omega arith
text_size (object ms) = omega arith

joined_size : (ds : Items) → length (joined ds) ≤ items_size ds
joined_size no_items = omega arith
joined_size (item d ds) = omega (arith, length-append (text_in d) (joined ds), text_size d, joined_size ds)

source_size : (d : Data) → suc (length (source_in d)) ≤ size d
source_size null = omega arith
source_size (boolean b) = omega arith
source_size (number n) = omega arith
source_size (string s) = omega arith
source_size (array ds) = omega (arith, joined_size ds)
source_size (object ms) = omega arith

-- a key stands before it
source_at : (o : Option Data) (n : ℕ) → 3 ≤ n → AtMost keyed n o → 3 + length (unwrap_or (option_map source_in o) []) ≤ n
source_at None n some h = omega arith
source_at (Some d) n some h = omega (arith, source_size d)

-- the kind stands in it, too
kind_at : (o : Option Data) (n : ℕ) → AtMost keyed n o → unwrap_or (option_map is_code_word (option_and_then as_str o)) false ≡ true → 3 ≤ n
kind_at None n h is = absurd (false≢true is)
kind_at (Some d) n h is = omega (arith, some_size d)

code_size : (cell : Data) → is_code cell ≡ true → 4 + length (source_of cell) ≤ size cell
unfolding is_code source_of
code_size null is = absurd (false≢true is)
code_size (boolean b) is = absurd (false≢true is)
code_size (number n) is = absurd (false≢true is)
code_size (string s) is = absurd (false≢true is)
code_size (array ds) is = absurd (false≢true is)
code_size (object ms) is =
    let some = kind_at (get_member (codes "cell_type") ms) (members_size ms) (found_size (codes "cell_type") ms) is in
    omega (arith, source_at (get_member (codes "source") ms) (members_size ms) some (found_size (codes "source") ms))

-- ---- the texts of all code cells

sources_at : (b : Bool) (c : Data) (ss : List (List ℕ)) (n : ℕ) → is_code c ≡ b → texts_size ss ≤ n → texts_size (cond b (source_of c ∷ ss) ss) ≤ size c + n
sources_at true c ss n is rest = omega (arith, code_size c is, rest)
sources_at false c ss n is rest = omega (arith, rest)

sources_size : (cs : Items) → texts_size (sources_in cs) ≤ items_size cs
sources_size no_items = omega arith
sources_size (item c cs) = sources_at (is_code c) c (sources_in cs) (items_size cs) refl (sources_size cs)

pub sources_within : (text : List ℕ) (d : Data) → read text ≡ Some d → length text < 2 ^ 26 → texts_size (sources_of d) ≤ largest_texts
unfolding sources_of
sources_within text d is short = omega (arith, sources_size (cells_of d), cells_size d, read_size text d is, short)
