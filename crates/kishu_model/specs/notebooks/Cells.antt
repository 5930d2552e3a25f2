-- The cells of a notebook (nbformat 4.5, "Cell Types"): which values are cells, which of them have code, and the text that a code cell runs.
use Rattle.std.specs.Prelude.{ℕ, Bool, true, false, not, ◌&&◌, ◌||◌, ◌==◌, nat_le, if◌then◌else◌, List, [], ◌∷◌, ◌++◌, length, codes, Option, is_some, option_map, option_and_then, unwrap_or}
use Rattle.std.specs.List.{list_all}
use Rattle.std.specs.Str.{bytes_eq}
use Rattle.serde_json.specs.Data.{Data, null, boolean, number, string, array, object, Items, no_items, item}
use Rattle.serde_json.specs.Find.{get, as_number, as_str, as_array, as_object, as_u64}
use Rattle.kishu_language.specs.tokens.Names.{is_word_char}
use Rattle.kishu_model.specs.Reading.{text_at}

-- a whole number from 0
abbrev pub whole_in : Data → Option ℕ
whole_in d = option_and_then as_u64 (as_number d)

abbrev pub has_object : List ℕ → Data → Bool
has_object key d = is_some (option_and_then as_object (get key d))

-- ---- the kind

abbrev pub is_code_word : List ℕ → Bool
is_code_word word = bytes_eq word (codes "code")

abbrev pub is_kind_word : List ℕ → Bool
is_kind_word word = bytes_eq word (codes "code") || (bytes_eq word (codes "markdown") || bytes_eq word (codes "raw"))

unfoldable pub is_code : Data → Bool
is_code cell = unwrap_or (option_map is_code_word (text_at (codes "cell_type") cell)) false

unfoldable pub has_kind : Data → Bool
has_kind cell = unwrap_or (option_map is_kind_word (text_at (codes "cell_type") cell)) false

-- ---- the id

-- an ASCII letter, a digit, `_` or `-`
abbrev pub is_id_char : ℕ → Bool
is_id_char c = is_word_char c || (c == 45)

abbrev pub longest_id : ℕ
longest_id = 64

unfoldable pub is_id : List ℕ → Bool
is_id text = nat_le 1 (length text) && (nat_le (length text) longest_id && list_all is_id_char text)

abbrev pub id_of : Data → List ℕ
id_of cell = unwrap_or (text_at (codes "id") cell) []

-- A text that is missing is no id.
abbrev pub has_id : Data → Bool
has_id cell = is_id (id_of cell)

-- ---- the source: a text, or texts that are joined

abbrev pub text_in : Data → List ℕ
text_in d = unwrap_or (as_str d) []

abbrev pub are_texts : Items → Bool
are_texts no_items = true
are_texts (item d ds) = is_some (as_str d) && are_texts ds

abbrev pub joined : Items → List ℕ
joined no_items = []
joined (item d ds) = text_in d ++ joined ds

abbrev pub is_source : Data → Bool
is_source null = false
is_source (boolean b) = false
is_source (number n) = false
is_source (string text) = true
is_source (array texts) = are_texts texts
is_source (object ms) = false

abbrev pub source_in : Data → List ℕ
source_in null = []
source_in (boolean b) = []
source_in (number n) = []
source_in (string text) = text
source_in (array texts) = joined texts
source_in (object ms) = []

unfoldable pub has_source : Data → Bool
has_source cell = unwrap_or (option_map is_source (get (codes "source") cell)) false

unfoldable pub source_of : Data → List ℕ
source_of cell = unwrap_or (option_map source_in (get (codes "source") cell)) []

-- ---- what a code cell has besides: objects that each tell their kind by a text, and null or a whole number from 0

abbrev pub are_outputs : Items → Bool
are_outputs no_items = true
are_outputs (item d ds) = is_some (text_at (codes "output_type") d) && are_outputs ds

unfoldable pub has_outputs : Data → Bool
has_outputs cell = unwrap_or (option_map are_outputs (option_and_then as_array (get (codes "outputs") cell))) false

abbrev pub is_count : Data → Bool
is_count null = true
is_count (boolean b) = false
is_count (number n) = is_some (as_u64 n)
is_count (string text) = false
is_count (array ds) = false
is_count (object ms) = false

unfoldable pub has_count : Data → Bool
has_count cell = unwrap_or (option_map is_count (get (codes "execution_count") cell)) false

unfoldable pub is_cell : Data → Bool
is_cell cell = has_kind cell && (has_id cell && (has_object (codes "metadata") cell && (has_source cell && (not (is_code cell) || (has_outputs cell && has_count cell)))))

-- ---- the code cells among cells

-- their texts, in order
abbrev pub sources_in : Items → List (List ℕ)
sources_in no_items = []
sources_in (item cell cells) = if is_code cell then source_of cell ∷ sources_in cells else sources_in cells
