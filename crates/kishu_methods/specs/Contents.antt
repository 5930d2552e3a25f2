-- What is in the list and in the dict of a number.
use Rattle.std.specs.Prelude.{◌≡◌, ℕ, List, [], Some, slice_get, unwrap_or}
use Rattle.kishu_meaning.specs.values.Keys.{Key}
use Rattle.kishu_meaning.specs.values.Values.{Value, Node, list, dict}
use Rattle.kishu_meaning.specs.values.Nodes.{found, list_in, dict_in}

-- the items, where the node of this number is a list
unfoldable pub items_at : List Node → ℕ → List Value
items_at ns i = unwrap_or (found list_in i ns) []

abbrev pub IsList : List Node → ℕ → Type 0
IsList ns i = slice_get ns i ≡ Some (list (items_at ns i))

-- the entries, where it is a dict
unfoldable pub entries_at : List Node → ℕ → List (Key × Value)
entries_at ns i = unwrap_or (found dict_in i ns) []

abbrev pub IsDict : List Node → ℕ → Type 0
IsDict ns i = slice_get ns i ≡ Some (dict (entries_at ns i))
