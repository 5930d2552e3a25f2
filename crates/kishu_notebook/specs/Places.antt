-- What a notebook of the program keeps: at which places among the cells those with code stand. `code_cell_changed` counts code cells, and `item_changed` goes by places.
use Rattle.std.specs.Prelude.{ℕ, zero, suc, if◌then◌else◌, List, [], ◌∷◌}
use Rattle.serde_json.specs.Data.{Data, Items, no_items, item}
use Rattle.kishu_model.specs.notebooks.Cells.{is_code}

-- the first of these cells has the number n
abbrev pub code_places : ℕ → Items → List ℕ
code_places n no_items = []
code_places n (item c cs) = if is_code c then n ∷ code_places (suc n) cs else code_places (suc n) cs

abbrev pub item_changed : ℕ → (Data → Data) → Items → Items
item_changed n f no_items = no_items
item_changed zero f (item d ds) = item (f d) ds
item_changed (suc n) f (item d ds) = item d (item_changed n f ds)
