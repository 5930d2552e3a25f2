-- How many nodes the items of a run make, by the machine that replays each commit from empty.
use Rattle.std.specs.Prelude.{ℕ, ◌+◌, List, [], ◌∷◌}
use Rattle.kishu_store.specs.Graph.{Graph}
use Rattle.kishu_model.specs.Serve.{Item, answered, silent, closing, after_item}
use Rattle.kishu_live_laws.specs.Made.{made_by}

-- those that an item makes: those of its cells that are run, and of the pictures that are loaded for it
abbrev pub made_by_item : Graph → Item → ℕ
made_by_item g (answered q) = made_by g q
made_by_item g (silent q) = made_by g q
made_by_item g (closing bytes) = 0

-- those that all of these make
abbrev pub made_by_all : Graph → List Item → ℕ
made_by_all g [] = 0
made_by_all g (i ∷ is) = made_by_item g i + made_by_all (after_item g i) is
