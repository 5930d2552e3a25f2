-- The groups and rows of a plan.
use Rattle.std.specs.Prelude.{ℕ, List, map, flat_map}
use Rattle.kishu_store.specs.Groups.{Group}
use Rattle.kishu_store.specs.Tables.{Table}
use Rattle.kishu_graph.specs.Kept.{row_of}
use Rattle.kishu_graph.specs.Tables.{group_of}
use Rattle.kishu_checkout.specs.declared.plans.Plan.{Plan}

abbrev pub groups_kept : Plan → List Group
groups_kept p = map group_of p.keep.items

abbrev pub rows_loaded : Plan → Table
rows_loaded p = map row_of p.load.items

abbrev pub groups_dropped : Plan → List Group
groups_dropped p = map group_of p.drop.items

-- the names of groups
abbrev pub names_of : List Group → List (List ℕ)
names_of gs = flat_map (λ g. g) gs
