use Rattle.std.proofs.Common.{◌≡◌, ◌≤◌, true, map, take}
use Rattle.std.specs.List.{list_all}
use Rattle.kishu_store.specs.Groups.{first_name, is_one_of}
use Rattle.kishu_store.specs.Limits.{most_pictured}
use Rattle.kishu_store.specs.Tables.{Table, groups_in}
use Rattle.kishu_graph.specs.Heads.{Holds, StandApart}
use Rattle.kishu_graph.specs.Kept.{texts_of}
use Rattle.kishu_graph.specs.Leaves.{IsLeft}
use Rattle.kishu_graph.proofs.heads.HeadRows.leave_all.Given as goal

abbrev pub invariant-loop-group : goal.invariant-loop-group
invariant-loop-group l = record {
  room : l.left.room ≤ most_pictured;
  leaves : (t : Table) → StandApart t → Holds l.self t → (list_all (λ d. is_one_of d (groups_in t)) (take l.group-index (map texts_of l.dropped)) ≡ true) × IsLeft l.self (map first_name (take l.group-index (map texts_of l.dropped))) t l.left;
}
