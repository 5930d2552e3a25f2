use Rattle.std.proofs.Common.{◌≡◌, map, take}
use Rattle.std.specs.Rc.{rc_str_bytes}
use Rattle.kishu_graph.specs.Kept.{texts_of}
use Rattle.kishu_graph.specs.Walks.{group_at, rows_in}
use Rattle.kishu_graph.proofs.telling.groups_at.Given as goal

abbrev pub invariant-loop-first : goal.invariant-loop-first
invariant-loop-first l = map texts_of l.groups.items ≡ map (λ x. group_at x (rows_in l.rows.entries)) (map rc_str_bytes (take l.first-index l.firsts))
