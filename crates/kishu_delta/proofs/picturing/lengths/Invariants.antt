use Rattle.std.proofs.Common.{◌≡◌, ◌≤◌, ◌+◌, ◌*◌, ◌-◌, ◌^◌, drop, map}
use Rattle.kishu_objects.specs.Sizes.{size_among}
use Rattle.kishu_picture.specs.Held.{held}
use Rattle.kishu_picture.specs.Lengths.{capped}
use Rattle.kishu_delta.specs.Found.{group_of}
use Rattle.kishu_delta.specs.Reaches.{nodes_among}
use Rattle.kishu_delta.proofs.picturing.lengths.Given as goal

abbrev pub invariant-loop-group : goal.invariant-loop-group
invariant-loop-group g l = record {
  small : l.total ≤ 2 ^ 64 - 1;
  sum : capped (l.total + size_among (map group_of (drop l.group-index l.groups)) (held l.heap l.names)) ≡ capped (size_among (map group_of l.groups) (held l.heap l.names));
  counted : l.fn.steps ≤ l.steps;
  few : l.steps + 2 * nodes_among (held l.heap l.names) (map group_of (drop l.group-index l.groups)) ≤ l.fn.steps + 2 * nodes_among (held l.heap l.names) (map group_of l.groups);
}
