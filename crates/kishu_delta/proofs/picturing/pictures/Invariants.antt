use Rattle.std.proofs.Common.{◌≡◌, ◌≤◌, ◌+◌, ◌*◌, ◌++◌, map}
use Rattle.std.specs.Prelude.{◌⊎◌}
use Rattle.kishu_objects.specs.Fits.{StateFits}
use Rattle.kishu_objects.specs.Lists.{In}
use Rattle.kishu_objects.specs.Picture.{picture}
use Rattle.kishu_objects.specs.Sizes.{size_among, most_bytes}
use Rattle.kishu_picture.specs.Held.{held}
use Rattle.kishu_store.specs.Groups.{Group}
use Rattle.kishu_delta.specs.Compared.{pictured, with_pictures}
use Rattle.kishu_delta.specs.Deltas.{all_groups}
use Rattle.kishu_delta.specs.Found.{group_of}
use Rattle.kishu_delta.specs.Reaches.{nodes_among}
use Rattle.kishu_delta.proofs.picturing.pictures.Given as goal

abbrev pub invariant-loop-group : goal.invariant-loop-group
invariant-loop-group g l = record {
  told : with_pictures l.pictured.items ++ pictured (held l.heap l.names) (map group_of l.group-iterator.rest.items) ≡ pictured (held l.heap l.names) (all_groups l.fn.groups);
  left : (h : Group) → In h (map group_of l.group-iterator.rest.items) → In h (all_groups l.fn.groups);
  fits : (h : Group) → In h (all_groups l.fn.groups) → In h (map group_of l.group-iterator.rest.items) ⊎ StateFits (picture (held l.heap l.names) h);
  small : size_among (map group_of l.group-iterator.rest.items) (held l.heap l.names) ≤ most_bytes;
  counted : l.fn.steps ≤ l.steps;
  few : l.steps + 2 * nodes_among (held l.heap l.names) (map group_of l.group-iterator.rest.items) ≤ l.fn.steps + 2 * nodes_among (held l.heap l.names) (all_groups l.fn.groups);
}
