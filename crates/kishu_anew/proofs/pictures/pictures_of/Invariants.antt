use Rattle.std.proofs.Common.{◌≤◌}
use Rattle.kishu_loading.specs.Loaded.{held}
use Rattle.kishu_anew.proofs.Taken.{AreTaken}
use Rattle.kishu_anew.proofs.pictures.pictures_of.Given as goal

abbrev pub invariant-loop-group : goal.invariant-loop-group
invariant-loop-group g l = record {
  taken : AreTaken (held l.heap l.names) l.groups l.group-index l.pictures.items;
  counted : l.fn.steps ≤ l.steps;
}
