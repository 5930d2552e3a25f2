use Rattle.std.proofs.Common.{◌≡◌, ◌<◌, length}
use Rattle.kishu_groups.specs.Classes.{Falls, root, roots}
use Rattle.kishu_groups.proofs.classes.first_above.Given as goal

abbrev pub invariant-up : goal.invariant-up
invariant-up l = record {
  falls : Falls l.parents;
  there : l.at < length l.parents;
  same : root l.parents l.at ≡ root l.fn.parents l.fn.number;
  stay : roots l.parents ≡ roots l.fn.parents;
}

abbrev pub decreases-up : goal.decreases-up
decreases-up l = l.at
