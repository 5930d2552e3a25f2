use Rattle.std.proofs.Common.{◌≡◌, ◌+◌, ◌≤◌, map, drop}
use Rattle.kishu_language.specs.trees.Tree.{parameter_of}
use Rattle.kishu_meaning.specs.values.Sound.{with_default}
use Rattle.kishu_loading.proofs.functions.default_count.Given as goal

abbrev pub invariant-loop-default : goal.invariant-loop-default
invariant-loop-default l = record {
  low : l.count ≤ l.default-index;
  told : l.count + with_default (map parameter_of (drop l.default-index l.default-items)) ≡ with_default (map parameter_of l.default-items);
}
