use Rattle.std.proofs.Common.{◌≡◌}
use Rattle.kishu_groups.specs.Classes.{table}
use Rattle.kishu_groups.proofs.classes.alone.Given as goal

abbrev pub invariant-loop-number : goal.invariant-loop-number
invariant-loop-number l = l.parents.items ≡ table (λ i. i) l.number
