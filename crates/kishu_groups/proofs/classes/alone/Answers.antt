use Rattle.std.proofs.Common.{◌≡◌, ap, ◌∙◌, arith}
use Rattle.kishu_groups.specs.Classes.{table}
use Rattle.kishu_groups.proofs.Roots.{alone_roots}
use Rattle.kishu_groups.proofs.classes.alone.Goals as goal

pub returns-clause-falls : goal.returns-clause-falls
returns-clause-falls c =
    let n : c.loop-number.number ≡ c.args.count = omega arith in
    (alone_roots c.loop-number.parents.items c.args.count (c.loop-number.invariant ∙ ap (table (λ i. i)) n)).0

pub returns-clause-roots : goal.returns-clause-roots
returns-clause-roots c =
    let n : c.loop-number.number ≡ c.args.count = omega arith in
    (alone_roots c.loop-number.parents.items c.args.count (c.loop-number.invariant ∙ ap (table (λ i. i)) n)).1
