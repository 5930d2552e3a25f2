use Rattle.std.proofs.Common.{◌<◌, ◌^◌, arith, length}
use Rattle.kishu_machine.proofs.Sequences.{nothing_often, factor_below}
use Rattle.kishu_machine.proofs.products.many_items.Goals as goal

pub returns-then-is_empty : goal.returns-then-is_empty
returns-then-is_empty c = nothing_often c.new.result.items c.args.part.now c.args.times (grind arith) (grind arith)

pub overflow_cast-times : goal.overflow_cast-times
overflow_cast-times c =
    let some : 0 < length c.args.part.now = grind arith in
    let few : c.args.times < 2 ^ 32 = factor_below (length c.args.part.now) c.args.times (2 ^ 32) some c.requires in
    omega arith
