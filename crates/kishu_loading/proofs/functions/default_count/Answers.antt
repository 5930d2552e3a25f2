use Rattle.std.proofs.Common.{◌∙◌, arith, rules}
use Rattle.kishu_loading.proofs.Codes.{counted_all, of_parameters}
use Rattle.kishu_loading.proofs.functions.default_count.Goals as goal

pub returns : goal.returns
returns c =
    let items = c.deref-default-items.result.now in
    counted_all c.loop-default.count c.loop-default.default-index items (first_of (omega arith, grind arith, search rules))
    c.loop-default.invariant.told ∙ of_parameters c.args.def.now items c.deref-default-items.ensures.value
