use Rattle.std.proofs.Common.{rules}
use Rattle.std.specs.Ordering.{int_cmp}
use Rattle.std.specs.Cmp.{int_cmp_total}
use Rattle.kishu_meaning.specs.items.Sorting.{number_key}
use Rattle.kishu_items.specs.Orders.{sorts_by}
use Rattle.kishu_items.proofs.sorting.sort_numbers.Goals as goal

pub returns : goal.returns
returns c = sorts_by int_cmp int_cmp_total number_key _ _ c.sort_by.result c.sort_by.ensures.sorted c.sort_by.ensures.stable (λ a r q k. search rules)
