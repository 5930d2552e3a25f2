use Rattle.std.proofs.Common.{rules}
use Rattle.std.specs.Ordering.{nat_cmp}
use Rattle.std.specs.Cmp.Lexicographic.{slice_cmp, nat_list_cmp_total}
use Rattle.kishu_meaning.specs.items.Sorting.{text_key}
use Rattle.kishu_items.specs.Orders.{sorts_by}
use Rattle.kishu_items.proofs.sorting.sort_texts.Goals as goal

pub returns : goal.returns
returns c = sorts_by (slice_cmp nat_cmp) nat_list_cmp_total text_key _ _ c.sort_by.result c.sort_by.ensures.sorted c.sort_by.ensures.stable (λ a r q k. search rules)
