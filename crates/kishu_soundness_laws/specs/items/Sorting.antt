-- Sorting keeps node numbers below a bound.
use Rattle.std.specs.Prelude.{ℕ, List, Some, None, if◌then◌else◌}
use Rattle.std.specs.Cmp.Lexicographic.{slice_cmp}
use Rattle.std.specs.List.{list_all}
use Rattle.std.specs.Ordering.{int_cmp, nat_cmp}
use Rattle.kishu_meaning.specs.items.Sorting.{in_order, is_number, sorted_by, number_key, is_text, text_key}
use Rattle.kishu_meaning.specs.values.Values.{Value}
use Rattle.kishu_soundness_laws.specs.Below.{AllBelow, Maybe, Below}
use Rattle.kishu_soundness_laws.specs.values.Lists.{maybe_if, each_sorted}

pub order_below : (k : ℕ) (vs : List Value) → AllBelow k vs → Maybe (AllBelow k) (in_order vs)
order_below k vs h = maybe_if (AllBelow k) (list_all is_number vs) (Some (sorted_by int_cmp number_key vs)) (if list_all is_text vs then Some (sorted_by (slice_cmp nat_cmp) text_key vs) else None) (each_sorted (Below k) _ vs h)
    (maybe_if (AllBelow k) (list_all is_text vs) (Some (sorted_by (slice_cmp nat_cmp) text_key vs)) None (each_sorted (Below k) _ vs h) tt)
