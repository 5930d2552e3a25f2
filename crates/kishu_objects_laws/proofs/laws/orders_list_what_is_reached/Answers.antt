use Rattle.std.proofs.Common.{sym}
use Rattle.kishu_objects.specs.Picture.{order}
use Rattle.kishu_objects_laws.specs.ListLaws.{contains_in, in_contains}
use Rattle.kishu_objects_laws.specs.OrderLaws.{order_reached, reached_order, order_distinct, order_end}
use Rattle.kishu_objects_laws.proofs.laws.orders_list_what_is_reached.Goals as goal

pub returns-clause-reached : goal.returns-clause-reached
returns-clause-reached c = λ s names a i. (
  λ h. let r = order_reached s names i (contains_in (order s names) i h) in (r.0, in_contains names r.0 r.1, r.2),
  λ r. in_contains (order s names) i (reached_order s a names r.0 (contains_in names r.0 r.1) r.2.0 i r.2.1),
)

pub returns-clause-once : goal.returns-clause-once
returns-clause-once c = order_distinct

pub returns-clause-met : goal.returns-clause-met
returns-clause-met c = λ s names a. sym (order_end s a names)
