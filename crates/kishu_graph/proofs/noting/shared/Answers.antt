use Rattle.std.proofs.Common.{◌∙◌, sym}
use Rattle.std.specs.Rc.{rc_str_bytes}
use Rattle.kishu_graph.proofs.Ordered.{tied}
use Rattle.kishu_graph.proofs.noting.shared.Goals as goal

pub returns-in-Some : goal.returns-in-Some
returns-in-Some c = c.in_ok-clone.ensures.cases ∙ sym (tied c.as_str.result.now (rc_str_bytes c.in-Some.kept.now) c.in-Some.ensures.same_key) ∙ c.as_str.ensures.value
