use Rattle.std.proofs.Common.{◌∙◌, sym}
use Rattle.std.specs.Cmp.Derive.Mapped.{pointwise-map}
use Rattle.std.specs.Rc.{rc_str_bytes}
use Rattle.std.specs.Str.{bytes_eq}
use Rattle.kishu_graph.proofs.fitting.are_same.Goals as goal

pub returns : goal.returns
returns c = c.eq.ensures ∙ sym (pointwise-map rc_str_bytes bytes_eq c.args.a.now c.args.b.now)
