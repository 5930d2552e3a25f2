use Rattle.std.proofs.Common.{ap, ◌∙◌, arith}
use Rattle.std.specs.Rc.{rc_str_bytes}
use Rattle.kishu_journal.proofs.ByKind.{takes-texts}
use Rattle.kishu_journal.proofs.following.add_with_groups.Goals as goal

pub returns-clause-made : goal.returns-clause-made
returns-clause-made c done =
    takes-texts c.args.graph.now c.add_counted.new.graph c.args.profile c.args.cells.now c.index-cells-0.result _ _ c.requires.some (omega arith)
    (c.as_str-first.ensures.value ∙ ap rc_str_bytes c.index-cells-0.is) (c.add_counted.ensures.made done)
