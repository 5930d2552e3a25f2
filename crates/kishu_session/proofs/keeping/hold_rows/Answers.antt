use Rattle.std.proofs.Common.{map}
use Rattle.std.proofs.lemmas.Result.{on_ok_weaker}
use Rattle.kishu_graph.specs.Kept.{row_of}
use Rattle.kishu_session.proofs.PutFacts.{halves-are}
use Rattle.kishu_session.proofs.keeping.hold_rows.Goals as goal

pub returns : goal.returns
returns c =
    on_ok_weaker c.hold_half-2.result
    (λ two picture are. halves-are picture (map row_of c.args.rows.now) c.args.kept.now c.hold_half.new.kept c.hold_half-2.new.kept (c.in_ok-hold_half.ensures picture are) (two picture are))
    c.hold_half-2.ensures
