use Rattle.kishu_gen.specs.Scripts.{left, to_come}
use Rattle.kishu_serve.proofs.MadeRuns.{OnTheWay}
use Rattle.kishu_serve.proofs.making.apply_all.Given as goal

abbrev pub invariant-loop-request : goal.invariant-loop-request
invariant-loop-request g l =
    let st = g.H.Host.state in
    OnTheWay (st l.fn.host) (st l.host) l.fn.session l.session (to_come l.fn.script) (to_come l.script) l.summary l.fn.steps l.steps

abbrev pub decreases-loop-request : goal.decreases-loop-request
decreases-loop-request g l = left l.script
