use Rattle.kishu_session.specs.Attached.{IsReady}
use Rattle.kishu_tests.proofs.serve.heaps.lengths.Given as goal

abbrev pub invariant-loop-turn : goal.invariant-loop-turn
invariant-loop-turn g l = IsReady l.session (g.H.Host.state l.host)
