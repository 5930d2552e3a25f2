use Rattle.std.proofs.Common.{◌≡◌, false}
use Rattle.kishu_serve.specs.Asking.{to_come, reads_lines, turns_left, Knows}
use Rattle.kishu_serve.proofs.Chain.{Along}
use Rattle.kishu_serve.proofs.LiveRuns.{ComesHere}
use Rattle.kishu_serve.proofs.running.serve_all.Given as goal

abbrev pub invariant-loop-asked : goal.invariant-loop-asked
invariant-loop-asked g l =
    let host = g.H.Host.state in
    let source = g.S.Source.source in
    record {
      along : Along (host l.fn.host) (host l.host) (source l.fn.source) (source l.source) l.fn.requests l.requests l.fn.session l.session l.fn.steps l.steps;
      live : Knows l.fn.requests (source l.fn.source)
          → ComesHere (host l.fn.host) (host l.host) l.fn.session l.session
          (to_come l.fn.requests (source l.fn.source).left) (to_come l.requests (source l.source).left);
      alone : reads_lines l.fn.requests ≡ false → l.source ≡ l.fn.source;
    }

abbrev pub decreases-loop-asked : goal.decreases-loop-asked
decreases-loop-asked g l = turns_left l.requests
