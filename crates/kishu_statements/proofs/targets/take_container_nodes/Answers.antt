use Rattle.std.proofs.Common.{◌∙◌, arith, subst, sym}
use Rattle.std.proofs.lemmas.Result.{err_from_is_err_and}
use Rattle.kishu_meaning.specs.moments.Moment.{Ends}
use Rattle.kishu_machine.specs.Composing.{grown_on}
use Rattle.kishu_machine.specs.Machine.{Fails, moment_of}
use Rattle.kishu_statements.proofs.Remaining.{nodes_fail, nodes_next}
use Rattle.kishu_statements.proofs.targets.take_container_nodes.Goals as goal

pub returns-in_err-tick-clause-gives : goal.returns-in_err-tick-clause-gives
returns-in_err-tick-clause-gives g c =
    let p = err_from_is_err_and c.from_residual.result c.from_residual.ensures.1 in
    let f = c.in_err-tick.field-0.0 in
    let t = moment_of c.tick.new.machine in
    rw (p.1, p.2) (subst (λ (x : Ends (Unit {0})). Fails f t x) (sym c.loop-place.invariant.told) (nodes_fail c.args.trailers.now c.loop-place._place f (moment_of c.loop-place.machine) t c.loop-place-test.true c.in_err-tick.ensures.gives))

pub loop-place-preserved : goal.loop-place-preserved
loop-place-preserved g c =
    let now = c.loop-place.invariant in
    record {
      told = now.told ∙ nodes_next c.args.trailers.now c.loop-place._place (moment_of c.loop-place.machine) (moment_of c.tick.new.machine) c.loop-place-test.true c.in_ok-tick.ensures.gives;
      kept = grown_on 0 0 c.args.machine.now c.loop-place.machine c.tick.new.machine c.args.steps.now c.loop-place.steps c.tick.new.steps now.kept c.in_ok-tick.ensures.kept;
      counted = omega (arith, now.counted, c.in_ok-tick.ensures.counted);
      heap = c.in_ok-tick.ensures.heap ∙ now.heap;
      taken = omega (arith, c.in_ok-tick.ensures.taken, now.taken);
    }
