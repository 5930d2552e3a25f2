use Rattle.std.proofs.Common.{◌≡◌, ◌≢◌, sym, subst, arith, length, map}
use Rattle.kishu_meaning.specs.calls.Callees.{call_builtin}
use Rattle.kishu_meaning.specs.values.Values.{value_of}
use Rattle.kishu_builtins.specs.Called.{moment_of, plainly, Gives}
use Rattle.kishu_builtins.proofs.Given.{one_is, not_single}
use Rattle.kishu_builtins.proofs.call.single.Goals as goal

pub returns-then-args-ne1-clause-gives : goal.returns-then-args-ne1-clause-gives
returns-then-args-ne1-clause-gives g c =
    let other : length c.args.args.now ≢ 1 = λ e. absurd (omega arith) in
    c.refused.ensures (map value_of c.args.args.now) (moment_of c.args.heap.now c.args.budget.now) (not_single c.args.args.now other)

pub returns-clause-gives : goal.returns-clause-gives
returns-clause-gives g c =
    let s = moment_of c.args.heap.now c.args.budget.now in
    let t = moment_of c.with_one.new.heap c.with_one.new.budget in
    let one : length c.args.args.now ≡ 1 = omega arith in
    subst (λ vs. Gives value_of c.with_one.result t (call_builtin c.args.which.0 (plainly vs) s)) (sym (one_is c.args.args.now c.index-args-0.result one c.index-args-0.is)) c.with_one.ensures.gives
