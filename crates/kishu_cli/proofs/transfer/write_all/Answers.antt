use Rattle.std.proofs.Common.{ℕ, ◌-◌, List, ◌∷◌, length, take, drop, arith, ap, subst, ◌∙◌, IfOk, OnErr}
use Rattle.std.proofs.lemmas.List.{take_rest, length-drop}
use Rattle.std.specs.declared.result.Result.{Result}
use Rattle.kishu_host.specs.declared.host.Failed.{Failed}
use Rattle.kishu_cli.specs.Calls.{write_on, begun, given_up}
use Rattle.kishu_cli.proofs.Transfers.{one_longer, on-err, Took, TookNone, taken-fits, write-more, write-failed}
use Rattle.kishu_cli.proofs.transfer.write_all.Goals as goal

pub loop-done-init : goal.loop-done-init
loop-done-init g c = record { bound = omega arith; written = begun; count = omega arith }

pub returns-then-calls-clause-err : goal.returns-then-calls-clause-err
returns-then-calls-clause-err g c = given_up c.loop-done.done _ c.loop-done.invariant.written c.loop-done-test.true (omega (arith, c.loop-done.invariant.count, c.if-calls.true))

pub returns-in_err-done-clause-err : goal.returns-in_err-done-clause-err
returns-in_err-done-clause-err g c =
    let bytes = c.args.bytes.now in let past = g.S.System.history c.loop-done.system in let done = c.loop-done.done in
    let is = c.write_some.ensures.history ∙ ap (λ (bs : List ℕ). (write_on c.args.to done c.write_some.result, bs) ∷ past) (take_rest bytes done) in
    on-err _ (write-failed c.args.to bytes _ past _ done c.write_some.result c.loop-done.invariant.written c.loop-done-test.true is (subst (λ (r : Result ℕ Failed). OnErr r (TookNone c.write_some.result)) c.in_err-done.was c.taken.ensures.err))

pub loop-done-preserved : goal.loop-done-preserved
loop-done-preserved g c =
    let bytes = c.args.bytes.now in let past = g.S.System.history c.loop-done.system in let done = c.loop-done.done in
    let is = c.write_some.ensures.history ∙ ap (λ (bs : List ℕ). (write_on c.args.to done c.write_some.result, bs) ∷ past) (take_rest bytes done) in
    let took = subst (λ (r : Result ℕ Failed). IfOk r (λ n. Took c.write_some.result n)) c.in_ok-done.was c.taken.ensures.ok in
    let most = taken-fits c.write_some.result (length (take (length bytes - done) (drop done bytes))) c.in_ok-done.field-0 c.write_some.ensures.count took in
    record {
      bound = omega (arith, most, c.loop-done-test.true, ap (λ (bs : List ℕ). length bs) (take_rest bytes done), length-drop done bytes);
      written = write-more c.args.to bytes _ past _ done c.write_some.result c.loop-done.invariant.written c.loop-done-test.true is c.in_ok-done.field-0 took;
      count = one_longer _ past _ c.loop-done.calls _ is c.loop-done.invariant.count;
    }
