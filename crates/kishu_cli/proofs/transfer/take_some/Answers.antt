use Rattle.std.proofs.Common.{◌≤◌, ℕ, [], ◌∷◌, length, take, arith, sym, ap, ◌∙◌, subst}
use Rattle.std.proofs.lemmas.List.{length-take-le}
use Rattle.std.specs.declared.result.Result.TheVariants.{Ok, Err}
use Rattle.kishu_cli.specs.declared.call.Call.TheVariants.{Take}
use Rattle.kishu_cli.specs.declared.call.Fault.{Fault}
use Rattle.kishu_cli.specs.Calls.{History, Retried, HasTaken, TakeFailed, begun, again, took, failed, given_up}
use Rattle.kishu_cli.proofs.Transfers.{one_longer}
use Rattle.kishu_cli.proofs.transfer.take_some.Goals as goal

pub loop-init : goal.loop-init
loop-init g c = record { calls = begun; count = omega arith }

pub returns-in-Ok-clause-ok : goal.returns-in-Ok-clause-ok
returns-in-Ok-clause-ok g c =
    let past = g.I.Input.history c.loop.input in let room = length c.args.into.now in
    let n = c.in-Ok.count in let bytes = take n c.take.new.into in
    let fits : n ≤ length c.take.new.into = omega (arith, c.in-Ok.ensures.count, c.take.auto.into) in
    let is = c.in-Ok.ensures.history ∙ ap (λ (r : ℕ). (Take r (Ok n), bytes) ∷ past) c.loop.auto.into ∙ ap (λ (m : ℕ). (Take room (Ok m), bytes) ∷ past) (sym (length-take-le n c.take.new.into fits)) in
    subst (λ (now : History). HasTaken room (g.I.Input.history c.args.input.now) bytes now) (sym is) (took past c.loop.invariant.calls)

pub returns-in-Err-Other-clause-err : goal.returns-in-Err-Other-clause-err
returns-in-Err-Other-clause-err g c =
    let past = g.I.Input.history c.loop.input in let room = length c.args.into.now in
    let is = c.in-Err-Other.ensures.history ∙ ap (λ (r : ℕ). (Take r (Err c.in-Err-Other.field-0), []) ∷ past) c.loop.auto.into ∙ ap (λ (e : Fault). (Take room (Err e), []) ∷ past) c.in-Err-Other.field-0-is in
    subst (λ (now : History). TakeFailed room (g.I.Input.history c.args.input.now) now) (sym is) (failed past c.loop.invariant.calls)

pub loop-preserved : goal.loop-preserved
loop-preserved g c =
    let past = g.I.Input.history c.loop.input in let room = length c.args.into.now in
    let is = c.in-Err-Interrupted.ensures.history ∙ ap (λ (r : ℕ). (Take r (Err c.in-Err-Interrupted.field-0), []) ∷ past) c.loop.auto.into ∙ ap (λ (e : Fault). (Take room (Err e), []) ∷ past) c.in-Err-Interrupted.field-0-is in
    record {
      calls = subst (λ (now : History). Retried room (g.I.Input.history c.args.input.now) now) (sym is) (again past c.loop.invariant.calls);
      count = one_longer _ past _ c.loop.counter _ is c.loop.invariant.count;
    }

pub returns-clause-err : goal.returns-clause-err
returns-clause-err g c = given_up _ c.loop.invariant.calls (omega (arith, c.loop.invariant.count, c.loop-test.false, c.loop.auto.counter-end))
