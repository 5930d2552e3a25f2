use Rattle.std.proofs.Common.{ℕ, ◌-◌, ◌≤◌, ◌<◌, List, [], ◌∷◌, length, take, drop, arith, ap, ◌∙◌}
use Rattle.std.proofs.lemmas.List.{take_rest, length-drop, length-take-le}
use Rattle.std.proofs.lemmas.Slice.{take-put_mid_below}
use Rattle.std.specs.declared.result.Result.TheVariants.{Ok, Err}
use Rattle.kishu_cli.specs.declared.call.Call.TheVariants.{Read}
use Rattle.kishu_cli.specs.declared.call.Fault.{Fault}
use Rattle.kishu_cli.specs.Calls.{read_on, after, begun, full, given_up}
use Rattle.kishu_cli.proofs.Transfers.{one_longer, read-more, read-again, read-ended, read-failed, take-put_more}
use Rattle.kishu_cli.proofs.transfer.read_all.Goals as goal

pub loop-done-init : goal.loop-done-init
loop-done-init g c = record { bound = omega arith; read = begun; count = omega arith }

pub returns-then-calls-clause-err : goal.returns-then-calls-clause-err
returns-then-calls-clause-err g c =
    let room = c.loop-done.auto.into in let inside : c.loop-done.done ≤ length c.loop-done.into = omega (arith, c.loop-done-test.true) in
    given_up (take c.loop-done.done c.loop-done.into) _ c.loop-done.invariant.read (omega (arith, c.loop-done-test.true, room, length-take-le c.loop-done.done c.loop-done.into inside))
    (omega (arith, c.loop-done.invariant.count, c.if-calls.true))

pub returns-in-Ok-eq0-clause-ok : goal.returns-in-Ok-eq0-clause-ok
returns-in-Ok-eq0-clause-ok g c =
    let into = c.loop-done.into in let done = c.loop-done.done in let at = c.args.at in let room = length c.args.into.now in let past = g.S.System.history c.loop-done.system in
    let left : done < room = omega (arith, c.loop-done-test.true, c.loop-done.auto.into) in
    let inside : done ≤ length into = omega (arith, c.loop-done-test.true) in
    let long = length-take-le done into inside in
    let free = ap (λ (bs : List ℕ). length bs) (take_rest into done) ∙ length-drop done into ∙ ap (λ (n : ℕ). n - done) c.loop-done.auto.into in
    let is = c.in-Ok-eq0.ensures.history ∙ ap (λ (p : ℕ). (Read p (length (take (length into - done) (drop done into))) (Ok c.in-Ok-eq0.field-0), take c.in-Ok-eq0.field-0 c.read.new.into) ∷ past) c.place_after.ensures ∙ ap (λ (r : ℕ). (Read (after at done) r (Ok c.in-Ok-eq0.field-0), take c.in-Ok-eq0.field-0 c.read.new.into) ∷ past) free ∙ ap (λ (n : ℕ). (read_on at room done (Ok n), take n c.read.new.into) ∷ past) c.in-Ok-eq0.field-0-test in
    read-ended at room _ past _ (take done into) done c.loop-done.invariant.read long left _ is (take-put_mid_below done (length into - done) into c.read.new.into done (omega arith) inside)

pub returns-in-Err-Other-clause-err : goal.returns-in-Err-Other-clause-err
returns-in-Err-Other-clause-err g c =
    let into = c.loop-done.into in let done = c.loop-done.done in let at = c.args.at in let room = length c.args.into.now in let past = g.S.System.history c.loop-done.system in
    let left : done < room = omega (arith, c.loop-done-test.true, c.loop-done.auto.into) in
    let inside : done ≤ length into = omega (arith, c.loop-done-test.true) in
    let long = length-take-le done into inside in
    let free = ap (λ (bs : List ℕ). length bs) (take_rest into done) ∙ length-drop done into ∙ ap (λ (n : ℕ). n - done) c.loop-done.auto.into in
    let is = c.in-Err-Other.ensures.history ∙ ap (λ (p : ℕ). (Read p (length (take (length into - done) (drop done into))) (Err c.in-Err-Other.field-0), []) ∷ past) c.place_after.ensures ∙ ap (λ (r : ℕ). (Read (after at done) r (Err c.in-Err-Other.field-0), []) ∷ past) free ∙ ap (λ (e : Fault). (read_on at room done (Err e), []) ∷ past) c.in-Err-Other.field-0-is in
    read-failed at room _ past _ (take done into) done c.loop-done.invariant.read long left is

pub returns-clause-ok : goal.returns-clause-ok
returns-clause-ok g c =
    let room = c.loop-done.auto.into in
    full _ c.loop-done.invariant.read (length-take-le c.loop-done.done c.loop-done.into (omega (arith, c.loop-done.invariant.bound, room)) ∙ omega (arith, c.loop-done-test.false, c.loop-done.invariant.bound, room))

pub loop-done-preserved-in-Ok : goal.loop-done-preserved-in-Ok
loop-done-preserved-in-Ok g c =
    let into = c.loop-done.into in let done = c.loop-done.done in let at = c.args.at in let room = length c.args.into.now in let past = g.S.System.history c.loop-done.system in
    let left : done < room = omega (arith, c.loop-done-test.true, c.loop-done.auto.into) in
    let inside : done ≤ length into = omega (arith, c.loop-done-test.true) in
    let long = length-take-le done into inside in
    let free = ap (λ (bs : List ℕ). length bs) (take_rest into done) ∙ length-drop done into ∙ ap (λ (n : ℕ). n - done) c.loop-done.auto.into in
    let n = c.in-Ok.count in
    let is = c.in-Ok.ensures.history ∙ ap (λ (p : ℕ). (Read p (length (take (length into - done) (drop done into))) (Ok n), take n c.read.new.into) ∷ past) c.place_after.ensures ∙ ap (λ (r : ℕ). (Read (after at done) r (Ok n), take n c.read.new.into) ∷ past) free in
    let fits : n ≤ length c.read.new.into = omega (arith, c.in-Ok.ensures.count, c.read.auto.into) in
    record {
      bound = omega (arith, c.in-Ok.ensures.count, free, left);
      read = read-more at room _ past _ (take done into) done c.loop-done.invariant.read long left (take n c.read.new.into) _ n (length-take-le n c.read.new.into fits) c.in-Ok.count-test.1 is (take-put_more done (length into - done) n into c.read.new.into inside fits);
      count = one_longer _ past _ c.loop-done.calls _ is c.loop-done.invariant.count;
    }

pub loop-done-preserved : goal.loop-done-preserved
loop-done-preserved g c =
    let into = c.loop-done.into in let done = c.loop-done.done in let at = c.args.at in let room = length c.args.into.now in let past = g.S.System.history c.loop-done.system in
    let left : done < room = omega (arith, c.loop-done-test.true, c.loop-done.auto.into) in
    let inside : done ≤ length into = omega (arith, c.loop-done-test.true) in
    let long = length-take-le done into inside in
    let free = ap (λ (bs : List ℕ). length bs) (take_rest into done) ∙ length-drop done into ∙ ap (λ (n : ℕ). n - done) c.loop-done.auto.into in
    let is = c.in-Err-Interrupted.ensures.history ∙ ap (λ (p : ℕ). (Read p (length (take (length into - done) (drop done into))) (Err c.in-Err-Interrupted.field-0), []) ∷ past) c.place_after.ensures ∙ ap (λ (r : ℕ). (Read (after at done) r (Err c.in-Err-Interrupted.field-0), []) ∷ past) free ∙ ap (λ (e : Fault). (read_on at room done (Err e), []) ∷ past) c.in-Err-Interrupted.field-0-is in
    record {
      bound = c.loop-done.invariant.bound;
      read = read-again at room _ past _ (take done into) done c.loop-done.invariant.read long left _ is (take-put_mid_below done (length into - done) into c.read.new.into done (omega arith) inside);
      count = one_longer _ past _ c.loop-done.calls _ is c.loop-done.invariant.count;
    }
