use Rattle.std.proofs.Common.{◌≡◌, sym, subst, arith, map}
use Rattle.kishu_meaning.specs.calls.Callees.{call_builtin}
use Rattle.kishu_meaning.specs.values.Values.{value_of}
use Rattle.kishu_builtins.specs.Called.{moment_of, plainly, Gives}
use Rattle.kishu_builtins.specs.SoundCalls.{builtin_sounds}
use Rattle.kishu_builtins.proofs.Ending.{sound}
use Rattle.kishu_builtins.proofs.call.called.Goals as goal

pub returns-in-DIVMOD-clause-gives : goal.returns-in-DIVMOD-clause-gives
returns-in-DIVMOD-clause-gives g c =
    let vs = map value_of c.args.args.now in
    let b = c.args.budget.now in
    let number : c.args.which.0 ≡ 4 = omega arith in
    subst (λ n. Gives value_of c.quotient_and_remainder.result (moment_of c.quotient_and_remainder.new.heap b) (call_builtin n (plainly vs) (moment_of c.args.heap.now b))) (sym number) (c.quotient_and_remainder.ensures.gives b)

pub returns-in-DIVMOD-clause-sound : goal.returns-in-DIVMOD-clause-sound
returns-in-DIVMOD-clause-sound g c =
    let vs = map value_of c.args.args.now in
    let b = c.args.budget.now in
    let s = moment_of c.args.heap.now b in
    let number : c.args.which.0 ≡ 4 = omega arith in
    let gives = subst (λ n. Gives value_of c.quotient_and_remainder.result (moment_of c.quotient_and_remainder.new.heap b) (call_builtin n (plainly vs) s)) (sym number) (c.quotient_and_remainder.ensures.gives b) in
    sound c.quotient_and_remainder.new.heap b (call_builtin c.args.which.0 (plainly vs) s) c.quotient_and_remainder.result gives
    ((builtin_sounds c.args.which.0 (λ e. absurd (omega arith)) (λ e. absurd (omega arith)) (λ e. absurd (omega arith)) vs).sound s)

pub returns-in-ISINSTANCE-clause-gives : goal.returns-in-ISINSTANCE-clause-gives
returns-in-ISINSTANCE-clause-gives g c =
    let vs = map value_of c.args.args.now in
    let b = c.args.budget.now in
    let s = moment_of c.args.heap.now b in
    let number : c.args.which.0 ≡ 5 = omega arith in
    subst (λ n. Gives value_of c.instance.result s (call_builtin n (plainly vs) s)) (sym number) (c.instance.ensures.gives b)

pub returns-in-ISINSTANCE-clause-sound : goal.returns-in-ISINSTANCE-clause-sound
returns-in-ISINSTANCE-clause-sound g c =
    let vs = map value_of c.args.args.now in
    let b = c.args.budget.now in
    let s = moment_of c.args.heap.now b in
    let number : c.args.which.0 ≡ 5 = omega arith in
    let gives = subst (λ n. Gives value_of c.instance.result s (call_builtin n (plainly vs) s)) (sym number) (c.instance.ensures.gives b) in
    sound c.args.heap.now b (call_builtin c.args.which.0 (plainly vs) s) c.instance.result gives
    ((builtin_sounds c.args.which.0 (λ e. absurd (omega arith)) (λ e. absurd (omega arith)) (λ e. absurd (omega arith)) vs).sound s)

pub returns-in-MAX-clause-gives : goal.returns-in-MAX-clause-gives
returns-in-MAX-clause-gives g c =
    let vs = map value_of c.args.args.now in
    let number : c.args.which.0 ≡ 7 = omega arith in
    subst (λ n. Gives value_of c.best.result (moment_of c.best.new.heap c.best.new.budget) (call_builtin n (plainly vs) (moment_of c.args.heap.now c.args.budget.now))) (sym number) c.best.ensures.gives

pub returns-in-MIN-clause-gives : goal.returns-in-MIN-clause-gives
returns-in-MIN-clause-gives g c =
    let vs = map value_of c.args.args.now in
    let number : c.args.which.0 ≡ 8 = omega arith in
    subst (λ n. Gives value_of c.best-in-MIN.result (moment_of c.best-in-MIN.new.heap c.best-in-MIN.new.budget) (call_builtin n (plainly vs) (moment_of c.args.heap.now c.args.budget.now))) (sym number) c.best-in-MIN.ensures.gives

pub returns-in_default-clause-sound : goal.returns-in_default-clause-sound
returns-in_default-clause-sound g c =
    let vs = map value_of c.args.args.now in
    let s = moment_of c.args.heap.now c.args.budget.now in
    sound c.single.new.heap c.single.new.budget (call_builtin c.args.which.0 (plainly vs) s) c.single.result c.single.ensures.gives
    ((builtin_sounds c.args.which.0 (λ e. absurd (omega arith)) (λ e. absurd (omega arith)) (λ e. absurd (omega arith)) vs).sound s)
