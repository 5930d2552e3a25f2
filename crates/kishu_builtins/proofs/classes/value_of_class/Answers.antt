use Rattle.std.proofs.Common.{◌≡◌, sym, subst, arith, map}
use Rattle.kishu_meaning.specs.calls.Callees.{construct}
use Rattle.kishu_meaning.specs.values.Values.{value_of}
use Rattle.kishu_builtins.specs.Called.{moment_of, plainly, Gives}
use Rattle.kishu_builtins.proofs.classes.value_of_class.Goals as goal

pub returns-in-RANGE-clause-gives : goal.returns-in-RANGE-clause-gives
returns-in-RANGE-clause-gives g c =
    let vs = map value_of c.args.args.now in
    let s = moment_of c.args.heap.now c.args.budget.now in
    let number : c.args.class.0 ≡ 4 = omega arith in
    subst (λ n. Gives value_of c.range.result s (construct n (plainly vs) s)) (sym number) (c.range.ensures s)

pub returns-in-SIMPLE_NAMESPACE-clause-gives : goal.returns-in-SIMPLE_NAMESPACE-clause-gives
returns-in-SIMPLE_NAMESPACE-clause-gives g c =
    let vs = map value_of c.args.args.now in
    let b = c.args.budget.now in
    let number : c.args.class.0 ≡ 5 = omega arith in
    subst (λ n. Gives value_of c.namespace.result (moment_of c.namespace.new.heap b) (construct n (plainly vs) (moment_of c.args.heap.now b))) (sym number) (c.namespace.ensures.gives b)
