use Rattle.std.proofs.Common.{◌≡◌, [], ◌∷◌, sym, subst, arith}
use Rattle.kishu_meaning.specs.calls.Callees.{call_builtin}
use Rattle.kishu_meaning.specs.values.Values.{value_of}
use Rattle.kishu_builtins.specs.Called.{moment_of, plainly, Gives}
use Rattle.kishu_builtins.proofs.call.with_one.Goals as goal

pub returns-in-ABS-clause-gives : goal.returns-in-ABS-clause-gives
returns-in-ABS-clause-gives g c =
    let s = moment_of c.args.heap.now c.args.budget.now in
    let number : c.args.which.0 ≡ 0 = omega arith in
    subst (λ n. Gives value_of c.abs.result s (call_builtin n (plainly (value_of c.args.value.now ∷ [])) s)) (sym number) (c.abs.ensures s)

pub returns-in-ALL-clause-gives : goal.returns-in-ALL-clause-gives
returns-in-ALL-clause-gives g c =
    let s = moment_of c.args.heap.now c.args.budget.now in
    let number : c.args.which.0 ≡ 1 = omega arith in
    subst (λ n. Gives value_of c.decide.result (moment_of c.decide.new.heap c.decide.new.budget) (call_builtin n (plainly (value_of c.args.value.now ∷ [])) s)) (sym number) (c.decide.ensures.gives)

pub returns-in-ANY-clause-gives : goal.returns-in-ANY-clause-gives
returns-in-ANY-clause-gives g c =
    let s = moment_of c.args.heap.now c.args.budget.now in
    let number : c.args.which.0 ≡ 2 = omega arith in
    subst (λ n. Gives value_of c.decide-in-ANY.result (moment_of c.decide-in-ANY.new.heap c.decide-in-ANY.new.budget) (call_builtin n (plainly (value_of c.args.value.now ∷ [])) s)) (sym number) (c.decide-in-ANY.ensures.gives)

pub returns-in-CHR-clause-gives : goal.returns-in-CHR-clause-gives
returns-in-CHR-clause-gives g c =
    let s = moment_of c.args.heap.now c.args.budget.now in
    let number : c.args.which.0 ≡ 3 = omega arith in
    subst (λ n. Gives value_of c.chr.result s (call_builtin n (plainly (value_of c.args.value.now ∷ [])) s)) (sym number) (c.chr.ensures s)

pub returns-in-LEN-clause-gives : goal.returns-in-LEN-clause-gives
returns-in-LEN-clause-gives g c =
    let s = moment_of c.args.heap.now c.args.budget.now in
    let number : c.args.which.0 ≡ 6 = omega arith in
    subst (λ n. Gives value_of c.length_of.result s (call_builtin n (plainly (value_of c.args.value.now ∷ [])) s)) (sym number) (c.length_of.ensures.gives c.args.budget.now)

pub returns-in-ORD-clause-gives : goal.returns-in-ORD-clause-gives
returns-in-ORD-clause-gives g c =
    let s = moment_of c.args.heap.now c.args.budget.now in
    let number : c.args.which.0 ≡ 9 = omega arith in
    subst (λ n. Gives value_of c.ord.result s (call_builtin n (plainly (value_of c.args.value.now ∷ [])) s)) (sym number) (c.ord.ensures s)

pub returns-in-SORTED-clause-gives : goal.returns-in-SORTED-clause-gives
returns-in-SORTED-clause-gives g c =
    let s = moment_of c.args.heap.now c.args.budget.now in
    let number : c.args.which.0 ≡ 12 = omega arith in
    subst (λ n. Gives value_of c.sorted_items.result (moment_of c.sorted_items.new.heap c.sorted_items.new.budget) (call_builtin n (plainly (value_of c.args.value.now ∷ [])) s)) (sym number) (c.sorted_items.ensures.gives)

pub returns-in-SUM-clause-gives : goal.returns-in-SUM-clause-gives
returns-in-SUM-clause-gives g c =
    let s = moment_of c.args.heap.now c.args.budget.now in
    let number : c.args.which.0 ≡ 13 = omega arith in
    subst (λ n. Gives value_of c.sum_of.result (moment_of c.sum_of.new.heap c.sum_of.new.budget) (call_builtin n (plainly (value_of c.args.value.now ∷ [])) s)) (sym number) (c.sum_of.ensures.gives)
