use Rattle.std.proofs.Common.{◌≡◌, [], ◌∷◌, sym, subst, arith}
use Rattle.kishu_meaning.specs.calls.Callees.{construct}
use Rattle.kishu_meaning.specs.values.Values.{value_of}
use Rattle.kishu_builtins.specs.Called.{moment_of, plainly, Gives}
use Rattle.kishu_builtins.proofs.classes.of_value.Goals as goal

pub returns-in-BOOL-clause-gives : goal.returns-in-BOOL-clause-gives
returns-in-BOOL-clause-gives g c =
    let s = moment_of c.args.heap.now c.args.budget.now in
    let number : c.args.class.0 ≡ 0 = omega arith in
    subst (λ n. Gives value_of c.bool_of.result s (construct n (plainly (value_of c.args.value.now ∷ [])) s)) (sym number) (c.bool_of.ensures.gives c.args.budget.now)

pub returns-in-DICT-clause-gives : goal.returns-in-DICT-clause-gives
returns-in-DICT-clause-gives g c =
    let s = moment_of c.args.heap.now c.args.budget.now in
    let number : c.args.class.0 ≡ 1 = omega arith in
    subst (λ n. Gives value_of c.dict_of.result (moment_of c.dict_of.new.heap c.dict_of.new.budget) (construct n (plainly (value_of c.args.value.now ∷ [])) s)) (sym number) (c.dict_of.ensures.gives)

pub returns-in-INT-clause-gives : goal.returns-in-INT-clause-gives
returns-in-INT-clause-gives g c =
    let s = moment_of c.args.heap.now c.args.budget.now in
    let number : c.args.class.0 ≡ 2 = omega arith in
    subst (λ n. Gives value_of c.number_from.result (moment_of c.args.heap.now c.number_from.new.budget) (construct n (plainly (value_of c.args.value.now ∷ [])) s)) (sym number) (c.number_from.ensures.gives c.args.heap.now)

pub returns-in-LIST-clause-gives : goal.returns-in-LIST-clause-gives
returns-in-LIST-clause-gives g c =
    let s = moment_of c.args.heap.now c.args.budget.now in
    let number : c.args.class.0 ≡ 3 = omega arith in
    subst (λ n. Gives value_of c.list_of.result (moment_of c.list_of.new.heap c.list_of.new.budget) (construct n (plainly (value_of c.args.value.now ∷ [])) s)) (sym number) (c.list_of.ensures.gives)

pub returns-in-TUPLE-clause-gives : goal.returns-in-TUPLE-clause-gives
returns-in-TUPLE-clause-gives g c =
    let s = moment_of c.args.heap.now c.args.budget.now in
    let number : c.args.class.0 ≡ 7 = omega arith in
    subst (λ n. Gives value_of c.tuple_of.result (moment_of c.tuple_of.new.heap c.tuple_of.new.budget) (construct n (plainly (value_of c.args.value.now ∷ [])) s)) (sym number) (c.tuple_of.ensures.gives)
