use Rattle.std.proofs.Common.{◌≡◌, [], sym, subst, arith}
use Rattle.kishu_meaning.specs.calls.Callees.{construct}
use Rattle.kishu_meaning.specs.values.Values.{value_of}
use Rattle.kishu_builtins.specs.Called.{moment_of, plainly, Gives}
use Rattle.kishu_builtins.proofs.classes.empty.Goals as goal

pub returns-in-DICT-clause-gives : goal.returns-in-DICT-clause-gives
returns-in-DICT-clause-gives c = λ b.
    let number : c.args.class.0 ≡ 1 = omega arith in
    subst (λ n. Gives value_of c.empty_dict.result (moment_of c.empty_dict.new.heap b) (construct n (plainly []) (moment_of c.args.heap.now b))) (sym number) (c.empty_dict.ensures.gives b)

pub returns-in-LIST-clause-gives : goal.returns-in-LIST-clause-gives
returns-in-LIST-clause-gives c = λ b.
    let number : c.args.class.0 ≡ 3 = omega arith in
    subst (λ n. Gives value_of c.empty_list.result (moment_of c.empty_list.new.heap b) (construct n (plainly []) (moment_of c.args.heap.now b))) (sym number) (c.empty_list.ensures.gives b)

pub returns-in-TUPLE-clause-gives : goal.returns-in-TUPLE-clause-gives
returns-in-TUPLE-clause-gives c = λ b.
    let number : c.args.class.0 ≡ 7 = omega arith in
    subst (λ n. Gives value_of c.empty_tuple.result (moment_of c.empty_tuple.new.heap b) (construct n (plainly []) (moment_of c.args.heap.now b))) (sym number) (c.empty_tuple.ensures.gives b)
