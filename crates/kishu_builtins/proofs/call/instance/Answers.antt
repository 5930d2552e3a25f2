use Rattle.std.proofs.Common.{◌≡◌, sym, subst, arith, length}
use Rattle.std.specs.Prelude.{codes}
use Rattle.kishu_meaning.specs.calls.Builtins.{of_two, is_instance}
use Rattle.kishu_meaning.specs.values.Values.{value_of}
use Rattle.kishu_builtins.specs.Called.{moment_of, Gives}
use Rattle.kishu_builtins.proofs.Given.{two_are}
use Rattle.kishu_builtins.proofs.call.instance.Goals as goal

pub returns-clause-gives : goal.returns-clause-gives
returns-clause-gives g c = λ b.
    let two : length c.args.args.now ≡ 2 = omega arith in
    let args = two_are c.args.args.now c.index-args-0.result c.index-args-1.result two c.index-args-0.is c.index-args-1.is in
    subst (λ vs. Gives value_of c.is_instance.result (moment_of c.args.heap.now b) (of_two (codes "isinstance") is_instance vs (moment_of c.args.heap.now b))) (sym args) (c.is_instance.ensures.gives b)
