use Rattle.std.proofs.Common.{◌≡◌, sym, subst, arith, length}
use Rattle.std.specs.Prelude.{codes}
use Rattle.kishu_meaning.specs.calls.Builtins.{of_two, divided_by}
use Rattle.kishu_meaning.specs.values.Values.{value_of}
use Rattle.kishu_builtins.specs.Called.{moment_of, Gives}
use Rattle.kishu_builtins.proofs.Given.{two_are}
use Rattle.kishu_builtins.proofs.call.quotient_and_remainder.Goals as goal

pub returns-clause-gives : goal.returns-clause-gives
returns-clause-gives c = λ b.
    let two : length c.args.args.now ≡ 2 = omega arith in
    let args = two_are c.args.args.now c.index-args-0.result c.index-args-1.result two c.index-args-0.is c.index-args-1.is in
    subst (λ vs. Gives value_of c.divmod.result (moment_of c.divmod.new.heap b) (of_two (codes "divmod") divided_by vs (moment_of c.args.heap.now b))) (sym args) (c.divmod.ensures.gives b)
