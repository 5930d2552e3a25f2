use Rattle.std.proofs.Common.{◌≡◌, ◌≢◌, ◌∙◌, sym, subst, length, map, eqb-true, false-eqb}
use Rattle.kishu_meaning.specs.calls.Callees.{construct}
use Rattle.kishu_meaning.specs.values.Values.{value_of}
use Rattle.kishu_builtins.specs.Called.{moment_of, plainly, Gives}
use Rattle.kishu_builtins.proofs.Given.{none_are, one_is, several_are}
use Rattle.kishu_builtins.proofs.classes.of_at_most_one.Goals as goal

pub returns-then-is_empty-clause-gives : goal.returns-then-is_empty-clause-gives
returns-then-is_empty-clause-gives g c =
    let b = c.args.budget.now in
    let none : length c.args.args.now ≡ 0 = eqb-true (length c.args.args.now) 0 (sym c.is_empty.ensures ∙ c.if-is_empty.true) in
    subst (λ vs. Gives value_of c.empty.result (moment_of c.empty.new.heap b) (construct c.args.class.0 (plainly vs) (moment_of c.args.heap.now b))) (sym (none_are c.args.args.now none)) (c.empty.ensures.gives b)

pub returns-then-args-eq1-clause-gives : goal.returns-then-args-eq1-clause-gives
returns-then-args-eq1-clause-gives g c =
    let s = moment_of c.args.heap.now c.args.budget.now in
    let t = moment_of c.of_value.new.heap c.of_value.new.budget in
    subst (λ vs. Gives value_of c.of_value.result t (construct c.args.class.0 (plainly vs) s)) (sym (one_is c.args.args.now c.index-args-0.result c.if-args-eq1.true c.index-args-0.is)) c.of_value.ensures.gives

pub returns-clause-gives : goal.returns-clause-gives
returns-clause-gives g c =
    let some : length c.args.args.now ≢ 0 = λ e. false-eqb _ 0 (sym (sym c.is_empty.ensures ∙ c.if-is_empty.false)) e in
    c.refused.ensures (map value_of c.args.args.now) (moment_of c.args.heap.now c.args.budget.now) (several_are c.args.args.now some c.if-args-eq1.false)
