use Rattle.std.proofs.Common.{◌≢◌, ◌∙◌, sym, subst, length, false-eqb}
use Rattle.kishu_meaning.specs.values.Values.{value_of}
use Rattle.kishu_builtins.specs.Called.{moment_of, Gives}
use Rattle.kishu_builtins.proofs.Given.{no_object}
use Rattle.kishu_builtins.proofs.classes.namespace.Goals as goal

pub returns-clause-gives : goal.returns-clause-gives
returns-clause-gives c = λ b.
    let s = moment_of c.args.heap.now b in
    let some : length c.args.args.now ≢ 0 = λ e. false-eqb _ 0 (sym (sym c.is_empty.ensures ∙ c.if-is_empty.false)) e in
    subst (λ m. Gives value_of c.bad_arguments.result s (m s)) (sym (no_object c.args.args.now some)) (c.bad_arguments.ensures s)
