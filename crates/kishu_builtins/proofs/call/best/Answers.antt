use Rattle.std.proofs.Common.{◌≡◌, ◌≢◌, ◌∙◌, refl, sym, subst, IsTrue, length, map, eqb-true, false-eqb}
use Rattle.std.specs.Prelude.{nat_lt}
use Rattle.std.specs.List.{list_all}
use Rattle.kishu_meaning.specs.calls.Builtins as builtins
use Rattle.kishu_meaning.specs.values.Kinds.{bad_arguments}
use Rattle.kishu_meaning.specs.values.Values.{value_of}
use Rattle.kishu_builtins.specs.Called.{moment_of, Gives}
use Rattle.kishu_builtins.specs.Extremes.{comparison_of, best_name}
use Rattle.kishu_builtins.proofs.Compares.{plain_name}
use Rattle.kishu_builtins.proofs.Ending.{sound}
use Rattle.kishu_builtins.proofs.Given.{none_are, one_is, several_are, several}
use Rattle.kishu_builtins.proofs.call.best.Goals as goal

pub bad_arguments-requires : goal.bad_arguments-requires
bad_arguments-requires g c = subst (λ t. IsTrue (list_all (λ x. nat_lt x 128) t)) (sym c.name.ensures) (plain_name c.args.which)

pub returns-then-is_empty-clause-gives : goal.returns-then-is_empty-clause-gives
returns-then-is_empty-clause-gives g c =
    let s = moment_of c.args.heap.now c.args.budget.now in
    let none : length c.args.args.now ≡ 0 = eqb-true (length c.args.args.now) 0 (sym c.is_empty.ensures ∙ c.if-is_empty.true) in
    let told = subst (λ t. Gives value_of c.bad_arguments.result s (bad_arguments t s)) c.name.ensures (c.bad_arguments.ensures s) in
    subst (λ vs. Gives value_of c.bad_arguments.result s (builtins.best (best_name c.args.which) (comparison_of c.args.which) vs s)) (sym (none_are c.args.args.now none)) told

pub returns-then-is_empty-clause-sound : goal.returns-then-is_empty-clause-sound
returns-then-is_empty-clause-sound g c =
    let s = moment_of c.args.heap.now c.args.budget.now in
    sound c.args.heap.now c.args.budget.now (bad_arguments c.name.result.now s) c.bad_arguments.result (c.bad_arguments.ensures s) refl

pub returns-then-args-eq1-clause-gives : goal.returns-then-args-eq1-clause-gives
returns-then-args-eq1-clause-gives g c =
    let s = moment_of c.args.heap.now c.args.budget.now in
    let t = moment_of c.best_of_items.new.heap c.best_of_items.new.budget in
    subst (λ vs. Gives value_of c.best_of_items.result t (builtins.best (best_name c.args.which) (comparison_of c.args.which) vs s))
    (sym (one_is c.args.args.now c.index-args-0.result c.if-args-eq1.true c.index-args-0.is)) c.best_of_items.ensures.gives

pub returns-clause-gives : goal.returns-clause-gives
returns-clause-gives g c =
    let s = moment_of c.args.heap.now c.args.budget.now in
    let t = moment_of c.best_of_values.new.heap c.best_of_values.new.budget in
    let some : length c.args.args.now ≢ 0 = λ e. false-eqb _ 0 (sym (sym c.is_empty.ensures ∙ c.if-is_empty.false)) e in
    let more = several (best_name c.args.which) (comparison_of c.args.which) (map value_of c.args.args.now) (several_are c.args.args.now some c.if-args-eq1.false) in
    subst (λ m. Gives value_of c.best_of_values.result t (m s)) (sym more) c.best_of_values.ensures.gives
