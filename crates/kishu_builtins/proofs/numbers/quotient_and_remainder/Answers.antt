use Rattle.std.proofs.Common.{[], ◌∷◌, SFits, rules, subst, sym}
use Rattle.std.specs.Prelude.{Err}
use Rattle.std.specs.Int.{w128}
use Rattle.std.proofs.lemmas.Int.{to_z-of_z}
use Rattle.std.proofs.lemmas.Result.{err_from_is_err_and}
use Rattle.kishu_language.specs.declared.tree.Operator.TheVariants as operators
use Rattle.kishu_meaning.specs.moments.Moment.{◌>>=◌}
use Rattle.kishu_meaning.specs.calls.Operators.{operate, new_tuple}
use Rattle.kishu_meaning.specs.values.Values.{Value, value_of, integer}
use Rattle.kishu_items.specs.Failing.{fails_through}
use Rattle.kishu_builtins.specs.Called.{moment_of, Gives}
use Rattle.kishu_builtins.proofs.Wholes.{first_number, both_numbers}
use Rattle.kishu_builtins.proofs.numbers.quotient_and_remainder.Goals as goal

pub returns-in_err-quotient-clause-gives : goal.returns-in_err-quotient-clause-gives
returns-in_err-quotient-clause-gives c = λ b.
    let s = moment_of c.args.heap.now b in
    let x = integer c.args.a in
    let y = integer c.args.b in
    let p = err_from_is_err_and c.from_residual.result c.from_residual.ensures.1 in
    let h = rw (to_z-of_z w128 c.args.a c.ranges.a, to_z-of_z w128 c.args.b c.ranges.b) at (c.in_err-quotient.ensures s) in
    rw (p.1, p.2) (fails_through {A = Value} {B = Value} c.in_err-quotient.field-0.0 s (operate operators.FloorDivide x y s) (λ q. operate operators.Modulo x y >>= λ r. new_tuple (q ∷ (r ∷ []))) h)

pub returns-in_err-remainder-clause-gives : goal.returns-in_err-remainder-clause-gives
returns-in_err-remainder-clause-gives c = λ b.
    let s = moment_of c.args.heap.now b in
    let x = integer c.args.a in
    let y = integer c.args.b in
    let q = integer c.in_ok-quotient.quotient in
    let p = err_from_is_err_and c.from_residual-in_err-remainder.result c.from_residual-in_err-remainder.ensures.1 in
    let g = rw (to_z-of_z w128 c.args.a c.ranges.a, to_z-of_z w128 c.args.b c.ranges.b) at (c.in_ok-quotient.ensures s) in
    let h = rw (to_z-of_z w128 c.args.a c.ranges.a, to_z-of_z w128 c.args.b c.ranges.b) at (c.in_err-remainder.ensures s) in
    let e = first_number c.args.a c.args.b c.in_ok-quotient.quotient s g in
    let t = fails_through {A = Value} {B = Value} c.in_err-remainder.field-0.0 s (operate operators.Modulo x y s) (λ r. new_tuple (q ∷ (r ∷ []))) h in
    rw (p.1, p.2) (subst (λ x. Gives value_of (Err c.in_err-remainder.field-0.0) s x) (sym e) t)

pub returns-clause-gives : goal.returns-clause-gives
returns-clause-gives c = λ b.
    let s = moment_of c.args.heap.now b in
    let quotient : SFits w128 c.in_ok-quotient.quotient = search rules in
    let remainder : SFits w128 c.in_ok-remainder.remainder = search rules in
    let g = rw (to_z-of_z w128 c.args.a c.ranges.a, to_z-of_z w128 c.args.b c.ranges.b) at (c.in_ok-quotient.ensures s) in
    let h = rw (to_z-of_z w128 c.args.a c.ranges.a, to_z-of_z w128 c.args.b c.ranges.b) at (c.in_ok-remainder.ensures s) in
    let m = rw (to_z-of_z w128 c.in_ok-quotient.quotient quotient, to_z-of_z w128 c.in_ok-remainder.remainder remainder) at (c.new_pair.ensures.gives b) in
    let e = both_numbers c.args.a c.args.b c.in_ok-quotient.quotient c.in_ok-remainder.remainder s g h in
    subst (λ x. Gives value_of c.new_pair.result (moment_of c.new_pair.new.heap b) x) (sym e) m
