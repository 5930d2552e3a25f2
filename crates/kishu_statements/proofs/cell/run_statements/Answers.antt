use Rattle.std.proofs.Common.{sym, subst, arith, List, ℕ, Option}
use Rattle.std.proofs.lemmas.Result.{err_from_is_err_and}
use Rattle.kishu_meaning.specs.moments.Moment.{Ends}
use Rattle.kishu_machine.specs.Machine.{Gives, moment_of, shown_of}
use Rattle.kishu_statements.proofs.Cells.{height_before, height_last, fits_both, before_fails, step_fails, last_is}
use Rattle.kishu_statements.proofs.cell.run_statements.Goals as goal

pub run_each-requires-clause-small : goal.run_each-requires-clause-small
run_each-requires-clause-small g c = omega (arith, c.requires.small, height_before c.args.statements.now c.in-Some.before.now c.in-Some.last.now c.in-Some.ensures.cases.0)

pub run_each-requires-clause-fits : goal.run_each-requires-clause-fits
run_each-requires-clause-fits g c = (fits_both c.args.statements.now c.in-Some.before.now c.in-Some.last.now c.in-Some.ensures.cases.0 c.requires.fits).0

pub returns-in_err-run_each-clause-gives : goal.returns-in_err-run_each-clause-gives
returns-in_err-run_each-clause-gives g c =
    let p = err_from_is_err_and c.from_residual.result c.from_residual.ensures.1 in
    rw (p.1, p.2) (before_fails c.args.statements.now c.in-Some.before.now c.in-Some.last.now c.in-Some.ensures.cases.0 (moment_of c.args.machine.now) c.in_err-run_each.field-0.0 (moment_of c.run_each.new.machine) c.in_err-run_each.ensures.gives)

pub returns-in_err-tick-clause-gives : goal.returns-in_err-tick-clause-gives
returns-in_err-tick-clause-gives g c =
    let p = err_from_is_err_and c.from_residual-in_err-tick.result c.from_residual-in_err-tick.ensures.1 in
    rw (p.1, p.2) (step_fails c.args.statements.now c.in-Some.before.now c.in-Some.last.now c.in-Some.ensures.cases.0 (moment_of c.args.machine.now) (moment_of c.run_each.new.machine) c.in_ok-run_each.ensures.gives c.in_err-tick.field-0.0 (moment_of c.tick.new.machine) c.in_err-tick.ensures.gives)

pub run_last_statement-requires-clause-small : goal.run_last_statement-requires-clause-small
run_last_statement-requires-clause-small g c = omega (arith, c.requires.small, height_last c.args.statements.now c.in-Some.before.now c.in-Some.last.now c.in-Some.ensures.cases.0)

pub run_last_statement-requires-clause-fits : goal.run_last_statement-requires-clause-fits
run_last_statement-requires-clause-fits g c = (fits_both c.args.statements.now c.in-Some.before.now c.in-Some.last.now c.in-Some.ensures.cases.0 c.requires.fits).1

pub returns-clause-gives : goal.returns-clause-gives
returns-clause-gives g c =
    let is = last_is c.args.statements.now c.in-Some.before.now c.in-Some.last.now c.in-Some.ensures.cases.0 (moment_of c.args.machine.now) (moment_of c.run_each.new.machine) c.in_ok-run_each.ensures.gives (moment_of c.tick.new.machine) c.in_ok-tick.ensures.gives in
    subst (λ (e : Ends (Option (List ℕ))). Gives shown_of c.run_last_statement.result (moment_of c.run_last_statement.new.machine) e) (sym is) c.run_last_statement.ensures.gives
