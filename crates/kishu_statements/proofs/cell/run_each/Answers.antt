use Rattle.std.proofs.Common.{◌≡◌, ◌∙◌, ◌+◌, ap, sym, subst, arith, map, max, drop, List}
use Rattle.std.proofs.lemmas.Result.{err_from_is_err_and}
use Rattle.kishu_language.specs.trees.Fits.{StatementsFit}
use Rattle.kishu_language.specs.trees.Height.{of_statement, of_statements}
use Rattle.kishu_meaning.specs.moments.Moment.{Ends}
use Rattle.kishu_language.specs.trees.Tree.{Statement, Statements, statement_of}
use Rattle.kishu_calls.specs.Calls.{flow_of}
use Rattle.kishu_language.specs.trees.Parts.{statements_of}
use Rattle.kishu_machine.specs.Machine.{Fails, moment_of}
use Rattle.kishu_statements.specs.Forms.{each}
use Rattle.kishu_statements.proofs.Cells.{statements_here, list_here, each_fails, each_on, paid}
use Rattle.kishu_statements.proofs.cell.run_each.Goals as goal

pub returns-in_err-run_statement-clause-gives : goal.returns-in_err-run_statement-clause-gives
returns-in_err-run_statement-clause-gives g c =
    let i = c.loop-statement.statement-index in
    let x = c.statement-item.result in
    let rest = map statement_of (drop (i + 1) c.args.statements.now) in
    let p = err_from_is_err_and c.from_residual-in_err-run_statement.result c.from_residual-in_err-run_statement.ensures.1 in
    let f = c.in_err-run_statement.field-0.0 in
    let s = moment_of c.loop-statement.machine in
    let s1 = moment_of c.tick.new.machine in
    let t = moment_of c.run_statement.new.machine in
    let here = list_here c.args.statements.now i x c.loop-statement-test.true c.statement-item.is in
    rw (p.1, p.2) (subst (λ (e : Ends (Unit {0})). Fails f t e) (sym (c.loop-statement.invariant.told ∙ ap (λ (ss : List Statement). each ss s) here))
    (each_fails (statement_of x) rest s s1 c.in_ok-tick.ensures.gives f t c.in_err-run_statement.ensures.gives))

pub loop-statement-preserved : goal.loop-statement-preserved
loop-statement-preserved g c =
    let i = c.loop-statement.statement-index in
    let x = c.statement-item.result in
    let now = c.loop-statement.invariant in
    let rest = map statement_of (drop (i + 1) c.args.statements.now) in
    let tick = c.in_ok-tick.ensures in
    let step = c.in_ok-run_statement.ensures in
    let m = c.loop-statement.machine in
    let m1 = c.tick.new.machine in
    let m2 = c.run_statement.new.machine in
    let here = list_here c.args.statements.now i x c.loop-statement-test.true c.statement-item.is in
    let tree = statements_here c.args.statements.now i x c.loop-statement-test.true c.statement-item.is in
    let k : of_statements (statements_of (drop i c.args.statements.now)) ≡ max (of_statement (statement_of x)) (of_statements (statements_of (drop (i + 1) c.args.statements.now))) = ap of_statements tree in
    record {
      told =
          now.told
          ∙ ap (λ (ss : List Statement). each ss (moment_of m)) here
          ∙ each_on (statement_of x) rest (moment_of m) (moment_of m1) tick.gives (moment_of m2) (flow_of c.in_ok-run_statement.field-0) step.gives;
      height = omega (arith, k, now.height);
      fits = (subst (λ (ss : Statements). StatementsFit ss) tree now.fits).1;
      kept = paid c.args.machine.now m m1 m2 c.args.steps.now c.loop-statement.steps c.tick.new.steps c.run_statement.new.steps now.kept tick.kept tick.taken tick.heap step.kept;
      reads = omega (arith, now.reads, tick.counted, tick.taken, step.reads);
    }
