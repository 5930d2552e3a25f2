use Rattle.std.proofs.Common.{◌≡◌, IfOk, rules, subst, ℕ}
use Rattle.kishu_meaning.specs.declared.result.CellResult.{CellResult}
use Rattle.kishu_meaning.specs.cells.Meaning.{run, unread}
use Rattle.kishu_language_laws.specs.trees.ParsedFits.{text_fits}
use Rattle.kishu_language.specs.grammar.Parse.{Line}
use Rattle.kishu_language.specs.trees.Tree.{program_of}
use Rattle.kishu_meaning.specs.values.Values.{report_of}
use Rattle.kishu_machine.specs.Machine.{state_in}
use Rattle.kishu_interp.proofs.Runs.{run_of_tree, run_of_fault, line_of}
use Rattle.kishu_interp.proofs.run.run_cell.Goals as goal

pub run_program-requires-clause-fits : goal.run_program-requires-clause-fits
run_program-requires-clause-fits g c = text_fits c.args.profile c.args.text.now c.utf8.text c.requires.short (program_of c.in-Ok.program) c.in-Ok.ensures.found

pub returns-in-Ok : goal.returns-in-Ok
returns-in-Ok g c =
    let s = state_in c.args.heap.now c.args.names.now in
    let is = run_of_tree c.args.profile c.args.text.now s (program_of c.in-Ok.program) c.in-Ok.ensures.found in
    let ran = c.run_program.ensures in
    record {
      report = rw is ran.report;
      state = rw is ran.state;
      accessed = rw is ran.accessed;
      sound = ran.sound;
      least = rw is ran.least;
      most = rw is ran.most;
    }

pub returns-in-Err-Syntax : goal.returns-in-Err-Syntax
returns-in-Err-Syntax g c =
    let s = state_in c.args.heap.now c.args.names.now in
    let line : Line c.args.profile c.args.text.now c.in-Err-Syntax.line = line_of c.in-Err-Syntax.field-0 c.in-Err-Syntax.line (Line c.args.profile c.args.text.now) c.in-Err-Syntax.field-0-is c.in-Err-Syntax.ensures.line in
    let is = run_of_fault c.args.profile c.args.text.now s c.in-Err-Syntax.line line in
    let report : IfOk c.syntax_fault.result (λ (r : CellResult). report_of r ≡ (run c.args.profile c.args.text.now s).report) =
    rw is (subst (λ (n : ℕ). IfOk c.syntax_fault.result (λ (r : CellResult). report_of r ≡ (unread n s).report)) c.in-Err-Syntax.line-is (c.syntax_fault.ensures s)) in
    record {
      report = report;
      state = rw is (search rules);
      accessed = rw is (search rules);
      sound = search rules;
      least = rw is (search rules);
      most = rw is (search rules);
    }
