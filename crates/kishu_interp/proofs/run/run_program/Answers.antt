use Rattle.std.proofs.Common.{◌≡◌, ◌∙◌, ◌+◌, ◌*◌, ◌-◌, ◌≤◌, ap, arith, length, rules, map, List, ℕ, Option}
use Rattle.std.proofs.lemmas.Result.{IfOk-weaker}
use Rattle.std.specs.String.{string_bytes}
use Rattle.kishu_meaning.specs.declared.result.CellResult.{CellResult}
use Rattle.kishu_meaning.specs.moments.Accesses.{with_accesses}
use Rattle.kishu_meaning.specs.cells.Meaning.{begun, cell, finished}
use Rattle.kishu_meaning.specs.moments.Moment.{Ends, most_steps}
use Rattle.kishu_language.specs.trees.Tree.{program_of, statement_of}
use Rattle.kishu_meaning.specs.values.Values.{Names, report_of}
use Rattle.kishu_names.specs.Namespace.{Namespace}
use Rattle.kishu_names.specs.Record.{texts_of}
use Rattle.kishu_machine.specs.Machine.{Gives, moment_of, shown_of, state_in, state_of}
use Rattle.kishu_interp.proofs.Runs.{cell_gives, charged, charged_most}
use Rattle.kishu_interp.proofs.run.run_program.Goals as goal

pub returns : goal.returns
returns g c =
    let r = c.run_statements-end.result in
    let m2 = c.run_statements-end.new.machine in
    let m3 = c.finish-result.new.machine in
    let m = moment_of m2 in
    let e = cell (program_of c.args.program.now) (begun c.args.profile (state_in c.args.heap.now c.args.names.now)) in
    let gives : Gives shown_of r m e =
    cell_gives c.args.profile c.replace.result c.args.heap.now c.replace-2.result.bound c.args.names.now.bound c.replace-2.result.accessed (string_bytes c.new-3.result) r m (map statement_of c.deref.result.now) (program_of c.args.program.now)
    (ap (map statement_of) c.deref.ensures.value) c.replace.ensures.value
    (ap (λ (n : Namespace). n.bound) c.replace-2.ensures.value ∙ c.take_record-earlier.ensures.bound)
    (ap (λ (n : Namespace). n.accessed) c.replace-2.ensures.value ∙ c.take_record-earlier.ensures.accessed)
    c.new-3.ensures.bytes c.run_statements-end.ensures.gives in
    let kept = c.run_statements-end.ensures.kept in
    let reads = c.run_statements-end.ensures.reads in
    let costs = c.finish-result.ensures.costs in
    let by_end = IfOk-weaker c.finish-result.result in
    record {
      report = by_end (λ (x : CellResult). (f : Ends (Option (List ℕ))) → Gives shown_of r m f → report_of x ≡ (finished f).report) (λ (x : CellResult). report_of x ≡ (finished e).report) (λ x h. h e gives) c.finish-result.ensures.report;
      state =
          by_end (λ (_ : CellResult). (f : Ends (Option (List ℕ))) → Gives shown_of r m f → state_of m3 ≡ (finished f).state) (λ (_ : CellResult). state_in m3.heap c.join_record.new.self ≡ (finished e).state)
          (λ _ h. ap (λ (b : Names). record { names = b; nodes = m3.heap }) c.join_record.ensures.bound ∙ h e gives) c.finish-result.ensures.state;
      accessed =
          by_end (λ (_ : CellResult). (f : Ends (Option (List ℕ))) → Gives shown_of r m f → m3.names.accessed ≡ (finished f).accessed) (λ (_ : CellResult). c.join_record.new.self.accessed ≡ with_accesses (finished e).accessed c.args.names.now.accessed)
          (λ _ h.
          c.in_ok-join_record.ensures.accessed
          ∙ ap (λ (xs : List (List ℕ)). with_accesses xs (texts_of c.take_record-earlier.result.items)) (h e gives)
          ∙ ap (λ (xs : List (List ℕ)). with_accesses (finished e).accessed xs) c.take_record-earlier.ensures.record) c.finish-result.ensures.accessed;
      sound = search rules;
      least =
          by_end (λ (_ : CellResult). (f : Ends (Option (List ℕ))) → Gives shown_of r m f → (finished f).charge ≡ most_steps - m3.budget.left) (λ (_ : CellResult). c.args.steps.now + (finished e).charge ≤ c.finish-result.new.steps)
          (λ _ h. charged m2 m3 (length c.replace.result) c.args.steps.now c.run_statements-end.new.steps c.finish-result.new.steps (finished e).charge kept.0 (omega (arith, kept.1)) kept.2 costs.kept (h e gives)) c.finish-result.ensures.charge;
      most =
          by_end (λ (_ : CellResult). (f : Ends (Option (List ℕ))) → Gives shown_of r m f → (finished f).charge ≡ most_steps - m3.budget.left) (λ (_ : CellResult). c.finish-result.new.steps ≤ c.args.steps.now + 128 * (finished e).charge + 128)
          (λ _ h. charged_most m2 m3 (length c.replace.result) c.args.steps.now c.run_statements-end.new.steps c.finish-result.new.steps (finished e).charge kept.0 (omega (arith, kept.1)) (omega (arith, reads)) costs.kept costs.reads (h e gives)) c.finish-result.ensures.charge;
    }
