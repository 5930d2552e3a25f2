use Rattle.std.proofs.Common.{◌∙◌, ap, sym, SFits, rules, true, List, length, Option}
use Rattle.std.specs.Prelude.{ℤ}
use Rattle.std.specs.Int.{w128}
use Rattle.std.proofs.lemmas.Int.{to_z-of_z}
use Rattle.kishu_meaning.specs.values.Values.{value_of}
use Rattle.kishu_meaning.specs.moments.Moment.{fine}
use Rattle.kishu_machine.specs.Machine.{moment_of}
use Rattle.std.proofs.lemmas.Result.{err_from_is_err_and}
use Rattle.kishu_access.specs.declared.slices.Places.{Places}
use Rattle.kishu_access.proofs.Ends.{passed_on}
use Rattle.kishu_access.proofs.Slicing.{step_fails, step_refused, start_fails, stop_fails, places_given}
use Rattle.kishu_access.proofs.slices.slice_places.Goals as goal

pub returns-in_err-start-clause-gives : goal.returns-in_err-start-clause-gives
returns-in_err-start-clause-gives g c =
    let s = moment_of c.args.machine.now in
    let p = err_from_is_err_and c.from_residual.result c.from_residual.ensures.1 in
    rw (p.1, p.2) (start_fails c.args.len (value_of c.args.bounds.now.start.now) (value_of c.args.bounds.now.stop.now) (value_of c.args.bounds.now.step.now) s c.in_err-start.field-0.0 c.in_err-start.ensures.gives)

pub returns-in_err-start-clause-sound : goal.returns-in_err-start-clause-sound
returns-in_err-start-clause-sound g c =
    let n = length c.args.machine.now.heap in
    let p = err_from_is_err_and c.from_residual.result c.from_residual.ensures.1 in
    rw (p.1, p.2) (passed_on (λ (x : Option ℤ). true) (λ (x : Places). true) n c.in_err-start.field-0.0 c.in_err-start.ensures.sound)

pub returns-in_err-stop-clause-gives : goal.returns-in_err-stop-clause-gives
returns-in_err-stop-clause-gives g c =
    let s = moment_of c.args.machine.now in
    let p = err_from_is_err_and c.from_residual-in_err-stop.result c.from_residual-in_err-stop.ensures.1 in
    rw (p.1, p.2) (stop_fails c.args.len (value_of c.args.bounds.now.start.now) (value_of c.args.bounds.now.stop.now) (value_of c.args.bounds.now.step.now) s c.in_ok-start.start c.in_ok-start.ensures.gives c.in_err-stop.field-0.0 c.in_err-stop.ensures.gives)

pub returns-in_err-stop-clause-sound : goal.returns-in_err-stop-clause-sound
returns-in_err-stop-clause-sound g c =
    let n = length c.args.machine.now.heap in
    let p = err_from_is_err_and c.from_residual-in_err-stop.result c.from_residual-in_err-stop.ensures.1 in
    rw (p.1, p.2) (passed_on (λ (x : Option ℤ). true) (λ (x : Places). true) n c.in_err-stop.field-0.0 c.in_err-stop.ensures.sound)

pub returns-in_err-asked-clause-gives : goal.returns-in_err-asked-clause-gives
returns-in_err-asked-clause-gives g c =
    let s = moment_of c.args.machine.now in
    let p = err_from_is_err_and c.from_residual-in_err-asked.result c.from_residual-in_err-asked.ensures.1 in
    rw (p.1, p.2) (step_fails c.args.len (value_of c.args.bounds.now.start.now) (value_of c.args.bounds.now.stop.now) (value_of c.args.bounds.now.step.now) s c.in_ok-start.start c.in_ok-start.ensures.gives c.in_ok-stop.stop c.in_ok-stop.ensures.gives c.in_err-asked.field-0.0 c.in_err-asked.ensures.gives)

pub returns-in_err-asked-clause-sound : goal.returns-in_err-asked-clause-sound
returns-in_err-asked-clause-sound g c =
    let n = length c.args.machine.now.heap in
    let p = err_from_is_err_and c.from_residual-in_err-asked.result c.from_residual-in_err-asked.ensures.1 in
    rw (p.1, p.2) (passed_on (λ (x : Option ℤ). true) (λ (x : Places). true) n c.in_err-asked.field-0.0 c.in_err-asked.ensures.sound)

pub returns-in_err-step-clause-gives : goal.returns-in_err-step-clause-gives
returns-in_err-step-clause-gives g c =
    let s = moment_of c.args.machine.now in
    let p = err_from_is_err_and c.from_residual-in_err-step.result c.from_residual-in_err-step.ensures.1 in
    rw (p.1, p.2) (step_refused c.args.len (value_of c.args.bounds.now.start.now) (value_of c.args.bounds.now.stop.now) (value_of c.args.bounds.now.step.now) s c.in_ok-start.start c.in_ok-start.ensures.gives c.in_ok-stop.stop c.in_ok-stop.ensures.gives c.in_ok-asked.asked c.in_err-step.field-0.0 c.in_ok-asked.ensures.gives (c.in_err-step.ensures.gives s))

pub returns-in_err-step-clause-sound : goal.returns-in_err-step-clause-sound
returns-in_err-step-clause-sound g c =
    let n = length c.args.machine.now.heap in
    let p = err_from_is_err_and c.from_residual-in_err-step.result c.from_residual-in_err-step.ensures.1 in
    rw (p.1, p.2) (passed_on (λ (x : ℤ). true) (λ (x : Places). true) n c.in_err-step.field-0.0 (c.in_err-step.ensures.sound n))

pub returns-clause-gives : goal.returns-clause-gives
returns-clause-gives g c =
    let s = moment_of c.args.machine.now in
    let z = c.in_ok-step.step in
    let f : SFits w128 z = search rules in
    let is = rw (to_z-of_z w128 z f) at c.places_between.ensures.is in
    places_given c.args.len (value_of c.args.bounds.now.start.now) (value_of c.args.bounds.now.stop.now) (value_of c.args.bounds.now.step.now) s c.in_ok-start.start c.in_ok-start.ensures.gives c.in_ok-stop.stop c.in_ok-stop.ensures.gives c.in_ok-asked.asked z c.in_ok-asked.ensures.gives (c.in_ok-step.ensures.gives s)
    ∙ ap (λ (zs : List ℤ). fine zs s) (sym is)
