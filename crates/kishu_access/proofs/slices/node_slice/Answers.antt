use Rattle.std.proofs.Common.{◌≡◌, ◌∙◌, ap, sym, true, false, List, length, map, Some}
use Rattle.kishu_meaning.specs.values.Values.{value_of, Node}
use Rattle.kishu_meaning.specs.moments.Moment.{node_at, fine}
use Rattle.kishu_meaning.specs.values.Sound.{is_sound}
use Rattle.kishu_machine.specs.Machine.{moment_of}
use Rattle.std.proofs.lemmas.Result.{err_from_is_err_and}
use Rattle.kishu_meaning.specs.declared.value.Value as rust
use Rattle.kishu_access.specs.Access.{are_sound_maybe}
use Rattle.std.specs.Prelude.{is_some}
use Rattle.kishu_meaning.specs.calls.Operators.{list_from}
use Rattle.kishu_meaning.specs.items.Subscripts.{node_slice}
use Rattle.kishu_access.specs.Forms.{items_from, maybe_picked}
use Rattle.kishu_access.proofs.Ends.{by_end, passed_on}
use Rattle.kishu_access.proofs.Slicing.{slice_fails, list_sliced, tuple_sliced}
use Rattle.kishu_access.proofs.slices.node_slice.Goals as goal

pub returns-in_err-items-clause-gives : goal.returns-in_err-items-clause-gives
returns-in_err-items-clause-gives g c =
    let v = value_of c.args.value.now in
    let s = moment_of c.args.machine.now in
    let p = err_from_is_err_and c.from_residual.result c.from_residual.ensures.1 in
    rw (p.1, p.2) (slice_fails v (value_of c.args.bounds.now.start.now) (value_of c.args.bounds.now.stop.now) (value_of c.args.bounds.now.step.now) s (moment_of c.items_slice.new.machine) (node_at s.nodes v) c.in_err-items.field-0.0 c.in_err-items.ensures.gives)

pub returns-in_err-items-clause-sound : goal.returns-in_err-items-clause-sound
returns-in_err-items-clause-sound g c =
    let n = length c.items_slice.new.machine.heap in
    let p = err_from_is_err_and c.from_residual.result c.from_residual.ensures.1 in
    rw (p.1, p.2) (passed_on (are_sound_maybe n) (λ (v : rust.Value). is_sound n (value_of v)) n c.in_err-items.field-0.0 c.in_err-items.ensures.sound)

pub returns-then-is_list-clause-gives : goal.returns-then-is_list-clause-gives
returns-then-is_list-clause-gives g c =
    let v = value_of c.args.value.now in
    let s = moment_of c.args.machine.now in
    let t = moment_of c.items_slice.new.machine in
    let o = node_at c.args.machine.now.heap v in
    let given : maybe_picked (items_from o) (value_of c.args.bounds.now.start.now) (value_of c.args.bounds.now.stop.now) (value_of c.args.bounds.now.step.now) s ≡ fine (Some (map value_of c.in-Some.items.items)) t =
    rw c.in-Some.is at c.in_ok-items.ensures.gives in
    let kind : is_some (list_from o) ≡ true =
    ap (λ (ns : List Node). is_some (list_from (node_at ns v))) (sym c.in_ok-items.ensures.heap) ∙ (sym c.is_list.ensures.is ∙ c.if-is_list.true) in
    by_end value_of c.new_list.result (moment_of c.new_list.new.machine) (node_slice v (value_of c.args.bounds.now.start.now) (value_of c.args.bounds.now.stop.now) (value_of c.args.bounds.now.step.now) o s) _
    (list_sliced v (value_of c.args.bounds.now.start.now) (value_of c.args.bounds.now.stop.now) (value_of c.args.bounds.now.step.now) s t o (map value_of c.in-Some.items.items) given kind) c.new_list.ensures.gives

pub returns-else-is_list-clause-gives : goal.returns-else-is_list-clause-gives
returns-else-is_list-clause-gives g c =
    let v = value_of c.args.value.now in
    let s = moment_of c.args.machine.now in
    let t = moment_of c.items_slice.new.machine in
    let o = node_at c.args.machine.now.heap v in
    let given : maybe_picked (items_from o) (value_of c.args.bounds.now.start.now) (value_of c.args.bounds.now.stop.now) (value_of c.args.bounds.now.step.now) s ≡ fine (Some (map value_of c.in-Some.items.items)) t =
    rw c.in-Some.is at c.in_ok-items.ensures.gives in
    let kind : is_some (list_from o) ≡ false =
    ap (λ (ns : List Node). is_some (list_from (node_at ns v))) (sym c.in_ok-items.ensures.heap) ∙ (sym c.is_list.ensures.is ∙ c.if-is_list.false) in
    by_end value_of c.new_tuple.result (moment_of c.new_tuple.new.machine) (node_slice v (value_of c.args.bounds.now.start.now) (value_of c.args.bounds.now.stop.now) (value_of c.args.bounds.now.step.now) o s) _
    (tuple_sliced v (value_of c.args.bounds.now.start.now) (value_of c.args.bounds.now.stop.now) (value_of c.args.bounds.now.step.now) s t o (map value_of c.in-Some.items.items) given kind) c.new_tuple.ensures.gives
