use Rattle.std.proofs.Common.{◌∙◌, ap, sym, arith, ℕ, true, List, length}
use Rattle.kishu_meaning.specs.values.Values.{value_of, node, Node}
use Rattle.kishu_machine.specs.Machine.{moment_of}
use Rattle.std.specs.Prelude.{option_map, slice_get}
use Rattle.kishu_meaning.specs.moments.Moment.{fine}
use Rattle.kishu_machine.specs.Frames.{locals_of}
use Rattle.std.specs.Rc.{rc_str_bytes}
use Rattle.kishu_meaning.specs.items.Subscripts.{store_on_node}
use Rattle.kishu_meaning.specs.values.Nodes.{changed, set_attr}
use Rattle.kishu_heap.specs.Changing.{length_changed}
use Rattle.kishu_access.proofs.Changing.{run_kept}
use Rattle.kishu_access.proofs.Attributing.{stored_on, not_stored_on}
use Rattle.kishu_access.proofs.Ends.{by_end, unnamed, unnamed_sound}
use Rattle.kishu_access.proofs.attributes.store_on_node.Goals as goal

pub returns-clause-gives : goal.returns-clause-gives
returns-clause-gives g c =
    let s = moment_of c.args.machine.now in
    let i = c.args.id.0 in
    let x = rc_str_bytes c.args.name.now in
    let w = value_of c.args.value in
    let told = rw c.as_str.ensures.value at c.no_attribute.ensures.gives in
    by_end (λ u. u) c.no_attribute.result s (store_on_node i x w (slice_get s.nodes i) s) _ (not_stored_on i x s w (slice_get s.nodes i) (sym c.is_object.ensures.is ∙ c.if-is_object.false)) (unnamed s c.no_attribute.result (node i) (λ u. u) x told)

pub returns-clause-sound : goal.returns-clause-sound
returns-clause-sound g c =
    let n = length c.args.machine.now.heap in
    unnamed_sound (moment_of c.args.machine.now) c.no_attribute.result (node c.args.id.0) (λ _. true) n c.as_str.result.now c.no_attribute.ensures.gives

pub invariant_of-machine-then-is_object : goal.invariant_of-machine-then-is_object
invariant_of-machine-then-is_object g c =
    (let m = c.args.machine.now in
    record { sound = run_kept (set_attr (rc_str_bytes c.in_ok-clone.field-0) (value_of c.args.value)) c.args.id.0 m.heap c.set_attr.new.self m.names.bound (locals_of m.locals) (option_map value_of m.handled) c.set_attr.result c.set_attr.ensures.ok c.set_attr.ensures.err m.sound })

pub returns-then-is_object-clause-gives : goal.returns-then-is_object-clause-gives
returns-then-is_object-clause-gives g c =
    let s = moment_of c.args.machine.now in
    let i = c.args.id.0 in
    let w = value_of c.args.value in
    stored_on i (rc_str_bytes c.args.name.now) s w (slice_get s.nodes i) (sym c.is_object.ensures.is ∙ c.if-is_object.true)
    ∙ ap (λ (ns : List Node). fine tt (record s { nodes = ns })) (sym (c.in_ok-set_attr.ensures.ok ∙ ap (λ (y : List ℕ). changed (set_attr y w) i s.nodes) c.in_ok-clone.ensures.cases))

pub returns-then-is_object-clause-costs : goal.returns-then-is_object-clause-costs
returns-then-is_object-clause-costs g c =
    let long = ap length c.in_ok-set_attr.ensures.ok ∙ length_changed (set_attr (rc_str_bytes c.in_ok-clone.field-0) (value_of c.args.value)) c.args.id.0 c.args.machine.now.heap in
    record { kept = (omega (arith, long), omega (arith, long), omega arith); reads = omega arith }

pub returns-in_err-set_attr-clause-costs : goal.returns-in_err-set_attr-clause-costs
returns-in_err-set_attr-clause-costs g c =
    let long = ap length c.in_err-set_attr.ensures.err in
    record { kept = (omega (arith, long), omega (arith, long), omega arith); reads = omega arith }
