use Rattle.std.proofs.Common.{◌∙◌, ap, sym, arith, true, List, length}
use Rattle.kishu_meaning.specs.values.Values.{value_of, node, Node}
use Rattle.kishu_machine.specs.Machine.{moment_of}
use Rattle.std.specs.Prelude.{option_map, slice_get}
use Rattle.kishu_meaning.specs.moments.Moment.{fine}
use Rattle.kishu_machine.specs.Frames.{locals_of}
use Rattle.kishu_meaning.specs.values.Nodes.{remove_attr}
use Rattle.kishu_meaning.specs.items.Subscripts.{delete_on_node}
use Rattle.kishu_heap.specs.Changing.{length_changed}
use Rattle.kishu_access.proofs.Changing.{run_changed}
use Rattle.kishu_access.proofs.Attributing.{deleted_on, not_deleted_on}
use Rattle.kishu_access.proofs.Ends.{by_end, unnamed, unnamed_sound}
use Rattle.kishu_access.proofs.attributes.delete_on_node.Goals as goal

pub invariant_of-machine : goal.invariant_of-machine
invariant_of-machine g c =
    (let m = c.args.machine.now in
    record { sound = run_changed (remove_attr c.args.name.now) c.args.id.0 m.heap c.remove_attr-gone.new.self m.names.bound (locals_of m.locals) (option_map value_of m.handled) c.remove_attr-gone.ensures.nodes m.sound })

pub returns-then-has_attribute-clause-gives : goal.returns-then-has_attribute-clause-gives
returns-then-has_attribute-clause-gives g c =
    let s = moment_of c.args.machine.now in
    let i = c.args.id.0 in
    deleted_on i c.args.name.now s (slice_get s.nodes i) (sym c.has_attribute.ensures.is ∙ c.if-has_attribute.true) ∙ ap (λ (ns : List Node). fine tt (record s { nodes = ns })) (sym c.remove_attr-gone.ensures.nodes)

pub returns-then-has_attribute-clause-costs : goal.returns-then-has_attribute-clause-costs
returns-then-has_attribute-clause-costs g c =
    let long = ap length c.remove_attr-gone.ensures.nodes ∙ length_changed (remove_attr c.args.name.now) c.args.id.0 c.args.machine.now.heap in
    record { kept = (omega (arith, long), omega (arith, long), omega arith); reads = omega arith }

pub returns-clause-gives : goal.returns-clause-gives
returns-clause-gives g c =
    let s = moment_of c.args.machine.now in
    let i = c.args.id.0 in
    let x = c.args.name.now in
    by_end (λ u. u) c.no_attribute.result s (delete_on_node i x (slice_get s.nodes i) s) _ (not_deleted_on i x s (slice_get s.nodes i) (sym c.has_attribute.ensures.is ∙ c.if-has_attribute.false)) (unnamed s c.no_attribute.result (node i) (λ u. u) x c.no_attribute.ensures.gives)

pub returns-clause-sound : goal.returns-clause-sound
returns-clause-sound g c =
    let n = length c.args.machine.now.heap in
    unnamed_sound (moment_of c.args.machine.now) c.no_attribute.result (node c.args.id.0) (λ _. true) n c.args.name.now c.no_attribute.ensures.gives
