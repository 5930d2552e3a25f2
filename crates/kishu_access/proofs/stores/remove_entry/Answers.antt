use Rattle.std.proofs.Common.{◌∙◌, refl, ap, sym, arith, true, List, length}
use Rattle.kishu_meaning.specs.values.Values.{value_of, Node}
use Rattle.kishu_machine.specs.Machine.{moment_of}
use Rattle.std.specs.Prelude.{option_map, slice_get}
use Rattle.kishu_meaning.specs.moments.Moment.{fine}
use Rattle.kishu_machine.specs.Frames.{locals_of}
use Rattle.std.specs.Prelude.{option_and_then}
use Rattle.kishu_meaning.specs.values.Keys.{key_of}
use Rattle.kishu_meaning.specs.values.Kinds.{no_key}
use Rattle.kishu_meaning.specs.moments.Moment.{change}
use Rattle.kishu_meaning.specs.values.Nodes.{remove, value_under}
use Rattle.kishu_meaning.specs.items.Subscripts.{where_found}
use Rattle.kishu_meaning.specs.values.Classes.{key_error_class}
use Rattle.kishu_machine.specs.Raising.{raises_with, sound_with}
use Rattle.kishu_heap.specs.Changing.{length_changed}
use Rattle.kishu_access.proofs.Changing.{run_changed}
use Rattle.kishu_access.proofs.Storing.{found_there, found_nowhere}
use Rattle.kishu_access.proofs.Ends.{by_end}
use Rattle.kishu_access.proofs.stores.remove_entry.Goals as goal

pub invariant_of-machine : goal.invariant_of-machine
invariant_of-machine g c =
    (let m = c.args.machine.now in
    record { sound = run_changed (remove (key_of c.args.key.now)) c.args.id.0 m.heap c.remove-gone.new.self m.names.bound (locals_of m.locals) (option_map value_of m.handled) c.remove-gone.ensures.nodes m.sound })

pub returns-then-has_key-clause-gives : goal.returns-then-has_key-clause-gives
returns-then-has_key-clause-gives g c =
    let s = moment_of c.args.machine.now in
    let i = value_of c.args.index.now in
    let k = key_of c.args.key.now in
    found_there (no_key i) (change c.args.id.0 (remove k)) s (option_and_then (value_under k) (slice_get s.nodes c.args.id.0)) (sym c.has_key.ensures.is ∙ c.if-has_key.true)
    ∙ ap (λ (ns : List Node). fine tt (record s { nodes = ns })) (sym c.remove-gone.ensures.nodes)

pub returns-then-has_key-clause-costs : goal.returns-then-has_key-clause-costs
returns-then-has_key-clause-costs g c =
    let long = ap length c.remove-gone.ensures.nodes ∙ length_changed (remove (key_of c.args.key.now)) c.args.id.0 c.args.machine.now.heap in
    record { kept = (omega (arith, long), omega (arith, long), omega arith); reads = omega arith }

pub returns-clause-gives : goal.returns-clause-gives
returns-clause-gives g c =
    let s = moment_of c.args.machine.now in
    let i = value_of c.args.index.now in
    let k = key_of c.args.key.now in
    let f = option_and_then (value_under k) (slice_get s.nodes c.args.id.0) in
    by_end (λ u. u) c.no_key.result s (where_found (no_key i) f (change c.args.id.0 (remove k)) s) (no_key i s) (found_nowhere (no_key i) (change c.args.id.0 (remove k)) s f (sym c.has_key.ensures.is ∙ c.if-has_key.false)) (raises_with (λ u. u) key_error_class i c.no_key.result s c.no_key.ensures)

pub returns-clause-sound : goal.returns-clause-sound
returns-clause-sound g c = sound_with (λ _. true) (length c.args.machine.now.heap) key_error_class (value_of c.args.index.now) c.no_key.result c.no_key.ensures refl c.requires.sound_index
