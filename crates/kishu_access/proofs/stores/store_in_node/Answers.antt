use Rattle.std.proofs.Common.{◌∙◌, ap, sym, arith, ℕ, true, List, length}
use Rattle.kishu_meaning.specs.values.Values.{value_of, node, Node}
use Rattle.kishu_machine.specs.Machine.{moment_of}
use Rattle.std.specs.Prelude.{option_map, slice_get}
use Rattle.kishu_meaning.specs.moments.Moment.{fine}
use Rattle.kishu_machine.specs.Frames.{locals_of}
use Rattle.std.proofs.lemmas.Result.{err_from_is_err_and}
use Rattle.kishu_meaning.specs.values.Nodes.{set_item, insert}
use Rattle.kishu_meaning.specs.items.Subscripts.{store_in_node}
use Rattle.kishu_meaning.specs.values.Keys.{key_of}
use Rattle.kishu_meaning.specs.declared.key.Key as rust_key
use Rattle.kishu_heap.specs.Changing.{length_changed}
use Rattle.kishu_access.proofs.Changing.{run_changed, run_kept}
use Rattle.kishu_access.proofs.Storing.{has_place, list_stored, list_store_fails, dict_stored, dict_store_fails, not_stored}
use Rattle.kishu_access.proofs.Ends.{by_end, passed_on, refused, refused_sound}
use Rattle.kishu_access.proofs.stores.store_in_node.Goals as goal

pub set_item-requires-clause-place : goal.set_item-requires-clause-place
set_item-requires-clause-place g c =
    has_place c.in-List.len c.in_ok-place-in-List.place (slice_get c.args.machine.now.heap c.args.id.0) c.in-List.ensures.container c.in_ok-place-in-List.ensures.within

pub invariant_of-machine : goal.invariant_of-machine
invariant_of-machine g c =
    (let m = c.args.machine.now in
    record { sound = run_changed (set_item c.in_ok-place-in-List.place (value_of c.args.value)) c.args.id.0 m.heap c.set_item.new.self m.names.bound (locals_of m.locals) (option_map value_of m.handled) c.set_item.ensures m.sound })

pub returns-in_err-place-in-List-clause-gives : goal.returns-in_err-place-in-List-clause-gives
returns-in_err-place-in-List-clause-gives g c =
    let s = moment_of c.args.machine.now in
    let p = err_from_is_err_and c.from_residual.result c.from_residual.ensures.1 in
    rw (p.1, p.2) (list_store_fails c.args.id.0 (value_of c.args.index.now) (value_of c.args.value) s s (slice_get s.nodes c.args.id.0) c.in-List.len c.in_err-place-in-List.field-0.0 c.in-List.ensures.container c.in_err-place-in-List.ensures.gives)

pub returns-in_err-place-in-List-clause-sound : goal.returns-in_err-place-in-List-clause-sound
returns-in_err-place-in-List-clause-sound g c =
    let n = length c.args.machine.now.heap in
    let p = err_from_is_err_and c.from_residual.result c.from_residual.ensures.1 in
    rw (p.1, p.2) (passed_on (λ (k : ℕ). true) (λ (u : Unit {0}). true) n c.in_err-place-in-List.field-0.0 c.in_err-place-in-List.ensures.sound)

pub returns-in_ok-place-in-List-clause-gives : goal.returns-in_ok-place-in-List-clause-gives
returns-in_ok-place-in-List-clause-gives g c =
    let s = moment_of c.args.machine.now in
    list_stored c.args.id.0 (value_of c.args.index.now) (value_of c.args.value) s s (slice_get s.nodes c.args.id.0) c.in-List.len c.in_ok-place-in-List.place c.in-List.ensures.container c.in_ok-place-in-List.ensures.gives
    ∙ ap (λ (ns : List Node). fine tt (record s { nodes = ns })) (sym c.set_item.ensures)

pub returns-in_ok-place-in-List-clause-costs : goal.returns-in_ok-place-in-List-clause-costs
returns-in_ok-place-in-List-clause-costs g c =
    let long = ap length c.set_item.ensures ∙ length_changed (set_item c.in_ok-place-in-List.place (value_of c.args.value)) c.args.id.0 c.args.machine.now.heap in
    record { kept = (omega (arith, long), omega (arith, long), omega arith); reads = omega arith }

pub returns-in-Other-clause-gives : goal.returns-in-Other-clause-gives
returns-in-Other-clause-gives g c =
    let s = moment_of c.args.machine.now in
    let v = node c.args.id.0 in
    let i = value_of c.args.index.now in
    let w = value_of c.args.value in
    by_end (λ u. u) c.not_subscriptable.result s (store_in_node c.args.id.0 i w (slice_get s.nodes c.args.id.0) s) _ (not_stored c.args.id.0 i w s s (slice_get s.nodes c.args.id.0) c.in-Other.ensures.container) (refused s c.not_subscriptable.result v (λ u. u) c.not_subscriptable.ensures.gives)

pub returns-in-Other-clause-sound : goal.returns-in-Other-clause-sound
returns-in-Other-clause-sound g c =
    let n = length c.args.machine.now.heap in
    refused_sound (moment_of c.args.machine.now) c.not_subscriptable.result (node c.args.id.0) (λ _. true) n c.not_subscriptable.ensures.gives

pub invariant_of-machine-in-Dict : goal.invariant_of-machine-in-Dict
invariant_of-machine-in-Dict g c =
    (let m = c.key_of.new.machine in
    record { sound = run_kept (insert (key_of c.in_ok-key-in-Dict.key) (value_of c.args.value)) c.args.id.0 m.heap c.insert.new.self m.names.bound (locals_of m.locals) (option_map value_of m.handled) c.insert.result c.insert.ensures.ok c.insert.ensures.err m.sound })

pub returns-in_err-key-in-Dict-clause-gives : goal.returns-in_err-key-in-Dict-clause-gives
returns-in_err-key-in-Dict-clause-gives g c =
    let s = moment_of c.args.machine.now in
    let p = err_from_is_err_and c.from_residual-in_err-key-in-Dict.result c.from_residual-in_err-key-in-Dict.ensures.1 in
    rw (p.1, p.2) (dict_store_fails c.args.id.0 (value_of c.args.index.now) (value_of c.args.value) s (moment_of c.key_of.new.machine) (slice_get s.nodes c.args.id.0) c.in_err-key-in-Dict.field-0.0 c.in-Dict.ensures.container c.in_err-key-in-Dict.ensures.gives)

pub returns-in_err-key-in-Dict-clause-sound : goal.returns-in_err-key-in-Dict-clause-sound
returns-in_err-key-in-Dict-clause-sound g c =
    let n = length c.key_of.new.machine.heap in
    let p = err_from_is_err_and c.from_residual-in_err-key-in-Dict.result c.from_residual-in_err-key-in-Dict.ensures.1 in
    rw (p.1, p.2) (passed_on (λ (k : rust_key.Key). true) (λ (u : Unit {0}). true) n c.in_err-key-in-Dict.field-0.0 c.in_err-key-in-Dict.ensures.sound)

pub returns-in_ok-insert-in-Dict-clause-gives : goal.returns-in_ok-insert-in-Dict-clause-gives
returns-in_ok-insert-in-Dict-clause-gives g c =
    let s = moment_of c.args.machine.now in
    let t = moment_of c.key_of.new.machine in
    dict_stored c.args.id.0 (value_of c.args.index.now) (value_of c.args.value) s t (slice_get s.nodes c.args.id.0) (key_of c.in_ok-key-in-Dict.key) c.in-Dict.ensures.container c.in_ok-key-in-Dict.ensures.gives
    ∙ ap (λ (ns : List Node). fine tt (record t { nodes = ns })) (sym c.in_ok-insert-in-Dict.ensures.ok)

pub returns-in_ok-insert-in-Dict-clause-costs : goal.returns-in_ok-insert-in-Dict-clause-costs
returns-in_ok-insert-in-Dict-clause-costs g c =
    let long = ap length c.in_ok-insert-in-Dict.ensures.ok ∙ length_changed (insert (key_of c.in_ok-key-in-Dict.key) (value_of c.args.value)) c.args.id.0 c.key_of.new.machine.heap in
    record { kept = (omega (arith, long), omega (arith, long), omega arith); reads = omega arith }

pub returns-in_err-insert-in-Dict-clause-costs : goal.returns-in_err-insert-in-Dict-clause-costs
returns-in_err-insert-in-Dict-clause-costs g c =
    let long = ap length c.in_err-insert-in-Dict.ensures.err in
    record { kept = (omega (arith, long), omega (arith, long), omega arith); reads = omega arith }
