use Rattle.std.proofs.Common.{◌∙◌, ap, sym, subst, ℕ, true, List, length}
use Rattle.kishu_meaning.specs.values.Values.{value_of, node, Node}
use Rattle.kishu_machine.specs.Machine.{moment_of, Gives}
use Rattle.std.specs.Prelude.{option_map, slice_get}
use Rattle.kishu_meaning.specs.moments.Moment.{fine}
use Rattle.kishu_machine.specs.Frames.{locals_of}
use Rattle.std.proofs.lemmas.Result.{err_from_is_err_and}
use Rattle.std.specs.Prelude.{option_and_then}
use Rattle.kishu_meaning.specs.values.Keys.{key_of}
use Rattle.kishu_meaning.specs.values.Kinds.{no_key}
use Rattle.kishu_meaning.specs.moments.Moment.{change}
use Rattle.kishu_meaning.specs.values.Nodes.{remove, value_under}
use Rattle.kishu_meaning.specs.items.Subscripts.{delete_in_node, where_found}
use Rattle.kishu_meaning.specs.declared.key.Key as rust_key
use Rattle.kishu_access.proofs.Changing.{as_long}
use Rattle.kishu_access.proofs.Storing.{has_item, list_deleted, list_delete_fails, dict_deleted, dict_delete_fails, not_deleted}
use Rattle.kishu_access.proofs.Ends.{by_end, passed_on, refused, refused_sound}
use Rattle.kishu_access.proofs.stores.delete_in_node.Goals as goal

pub remove_place-requires-clause-place : goal.remove_place-requires-clause-place
remove_place-requires-clause-place g c =
    has_item c.in-List.len c.in_ok-place-in-List.place (slice_get c.args.machine.now.heap c.args.id.0) c.in-List.ensures.container c.in_ok-place-in-List.ensures.within

pub invariant_of-machine : goal.invariant_of-machine
invariant_of-machine g c =
    (let m = c.args.machine.now in
    record { sound = as_long m.heap c.remove_place.new.heap m.names.bound (locals_of m.locals) (option_map value_of m.handled) c.remove_place.ensures.long m.sound })

pub returns-in_err-place-in-List-clause-gives : goal.returns-in_err-place-in-List-clause-gives
returns-in_err-place-in-List-clause-gives g c =
    let s = moment_of c.args.machine.now in
    let p = err_from_is_err_and c.from_residual.result c.from_residual.ensures.1 in
    rw (p.1, p.2) (list_delete_fails c.args.id.0 (value_of c.args.index.now) s s (slice_get s.nodes c.args.id.0) c.in-List.len c.in_err-place-in-List.field-0.0 c.in-List.ensures.container c.in_err-place-in-List.ensures.gives)

pub returns-in_err-place-in-List-clause-sound : goal.returns-in_err-place-in-List-clause-sound
returns-in_err-place-in-List-clause-sound g c =
    let n = length c.args.machine.now.heap in
    let p = err_from_is_err_and c.from_residual.result c.from_residual.ensures.1 in
    rw (p.1, p.2) (passed_on (λ (k : ℕ). true) (λ (u : Unit {0}). true) n c.in_err-place-in-List.field-0.0 c.in_err-place-in-List.ensures.sound)

pub returns-in_ok-remove_place-in-List-clause-gives : goal.returns-in_ok-remove_place-in-List-clause-gives
returns-in_ok-remove_place-in-List-clause-gives g c =
    let s = moment_of c.args.machine.now in
    list_deleted c.args.id.0 (value_of c.args.index.now) s s (slice_get s.nodes c.args.id.0) c.in-List.len c.in_ok-place-in-List.place c.in-List.ensures.container c.in_ok-place-in-List.ensures.gives
    ∙ ap (λ (ns : List Node). fine tt (record s { nodes = ns })) (sym c.in_ok-remove_place-in-List.ensures.heap)

pub returns-in_err-key-in-Dict-clause-gives : goal.returns-in_err-key-in-Dict-clause-gives
returns-in_err-key-in-Dict-clause-gives g c =
    let s = moment_of c.args.machine.now in
    let p = err_from_is_err_and c.from_residual-in_err-key-in-Dict.result c.from_residual-in_err-key-in-Dict.ensures.1 in
    rw (p.1, p.2) (dict_delete_fails c.args.id.0 (value_of c.args.index.now) s (moment_of c.key_of.new.machine) (slice_get s.nodes c.args.id.0) c.in_err-key-in-Dict.field-0.0 c.in-Dict.ensures.container c.in_err-key-in-Dict.ensures.gives)

pub returns-in_err-key-in-Dict-clause-sound : goal.returns-in_err-key-in-Dict-clause-sound
returns-in_err-key-in-Dict-clause-sound g c =
    let n = length c.key_of.new.machine.heap in
    let p = err_from_is_err_and c.from_residual-in_err-key-in-Dict.result c.from_residual-in_err-key-in-Dict.ensures.1 in
    rw (p.1, p.2) (passed_on (λ (k : rust_key.Key). true) (λ (u : Unit {0}). true) n c.in_err-key-in-Dict.field-0.0 c.in_err-key-in-Dict.ensures.sound)

pub returns-in_ok-key-in-Dict-clause-gives : goal.returns-in_ok-key-in-Dict-clause-gives
returns-in_ok-key-in-Dict-clause-gives g c =
    let s = moment_of c.args.machine.now in
    let t = moment_of c.key_of.new.machine in
    let i = value_of c.args.index.now in
    let o = slice_get s.nodes c.args.id.0 in
    let k = key_of c.in_ok-key-in-Dict.key in
    let given = subst (λ (ns : List Node). Gives (λ u. u) c.remove_entry.result (moment_of c.remove_entry.new.machine) (where_found (no_key i) (option_and_then (value_under k) (slice_get ns c.args.id.0)) (change c.args.id.0 (remove k)) t)) c.in_ok-key-in-Dict.ensures.heap c.remove_entry.ensures.gives in
    by_end (λ u. u) c.remove_entry.result (moment_of c.remove_entry.new.machine) (delete_in_node c.args.id.0 i o s) (where_found (no_key i) (option_and_then (value_under k) o) (change c.args.id.0 (remove k)) t) (dict_deleted c.args.id.0 i s t o k c.in-Dict.ensures.container c.in_ok-key-in-Dict.ensures.gives) given

pub returns-in-Other-clause-gives : goal.returns-in-Other-clause-gives
returns-in-Other-clause-gives g c =
    let s = moment_of c.args.machine.now in
    let v = node c.args.id.0 in
    let i = value_of c.args.index.now in
    let o = slice_get s.nodes c.args.id.0 in
    by_end (λ u. u) c.not_subscriptable.result s (delete_in_node c.args.id.0 i o s) _ (not_deleted c.args.id.0 i s s o c.in-Other.ensures.container) (refused s c.not_subscriptable.result v (λ u. u) c.not_subscriptable.ensures.gives)

pub returns-in-Other-clause-sound : goal.returns-in-Other-clause-sound
returns-in-Other-clause-sound g c =
    let n = length c.args.machine.now.heap in
    refused_sound (moment_of c.args.machine.now) c.not_subscriptable.result (node c.args.id.0) (λ _. true) n c.not_subscriptable.ensures.gives
