use Rattle.std.proofs.Common.{◌≡◌, ◌∙◌, ap, sym, List, length, map, Some}
use Rattle.std.specs.List.{filter_map}
use Rattle.std.proofs.lemmas.Result.{err_from_is_err_and}
use Rattle.kishu_meaning.specs.values.Values.{Value, value_of}
use Rattle.kishu_meaning.specs.moments.Moment.{fine, node_at, spend}
use Rattle.kishu_meaning.specs.items.Subscripts.{at_place}
use Rattle.kishu_meaning.specs.items.Walks.{or_none_there}
use Rattle.kishu_machine.specs.Machine.{Fails, moment_of}
use Rattle.kishu_access.specs.Access.{places_of}
use Rattle.kishu_access.specs.Forms.{items_from}
use Rattle.kishu_access.proofs.Placing.{count_places}
use Rattle.kishu_access.proofs.Slicing.{maybe_unplaced, maybe_unpaid, maybe_given}
use Rattle.kishu_access.proofs.slices.items_slice.Goals as goal

pub returns-in_err-places-clause-gives : goal.returns-in_err-places-clause-gives
returns-in_err-places-clause-gives g c =
    let s = moment_of c.args.machine.now in
    let o = items_from (node_at c.args.machine.now.heap (value_of c.args.value.now)) in
    let p = err_from_is_err_and c.from_residual.result c.from_residual.ensures.1 in
    rw (p.1, p.2) (maybe_unplaced (value_of c.args.bounds.now.start.now) (value_of c.args.bounds.now.stop.now) (value_of c.args.bounds.now.step.now) s s s o c.in-Some.len c.in_err-places.field-0.0 c.in-Some.ensures.len c.in_err-places.ensures.gives)

pub returns-in_err-spend-clause-gives : goal.returns-in_err-spend-clause-gives
returns-in_err-spend-clause-gives g c =
    let s = moment_of c.args.machine.now in
    let u = moment_of c.spend.new.machine in
    let o = items_from (node_at c.args.machine.now.heap (value_of c.args.value.now)) in
    let here = c.in_ok-places.places in
    let f = c.in_err-spend.field-0.0 in
    let paid : Fails f u (spend (length (places_of here)) s) = rw (count_places here.first here.step here.len) c.in_err-spend.ensures.gives in
    let p = err_from_is_err_and c.from_residual-in_err-spend.result c.from_residual-in_err-spend.ensures.1 in
    rw (p.1, p.2) (maybe_unpaid (value_of c.args.bounds.now.start.now) (value_of c.args.bounds.now.stop.now) (value_of c.args.bounds.now.step.now) s s u o c.in-Some.len (places_of here) f c.in-Some.ensures.len c.in_ok-places.ensures.gives paid)

pub returns-clause-gives : goal.returns-clause-gives
returns-clause-gives g c =
    let s = moment_of c.args.machine.now in
    let u = moment_of c.spend.new.machine in
    let v = value_of c.args.value.now in
    let here = c.in_ok-places.places in
    let zs = places_of here in
    let paid : spend (length zs) s ≡ fine tt u = rw (count_places here.first here.step here.len) c.in_ok-spend.ensures.gives in
    let found : map value_of c.in_ok-found.found.items ≡ filter_map (at_place (or_none_there (items_from (node_at c.args.machine.now.heap v)))) zs =
    rw c.in_ok-spend.ensures.heap at c.in_ok-found.ensures.items in
    maybe_given (value_of c.args.bounds.now.start.now) (value_of c.args.bounds.now.stop.now) (value_of c.args.bounds.now.step.now) s s u (items_from (node_at c.args.machine.now.heap v)) c.in-Some.len zs c.in-Some.ensures.len c.in_ok-places.ensures.gives paid
    ∙ ap (λ (ws : List Value). fine (Some ws) u) (sym found)
