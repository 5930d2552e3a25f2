use Rattle.std.proofs.Common.{◌≡◌, ◌∙◌, ap, sym, ℕ, rules, List, length, SFits}
use mir.Syntax.{w128}
use Rattle.std.specs.Str.{chars}
use Rattle.std.proofs.lemmas.Int.{to_z-of_z}
use Rattle.std.proofs.lemmas.Result.{err_from_is_err_and}
use Rattle.kishu_meaning.specs.values.Values.{Value, value_of}
use Rattle.kishu_meaning.specs.moments.Moment.{Ends, fine, and_then, give, spend}
use Rattle.kishu_meaning.specs.items.Subscripts.{picked}
use Rattle.kishu_machine.specs.Machine.{Fails, moment_of}
use Rattle.kishu_machine.specs.Composing.{fails_on}
use Rattle.kishu_access.specs.Access.{places_of}
use Rattle.kishu_meaning.specs.values.Values as model
use Rattle.kishu_access.proofs.Placing.{count_places, picked_items}
use Rattle.kishu_access.proofs.Slicing.{picked_there, spend_fails}
use Rattle.kishu_access.proofs.slices.text_slice.Goals as goal

pub returns-in_err-spend-clause-gives : goal.returns-in_err-spend-clause-gives
returns-in_err-spend-clause-gives g c =
    let cs = chars c.args.text.now in
    let s = moment_of c.args.machine.now in
    let u = moment_of c.spend.new.machine in
    let here = c.in_ok-places.places in
    let f = c.in_err-spend.field-0.0 in
    let paid : Fails f u (spend (length (places_of here)) s) = rw (count_places here.first here.step here.len) c.in_err-spend.ensures.gives in
    let p = err_from_is_err_and c.from_residual-in_err-spend.result c.from_residual-in_err-spend.ensures.1 in
    rw (p.1, p.2) (fails_on (λ ds. give (model.text ds)) f u (picked cs (value_of c.args.bounds.now.start.now) (value_of c.args.bounds.now.stop.now) (value_of c.args.bounds.now.step.now) s)
    (spend_fails cs (value_of c.args.bounds.now.start.now) (value_of c.args.bounds.now.stop.now) (value_of c.args.bounds.now.step.now) s s u c.count.result (places_of here) f c.count.ensures c.in_ok-places.ensures.gives paid))

pub returns-clause-gives : goal.returns-clause-gives
returns-clause-gives g c =
    let cs = chars c.args.text.now in
    let s = moment_of c.args.machine.now in
    let u = moment_of c.spend.new.machine in
    let here = c.in_ok-places.places in
    let zs = places_of here in
    let f1 : SFits w128 here.first = search rules in
    let f2 : SFits w128 here.step = search rules in
    let paid : spend (length zs) s ≡ fine tt u = rw (count_places here.first here.step here.len) c.in_ok-spend.ensures.gives in
    let there = picked_there cs (value_of c.args.bounds.now.start.now) (value_of c.args.bounds.now.stop.now) (value_of c.args.bounds.now.step.now) s s u c.count.result zs c.count.ensures c.in_ok-places.ensures.gives paid in
    let part = rw (to_z-of_z w128 here.first f1, to_z-of_z w128 here.step f2) at c.in_ok-part.ensures in
    ap (λ (x : Ends (List ℕ)). and_then x (λ ds. give (model.text ds))) there
    ∙ ap (λ (ds : List ℕ). fine (model.text ds) u) (sym (ap chars c.in_ok-shared.ensures ∙ (part ∙ picked_items cs zs)))
