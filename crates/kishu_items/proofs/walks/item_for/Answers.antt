use Rattle.std.proofs.Common.{◌∙◌, ap, sym, subst, SFits, rules, length, map, Option}
use Rattle.std.specs.Int.{w128}
use Rattle.std.specs.Prelude.{option_map}
use Rattle.std.proofs.lemmas.Int.{to_z-of_z}
use Rattle.kishu_meaning.specs.items.Walks.{entry_seen}
use Rattle.kishu_meaning.specs.moments.Moment.{Ends, and_then}
use Rattle.kishu_meaning.specs.values.Keys.{Key}
use Rattle.kishu_meaning.specs.values.Values.{Value, value_of}
use Rattle.kishu_items.specs.Called.{moment_of, Gives}
use Rattle.kishu_items.specs.Walks.{view_of}
use Rattle.kishu_items.proofs.Found.{dict_item, found_sound}
use Rattle.kishu_items.proofs.walks.item_for.Goals as goal

pub returns-in_ok-entry-in-Dict-clause-gives : goal.returns-in_ok-entry-in-Dict-clause-gives
returns-in_ok-entry-in-Dict-clause-gives g c =
    let s = moment_of c.args.heap.now c.args.budget.now in
    let t = moment_of c.entry_seen.new.heap c.entry_seen.new.budget in
    let view = view_of c.in-Dict.view in
    let here = c.in_ok-entry-in-Dict.ensures.gives c.args.budget.now in
    let same = dict_item c.in-Dict.id.0 c.in-Dict.start c.args.k view s ∙ ap (λ (e : Ends (Option (Key × Value))). and_then e (entry_seen view)) here in
    rw c.in-Dict.is (subst (λ (e : Ends (Option Value)). Gives (option_map value_of) c.entry_seen.result t e) (sym same) c.entry_seen.ensures.gives)

pub returns-in_ok-value_at-in-Tuple-clause-sound : goal.returns-in_ok-value_at-in-Tuple-clause-sound
returns-in_ok-value_at-in-Tuple-clause-sound g c =
    let e = rw c.as_slice.ensures.value at c.in_ok-value_at-in-Tuple.ensures in
    found_sound (length c.args.heap.now) c.in_ok-value_at-in-Tuple.field-0 (map value_of c.in-Tuple.items.items) c.args.k e (rw c.in-Tuple.is at c.requires.sound)

pub returns-in-Range-clause-gives : goal.returns-in-Range-clause-gives
returns-in-Range-clause-gives g c =
    let s = moment_of c.args.heap.now c.args.budget.now in
    let start : SFits w128 c.in-Range.start = search rules in
    let stop : SFits w128 c.in-Range.stop = search rules in
    let step : SFits w128 c.in-Range.step = search rules in
    rw c.in-Range.is (rw (to_z-of_z w128 c.in-Range.start start, to_z-of_z w128 c.in-Range.stop stop, to_z-of_z w128 c.in-Range.step step) at (c.number_for.ensures.gives s))

pub returns-in-Range-clause-sound : goal.returns-in-Range-clause-sound
returns-in-Range-clause-sound g c = c.number_for.ensures.sound (length c.args.heap.now)
