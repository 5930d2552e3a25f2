use Rattle.std.proofs.Common.{◌∙◌, ap, arith, length}
use Rattle.std.specs.Prelude.{slice_get}
use Rattle.std.proofs.lemmas.List.{length-map}
use Rattle.kishu_meaning.specs.calls.Operators.{list_from}
use Rattle.kishu_meaning.specs.values.Sound.{is_sound}
use Rattle.kishu_meaning.specs.items.Subscripts.{without_place}
use Rattle.kishu_meaning.specs.values.Values.{value_of}
use Rattle.kishu_meaning.specs.items.Walks.{or_none_there}
use Rattle.kishu_heap.specs.Changing.{length_changed}
use Rattle.kishu_access.proofs.Changing.{all_without, replaced, seen_removed}
use Rattle.kishu_access.proofs.stores.remove_place.Goals as goal

pub remove-requires : goal.remove-requires
remove-requires g c = omega (arith, ap length c.in_ok-items.ensures.items, length-map c.in_ok-items.items.items value_of, c.requires.place)

pub replace_list-requires-clause-sound : goal.replace_list-requires-clause-sound
replace_list-requires-clause-sound g c =
    let ns = c.args.heap.now in
    let old = or_none_there (list_from (slice_get ns c.args.id.0)) in
    rw (seen_removed c.in_ok-items.items.items c.remove.new.self.items old c.args.place c.remove.ensures.items c.in_ok-items.ensures.items) (all_without (is_sound (length ns)) old c.args.place c.in_ok-items.ensures.sound)

pub returns-clause-heap : goal.returns-clause-heap
returns-clause-heap g c =
    let ns = c.args.heap.now in
    let old = or_none_there (list_from (slice_get ns c.args.id.0)) in
    c.replace_list.ensures ∙ rw (seen_removed c.in_ok-items.items.items c.remove.new.self.items old c.args.place c.remove.ensures.items c.in_ok-items.ensures.items) (replaced (without_place c.args.place) c.args.id.0 ns)

pub returns-clause-long : goal.returns-clause-long
returns-clause-long g c = ap length c.replace_list.ensures ∙ length_changed _ _ _
