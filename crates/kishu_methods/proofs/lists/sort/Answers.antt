use Rattle.std.proofs.Common.{◌∙◌, ap, arith, length, map}
use Rattle.kishu_methods.proofs.Changes.{length_changed}
use Rattle.kishu_meaning.specs.values.Values.{value_of}
use Rattle.kishu_methods.specs.Contents.{items_at}
use Rattle.kishu_methods.proofs.SortsSound.{sorted_sound}
use Rattle.kishu_methods.proofs.lists.sort.Goals as goal

pub replace_list-requires-clause-sound : goal.replace_list-requires-clause-sound
replace_list-requires-clause-sound g c =
    sorted_sound (length c.args.heap.now) (items_at c.args.heap.now c.args.id.0) (map value_of c.in-Some.sorted.items) (rw (c.in-Some.is, c.in_ok-items.ensures.items) at c.in_ok-sorted.ensures) c.in_ok-items.ensures.sound

pub returns-in-Some-clause-grows : goal.returns-in-Some-clause-grows
returns-in-Some-clause-grows g c =
    let long = ap length c.replace_list.ensures ∙ length_changed _ _ _ in
    (omega (arith, long), omega (arith, long))
