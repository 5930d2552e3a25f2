use Rattle.std.proofs.Common.{◌∙◌, ap, length}
use Rattle.std.specs.List.{insert}
use Rattle.kishu_meaning.specs.values.Values.{value_of}
use Rattle.kishu_meaning.specs.values.Sound.{is_sound}
use Rattle.kishu_methods.specs.Contents.{items_at}
use Rattle.kishu_methods.proofs.Changes.{length_changed, replaced, all_insert}
use Rattle.kishu_methods.proofs.Edits.{seen_inserted}
use Rattle.kishu_methods.proofs.items.with_place.Goals as goal

pub replace_list-requires-clause-sound : goal.replace_list-requires-clause-sound
replace_list-requires-clause-sound g c =
    let old = items_at c.args.heap.now c.args.id.0 in
    rw (seen_inserted c.in_ok-items.items.items c.insert.new.self.items old c.args.place c.in_ok-copied.field-0 (value_of c.args.value.now) c.in_ok-insert.ensures.items c.in_ok-items.ensures.items c.in_ok-copied.ensures) (all_insert (is_sound (length c.args.heap.now)) old c.args.place (value_of c.args.value.now) c.in_ok-items.ensures.sound c.requires.sound)

pub returns-clause-nodes : goal.returns-clause-nodes
returns-clause-nodes g c =
    let old = items_at c.args.heap.now c.args.id.0 in
    c.replace_list.ensures ∙ rw (seen_inserted c.in_ok-items.items.items c.insert.new.self.items old c.args.place c.in_ok-copied.field-0 (value_of c.args.value.now) c.in_ok-insert.ensures.items c.in_ok-items.ensures.items c.in_ok-copied.ensures) (replaced (λ vs. insert vs c.args.place (value_of c.args.value.now)) c.args.id.0 c.args.heap.now old c.requires.list)

pub returns-clause-long : goal.returns-clause-long
returns-clause-long g c = ap length c.replace_list.ensures ∙ length_changed _ _ _
