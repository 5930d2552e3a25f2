use Rattle.std.proofs.Common.{◌∙◌, ap, length, reverse}
use Rattle.kishu_meaning.specs.values.Sound.{is_sound}
use Rattle.kishu_methods.specs.Contents.{items_at}
use Rattle.kishu_methods.proofs.Changes.{length_changed, replaced}
use Rattle.kishu_methods.proofs.Edits.{seen_reversed, all_reverse}
use Rattle.kishu_methods.proofs.items.reverse.Goals as goal

pub replace_list-requires-clause-sound : goal.replace_list-requires-clause-sound
replace_list-requires-clause-sound g c =
    let old = items_at c.args.heap.now c.args.id.0 in
    rw (seen_reversed c.in_ok-items.items.items c.reverse.new.self.items old c.reverse.ensures.items c.in_ok-items.ensures.items) (all_reverse (is_sound (length c.args.heap.now)) old c.in_ok-items.ensures.sound)

pub returns-clause-nodes : goal.returns-clause-nodes
returns-clause-nodes g c =
    let old = items_at c.args.heap.now c.args.id.0 in
    c.replace_list.ensures ∙ rw (seen_reversed c.in_ok-items.items.items c.reverse.new.self.items old c.reverse.ensures.items c.in_ok-items.ensures.items) (replaced reverse c.args.id.0 c.args.heap.now old c.requires.list)

pub returns-clause-long : goal.returns-clause-long
returns-clause-long g c = ap length c.replace_list.ensures ∙ length_changed _ _ _
