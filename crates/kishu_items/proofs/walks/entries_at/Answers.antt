use Rattle.std.proofs.Common.{arith, refl, length}
use Rattle.std.proofs.lemmas.Option.{slice_get_past}
use Rattle.kishu_heap.specs.Cells.{entries_of, node_of}
use Rattle.kishu_items.proofs.Found.{entries_sound}
use Rattle.kishu_items.proofs.walks.entries_at.Goals as goal

pub returns-then-id-len-clause-sound : goal.returns-then-id-len-clause-sound
returns-then-id-len-clause-sound g c = entries_sound (λ m. entries_of m.now.entries) (length c.args.heap.now) (node_of c.node.result.now) c.dict.result c.dict.ensures c.node.ensures.sound

pub returns-else-id-len-clause-entries : goal.returns-else-id-len-clause-entries
returns-else-id-len-clause-entries g c = rw (slice_get_past c.args.heap.now c.args.id.0 (omega (arith, c.if-id-len.false, c.len.ensures.len))) refl
