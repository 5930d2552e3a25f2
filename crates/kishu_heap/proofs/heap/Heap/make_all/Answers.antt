use Rattle.std.proofs.Common.{◌+◌, ◌<◌, subst, length, map, IsTrue}
use Rattle.std.specs.Result.{is_ok}
use Rattle.kishu_meaning.specs.values.Sound.{are_sound_nodes}
use Rattle.kishu_heap.specs.Cells.{node_of}
use Rattle.kishu_heap.proofs.Held.{may_add_heap}
use Rattle.kishu_heap.proofs.heap.Heap.make_all.Goals as goal

pub invariant_of-self-2 : goal.invariant_of-self-2
invariant_of-self-2 c =
    may_add_heap _ _ _ c.self.view_is c.self.invariant _ c.args.nodes.items (is_ok c.append.result) c.append.ensures.items
    (subst (λ k. length c.args.self.now + k < 4294967296) c.args.nodes.ok.0 c.requires.room)
    (subst (λ k. IsTrue (are_sound_nodes (length c.args.self.now + k) (map node_of c.args.nodes.items))) c.args.nodes.ok.0 c.requires.sound)
