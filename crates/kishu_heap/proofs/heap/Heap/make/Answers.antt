use Rattle.std.proofs.Common.{sym, subst}
use Rattle.kishu_heap.proofs.Held.{IsHeap, adds_one_heap}
use Rattle.kishu_heap.proofs.heap.Heap.make.Goals as goal

pub invariant_of-self-2 : goal.invariant_of-self-2
invariant_of-self-2 c =
    subst (IsHeap 4294967296) (sym c.in_ok-push.ensures.items) (adds_one_heap _ _ _ c.self.view_is c.self.invariant c.args.node c.requires.room c.requires.sound)
