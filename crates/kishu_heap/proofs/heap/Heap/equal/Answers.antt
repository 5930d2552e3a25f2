use Rattle.kishu_heap.proofs.Told.{tells_of_ranges, tells_of_keys}
use Rattle.kishu_heap.proofs.heap.Heap.equal.Goals as goal

pub returns-clause-ranges : goal.returns-clause-ranges
returns-clause-ranges g c = tells_of_ranges _ _ _ _ _ _ _ c.room_at-room.ensures c.equal_values.result c.equal_values.ensures.gives

pub returns-clause-keys : goal.returns-clause-keys
returns-clause-keys g c = tells_of_keys _ _ _ _ _ _ _ c.room_at-room.ensures c.equal_values.result c.equal_values.ensures.gives
