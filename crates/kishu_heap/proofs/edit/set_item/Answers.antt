use Rattle.std.proofs.Common.{ap}
use Rattle.kishu_meaning.specs.values.Values.{value_of, list}
use Rattle.kishu_heap.proofs.Changes.{map_set}
use Rattle.kishu_heap.proofs.edit.set_item.Goals as goal

pub returns-in-List : goal.returns-in-List
returns-in-List c = rw c.in-List.is (ap list (map_set value_of c.in-List.items.items c.args.at c.args.value))
