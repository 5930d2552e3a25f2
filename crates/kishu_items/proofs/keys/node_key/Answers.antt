use Rattle.kishu_meaning.specs.values.Values.{node}
use Rattle.kishu_items.proofs.keys.node_key.Goals as goal

pub returns-in-Tuple-clause-gives : goal.returns-in-Tuple-clause-gives
returns-in-Tuple-clause-gives g c =
    rw (c.node.ensures.node, c.in-Tuple.is) (rw c.as_slice.ensures.value at (c.tuple_key.ensures.gives (node c.args.id.0)))
