use Rattle.std.proofs.lemmas.List.{length-map}
use Rattle.kishu_heap.specs.Cells.{entries_of, node_of}
use Rattle.kishu_meaning.specs.values.Keys.{Key, key_of}
use Rattle.kishu_meaning.specs.values.Values.{Value, value_of}
use Rattle.kishu_builtins.proofs.Copies.{copied_as}
use Rattle.kishu_builtins.proofs.making.dict_of_node.Goals as goal

pub returns-clause-gives : goal.returns-clause-gives
returns-clause-gives g c =
    let entries = entries_of c.in-Some.entries.now.entries in
    let spent = rw c.len.ensures.len at (c.in_ok-spend.ensures.gives c.args.heap.now) in
    let made = rw c.in_ok-entries.ensures at (c.new_dict.ensures.gives c.spend.new.budget) in
    rw (c.node.ensures.node, copied_as (node_of c.node.result.now) entries c.in-Some.ensures, length-map {B = Key × Value} c.in-Some.entries.now.entries (λ e. (key_of e.0, value_of e.1)), spent) made
