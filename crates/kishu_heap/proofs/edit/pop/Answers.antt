use Rattle.std.proofs.Common.{ap, sym, vec_len}
use Rattle.kishu_meaning.specs.values.Values.{value_of, list}
use Rattle.kishu_heap.proofs.Changes.{last_popped, rest_popped}
use Rattle.kishu_heap.proofs.edit.pop.Goals as goal

pub returns-in-List-clause-value : goal.returns-in-List-clause-value
returns-in-List-clause-value c =
    rw c.in-List.is (last_popped value_of _ _ _ (vec_len c.pop.new.self) c.pop.result (sym c.in-List.items.ok.0) c.pop.ensures.items c.pop.ensures.cases)

pub returns-in-List-clause-node : goal.returns-in-List-clause-node
returns-in-List-clause-node c =
    rw c.in-List.is (ap list (rest_popped value_of _ _ _ (vec_len c.pop.new.self) c.pop.result (sym c.in-List.items.ok.0) c.pop.ensures.items c.pop.ensures.cases))
