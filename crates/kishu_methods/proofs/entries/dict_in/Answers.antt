use Rattle.std.proofs.Common.{◌∙◌, ap, Some}
use Rattle.kishu_heap.specs.Cells.{entries_of, node_of}
use Rattle.kishu_methods.proofs.DictNodes.{dict_seen, is_dict}
use Rattle.kishu_methods.proofs.entries.dict_in.Goals as goal

pub returns-in-Dict-clause-entries : goal.returns-in-Dict-clause-entries
returns-in-Dict-clause-entries g c =
    rw c.in-Node.is (dict_seen c.args.heap.now c.in-Node.id.0 (entries_of c.in-Dict.field-0.entries) (c.node.ensures.node ∙ ap (λ n. Some (node_of n)) c.in-Dict.is))

pub returns-in-Dict-clause-dict : goal.returns-in-Dict-clause-dict
returns-in-Dict-clause-dict g c = is_dict c.args.heap.now c.in-Node.id.0 (entries_of c.in-Dict.field-0.entries) (c.node.ensures.node ∙ ap (λ n. Some (node_of n)) c.in-Dict.is)
