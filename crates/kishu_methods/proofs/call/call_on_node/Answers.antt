use Rattle.std.proofs.Common.{◌≡◌, ◌∙◌, ap, sym, subst, map, Some}
use Rattle.kishu_meaning.specs.calls.Methods.{method_named, list_methods, dict_methods}
use Rattle.kishu_meaning.specs.moments.Moment.{Ends}
use Rattle.kishu_meaning.specs.values.Values.{Value, value_of, list, dict}
use Rattle.kishu_heap.specs.Cells.{entries_of, node_of}
use Rattle.kishu_methods.specs.Called.{moment_of, list_method_of, dict_method_of, Gives}
use Rattle.kishu_methods.specs.Contents.{items_at, entries_at}
use Rattle.kishu_methods.proofs.Calls.{node_called}
use Rattle.kishu_methods.proofs.Changes.{is_list}
use Rattle.kishu_methods.proofs.DictNodes.{is_dict}
use Rattle.kishu_methods.proofs.call.call_on_node.Goals as goal

pub list_method-requires-clause-list : goal.list_method-requires-clause-list
list_method-requires-clause-list g c =
    is_list c.args.heap.now c.args.id.0 (map value_of c.in-List.field-0.items) (c.node.ensures.node ∙ ap (λ n. Some (node_of n)) c.in-List.is)

pub dict_method-requires-clause-dict : goal.dict_method-requires-clause-dict
dict_method-requires-clause-dict g c =
    is_dict c.args.heap.now c.args.id.0 (entries_of c.in-Dict.field-0.entries) (c.node.ensures.node ∙ ap (λ n. Some (node_of n)) c.in-Dict.is)

pub returns-in-Some-clause-gives : goal.returns-in-Some-clause-gives
returns-in-Some-clause-gives g c =
    let ns = c.args.heap.now in
    let i = c.args.id.0 in
    let vs = map value_of c.args.args.now in
    let there = is_list ns i (map value_of c.in-List.field-0.items) (c.node.ensures.node ∙ ap (λ n. Some (node_of n)) c.in-List.is) in
    let m = list_method_of c.in-Some.method in
    let named : method_named c.args.name.now list_methods ≡ Some m = sym c.in-Some.ensures in
    let after = moment_of c.list_method.new.heap c.list_method.new.budget in
    subst (λ (e : Ends Value). Gives value_of c.list_method.result after e)
    (sym (node_called c.args.name.now vs m (moment_of ns c.args.budget.now) i (Some (list (items_at ns i))) there named)) c.list_method.ensures.gives

pub returns-in-Some-named-2-clause-gives : goal.returns-in-Some-named-2-clause-gives
returns-in-Some-named-2-clause-gives g c =
    let ns = c.args.heap.now in
    let i = c.args.id.0 in
    let vs = map value_of c.args.args.now in
    let there = is_dict ns i (entries_of c.in-Dict.field-0.entries) (c.node.ensures.node ∙ ap (λ n. Some (node_of n)) c.in-Dict.is) in
    let m = dict_method_of c.in-Some-named-2.method in
    let named : method_named c.args.name.now dict_methods ≡ Some m = sym c.in-Some-named-2.ensures in
    let after = moment_of c.dict_method.new.heap c.dict_method.new.budget in
    subst (λ (e : Ends Value). Gives value_of c.dict_method.result after e)
    (sym (node_called c.args.name.now vs m (moment_of ns c.args.budget.now) i (Some (dict (entries_at ns i))) there named)) c.dict_method.ensures.gives
