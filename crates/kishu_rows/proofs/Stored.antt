-- What commits drop and store of the names' groups, computed on the definitions.
use Rattle.std.proofs.Common.{◌≡◌, [], ◌∷◌, map, codes, refl}
use Rattle.kishu_meaning.specs.cells.Meaning.{call}
use Rattle.kishu_store.specs.Graph.{Graph, new_graph}
use Rattle.kishu_model.specs.Request.{cell, checkout, stored}
use Rattle.kishu_model.specs.Serve.{after, answered, after_all, answer_of}
use Rattle.kishu_rows.proofs.OnLiterals.{cells_on_literals}

-- Two lists of which one holds the other are one group, and a third is one of its own.
abbrev holds_another : Graph
holds_another = after new_graph (cell (codes "x = [1]; y = [x]; z = [2]"))

stored_first : answer_of holds_another (stored (codes "1"))
    ≡ codes "{\"answer\":\"stored\",\"commit\":1,\"dropped\":[],\"stored\":[[\"x\",\"y\"],[\"z\"]]}\n"
unfolding cells_on_literals
stored_first = refl

-- Where they are one no longer, both are stored, and the third isn't.
stored_apart : answer_of (after holds_another (cell (codes "y = 0"))) (stored (codes "2"))
    ≡ codes "{\"answer\":\"stored\",\"commit\":2,\"dropped\":[[\"x\",\"y\"]],\"stored\":[[\"x\"],[\"y\"]]}\n"
unfolding cells_on_literals
stored_apart = refl

-- The root stores nothing, a branch's commit is told by its name, and what names nothing is refused.
stored_root : answer_of holds_another (stored (codes "0")) ≡ codes "{\"answer\":\"stored\",\"commit\":0,\"dropped\":[],\"stored\":[]}\n"
unfolding cells_on_literals
stored_root = refl

stored_main : answer_of holds_another (stored (codes "main"))
    ≡ codes "{\"answer\":\"stored\",\"commit\":1,\"dropped\":[],\"stored\":[[\"x\",\"y\"],[\"z\"]]}\n"
unfolding cells_on_literals
stored_main = refl

stored_nowhere : answer_of holds_another (stored (codes "2")) ≡ codes "{\"answer\":\"refused\",\"number\":2,\"reason\":\"NoSuchRef\"}\n"
unfolding cells_on_literals
stored_nowhere = refl

-- A function that changes a list by its name leads to no node of it: the list alone is stored anew.
abbrev called : Graph
called = after_all new_graph (map answered (cell (codes "L = []") ∷ cell (codes "def f(): L.append(1)") ∷ cell (codes "f()") ∷ []))

stored_by_name : answer_of called (stored (codes "3"))
    ≡ codes "{\"answer\":\"stored\",\"commit\":3,\"dropped\":[[\"L\"]],\"stored\":[[\"L\"]]}\n"
unfolding cells_on_literals call
stored_by_name = refl

-- A default is a function's own, so what is bound to it is in the function's group.
abbrev returned : Graph
returned = after_all new_graph (map answered (cell (codes "def g(x, acc=[]): acc.append(x); return acc") ∷ cell (codes "p = g(1)") ∷ []))

stored_default : answer_of returned (stored (codes "2"))
    ≡ codes "{\"answer\":\"stored\",\"commit\":2,\"dropped\":[[\"g\"]],\"stored\":[[\"g\",\"p\"]]}\n"
unfolding cells_on_literals call
stored_default = refl

came_back : answer_of (after_all returned (map answered (cell (codes "p = 0") ∷ checkout (codes "2") ∷ []))) (cell (codes "g(2) is p"))
    ≡ codes "{\"answer\":\"cell\",\"commit\":4,\"count\":3,\"outcome\":\"ok\",\"outputs\":[{\"data\":{\"text/plain\":\"True\"},\"execution_count\":3,\"metadata\":{},\"output_type\":\"execute_result\"}]}\n"
unfolding cells_on_literals call
came_back = refl

-- An item that is set to what it was changes nothing.
abbrev set_again : Graph
set_again = after_all new_graph (map answered (cell (codes "a = [1]") ∷ cell (codes "a[0] = 1") ∷ []))

stored_nothing : answer_of set_again (stored (codes "2")) ≡ codes "{\"answer\":\"stored\",\"commit\":2,\"dropped\":[],\"stored\":[]}\n"
unfolding cells_on_literals
stored_nothing = refl
