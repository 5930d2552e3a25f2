-- What checkouts would drop, keep and load of the names' groups, computed on the definitions.
use Rattle.std.proofs.Common.{◌≡◌, [], ◌∷◌, map, codes, refl}
use Rattle.kishu_store.specs.Graph.{Graph, new_graph}
use Rattle.kishu_model.specs.Request.{cell, checkout, plan}
use Rattle.kishu_model.specs.Serve.{after, answered, after_all, answer_of}
use Rattle.kishu_rows.proofs.OnLiterals.{cells_on_literals}

-- Of two lists one held the other, and a third was by itself; now the first two are apart.
abbrev apart : Graph
apart = after_all new_graph (map answered (cell (codes "x = [1]; y = [x]; z = [2]") ∷ cell (codes "y = 0") ∷ []))

-- The third stays where it is, and the two come back as one.
plan_first : answer_of apart (plan (codes "1"))
    ≡ codes "{\"answer\":\"plan\",\"commit\":1,\"drop\":[[\"x\"],[\"y\"]],\"keep\":[[\"z\"]],\"load\":[[\"x\",\"y\"]]}\n"
unfolding cells_on_literals
plan_first = refl

came_back : answer_of (after apart (checkout (codes "1"))) (cell (codes "print(y[0] is x, z)"))
    ≡ codes "{\"answer\":\"cell\",\"commit\":3,\"count\":2,\"outcome\":\"ok\",\"outputs\":[{\"name\":\"stdout\",\"output_type\":\"stream\",\"text\":\"True [2]\\n\"}]}\n"
unfolding cells_on_literals
came_back = refl

-- To where the head stands nothing is dropped or loaded, the root has no names, and what names nothing is refused.
plan_main : answer_of apart (plan (codes "main")) ≡ codes "{\"answer\":\"plan\",\"commit\":2,\"drop\":[],\"keep\":[[\"x\"],[\"y\"],[\"z\"]],\"load\":[]}\n"
unfolding cells_on_literals
plan_main = refl

plan_root : answer_of apart (plan (codes "0")) ≡ codes "{\"answer\":\"plan\",\"commit\":0,\"drop\":[[\"x\"],[\"y\"],[\"z\"]],\"keep\":[],\"load\":[]}\n"
unfolding cells_on_literals
plan_root = refl

plan_nowhere : answer_of apart (plan (codes "3")) ≡ codes "{\"answer\":\"refused\",\"number\":2,\"reason\":\"NoSuchRef\"}\n"
unfolding cells_on_literals
plan_nowhere = refl
