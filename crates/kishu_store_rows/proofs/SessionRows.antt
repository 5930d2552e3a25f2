-- What a session answers whose history branches, and the graphs that it leaves: computed on the definitions. Made by tools/rows/request_rows.py.
use Rattle.std.specs.Prelude.{◌≡◌, [], ◌∷◌, ◌++◌, codes, Some, None, refl}
use Rattle.std.specs.Prelude.{map}
use Rattle.kishu_language.specs.declared.profile.Profile.TheVariants.{One}
use Rattle.kishu_store.specs.Graph.{Graph, new_graph}
use Rattle.kishu_model.specs.Request.{cell, cells, checkout, branch, log, status, inspect, stored, plan}
use Rattle.kishu_model.specs.Serve.{answered, after_all, answers}
use Rattle.kishu_store_rows.proofs.OnLiterals.{requests_on_literals}

-- ---- groups that are split and merged, deletions, ways back and branches

abbrev groups_graph0 : Graph
groups_graph0 = new_graph

-- a new store
groups_1 : answers groups_graph0 (map answered (status ∷ log ∷ inspect ∷ stored (codes "0") ∷ plan (codes "0") ∷ plan (codes "main") ∷ []))
    ≡ codes "{\"answer\":\"status\",\"branch\":\"main\",\"commit\":0,\"commits\":1,\"names\":[],\"records\":0}\n"
    ++ codes "{\"answer\":\"log\",\"branches\":[{\"commit\":0,\"name\":\"main\"}],\"path\":[]}\n"
    ++ codes "{\"answer\":\"inspect\",\"commit\":0,\"names\":{},\"nodes\":[]}\n"
    ++ codes "{\"answer\":\"stored\",\"commit\":0,\"dropped\":[],\"stored\":[]}\n"
    ++ codes "{\"answer\":\"plan\",\"commit\":0,\"drop\":[],\"keep\":[],\"load\":[]}\n"
    ++ codes "{\"answer\":\"plan\",\"commit\":0,\"drop\":[],\"keep\":[],\"load\":[]}\n"
unfolding requests_on_literals
groups_1 = refl

groups_2 : answers groups_graph0 (map answered (cell (codes "x = [1]; y = [x]; z = [2]") ∷ cell (codes "y = 0") ∷ []))
    ≡ codes "{\"answer\":\"cell\",\"commit\":1,\"count\":1,\"outcome\":\"ok\",\"outputs\":[]}\n"
    ++ codes "{\"answer\":\"cell\",\"commit\":2,\"count\":2,\"outcome\":\"ok\",\"outputs\":[]}\n"
unfolding requests_on_literals
groups_2 = refl

abbrev groups_graph2 : Graph
groups_graph2 = record { commits = ((record { parent = 1; profile = One; cells = ((codes "y = 0") ∷ []) }) ∷ (record { parent = 0; profile = One; cells = ((codes "x = [1]; y = [x]; z = [2]") ∷ []) }) ∷ []); branches = (((codes "main"), 2) ∷ []); head = record { commit = 2; branch = Some (codes "main") }; records = 2 }

groups_2_left : after_all groups_graph0 (map answered (cell (codes "x = [1]; y = [x]; z = [2]") ∷ cell (codes "y = 0") ∷ [])) ≡ groups_graph2
unfolding requests_on_literals
groups_2_left = refl

groups_3 : answers groups_graph2 (map answered (status ∷ log ∷ inspect ∷ stored (codes "0") ∷ stored (codes "1") ∷ stored (codes "2") ∷ []))
    ≡ codes "{\"answer\":\"status\",\"branch\":\"main\",\"commit\":2,\"commits\":3,\"names\":[\"x\",\"y\",\"z\"],\"records\":2}\n"
    ++ codes "{\"answer\":\"log\",\"branches\":[{\"commit\":2,\"name\":\"main\"}],\"path\":[{\"cells\":1,\"commit\":2,\"line\":\"y = 0\",\"parent\":1},{\"cells\":1,\"commit\":1,\"line\":\"x = [1]; y = [x]; z = [2]\",\"parent\":0}]}\n"
    ++ codes "{\"answer\":\"inspect\",\"commit\":2,\"names\":{\"x\":\"#0\",\"y\":\"0\",\"z\":\"#1\"},\"nodes\":[[\"list\",\"1\"],[\"list\",\"2\"]]}\n"
    ++ codes "{\"answer\":\"stored\",\"commit\":0,\"dropped\":[],\"stored\":[]}\n"
    ++ codes "{\"answer\":\"stored\",\"commit\":1,\"dropped\":[],\"stored\":[[\"x\",\"y\"],[\"z\"]]}\n"
    ++ codes "{\"answer\":\"stored\",\"commit\":2,\"dropped\":[[\"x\",\"y\"]],\"stored\":[[\"x\"],[\"y\"]]}\n"
unfolding requests_on_literals
groups_3 = refl

groups_4 : answers groups_graph2 (map answered (stored (codes "main") ∷ stored (codes "3") ∷ plan (codes "0") ∷ plan (codes "1") ∷ plan (codes "2") ∷ plan (codes "main") ∷ []))
    ≡ codes "{\"answer\":\"stored\",\"commit\":2,\"dropped\":[[\"x\",\"y\"]],\"stored\":[[\"x\"],[\"y\"]]}\n"
    ++ codes "{\"answer\":\"refused\",\"number\":2,\"reason\":\"NoSuchRef\"}\n"
    ++ codes "{\"answer\":\"plan\",\"commit\":0,\"drop\":[[\"x\"],[\"y\"],[\"z\"]],\"keep\":[],\"load\":[]}\n"
    ++ codes "{\"answer\":\"plan\",\"commit\":1,\"drop\":[[\"x\"],[\"y\"]],\"keep\":[[\"z\"]],\"load\":[[\"x\",\"y\"]]}\n"
    ++ codes "{\"answer\":\"plan\",\"commit\":2,\"drop\":[],\"keep\":[[\"x\"],[\"y\"],[\"z\"]],\"load\":[]}\n"
    ++ codes "{\"answer\":\"plan\",\"commit\":2,\"drop\":[],\"keep\":[[\"x\"],[\"y\"],[\"z\"]],\"load\":[]}\n"
unfolding requests_on_literals
groups_4 = refl

groups_5 : answers groups_graph2 (map answered (plan (codes "3") ∷ plan (codes "try") ∷ []))
    ≡ codes "{\"answer\":\"refused\",\"number\":2,\"reason\":\"NoSuchRef\"}\n"
    ++ codes "{\"answer\":\"refused\",\"number\":2,\"reason\":\"NoSuchRef\"}\n"
unfolding requests_on_literals
groups_5 = refl

groups_6 : answers groups_graph2 (map answered (branch (codes "try") (Some (codes "1")) ∷ checkout (codes "try") ∷ cell (codes "z.append(3)") ∷ cell (codes "w = z") ∷ []))
    ≡ codes "{\"answer\":\"branch\",\"commit\":1,\"name\":\"try\"}\n"
    ++ codes "{\"answer\":\"checkout\",\"commit\":1,\"head\":\"try\"}\n"
    ++ codes "{\"answer\":\"cell\",\"commit\":3,\"count\":2,\"outcome\":\"ok\",\"outputs\":[]}\n"
    ++ codes "{\"answer\":\"cell\",\"commit\":4,\"count\":3,\"outcome\":\"ok\",\"outputs\":[]}\n"
unfolding requests_on_literals
groups_6 = refl

abbrev groups_graph6 : Graph
groups_graph6 = record { commits = ((record { parent = 3; profile = One; cells = ((codes "w = z") ∷ []) }) ∷ (record { parent = 1; profile = One; cells = ((codes "z.append(3)") ∷ []) }) ∷ (record { parent = 1; profile = One; cells = ((codes "y = 0") ∷ []) }) ∷ (record { parent = 0; profile = One; cells = ((codes "x = [1]; y = [x]; z = [2]") ∷ []) }) ∷ []); branches = (((codes "main"), 2) ∷ ((codes "try"), 4) ∷ []); head = record { commit = 4; branch = Some (codes "try") }; records = 6 }

groups_6_left : after_all groups_graph2 (map answered (branch (codes "try") (Some (codes "1")) ∷ checkout (codes "try") ∷ cell (codes "z.append(3)") ∷ cell (codes "w = z") ∷ [])) ≡ groups_graph6
unfolding requests_on_literals
groups_6_left = refl

groups_7 : answers groups_graph6 (map answered (status ∷ log ∷ inspect ∷ stored (codes "try") ∷ stored (codes "3") ∷ stored (codes "4") ∷ []))
    ≡ codes "{\"answer\":\"status\",\"branch\":\"try\",\"commit\":4,\"commits\":5,\"names\":[\"w\",\"x\",\"y\",\"z\"],\"records\":6}\n"
    ++ codes "{\"answer\":\"log\",\"branches\":[{\"commit\":2,\"name\":\"main\"},{\"commit\":4,\"name\":\"try\"}],\"path\":[{\"cells\":1,\"commit\":4,\"line\":\"w = z\",\"parent\":3},{\"cells\":1,\"commit\":3,\"line\":\"z.append(3)\",\"parent\":1},{\"cells\":1,\"commit\":1,\"line\":\"x = [1]; y = [x]; z = [2]\",\"parent\":0}]}\n"
    ++ codes "{\"answer\":\"inspect\",\"commit\":4,\"names\":{\"w\":\"#0\",\"x\":\"#1\",\"y\":\"#2\",\"z\":\"#0\"},\"nodes\":[[\"list\",\"2\",\"3\"],[\"list\",\"1\"],[\"list\",\"#1\"]]}\n"
    ++ codes "{\"answer\":\"stored\",\"commit\":4,\"dropped\":[[\"z\"]],\"stored\":[[\"w\",\"z\"]]}\n"
    ++ codes "{\"answer\":\"stored\",\"commit\":3,\"dropped\":[[\"z\"]],\"stored\":[[\"z\"]]}\n"
    ++ codes "{\"answer\":\"stored\",\"commit\":4,\"dropped\":[[\"z\"]],\"stored\":[[\"w\",\"z\"]]}\n"
unfolding requests_on_literals
groups_7 = refl

groups_8 : answers groups_graph6 (map answered (plan (codes "0") ∷ plan (codes "1") ∷ plan (codes "2") ∷ plan (codes "3") ∷ plan (codes "try") ∷ plan (codes "main") ∷ []))
    ≡ codes "{\"answer\":\"plan\",\"commit\":0,\"drop\":[[\"w\",\"z\"],[\"x\",\"y\"]],\"keep\":[],\"load\":[]}\n"
    ++ codes "{\"answer\":\"plan\",\"commit\":1,\"drop\":[[\"w\",\"z\"]],\"keep\":[[\"x\",\"y\"]],\"load\":[[\"z\"]]}\n"
    ++ codes "{\"answer\":\"plan\",\"commit\":2,\"drop\":[[\"w\",\"z\"],[\"x\",\"y\"]],\"keep\":[],\"load\":[[\"x\"],[\"y\"],[\"z\"]]}\n"
    ++ codes "{\"answer\":\"plan\",\"commit\":3,\"drop\":[[\"w\",\"z\"]],\"keep\":[[\"x\",\"y\"]],\"load\":[[\"z\"]]}\n"
    ++ codes "{\"answer\":\"plan\",\"commit\":4,\"drop\":[],\"keep\":[[\"w\",\"z\"],[\"x\",\"y\"]],\"load\":[]}\n"
    ++ codes "{\"answer\":\"plan\",\"commit\":2,\"drop\":[[\"w\",\"z\"],[\"x\",\"y\"]],\"keep\":[],\"load\":[[\"x\"],[\"y\"],[\"z\"]]}\n"
unfolding requests_on_literals
groups_8 = refl

groups_9 : answers groups_graph6 (map answered (checkout (codes "3") ∷ cell (codes "x = [1]") ∷ cell (codes "del z") ∷ cell (codes "z = x") ∷ []))
    ≡ codes "{\"answer\":\"checkout\",\"commit\":3,\"head\":null}\n"
    ++ codes "{\"answer\":\"cell\",\"commit\":5,\"count\":3,\"outcome\":\"ok\",\"outputs\":[]}\n"
    ++ codes "{\"answer\":\"cell\",\"commit\":6,\"count\":4,\"outcome\":\"ok\",\"outputs\":[]}\n"
    ++ codes "{\"answer\":\"cell\",\"commit\":7,\"count\":5,\"outcome\":\"ok\",\"outputs\":[]}\n"
unfolding requests_on_literals
groups_9 = refl

abbrev groups_graph9 : Graph
groups_graph9 = record { commits = ((record { parent = 6; profile = One; cells = ((codes "z = x") ∷ []) }) ∷ (record { parent = 5; profile = One; cells = ((codes "del z") ∷ []) }) ∷ (record { parent = 3; profile = One; cells = ((codes "x = [1]") ∷ []) }) ∷ (record { parent = 3; profile = One; cells = ((codes "w = z") ∷ []) }) ∷ (record { parent = 1; profile = One; cells = ((codes "z.append(3)") ∷ []) }) ∷ (record { parent = 1; profile = One; cells = ((codes "y = 0") ∷ []) }) ∷ (record { parent = 0; profile = One; cells = ((codes "x = [1]; y = [x]; z = [2]") ∷ []) }) ∷ []); branches = (((codes "main"), 2) ∷ ((codes "try"), 4) ∷ []); head = record { commit = 7; branch = None }; records = 10 }

groups_9_left : after_all groups_graph6 (map answered (checkout (codes "3") ∷ cell (codes "x = [1]") ∷ cell (codes "del z") ∷ cell (codes "z = x") ∷ [])) ≡ groups_graph9
unfolding requests_on_literals
groups_9_left = refl

groups_10 : answers groups_graph9 (map answered (status ∷ log ∷ inspect ∷ stored (codes "5") ∷ stored (codes "6") ∷ stored (codes "7") ∷ []))
    ≡ codes "{\"answer\":\"status\",\"branch\":null,\"commit\":7,\"commits\":8,\"names\":[\"x\",\"y\",\"z\"],\"records\":10}\n"
    ++ codes "{\"answer\":\"log\",\"branches\":[{\"commit\":2,\"name\":\"main\"},{\"commit\":4,\"name\":\"try\"}],\"path\":[{\"cells\":1,\"commit\":7,\"line\":\"z = x\",\"parent\":6},{\"cells\":1,\"commit\":6,\"line\":\"del z\",\"parent\":5},{\"cells\":1,\"commit\":5,\"line\":\"x = [1]\",\"parent\":3},{\"cells\":1,\"commit\":3,\"line\":\"z.append(3)\",\"parent\":1},{\"cells\":1,\"commit\":1,\"line\":\"x = [1]; y = [x]; z = [2]\",\"parent\":0}]}\n"
    ++ codes "{\"answer\":\"inspect\",\"commit\":7,\"names\":{\"x\":\"#0\",\"y\":\"#1\",\"z\":\"#0\"},\"nodes\":[[\"list\",\"1\"],[\"list\",\"#2\"],[\"list\",\"1\"]]}\n"
    ++ codes "{\"answer\":\"stored\",\"commit\":5,\"dropped\":[[\"x\",\"y\"]],\"stored\":[[\"x\"],[\"y\"]]}\n"
    ++ codes "{\"answer\":\"stored\",\"commit\":6,\"dropped\":[[\"z\"]],\"stored\":[]}\n"
    ++ codes "{\"answer\":\"stored\",\"commit\":7,\"dropped\":[[\"x\"]],\"stored\":[[\"x\",\"z\"]]}\n"
unfolding requests_on_literals
groups_10 = refl

groups_11 : answers groups_graph9 (map answered (stored (codes "8") ∷ plan (codes "5") ∷ plan (codes "6") ∷ plan (codes "4") ∷ plan (codes "1") ∷ plan (codes "main") ∷ []))
    ≡ codes "{\"answer\":\"refused\",\"number\":2,\"reason\":\"NoSuchRef\"}\n"
    ++ codes "{\"answer\":\"plan\",\"commit\":5,\"drop\":[[\"x\",\"z\"]],\"keep\":[[\"y\"]],\"load\":[[\"x\"],[\"z\"]]}\n"
    ++ codes "{\"answer\":\"plan\",\"commit\":6,\"drop\":[[\"x\",\"z\"]],\"keep\":[[\"y\"]],\"load\":[[\"x\"]]}\n"
    ++ codes "{\"answer\":\"plan\",\"commit\":4,\"drop\":[[\"x\",\"z\"],[\"y\"]],\"keep\":[],\"load\":[[\"w\",\"z\"],[\"x\",\"y\"]]}\n"
    ++ codes "{\"answer\":\"plan\",\"commit\":1,\"drop\":[[\"x\",\"z\"],[\"y\"]],\"keep\":[],\"load\":[[\"x\",\"y\"],[\"z\"]]}\n"
    ++ codes "{\"answer\":\"plan\",\"commit\":2,\"drop\":[[\"x\",\"z\"],[\"y\"]],\"keep\":[],\"load\":[[\"x\"],[\"y\"],[\"z\"]]}\n"
unfolding requests_on_literals
groups_11 = refl

groups_12 : answers groups_graph9 (map answered (plan (codes "try") ∷ plan (codes "0") ∷ []))
    ≡ codes "{\"answer\":\"plan\",\"commit\":4,\"drop\":[[\"x\",\"z\"],[\"y\"]],\"keep\":[],\"load\":[[\"w\",\"z\"],[\"x\",\"y\"]]}\n"
    ++ codes "{\"answer\":\"plan\",\"commit\":0,\"drop\":[[\"x\",\"z\"],[\"y\"]],\"keep\":[],\"load\":[]}\n"
unfolding requests_on_literals
groups_12 = refl

groups_13 : answers groups_graph9 (map answered (checkout (codes "main") ∷ branch (codes "Z") None ∷ branch (codes "_") (Some (codes "try")) ∷ branch (codes "a-1") (Some (codes "main")) ∷ checkout (codes "0") ∷ cell (codes "y = z = [2]") ∷ []))
    ≡ codes "{\"answer\":\"checkout\",\"commit\":2,\"head\":\"main\"}\n"
    ++ codes "{\"answer\":\"branch\",\"commit\":2,\"name\":\"Z\"}\n"
    ++ codes "{\"answer\":\"branch\",\"commit\":4,\"name\":\"_\"}\n"
    ++ codes "{\"answer\":\"branch\",\"commit\":2,\"name\":\"a-1\"}\n"
    ++ codes "{\"answer\":\"checkout\",\"commit\":0,\"head\":null}\n"
    ++ codes "{\"answer\":\"cell\",\"commit\":8,\"count\":1,\"outcome\":\"ok\",\"outputs\":[]}\n"
unfolding requests_on_literals
groups_13 = refl

abbrev groups_graph13 : Graph
groups_graph13 = record { commits = ((record { parent = 0; profile = One; cells = ((codes "y = z = [2]") ∷ []) }) ∷ (record { parent = 6; profile = One; cells = ((codes "z = x") ∷ []) }) ∷ (record { parent = 5; profile = One; cells = ((codes "del z") ∷ []) }) ∷ (record { parent = 3; profile = One; cells = ((codes "x = [1]") ∷ []) }) ∷ (record { parent = 3; profile = One; cells = ((codes "w = z") ∷ []) }) ∷ (record { parent = 1; profile = One; cells = ((codes "z.append(3)") ∷ []) }) ∷ (record { parent = 1; profile = One; cells = ((codes "y = 0") ∷ []) }) ∷ (record { parent = 0; profile = One; cells = ((codes "x = [1]; y = [x]; z = [2]") ∷ []) }) ∷ []); branches = (((codes "Z"), 2) ∷ ((codes "_"), 4) ∷ ((codes "a-1"), 2) ∷ ((codes "main"), 2) ∷ ((codes "try"), 4) ∷ []); head = record { commit = 8; branch = None }; records = 16 }

groups_13_left : after_all groups_graph9 (map answered (checkout (codes "main") ∷ branch (codes "Z") None ∷ branch (codes "_") (Some (codes "try")) ∷ branch (codes "a-1") (Some (codes "main")) ∷ checkout (codes "0") ∷ cell (codes "y = z = [2]") ∷ [])) ≡ groups_graph13
unfolding requests_on_literals
groups_13_left = refl

groups_14 : answers groups_graph13 (map answered (status ∷ log ∷ inspect ∷ stored (codes "Z") ∷ stored (codes "8") ∷ stored (codes "07") ∷ []))
    ≡ codes "{\"answer\":\"status\",\"branch\":null,\"commit\":8,\"commits\":9,\"names\":[\"y\",\"z\"],\"records\":16}\n"
    ++ codes "{\"answer\":\"log\",\"branches\":[{\"commit\":2,\"name\":\"Z\"},{\"commit\":4,\"name\":\"_\"},{\"commit\":2,\"name\":\"a-1\"},{\"commit\":2,\"name\":\"main\"},{\"commit\":4,\"name\":\"try\"}],\"path\":[{\"cells\":1,\"commit\":8,\"line\":\"y = z = [2]\",\"parent\":0}]}\n"
    ++ codes "{\"answer\":\"inspect\",\"commit\":8,\"names\":{\"y\":\"#0\",\"z\":\"#0\"},\"nodes\":[[\"list\",\"2\"]]}\n"
    ++ codes "{\"answer\":\"stored\",\"commit\":2,\"dropped\":[[\"x\",\"y\"]],\"stored\":[[\"x\"],[\"y\"]]}\n"
    ++ codes "{\"answer\":\"stored\",\"commit\":8,\"dropped\":[],\"stored\":[[\"y\",\"z\"]]}\n"
    ++ codes "{\"answer\":\"refused\",\"number\":2,\"reason\":\"NoSuchRef\"}\n"
unfolding requests_on_literals
groups_14 = refl

groups_15 : answers groups_graph13 (map answered (plan (codes "Z") ∷ plan (codes "_") ∷ plan (codes "7") ∷ plan (codes "8") ∷ []))
    ≡ codes "{\"answer\":\"plan\",\"commit\":2,\"drop\":[[\"y\",\"z\"]],\"keep\":[],\"load\":[[\"x\"],[\"y\"],[\"z\"]]}\n"
    ++ codes "{\"answer\":\"plan\",\"commit\":4,\"drop\":[[\"y\",\"z\"]],\"keep\":[],\"load\":[[\"w\",\"z\"],[\"x\",\"y\"]]}\n"
    ++ codes "{\"answer\":\"plan\",\"commit\":7,\"drop\":[[\"y\",\"z\"]],\"keep\":[],\"load\":[[\"x\",\"z\"],[\"y\"]]}\n"
    ++ codes "{\"answer\":\"plan\",\"commit\":8,\"drop\":[],\"keep\":[[\"y\",\"z\"]],\"load\":[]}\n"
unfolding requests_on_literals
groups_15 = refl
