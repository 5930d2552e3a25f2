-- Branches: which names are taken, where they begin, and which goes along with the head: computed on the definitions. Made by tools/rows/request_rows.py.
use Rattle.std.specs.Prelude.{◌≡◌, [], ◌∷◌, ◌++◌, codes, Some, None, refl}
use Rattle.std.specs.Prelude.{map}
use Rattle.kishu_language.specs.declared.profile.Profile.TheVariants.{One}
use Rattle.kishu_store.specs.Graph.{Graph, new_graph}
use Rattle.kishu_model.specs.Request.{cell, cells, checkout, branch, log, status, inspect, stored, plan}
use Rattle.kishu_model.specs.Serve.{answered, after_all, answers}
use Rattle.kishu_store_rows.proofs.OnLiterals.{requests_on_literals}

-- ---- names and places

abbrev branches_graph0 : Graph
branches_graph0 = new_graph

branches_1 : answers branches_graph0 (map answered (branch (codes "a") None ∷ branch (codes "a") (Some (codes "0")) ∷ branch (codes "A") None ∷ branch (codes "a-") (Some (codes "a")) ∷ branch (codes "-a") None ∷ branch (codes "a.b") None ∷ branch (codes "a/b") None ∷ branch (codes "_0") None ∷ branch (codes "0_") None ∷ []))
    ≡ codes "{\"answer\":\"branch\",\"commit\":0,\"name\":\"a\"}\n"
    ++ codes "{\"answer\":\"refused\",\"number\":4,\"reason\":\"NameTaken\"}\n"
    ++ codes "{\"answer\":\"branch\",\"commit\":0,\"name\":\"A\"}\n"
    ++ codes "{\"answer\":\"branch\",\"commit\":0,\"name\":\"a-\"}\n"
    ++ codes "{\"answer\":\"refused\",\"number\":3,\"reason\":\"BadName\"}\n"
    ++ codes "{\"answer\":\"refused\",\"number\":3,\"reason\":\"BadName\"}\n"
    ++ codes "{\"answer\":\"refused\",\"number\":3,\"reason\":\"BadName\"}\n"
    ++ codes "{\"answer\":\"branch\",\"commit\":0,\"name\":\"_0\"}\n"
    ++ codes "{\"answer\":\"refused\",\"number\":3,\"reason\":\"BadName\"}\n"
unfolding requests_on_literals
branches_1 = refl

abbrev branches_graph1 : Graph
branches_graph1 = record { commits = []; branches = (((codes "A"), 0) ∷ ((codes "_0"), 0) ∷ ((codes "a"), 0) ∷ ((codes "a-"), 0) ∷ ((codes "main"), 0) ∷ []); head = record { commit = 0; branch = Some (codes "main") }; records = 4 }

branches_1_left : after_all branches_graph0 (map answered (branch (codes "a") None ∷ branch (codes "a") (Some (codes "0")) ∷ branch (codes "A") None ∷ branch (codes "a-") (Some (codes "a")) ∷ branch (codes "-a") None ∷ branch (codes "a.b") None ∷ branch (codes "a/b") None ∷ branch (codes "_0") None ∷ branch (codes "0_") None ∷ [])) ≡ branches_graph1
unfolding requests_on_literals
branches_1_left = refl

branches_2 : answers branches_graph1 (map answered (cell (codes "x = 1") ∷ branch (codes "b") None ∷ branch (codes "c") (Some (codes "0")) ∷ branch (codes "d") (Some (codes "1")) ∷ branch (codes "e") (Some (codes "2")) ∷ branch (codes "f") (Some (codes "c")) ∷ branch (codes "g") (Some (codes "main")) ∷ branch (codes "h") (Some (codes "H")) ∷ []))
    ≡ codes "{\"answer\":\"cell\",\"commit\":1,\"count\":1,\"outcome\":\"ok\",\"outputs\":[]}\n"
    ++ codes "{\"answer\":\"branch\",\"commit\":1,\"name\":\"b\"}\n"
    ++ codes "{\"answer\":\"branch\",\"commit\":0,\"name\":\"c\"}\n"
    ++ codes "{\"answer\":\"branch\",\"commit\":1,\"name\":\"d\"}\n"
    ++ codes "{\"answer\":\"refused\",\"number\":2,\"reason\":\"NoSuchRef\"}\n"
    ++ codes "{\"answer\":\"branch\",\"commit\":0,\"name\":\"f\"}\n"
    ++ codes "{\"answer\":\"branch\",\"commit\":1,\"name\":\"g\"}\n"
    ++ codes "{\"answer\":\"refused\",\"number\":2,\"reason\":\"NoSuchRef\"}\n"
unfolding requests_on_literals
branches_2 = refl

abbrev branches_graph2 : Graph
branches_graph2 = record { commits = ((record { parent = 0; profile = One; cells = ((codes "x = 1") ∷ []) }) ∷ []); branches = (((codes "A"), 0) ∷ ((codes "_0"), 0) ∷ ((codes "a"), 0) ∷ ((codes "a-"), 0) ∷ ((codes "b"), 1) ∷ ((codes "c"), 0) ∷ ((codes "d"), 1) ∷ ((codes "f"), 0) ∷ ((codes "g"), 1) ∷ ((codes "main"), 1) ∷ []); head = record { commit = 1; branch = Some (codes "main") }; records = 10 }

branches_2_left : after_all branches_graph1 (map answered (cell (codes "x = 1") ∷ branch (codes "b") None ∷ branch (codes "c") (Some (codes "0")) ∷ branch (codes "d") (Some (codes "1")) ∷ branch (codes "e") (Some (codes "2")) ∷ branch (codes "f") (Some (codes "c")) ∷ branch (codes "g") (Some (codes "main")) ∷ branch (codes "h") (Some (codes "H")) ∷ [])) ≡ branches_graph2
unfolding requests_on_literals
branches_2_left = refl

branches_3 : answers branches_graph2 (map answered (status ∷ log ∷ inspect ∷ []))
    ≡ codes "{\"answer\":\"status\",\"branch\":\"main\",\"commit\":1,\"commits\":2,\"names\":[\"x\"],\"records\":10}\n"
    ++ codes "{\"answer\":\"log\",\"branches\":[{\"commit\":0,\"name\":\"A\"},{\"commit\":0,\"name\":\"_0\"},{\"commit\":0,\"name\":\"a\"},{\"commit\":0,\"name\":\"a-\"},{\"commit\":1,\"name\":\"b\"},{\"commit\":0,\"name\":\"c\"},{\"commit\":1,\"name\":\"d\"},{\"commit\":0,\"name\":\"f\"},{\"commit\":1,\"name\":\"g\"},{\"commit\":1,\"name\":\"main\"}],\"path\":[{\"cells\":1,\"commit\":1,\"line\":\"x = 1\",\"parent\":0}]}\n"
    ++ codes "{\"answer\":\"inspect\",\"commit\":1,\"names\":{\"x\":\"1\"},\"nodes\":[]}\n"
unfolding requests_on_literals
branches_3 = refl

branches_4 : answers branches_graph2 (map answered (checkout (codes "c") ∷ cell (codes "y = 1") ∷ branch (codes "i") None ∷ checkout (codes "d") ∷ cell (codes "y = 2") ∷ checkout (codes "2") ∷ cell (codes "y = 3") ∷ branch (codes "j") None ∷ branch (codes "k") (Some (codes "c")) ∷ []))
    ≡ codes "{\"answer\":\"checkout\",\"commit\":0,\"head\":\"c\"}\n"
    ++ codes "{\"answer\":\"cell\",\"commit\":2,\"count\":1,\"outcome\":\"ok\",\"outputs\":[]}\n"
    ++ codes "{\"answer\":\"branch\",\"commit\":2,\"name\":\"i\"}\n"
    ++ codes "{\"answer\":\"checkout\",\"commit\":1,\"head\":\"d\"}\n"
    ++ codes "{\"answer\":\"cell\",\"commit\":3,\"count\":2,\"outcome\":\"ok\",\"outputs\":[]}\n"
    ++ codes "{\"answer\":\"checkout\",\"commit\":2,\"head\":null}\n"
    ++ codes "{\"answer\":\"cell\",\"commit\":4,\"count\":2,\"outcome\":\"ok\",\"outputs\":[]}\n"
    ++ codes "{\"answer\":\"branch\",\"commit\":4,\"name\":\"j\"}\n"
    ++ codes "{\"answer\":\"branch\",\"commit\":2,\"name\":\"k\"}\n"
unfolding requests_on_literals
branches_4 = refl

abbrev branches_graph4 : Graph
branches_graph4 = record { commits = ((record { parent = 2; profile = One; cells = ((codes "y = 3") ∷ []) }) ∷ (record { parent = 1; profile = One; cells = ((codes "y = 2") ∷ []) }) ∷ (record { parent = 0; profile = One; cells = ((codes "y = 1") ∷ []) }) ∷ (record { parent = 0; profile = One; cells = ((codes "x = 1") ∷ []) }) ∷ []); branches = (((codes "A"), 0) ∷ ((codes "_0"), 0) ∷ ((codes "a"), 0) ∷ ((codes "a-"), 0) ∷ ((codes "b"), 1) ∷ ((codes "c"), 2) ∷ ((codes "d"), 3) ∷ ((codes "f"), 0) ∷ ((codes "g"), 1) ∷ ((codes "i"), 2) ∷ ((codes "j"), 4) ∷ ((codes "k"), 2) ∷ ((codes "main"), 1) ∷ []); head = record { commit = 4; branch = None }; records = 19 }

branches_4_left : after_all branches_graph2 (map answered (checkout (codes "c") ∷ cell (codes "y = 1") ∷ branch (codes "i") None ∷ checkout (codes "d") ∷ cell (codes "y = 2") ∷ checkout (codes "2") ∷ cell (codes "y = 3") ∷ branch (codes "j") None ∷ branch (codes "k") (Some (codes "c")) ∷ [])) ≡ branches_graph4
unfolding requests_on_literals
branches_4_left = refl

branches_5 : answers branches_graph4 (map answered (status ∷ log ∷ inspect ∷ plan (codes "c") ∷ plan (codes "d") ∷ plan (codes "i") ∷ []))
    ≡ codes "{\"answer\":\"status\",\"branch\":null,\"commit\":4,\"commits\":5,\"names\":[\"y\"],\"records\":19}\n"
    ++ codes "{\"answer\":\"log\",\"branches\":[{\"commit\":0,\"name\":\"A\"},{\"commit\":0,\"name\":\"_0\"},{\"commit\":0,\"name\":\"a\"},{\"commit\":0,\"name\":\"a-\"},{\"commit\":1,\"name\":\"b\"},{\"commit\":2,\"name\":\"c\"},{\"commit\":3,\"name\":\"d\"},{\"commit\":0,\"name\":\"f\"},{\"commit\":1,\"name\":\"g\"},{\"commit\":2,\"name\":\"i\"},{\"commit\":4,\"name\":\"j\"},{\"commit\":2,\"name\":\"k\"},{\"commit\":1,\"name\":\"main\"}],\"path\":[{\"cells\":1,\"commit\":4,\"line\":\"y = 3\",\"parent\":2},{\"cells\":1,\"commit\":2,\"line\":\"y = 1\",\"parent\":0}]}\n"
    ++ codes "{\"answer\":\"inspect\",\"commit\":4,\"names\":{\"y\":\"3\"},\"nodes\":[]}\n"
    ++ codes "{\"answer\":\"plan\",\"commit\":2,\"drop\":[[\"y\"]],\"keep\":[],\"load\":[[\"y\"]]}\n"
    ++ codes "{\"answer\":\"plan\",\"commit\":3,\"drop\":[[\"y\"]],\"keep\":[],\"load\":[[\"x\"],[\"y\"]]}\n"
    ++ codes "{\"answer\":\"plan\",\"commit\":2,\"drop\":[[\"y\"]],\"keep\":[],\"load\":[[\"y\"]]}\n"
unfolding requests_on_literals
branches_5 = refl

branches_6 : answers branches_graph4 (map answered (stored (codes "j") ∷ plan (codes "j") ∷ stored (codes "c") ∷ []))
    ≡ codes "{\"answer\":\"stored\",\"commit\":4,\"dropped\":[[\"y\"]],\"stored\":[[\"y\"]]}\n"
    ++ codes "{\"answer\":\"plan\",\"commit\":4,\"drop\":[],\"keep\":[[\"y\"]],\"load\":[]}\n"
    ++ codes "{\"answer\":\"stored\",\"commit\":2,\"dropped\":[],\"stored\":[[\"y\"]]}\n"
unfolding requests_on_literals
branches_6 = refl
