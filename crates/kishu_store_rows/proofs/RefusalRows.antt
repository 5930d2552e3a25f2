-- What is refused, in which order, and that nothing changes then: computed on the definitions. Made by tools/rows/request_rows.py.
use Rattle.std.specs.Prelude.{◌≡◌, [], ◌∷◌, ◌++◌, codes, Some, None, refl}
use Rattle.std.specs.Prelude.{map}
use Rattle.kishu_language.specs.declared.profile.Profile.TheVariants.{One}
use Rattle.kishu_store.specs.Graph.{Graph, new_graph}
use Rattle.kishu_model.specs.Request.{cell, cells, checkout, branch, log, status, inspect, stored, plan, unreadable}
use Rattle.kishu_model.specs.Serve.{answered, after_all, answers}
use Rattle.kishu_store_rows.proofs.OnLiterals.{requests_on_literals}

-- ---- on a store with room

abbrev refused_graph0 : Graph
refused_graph0 = new_graph

refused_1 : answers refused_graph0 (map answered (unreadable ∷ branch (codes "main") None ∷ branch (codes "9") None ∷ branch ([]) None ∷ branch (codes "a b") None ∷ branch (codes "nnnnnnnnnnnnnnnnnnnnnnnnnnnnnnnnnnnnnnnnnnnnnnnnnnnnnnnnnnnnnnnnn") None ∷ branch ((195 ∷ 169 ∷ [])) None ∷ []))
    ≡ codes "{\"answer\":\"refused\",\"number\":1,\"reason\":\"BadRequest\"}\n"
    ++ codes "{\"answer\":\"refused\",\"number\":4,\"reason\":\"NameTaken\"}\n"
    ++ codes "{\"answer\":\"refused\",\"number\":3,\"reason\":\"BadName\"}\n"
    ++ codes "{\"answer\":\"refused\",\"number\":3,\"reason\":\"BadName\"}\n"
    ++ codes "{\"answer\":\"refused\",\"number\":3,\"reason\":\"BadName\"}\n"
    ++ codes "{\"answer\":\"refused\",\"number\":3,\"reason\":\"BadName\"}\n"
    ++ codes "{\"answer\":\"refused\",\"number\":3,\"reason\":\"BadName\"}\n"
unfolding requests_on_literals
refused_1 = refl

abbrev refused_graph1 : Graph
refused_graph1 = record { commits = []; branches = (((codes "main"), 0) ∷ []); head = record { commit = 0; branch = Some (codes "main") }; records = 0 }

refused_1_left : after_all refused_graph0 (map answered (unreadable ∷ branch (codes "main") None ∷ branch (codes "9") None ∷ branch ([]) None ∷ branch (codes "a b") None ∷ branch (codes "nnnnnnnnnnnnnnnnnnnnnnnnnnnnnnnnnnnnnnnnnnnnnnnnnnnnnnnnnnnnnnnnn") None ∷ branch ((195 ∷ 169 ∷ [])) None ∷ [])) ≡ refused_graph1
unfolding requests_on_literals
refused_1_left = refl

refused_2 : answers refused_graph1 (map answered (branch (codes "9") (Some (codes "nowhere")) ∷ branch (codes "main") (Some (codes "nowhere")) ∷ branch (codes "try") (Some (codes "nowhere")) ∷ branch (codes "try") (Some (codes "1")) ∷ branch (codes "try") (Some (codes "00")) ∷ branch (codes "try") (Some ([])) ∷ []))
    ≡ codes "{\"answer\":\"refused\",\"number\":3,\"reason\":\"BadName\"}\n"
    ++ codes "{\"answer\":\"refused\",\"number\":4,\"reason\":\"NameTaken\"}\n"
    ++ codes "{\"answer\":\"refused\",\"number\":2,\"reason\":\"NoSuchRef\"}\n"
    ++ codes "{\"answer\":\"refused\",\"number\":2,\"reason\":\"NoSuchRef\"}\n"
    ++ codes "{\"answer\":\"refused\",\"number\":2,\"reason\":\"NoSuchRef\"}\n"
    ++ codes "{\"answer\":\"refused\",\"number\":2,\"reason\":\"NoSuchRef\"}\n"
unfolding requests_on_literals
refused_2 = refl

abbrev refused_graph2 : Graph
refused_graph2 = record { commits = []; branches = (((codes "main"), 0) ∷ []); head = record { commit = 0; branch = Some (codes "main") }; records = 0 }

refused_2_left : after_all refused_graph1 (map answered (branch (codes "9") (Some (codes "nowhere")) ∷ branch (codes "main") (Some (codes "nowhere")) ∷ branch (codes "try") (Some (codes "nowhere")) ∷ branch (codes "try") (Some (codes "1")) ∷ branch (codes "try") (Some (codes "00")) ∷ branch (codes "try") (Some ([])) ∷ [])) ≡ refused_graph2
unfolding requests_on_literals
refused_2_left = refl

refused_3 : answers refused_graph2 (map answered (checkout (codes "1") ∷ checkout (codes "00") ∷ checkout (codes "Main") ∷ checkout (codes "main ") ∷ checkout ([]) ∷ stored (codes "1") ∷ stored (codes "x") ∷ plan (codes "1") ∷ plan ([]) ∷ cells [] ∷ []))
    ≡ codes "{\"answer\":\"refused\",\"number\":2,\"reason\":\"NoSuchRef\"}\n"
    ++ codes "{\"answer\":\"refused\",\"number\":2,\"reason\":\"NoSuchRef\"}\n"
    ++ codes "{\"answer\":\"refused\",\"number\":2,\"reason\":\"NoSuchRef\"}\n"
    ++ codes "{\"answer\":\"refused\",\"number\":2,\"reason\":\"NoSuchRef\"}\n"
    ++ codes "{\"answer\":\"refused\",\"number\":2,\"reason\":\"NoSuchRef\"}\n"
    ++ codes "{\"answer\":\"refused\",\"number\":2,\"reason\":\"NoSuchRef\"}\n"
    ++ codes "{\"answer\":\"refused\",\"number\":2,\"reason\":\"NoSuchRef\"}\n"
    ++ codes "{\"answer\":\"refused\",\"number\":2,\"reason\":\"NoSuchRef\"}\n"
    ++ codes "{\"answer\":\"refused\",\"number\":2,\"reason\":\"NoSuchRef\"}\n"
    ++ codes "{\"answer\":\"refused\",\"number\":1,\"reason\":\"BadRequest\"}\n"
unfolding requests_on_literals
refused_3 = refl

abbrev refused_graph3 : Graph
refused_graph3 = record { commits = []; branches = (((codes "main"), 0) ∷ []); head = record { commit = 0; branch = Some (codes "main") }; records = 0 }

refused_3_left : after_all refused_graph2 (map answered (checkout (codes "1") ∷ checkout (codes "00") ∷ checkout (codes "Main") ∷ checkout (codes "main ") ∷ checkout ([]) ∷ stored (codes "1") ∷ stored (codes "x") ∷ plan (codes "1") ∷ plan ([]) ∷ cells [] ∷ [])) ≡ refused_graph3
unfolding requests_on_literals
refused_3_left = refl

refused_4 : answers refused_graph3 (map answered (branch (codes "nnnnnnnnnnnnnnnnnnnnnnnnnnnnnnnnnnnnnnnnnnnnnnnnnnnnnnnnnnnnnnnn") None ∷ branch (codes "a-b_9") (Some (codes "0")) ∷ branch (codes "_") (Some (codes "main")) ∷ branch (codes "Main") None ∷ checkout (codes "Main") ∷ branch (codes "Main") None ∷ checkout (codes "a-b_9") ∷ []))
    ≡ codes "{\"answer\":\"branch\",\"commit\":0,\"name\":\"nnnnnnnnnnnnnnnnnnnnnnnnnnnnnnnnnnnnnnnnnnnnnnnnnnnnnnnnnnnnnnnn\"}\n"
    ++ codes "{\"answer\":\"branch\",\"commit\":0,\"name\":\"a-b_9\"}\n"
    ++ codes "{\"answer\":\"branch\",\"commit\":0,\"name\":\"_\"}\n"
    ++ codes "{\"answer\":\"branch\",\"commit\":0,\"name\":\"Main\"}\n"
    ++ codes "{\"answer\":\"checkout\",\"commit\":0,\"head\":\"Main\"}\n"
    ++ codes "{\"answer\":\"refused\",\"number\":4,\"reason\":\"NameTaken\"}\n"
    ++ codes "{\"answer\":\"checkout\",\"commit\":0,\"head\":\"a-b_9\"}\n"
unfolding requests_on_literals
refused_4 = refl

abbrev refused_graph4 : Graph
refused_graph4 = record { commits = []; branches = (((codes "Main"), 0) ∷ ((codes "_"), 0) ∷ ((codes "a-b_9"), 0) ∷ ((codes "main"), 0) ∷ ((codes "nnnnnnnnnnnnnnnnnnnnnnnnnnnnnnnnnnnnnnnnnnnnnnnnnnnnnnnnnnnnnnnn"), 0) ∷ []); head = record { commit = 0; branch = Some (codes "a-b_9") }; records = 6 }

refused_4_left : after_all refused_graph3 (map answered (branch (codes "nnnnnnnnnnnnnnnnnnnnnnnnnnnnnnnnnnnnnnnnnnnnnnnnnnnnnnnnnnnnnnnn") None ∷ branch (codes "a-b_9") (Some (codes "0")) ∷ branch (codes "_") (Some (codes "main")) ∷ branch (codes "Main") None ∷ checkout (codes "Main") ∷ branch (codes "Main") None ∷ checkout (codes "a-b_9") ∷ [])) ≡ refused_graph4
unfolding requests_on_literals
refused_4_left = refl

refused_5 : answers refused_graph4 (map answered (status ∷ log ∷ inspect ∷ []))
    ≡ codes "{\"answer\":\"status\",\"branch\":\"a-b_9\",\"commit\":0,\"commits\":1,\"names\":[],\"records\":6}\n"
    ++ codes "{\"answer\":\"log\",\"branches\":[{\"commit\":0,\"name\":\"Main\"},{\"commit\":0,\"name\":\"_\"},{\"commit\":0,\"name\":\"a-b_9\"},{\"commit\":0,\"name\":\"main\"},{\"commit\":0,\"name\":\"nnnnnnnnnnnnnnnnnnnnnnnnnnnnnnnnnnnnnnnnnnnnnnnnnnnnnnnnnnnnnnnn\"}],\"path\":[]}\n"
    ++ codes "{\"answer\":\"inspect\",\"commit\":0,\"names\":{},\"nodes\":[]}\n"
unfolding requests_on_literals
refused_5 = refl

-- ---- on a store that is full

abbrev full_graph0 : Graph
full_graph0 = record new_graph { records = 1000000 }

full_1 : answers full_graph0 (map answered (cell (codes "1") ∷ cells ((codes "1") ∷ (codes "2") ∷ []) ∷ checkout (codes "main") ∷ checkout (codes "0") ∷ checkout (codes "1") ∷ branch (codes "try") None ∷ branch (codes "main") None ∷ branch (codes "9") None ∷ branch (codes "try") (Some (codes "x")) ∷ branch (codes "try") (Some (codes "main")) ∷ []))
    ≡ codes "{\"answer\":\"refused\",\"number\":5,\"reason\":\"StoreFull\"}\n"
    ++ codes "{\"answer\":\"refused\",\"number\":5,\"reason\":\"StoreFull\"}\n"
    ++ codes "{\"answer\":\"refused\",\"number\":5,\"reason\":\"StoreFull\"}\n"
    ++ codes "{\"answer\":\"refused\",\"number\":5,\"reason\":\"StoreFull\"}\n"
    ++ codes "{\"answer\":\"refused\",\"number\":2,\"reason\":\"NoSuchRef\"}\n"
    ++ codes "{\"answer\":\"refused\",\"number\":5,\"reason\":\"StoreFull\"}\n"
    ++ codes "{\"answer\":\"refused\",\"number\":4,\"reason\":\"NameTaken\"}\n"
    ++ codes "{\"answer\":\"refused\",\"number\":3,\"reason\":\"BadName\"}\n"
    ++ codes "{\"answer\":\"refused\",\"number\":2,\"reason\":\"NoSuchRef\"}\n"
    ++ codes "{\"answer\":\"refused\",\"number\":5,\"reason\":\"StoreFull\"}\n"
unfolding requests_on_literals
full_1 = refl

abbrev full_graph1 : Graph
full_graph1 = record { commits = []; branches = (((codes "main"), 0) ∷ []); head = record { commit = 0; branch = Some (codes "main") }; records = 1000000 }

full_1_left : after_all full_graph0 (map answered (cell (codes "1") ∷ cells ((codes "1") ∷ (codes "2") ∷ []) ∷ checkout (codes "main") ∷ checkout (codes "0") ∷ checkout (codes "1") ∷ branch (codes "try") None ∷ branch (codes "main") None ∷ branch (codes "9") None ∷ branch (codes "try") (Some (codes "x")) ∷ branch (codes "try") (Some (codes "main")) ∷ [])) ≡ full_graph1
unfolding requests_on_literals
full_1_left = refl

full_2 : answers full_graph1 (map answered (status ∷ log ∷ inspect ∷ stored (codes "0") ∷ plan (codes "main") ∷ unreadable ∷ []))
    ≡ codes "{\"answer\":\"status\",\"branch\":\"main\",\"commit\":0,\"commits\":1,\"names\":[],\"records\":1000000}\n"
    ++ codes "{\"answer\":\"log\",\"branches\":[{\"commit\":0,\"name\":\"main\"}],\"path\":[]}\n"
    ++ codes "{\"answer\":\"inspect\",\"commit\":0,\"names\":{},\"nodes\":[]}\n"
    ++ codes "{\"answer\":\"stored\",\"commit\":0,\"dropped\":[],\"stored\":[]}\n"
    ++ codes "{\"answer\":\"plan\",\"commit\":0,\"drop\":[],\"keep\":[],\"load\":[]}\n"
    ++ codes "{\"answer\":\"refused\",\"number\":1,\"reason\":\"BadRequest\"}\n"
unfolding requests_on_literals
full_2 = refl

full_3 : answers full_graph1 (map answered (cells [] ∷ []))
    ≡ codes "{\"answer\":\"refused\",\"number\":1,\"reason\":\"BadRequest\"}\n"
unfolding requests_on_literals
full_3 = refl

-- ---- on a store with room for one record

abbrev last_graph0 : Graph
last_graph0 = record new_graph { records = 999999 }

last_1 : answers last_graph0 (map answered (branch (codes "try") None ∷ branch (codes "more") None ∷ checkout (codes "try") ∷ cell (codes "1") ∷ []))
    ≡ codes "{\"answer\":\"branch\",\"commit\":0,\"name\":\"try\"}\n"
    ++ codes "{\"answer\":\"refused\",\"number\":5,\"reason\":\"StoreFull\"}\n"
    ++ codes "{\"answer\":\"refused\",\"number\":5,\"reason\":\"StoreFull\"}\n"
    ++ codes "{\"answer\":\"refused\",\"number\":5,\"reason\":\"StoreFull\"}\n"
unfolding requests_on_literals
last_1 = refl

abbrev last_graph1 : Graph
last_graph1 = record { commits = []; branches = (((codes "main"), 0) ∷ ((codes "try"), 0) ∷ []); head = record { commit = 0; branch = Some (codes "main") }; records = 1000000 }

last_1_left : after_all last_graph0 (map answered (branch (codes "try") None ∷ branch (codes "more") None ∷ checkout (codes "try") ∷ cell (codes "1") ∷ [])) ≡ last_graph1
unfolding requests_on_literals
last_1_left = refl

-- ---- and for a cell

abbrev last_cell_graph0 : Graph
last_cell_graph0 = record new_graph { records = 999999 }

last_cell_1 : answers last_cell_graph0 (map answered (cell (codes "a = 1") ∷ cell (codes "a") ∷ cells ((codes "a") ∷ []) ∷ checkout (codes "main") ∷ []))
    ≡ codes "{\"answer\":\"cell\",\"commit\":1,\"count\":1,\"outcome\":\"ok\",\"outputs\":[]}\n"
    ++ codes "{\"answer\":\"refused\",\"number\":5,\"reason\":\"StoreFull\"}\n"
    ++ codes "{\"answer\":\"refused\",\"number\":5,\"reason\":\"StoreFull\"}\n"
    ++ codes "{\"answer\":\"refused\",\"number\":5,\"reason\":\"StoreFull\"}\n"
unfolding requests_on_literals
last_cell_1 = refl

abbrev last_cell_graph1 : Graph
last_cell_graph1 = record { commits = ((record { parent = 0; profile = One; cells = ((codes "a = 1") ∷ []) }) ∷ []); branches = (((codes "main"), 1) ∷ []); head = record { commit = 1; branch = Some (codes "main") }; records = 1000000 }

last_cell_1_left : after_all last_cell_graph0 (map answered (cell (codes "a = 1") ∷ cell (codes "a") ∷ cells ((codes "a") ∷ []) ∷ checkout (codes "main") ∷ [])) ≡ last_cell_graph1
unfolding requests_on_literals
last_cell_1_left = refl

last_cell_2 : answers last_cell_graph1 (map answered (status ∷ log ∷ inspect ∷ []))
    ≡ codes "{\"answer\":\"status\",\"branch\":\"main\",\"commit\":1,\"commits\":2,\"names\":[\"a\"],\"records\":1000000}\n"
    ++ codes "{\"answer\":\"log\",\"branches\":[{\"commit\":1,\"name\":\"main\"}],\"path\":[{\"cells\":1,\"commit\":1,\"line\":\"a = 1\",\"parent\":0}]}\n"
    ++ codes "{\"answer\":\"inspect\",\"commit\":1,\"names\":{\"a\":\"1\"},\"nodes\":[]}\n"
unfolding requests_on_literals
last_cell_2 = refl
