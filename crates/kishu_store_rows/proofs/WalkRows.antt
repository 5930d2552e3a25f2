-- What is told at each commit of a history that branches, to which checkouts lead: computed on the definitions. Made by tools/rows/request_rows.py.
use Rattle.std.specs.Prelude.{◌≡◌, [], ◌∷◌, ◌++◌, codes, Some, None, refl}
use Rattle.std.specs.Prelude.{map}
use Rattle.kishu_language.specs.declared.profile.Profile.TheVariants.{One}
use Rattle.kishu_store.specs.Graph.{Graph, new_graph}
use Rattle.kishu_model.specs.Request.{cell, cells, checkout, branch, log, status, inspect}
use Rattle.kishu_model.specs.Serve.{answered, after_all, answers}
use Rattle.kishu_store_rows.proofs.OnLiterals.{requests_on_literals}

-- ---- a way to each commit and each branch

abbrev walk_graph0 : Graph
walk_graph0 = new_graph

walk_1 : answers walk_graph0 (map answered (cell (codes "x = [1]; y = [x]; z = (x, 'a')") ∷ cell (codes "y = {1: y, (1, None): z}") ∷ branch (codes "try") (Some (codes "1")) ∷ branch (codes "b") (Some (codes "0")) ∷ checkout (codes "try") ∷ []))
    ≡ codes "{\"answer\":\"cell\",\"commit\":1,\"count\":1,\"outcome\":\"ok\",\"outputs\":[]}\n"
    ++ codes "{\"answer\":\"cell\",\"commit\":2,\"count\":2,\"outcome\":\"ok\",\"outputs\":[]}\n"
    ++ codes "{\"answer\":\"branch\",\"commit\":1,\"name\":\"try\"}\n"
    ++ codes "{\"answer\":\"branch\",\"commit\":0,\"name\":\"b\"}\n"
    ++ codes "{\"answer\":\"checkout\",\"commit\":1,\"head\":\"try\"}\n"
unfolding requests_on_literals
walk_1 = refl

abbrev walk_graph1 : Graph
walk_graph1 = record { commits = ((record { parent = 1; profile = One; cells = ((codes "y = {1: y, (1, None): z}") ∷ []) }) ∷ (record { parent = 0; profile = One; cells = ((codes "x = [1]; y = [x]; z = (x, 'a')") ∷ []) }) ∷ []); branches = (((codes "b"), 0) ∷ ((codes "main"), 2) ∷ ((codes "try"), 1) ∷ []); head = record { commit = 1; branch = Some (codes "try") }; records = 5 }

walk_1_left : after_all walk_graph0 (map answered (cell (codes "x = [1]; y = [x]; z = (x, 'a')") ∷ cell (codes "y = {1: y, (1, None): z}") ∷ branch (codes "try") (Some (codes "1")) ∷ branch (codes "b") (Some (codes "0")) ∷ checkout (codes "try") ∷ [])) ≡ walk_graph1
unfolding requests_on_literals
walk_1_left = refl

walk_2 : answers walk_graph1 (map answered (cell (codes "def f(a=x): return a") ∷ cell (codes "x = 0; del z") ∷ checkout (codes "2") ∷ cell (codes "o = SimpleNamespace(y=y)") ∷ cell (codes "e = ValueError(o)") ∷ checkout (codes "b") ∷ []))
    ≡ codes "{\"answer\":\"cell\",\"commit\":3,\"count\":2,\"outcome\":\"ok\",\"outputs\":[]}\n"
    ++ codes "{\"answer\":\"cell\",\"commit\":4,\"count\":3,\"outcome\":\"ok\",\"outputs\":[]}\n"
    ++ codes "{\"answer\":\"checkout\",\"commit\":2,\"head\":null}\n"
    ++ codes "{\"answer\":\"cell\",\"commit\":5,\"count\":3,\"outcome\":\"ok\",\"outputs\":[]}\n"
    ++ codes "{\"answer\":\"cell\",\"commit\":6,\"count\":4,\"outcome\":\"ok\",\"outputs\":[]}\n"
    ++ codes "{\"answer\":\"checkout\",\"commit\":0,\"head\":\"b\"}\n"
unfolding requests_on_literals
walk_2 = refl

abbrev walk_graph2 : Graph
walk_graph2 = record { commits = ((record { parent = 5; profile = One; cells = ((codes "e = ValueError(o)") ∷ []) }) ∷ (record { parent = 2; profile = One; cells = ((codes "o = SimpleNamespace(y=y)") ∷ []) }) ∷ (record { parent = 3; profile = One; cells = ((codes "x = 0; del z") ∷ []) }) ∷ (record { parent = 1; profile = One; cells = ((codes "def f(a=x): return a") ∷ []) }) ∷ (record { parent = 1; profile = One; cells = ((codes "y = {1: y, (1, None): z}") ∷ []) }) ∷ (record { parent = 0; profile = One; cells = ((codes "x = [1]; y = [x]; z = (x, 'a')") ∷ []) }) ∷ []); branches = (((codes "b"), 0) ∷ ((codes "main"), 2) ∷ ((codes "try"), 4) ∷ []); head = record { commit = 0; branch = Some (codes "b") }; records = 11 }

walk_2_left : after_all walk_graph1 (map answered (cell (codes "def f(a=x): return a") ∷ cell (codes "x = 0; del z") ∷ checkout (codes "2") ∷ cell (codes "o = SimpleNamespace(y=y)") ∷ cell (codes "e = ValueError(o)") ∷ checkout (codes "b") ∷ [])) ≡ walk_graph2
unfolding requests_on_literals
walk_2_left = refl

walk_3 : answers walk_graph2 (map answered (cell (codes "x = '" ++ (195 ∷ 169 ∷ []) ++ codes "'; r = range(3, 0, -1)") ∷ cell (codes "m = max; t = ()") ∷ branch (codes "c") (Some (codes "try")) ∷ branch (codes "d") (Some (codes "6")) ∷ []))
    ≡ codes "{\"answer\":\"cell\",\"commit\":7,\"count\":1,\"outcome\":\"ok\",\"outputs\":[]}\n"
    ++ codes "{\"answer\":\"cell\",\"commit\":8,\"count\":2,\"outcome\":\"ok\",\"outputs\":[]}\n"
    ++ codes "{\"answer\":\"branch\",\"commit\":4,\"name\":\"c\"}\n"
    ++ codes "{\"answer\":\"branch\",\"commit\":6,\"name\":\"d\"}\n"
unfolding requests_on_literals
walk_3 = refl

abbrev walk_graph3 : Graph
walk_graph3 = record { commits = ((record { parent = 7; profile = One; cells = ((codes "m = max; t = ()") ∷ []) }) ∷ (record { parent = 0; profile = One; cells = ((120 ∷ 32 ∷ 61 ∷ 32 ∷ 39 ∷ 195 ∷ 169 ∷ 39 ∷ 59 ∷ 32 ∷ 114 ∷ 32 ∷ 61 ∷ 32 ∷ 114 ∷ 97 ∷ 110 ∷ 103 ∷ 101 ∷ 40 ∷ 51 ∷ 44 ∷ 32 ∷ 48 ∷ 44 ∷ 32 ∷ 45 ∷ 49 ∷ 41 ∷ []) ∷ []) }) ∷ (record { parent = 5; profile = One; cells = ((codes "e = ValueError(o)") ∷ []) }) ∷ (record { parent = 2; profile = One; cells = ((codes "o = SimpleNamespace(y=y)") ∷ []) }) ∷ (record { parent = 3; profile = One; cells = ((codes "x = 0; del z") ∷ []) }) ∷ (record { parent = 1; profile = One; cells = ((codes "def f(a=x): return a") ∷ []) }) ∷ (record { parent = 1; profile = One; cells = ((codes "y = {1: y, (1, None): z}") ∷ []) }) ∷ (record { parent = 0; profile = One; cells = ((codes "x = [1]; y = [x]; z = (x, 'a')") ∷ []) }) ∷ []); branches = (((codes "b"), 8) ∷ ((codes "c"), 4) ∷ ((codes "d"), 6) ∷ ((codes "main"), 2) ∷ ((codes "try"), 4) ∷ []); head = record { commit = 8; branch = Some (codes "b") }; records = 15 }

walk_3_left : after_all walk_graph2 (map answered (cell (codes "x = '" ++ (195 ∷ 169 ∷ []) ++ codes "'; r = range(3, 0, -1)") ∷ cell (codes "m = max; t = ()") ∷ branch (codes "c") (Some (codes "try")) ∷ branch (codes "d") (Some (codes "6")) ∷ [])) ≡ walk_graph3
unfolding requests_on_literals
walk_3_left = refl

walk_4 : answers walk_graph3 (map answered (checkout (codes "0") ∷ status ∷ log ∷ inspect ∷ []))
    ≡ codes "{\"answer\":\"checkout\",\"commit\":0,\"head\":null}\n"
    ++ codes "{\"answer\":\"status\",\"branch\":null,\"commit\":0,\"commits\":9,\"names\":[],\"records\":16}\n"
    ++ codes "{\"answer\":\"log\",\"branches\":[{\"commit\":8,\"name\":\"b\"},{\"commit\":4,\"name\":\"c\"},{\"commit\":6,\"name\":\"d\"},{\"commit\":2,\"name\":\"main\"},{\"commit\":4,\"name\":\"try\"}],\"path\":[]}\n"
    ++ codes "{\"answer\":\"inspect\",\"commit\":0,\"names\":{},\"nodes\":[]}\n"
unfolding requests_on_literals
walk_4 = refl

abbrev walk_graph4 : Graph
walk_graph4 = record { commits = ((record { parent = 7; profile = One; cells = ((codes "m = max; t = ()") ∷ []) }) ∷ (record { parent = 0; profile = One; cells = ((120 ∷ 32 ∷ 61 ∷ 32 ∷ 39 ∷ 195 ∷ 169 ∷ 39 ∷ 59 ∷ 32 ∷ 114 ∷ 32 ∷ 61 ∷ 32 ∷ 114 ∷ 97 ∷ 110 ∷ 103 ∷ 101 ∷ 40 ∷ 51 ∷ 44 ∷ 32 ∷ 48 ∷ 44 ∷ 32 ∷ 45 ∷ 49 ∷ 41 ∷ []) ∷ []) }) ∷ (record { parent = 5; profile = One; cells = ((codes "e = ValueError(o)") ∷ []) }) ∷ (record { parent = 2; profile = One; cells = ((codes "o = SimpleNamespace(y=y)") ∷ []) }) ∷ (record { parent = 3; profile = One; cells = ((codes "x = 0; del z") ∷ []) }) ∷ (record { parent = 1; profile = One; cells = ((codes "def f(a=x): return a") ∷ []) }) ∷ (record { parent = 1; profile = One; cells = ((codes "y = {1: y, (1, None): z}") ∷ []) }) ∷ (record { parent = 0; profile = One; cells = ((codes "x = [1]; y = [x]; z = (x, 'a')") ∷ []) }) ∷ []); branches = (((codes "b"), 8) ∷ ((codes "c"), 4) ∷ ((codes "d"), 6) ∷ ((codes "main"), 2) ∷ ((codes "try"), 4) ∷ []); head = record { commit = 0; branch = None }; records = 16 }

walk_4_left : after_all walk_graph3 (map answered (checkout (codes "0") ∷ status ∷ log ∷ inspect ∷ [])) ≡ walk_graph4
unfolding requests_on_literals
walk_4_left = refl

walk_5 : answers walk_graph4 (map answered (checkout (codes "1") ∷ status ∷ log ∷ inspect ∷ []))
    ≡ codes "{\"answer\":\"checkout\",\"commit\":1,\"head\":null}\n"
    ++ codes "{\"answer\":\"status\",\"branch\":null,\"commit\":1,\"commits\":9,\"names\":[\"x\",\"y\",\"z\"],\"records\":17}\n"
    ++ codes "{\"answer\":\"log\",\"branches\":[{\"commit\":8,\"name\":\"b\"},{\"commit\":4,\"name\":\"c\"},{\"commit\":6,\"name\":\"d\"},{\"commit\":2,\"name\":\"main\"},{\"commit\":4,\"name\":\"try\"}],\"path\":[{\"cells\":1,\"commit\":1,\"line\":\"x = [1]; y = [x]; z = (x, 'a')\",\"parent\":0}]}\n"
    ++ codes "{\"answer\":\"inspect\",\"commit\":1,\"names\":{\"x\":\"#0\",\"y\":\"#1\",\"z\":\"#2\"},\"nodes\":[[\"list\",\"1\"],[\"list\",\"#0\"],[\"tuple\",\"#0\",\"'a'\"]]}\n"
unfolding requests_on_literals
walk_5 = refl

abbrev walk_graph5 : Graph
walk_graph5 = record { commits = ((record { parent = 7; profile = One; cells = ((codes "m = max; t = ()") ∷ []) }) ∷ (record { parent = 0; profile = One; cells = ((120 ∷ 32 ∷ 61 ∷ 32 ∷ 39 ∷ 195 ∷ 169 ∷ 39 ∷ 59 ∷ 32 ∷ 114 ∷ 32 ∷ 61 ∷ 32 ∷ 114 ∷ 97 ∷ 110 ∷ 103 ∷ 101 ∷ 40 ∷ 51 ∷ 44 ∷ 32 ∷ 48 ∷ 44 ∷ 32 ∷ 45 ∷ 49 ∷ 41 ∷ []) ∷ []) }) ∷ (record { parent = 5; profile = One; cells = ((codes "e = ValueError(o)") ∷ []) }) ∷ (record { parent = 2; profile = One; cells = ((codes "o = SimpleNamespace(y=y)") ∷ []) }) ∷ (record { parent = 3; profile = One; cells = ((codes "x = 0; del z") ∷ []) }) ∷ (record { parent = 1; profile = One; cells = ((codes "def f(a=x): return a") ∷ []) }) ∷ (record { parent = 1; profile = One; cells = ((codes "y = {1: y, (1, None): z}") ∷ []) }) ∷ (record { parent = 0; profile = One; cells = ((codes "x = [1]; y = [x]; z = (x, 'a')") ∷ []) }) ∷ []); branches = (((codes "b"), 8) ∷ ((codes "c"), 4) ∷ ((codes "d"), 6) ∷ ((codes "main"), 2) ∷ ((codes "try"), 4) ∷ []); head = record { commit = 1; branch = None }; records = 17 }

walk_5_left : after_all walk_graph4 (map answered (checkout (codes "1") ∷ status ∷ log ∷ inspect ∷ [])) ≡ walk_graph5
unfolding requests_on_literals
walk_5_left = refl

walk_6 : answers walk_graph5 (map answered (checkout (codes "2") ∷ status ∷ log ∷ inspect ∷ []))
    ≡ codes "{\"answer\":\"checkout\",\"commit\":2,\"head\":null}\n"
    ++ codes "{\"answer\":\"status\",\"branch\":null,\"commit\":2,\"commits\":9,\"names\":[\"x\",\"y\",\"z\"],\"records\":18}\n"
    ++ codes "{\"answer\":\"log\",\"branches\":[{\"commit\":8,\"name\":\"b\"},{\"commit\":4,\"name\":\"c\"},{\"commit\":6,\"name\":\"d\"},{\"commit\":2,\"name\":\"main\"},{\"commit\":4,\"name\":\"try\"}],\"path\":[{\"cells\":1,\"commit\":2,\"line\":\"y = {1: y, (1, None): z}\",\"parent\":1},{\"cells\":1,\"commit\":1,\"line\":\"x = [1]; y = [x]; z = (x, 'a')\",\"parent\":0}]}\n"
    ++ codes "{\"answer\":\"inspect\",\"commit\":2,\"names\":{\"x\":\"#0\",\"y\":\"#1\",\"z\":\"#2\"},\"nodes\":[[\"list\",\"1\"],[\"dict\",\"1\",\"#3\",\"(1, None)\",\"#2\"],[\"tuple\",\"#0\",\"'a'\"],[\"list\",\"#0\"]]}\n"
unfolding requests_on_literals
walk_6 = refl

abbrev walk_graph6 : Graph
walk_graph6 = record { commits = ((record { parent = 7; profile = One; cells = ((codes "m = max; t = ()") ∷ []) }) ∷ (record { parent = 0; profile = One; cells = ((120 ∷ 32 ∷ 61 ∷ 32 ∷ 39 ∷ 195 ∷ 169 ∷ 39 ∷ 59 ∷ 32 ∷ 114 ∷ 32 ∷ 61 ∷ 32 ∷ 114 ∷ 97 ∷ 110 ∷ 103 ∷ 101 ∷ 40 ∷ 51 ∷ 44 ∷ 32 ∷ 48 ∷ 44 ∷ 32 ∷ 45 ∷ 49 ∷ 41 ∷ []) ∷ []) }) ∷ (record { parent = 5; profile = One; cells = ((codes "e = ValueError(o)") ∷ []) }) ∷ (record { parent = 2; profile = One; cells = ((codes "o = SimpleNamespace(y=y)") ∷ []) }) ∷ (record { parent = 3; profile = One; cells = ((codes "x = 0; del z") ∷ []) }) ∷ (record { parent = 1; profile = One; cells = ((codes "def f(a=x): return a") ∷ []) }) ∷ (record { parent = 1; profile = One; cells = ((codes "y = {1: y, (1, None): z}") ∷ []) }) ∷ (record { parent = 0; profile = One; cells = ((codes "x = [1]; y = [x]; z = (x, 'a')") ∷ []) }) ∷ []); branches = (((codes "b"), 8) ∷ ((codes "c"), 4) ∷ ((codes "d"), 6) ∷ ((codes "main"), 2) ∷ ((codes "try"), 4) ∷ []); head = record { commit = 2; branch = None }; records = 18 }

walk_6_left : after_all walk_graph5 (map answered (checkout (codes "2") ∷ status ∷ log ∷ inspect ∷ [])) ≡ walk_graph6
unfolding requests_on_literals
walk_6_left = refl

walk_7 : answers walk_graph6 (map answered (checkout (codes "3") ∷ status ∷ log ∷ inspect ∷ []))
    ≡ codes "{\"answer\":\"checkout\",\"commit\":3,\"head\":null}\n"
    ++ codes "{\"answer\":\"status\",\"branch\":null,\"commit\":3,\"commits\":9,\"names\":[\"f\",\"x\",\"y\",\"z\"],\"records\":19}\n"
    ++ codes "{\"answer\":\"log\",\"branches\":[{\"commit\":8,\"name\":\"b\"},{\"commit\":4,\"name\":\"c\"},{\"commit\":6,\"name\":\"d\"},{\"commit\":2,\"name\":\"main\"},{\"commit\":4,\"name\":\"try\"}],\"path\":[{\"cells\":1,\"commit\":3,\"line\":\"def f(a=x): return a\",\"parent\":1},{\"cells\":1,\"commit\":1,\"line\":\"x = [1]; y = [x]; z = (x, 'a')\",\"parent\":0}]}\n"
    ++ codes "{\"answer\":\"inspect\",\"commit\":3,\"names\":{\"f\":\"#0\",\"x\":\"#1\",\"y\":\"#2\",\"z\":\"#3\"},\"nodes\":[[\"function\",\"1\",\"def f(a=x): return a\",\"#1\"],[\"list\",\"1\"],[\"list\",\"#1\"],[\"tuple\",\"#1\",\"'a'\"]]}\n"
unfolding requests_on_literals
walk_7 = refl

abbrev walk_graph7 : Graph
walk_graph7 = record { commits = ((record { parent = 7; profile = One; cells = ((codes "m = max; t = ()") ∷ []) }) ∷ (record { parent = 0; profile = One; cells = ((120 ∷ 32 ∷ 61 ∷ 32 ∷ 39 ∷ 195 ∷ 169 ∷ 39 ∷ 59 ∷ 32 ∷ 114 ∷ 32 ∷ 61 ∷ 32 ∷ 114 ∷ 97 ∷ 110 ∷ 103 ∷ 101 ∷ 40 ∷ 51 ∷ 44 ∷ 32 ∷ 48 ∷ 44 ∷ 32 ∷ 45 ∷ 49 ∷ 41 ∷ []) ∷ []) }) ∷ (record { parent = 5; profile = One; cells = ((codes "e = ValueError(o)") ∷ []) }) ∷ (record { parent = 2; profile = One; cells = ((codes "o = SimpleNamespace(y=y)") ∷ []) }) ∷ (record { parent = 3; profile = One; cells = ((codes "x = 0; del z") ∷ []) }) ∷ (record { parent = 1; profile = One; cells = ((codes "def f(a=x): return a") ∷ []) }) ∷ (record { parent = 1; profile = One; cells = ((codes "y = {1: y, (1, None): z}") ∷ []) }) ∷ (record { parent = 0; profile = One; cells = ((codes "x = [1]; y = [x]; z = (x, 'a')") ∷ []) }) ∷ []); branches = (((codes "b"), 8) ∷ ((codes "c"), 4) ∷ ((codes "d"), 6) ∷ ((codes "main"), 2) ∷ ((codes "try"), 4) ∷ []); head = record { commit = 3; branch = None }; records = 19 }

walk_7_left : after_all walk_graph6 (map answered (checkout (codes "3") ∷ status ∷ log ∷ inspect ∷ [])) ≡ walk_graph7
unfolding requests_on_literals
walk_7_left = refl

walk_8 : answers walk_graph7 (map answered (checkout (codes "4") ∷ status ∷ log ∷ inspect ∷ []))
    ≡ codes "{\"answer\":\"checkout\",\"commit\":4,\"head\":null}\n"
    ++ codes "{\"answer\":\"status\",\"branch\":null,\"commit\":4,\"commits\":9,\"names\":[\"f\",\"x\",\"y\"],\"records\":20}\n"
    ++ codes "{\"answer\":\"log\",\"branches\":[{\"commit\":8,\"name\":\"b\"},{\"commit\":4,\"name\":\"c\"},{\"commit\":6,\"name\":\"d\"},{\"commit\":2,\"name\":\"main\"},{\"commit\":4,\"name\":\"try\"}],\"path\":[{\"cells\":1,\"commit\":4,\"line\":\"x = 0; del z\",\"parent\":3},{\"cells\":1,\"commit\":3,\"line\":\"def f(a=x): return a\",\"parent\":1},{\"cells\":1,\"commit\":1,\"line\":\"x = [1]; y = [x]; z = (x, 'a')\",\"parent\":0}]}\n"
    ++ codes "{\"answer\":\"inspect\",\"commit\":4,\"names\":{\"f\":\"#0\",\"x\":\"0\",\"y\":\"#1\"},\"nodes\":[[\"function\",\"1\",\"def f(a=x): return a\",\"#2\"],[\"list\",\"#2\"],[\"list\",\"1\"]]}\n"
unfolding requests_on_literals
walk_8 = refl

abbrev walk_graph8 : Graph
walk_graph8 = record { commits = ((record { parent = 7; profile = One; cells = ((codes "m = max; t = ()") ∷ []) }) ∷ (record { parent = 0; profile = One; cells = ((120 ∷ 32 ∷ 61 ∷ 32 ∷ 39 ∷ 195 ∷ 169 ∷ 39 ∷ 59 ∷ 32 ∷ 114 ∷ 32 ∷ 61 ∷ 32 ∷ 114 ∷ 97 ∷ 110 ∷ 103 ∷ 101 ∷ 40 ∷ 51 ∷ 44 ∷ 32 ∷ 48 ∷ 44 ∷ 32 ∷ 45 ∷ 49 ∷ 41 ∷ []) ∷ []) }) ∷ (record { parent = 5; profile = One; cells = ((codes "e = ValueError(o)") ∷ []) }) ∷ (record { parent = 2; profile = One; cells = ((codes "o = SimpleNamespace(y=y)") ∷ []) }) ∷ (record { parent = 3; profile = One; cells = ((codes "x = 0; del z") ∷ []) }) ∷ (record { parent = 1; profile = One; cells = ((codes "def f(a=x): return a") ∷ []) }) ∷ (record { parent = 1; profile = One; cells = ((codes "y = {1: y, (1, None): z}") ∷ []) }) ∷ (record { parent = 0; profile = One; cells = ((codes "x = [1]; y = [x]; z = (x, 'a')") ∷ []) }) ∷ []); branches = (((codes "b"), 8) ∷ ((codes "c"), 4) ∷ ((codes "d"), 6) ∷ ((codes "main"), 2) ∷ ((codes "try"), 4) ∷ []); head = record { commit = 4; branch = None }; records = 20 }

walk_8_left : after_all walk_graph7 (map answered (checkout (codes "4") ∷ status ∷ log ∷ inspect ∷ [])) ≡ walk_graph8
unfolding requests_on_literals
walk_8_left = refl

walk_9 : answers walk_graph8 (map answered (checkout (codes "5") ∷ status ∷ log ∷ inspect ∷ []))
    ≡ codes "{\"answer\":\"checkout\",\"commit\":5,\"head\":null}\n"
    ++ codes "{\"answer\":\"status\",\"branch\":null,\"commit\":5,\"commits\":9,\"names\":[\"o\",\"x\",\"y\",\"z\"],\"records\":21}\n"
    ++ codes "{\"answer\":\"log\",\"branches\":[{\"commit\":8,\"name\":\"b\"},{\"commit\":4,\"name\":\"c\"},{\"commit\":6,\"name\":\"d\"},{\"commit\":2,\"name\":\"main\"},{\"commit\":4,\"name\":\"try\"}],\"path\":[{\"cells\":1,\"commit\":5,\"line\":\"o = SimpleNamespace(y=y)\",\"parent\":2},{\"cells\":1,\"commit\":2,\"line\":\"y = {1: y, (1, None): z}\",\"parent\":1},{\"cells\":1,\"commit\":1,\"line\":\"x = [1]; y = [x]; z = (x, 'a')\",\"parent\":0}]}\n"
    ++ codes "{\"answer\":\"inspect\",\"commit\":5,\"names\":{\"o\":\"#0\",\"x\":\"#1\",\"y\":\"#2\",\"z\":\"#3\"},\"nodes\":[[\"object\",\"y\",\"#2\"],[\"list\",\"1\"],[\"dict\",\"1\",\"#4\",\"(1, None)\",\"#3\"],[\"tuple\",\"#1\",\"'a'\"],[\"list\",\"#1\"]]}\n"
unfolding requests_on_literals
walk_9 = refl

abbrev walk_graph9 : Graph
walk_graph9 = record { commits = ((record { parent = 7; profile = One; cells = ((codes "m = max; t = ()") ∷ []) }) ∷ (record { parent = 0; profile = One; cells = ((120 ∷ 32 ∷ 61 ∷ 32 ∷ 39 ∷ 195 ∷ 169 ∷ 39 ∷ 59 ∷ 32 ∷ 114 ∷ 32 ∷ 61 ∷ 32 ∷ 114 ∷ 97 ∷ 110 ∷ 103 ∷ 101 ∷ 40 ∷ 51 ∷ 44 ∷ 32 ∷ 48 ∷ 44 ∷ 32 ∷ 45 ∷ 49 ∷ 41 ∷ []) ∷ []) }) ∷ (record { parent = 5; profile = One; cells = ((codes "e = ValueError(o)") ∷ []) }) ∷ (record { parent = 2; profile = One; cells = ((codes "o = SimpleNamespace(y=y)") ∷ []) }) ∷ (record { parent = 3; profile = One; cells = ((codes "x = 0; del z") ∷ []) }) ∷ (record { parent = 1; profile = One; cells = ((codes "def f(a=x): return a") ∷ []) }) ∷ (record { parent = 1; profile = One; cells = ((codes "y = {1: y, (1, None): z}") ∷ []) }) ∷ (record { parent = 0; profile = One; cells = ((codes "x = [1]; y = [x]; z = (x, 'a')") ∷ []) }) ∷ []); branches = (((codes "b"), 8) ∷ ((codes "c"), 4) ∷ ((codes "d"), 6) ∷ ((codes "main"), 2) ∷ ((codes "try"), 4) ∷ []); head = record { commit = 5; branch = None }; records = 21 }

walk_9_left : after_all walk_graph8 (map answered (checkout (codes "5") ∷ status ∷ log ∷ inspect ∷ [])) ≡ walk_graph9
unfolding requests_on_literals
walk_9_left = refl

walk_10 : answers walk_graph9 (map answered (checkout (codes "6") ∷ status ∷ log ∷ inspect ∷ []))
    ≡ codes "{\"answer\":\"checkout\",\"commit\":6,\"head\":null}\n"
    ++ codes "{\"answer\":\"status\",\"branch\":null,\"commit\":6,\"commits\":9,\"names\":[\"e\",\"o\",\"x\",\"y\",\"z\"],\"records\":22}\n"
    ++ codes "{\"answer\":\"log\",\"branches\":[{\"commit\":8,\"name\":\"b\"},{\"commit\":4,\"name\":\"c\"},{\"commit\":6,\"name\":\"d\"},{\"commit\":2,\"name\":\"main\"},{\"commit\":4,\"name\":\"try\"}],\"path\":[{\"cells\":1,\"commit\":6,\"line\":\"e = ValueError(o)\",\"parent\":5},{\"cells\":1,\"commit\":5,\"line\":\"o = SimpleNamespace(y=y)\",\"parent\":2},{\"cells\":1,\"commit\":2,\"line\":\"y = {1: y, (1, None): z}\",\"parent\":1},{\"cells\":1,\"commit\":1,\"line\":\"x = [1]; y = [x]; z = (x, 'a')\",\"parent\":0}]}\n"
    ++ codes "{\"answer\":\"inspect\",\"commit\":6,\"names\":{\"e\":\"#0\",\"o\":\"#1\",\"x\":\"#2\",\"y\":\"#3\",\"z\":\"#4\"},\"nodes\":[[\"exception\",\"ValueError\",\"#1\"],[\"object\",\"y\",\"#3\"],[\"list\",\"1\"],[\"dict\",\"1\",\"#5\",\"(1, None)\",\"#4\"],[\"tuple\",\"#2\",\"'a'\"],[\"list\",\"#2\"]]}\n"
unfolding requests_on_literals
walk_10 = refl

abbrev walk_graph10 : Graph
walk_graph10 = record { commits = ((record { parent = 7; profile = One; cells = ((codes "m = max; t = ()") ∷ []) }) ∷ (record { parent = 0; profile = One; cells = ((120 ∷ 32 ∷ 61 ∷ 32 ∷ 39 ∷ 195 ∷ 169 ∷ 39 ∷ 59 ∷ 32 ∷ 114 ∷ 32 ∷ 61 ∷ 32 ∷ 114 ∷ 97 ∷ 110 ∷ 103 ∷ 101 ∷ 40 ∷ 51 ∷ 44 ∷ 32 ∷ 48 ∷ 44 ∷ 32 ∷ 45 ∷ 49 ∷ 41 ∷ []) ∷ []) }) ∷ (record { parent = 5; profile = One; cells = ((codes "e = ValueError(o)") ∷ []) }) ∷ (record { parent = 2; profile = One; cells = ((codes "o = SimpleNamespace(y=y)") ∷ []) }) ∷ (record { parent = 3; profile = One; cells = ((codes "x = 0; del z") ∷ []) }) ∷ (record { parent = 1; profile = One; cells = ((codes "def f(a=x): return a") ∷ []) }) ∷ (record { parent = 1; profile = One; cells = ((codes "y = {1: y, (1, None): z}") ∷ []) }) ∷ (record { parent = 0; profile = One; cells = ((codes "x = [1]; y = [x]; z = (x, 'a')") ∷ []) }) ∷ []); branches = (((codes "b"), 8) ∷ ((codes "c"), 4) ∷ ((codes "d"), 6) ∷ ((codes "main"), 2) ∷ ((codes "try"), 4) ∷ []); head = record { commit = 6; branch = None }; records = 22 }

walk_10_left : after_all walk_graph9 (map answered (checkout (codes "6") ∷ status ∷ log ∷ inspect ∷ [])) ≡ walk_graph10
unfolding requests_on_literals
walk_10_left = refl

walk_11 : answers walk_graph10 (map answered (checkout (codes "7") ∷ status ∷ log ∷ inspect ∷ []))
    ≡ codes "{\"answer\":\"checkout\",\"commit\":7,\"head\":null}\n"
    ++ codes "{\"answer\":\"status\",\"branch\":null,\"commit\":7,\"commits\":9,\"names\":[\"r\",\"x\"],\"records\":23}\n"
    ++ codes "{\"answer\":\"log\",\"branches\":[{\"commit\":8,\"name\":\"b\"},{\"commit\":4,\"name\":\"c\"},{\"commit\":6,\"name\":\"d\"},{\"commit\":2,\"name\":\"main\"},{\"commit\":4,\"name\":\"try\"}],\"path\":[{\"cells\":1,\"commit\":7,\"line\":\"x = '" ++ (195 ∷ 169 ∷ []) ++ codes "'; r = range(3, 0, -1)\",\"parent\":0}]}\n"
    ++ codes "{\"answer\":\"inspect\",\"commit\":7,\"names\":{\"r\":\"range(3, 0, -1)\",\"x\":\"'" ++ (195 ∷ 169 ∷ []) ++ codes "'\"},\"nodes\":[]}\n"
unfolding requests_on_literals
walk_11 = refl

abbrev walk_graph11 : Graph
walk_graph11 = record { commits = ((record { parent = 7; profile = One; cells = ((codes "m = max; t = ()") ∷ []) }) ∷ (record { parent = 0; profile = One; cells = ((120 ∷ 32 ∷ 61 ∷ 32 ∷ 39 ∷ 195 ∷ 169 ∷ 39 ∷ 59 ∷ 32 ∷ 114 ∷ 32 ∷ 61 ∷ 32 ∷ 114 ∷ 97 ∷ 110 ∷ 103 ∷ 101 ∷ 40 ∷ 51 ∷ 44 ∷ 32 ∷ 48 ∷ 44 ∷ 32 ∷ 45 ∷ 49 ∷ 41 ∷ []) ∷ []) }) ∷ (record { parent = 5; profile = One; cells = ((codes "e = ValueError(o)") ∷ []) }) ∷ (record { parent = 2; profile = One; cells = ((codes "o = SimpleNamespace(y=y)") ∷ []) }) ∷ (record { parent = 3; profile = One; cells = ((codes "x = 0; del z") ∷ []) }) ∷ (record { parent = 1; profile = One; cells = ((codes "def f(a=x): return a") ∷ []) }) ∷ (record { parent = 1; profile = One; cells = ((codes "y = {1: y, (1, None): z}") ∷ []) }) ∷ (record { parent = 0; profile = One; cells = ((codes "x = [1]; y = [x]; z = (x, 'a')") ∷ []) }) ∷ []); branches = (((codes "b"), 8) ∷ ((codes "c"), 4) ∷ ((codes "d"), 6) ∷ ((codes "main"), 2) ∷ ((codes "try"), 4) ∷ []); head = record { commit = 7; branch = None }; records = 23 }

walk_11_left : after_all walk_graph10 (map answered (checkout (codes "7") ∷ status ∷ log ∷ inspect ∷ [])) ≡ walk_graph11
unfolding requests_on_literals
walk_11_left = refl

walk_12 : answers walk_graph11 (map answered (checkout (codes "8") ∷ status ∷ log ∷ inspect ∷ []))
    ≡ codes "{\"answer\":\"checkout\",\"commit\":8,\"head\":null}\n"
    ++ codes "{\"answer\":\"status\",\"branch\":null,\"commit\":8,\"commits\":9,\"names\":[\"m\",\"r\",\"t\",\"x\"],\"records\":24}\n"
    ++ codes "{\"answer\":\"log\",\"branches\":[{\"commit\":8,\"name\":\"b\"},{\"commit\":4,\"name\":\"c\"},{\"commit\":6,\"name\":\"d\"},{\"commit\":2,\"name\":\"main\"},{\"commit\":4,\"name\":\"try\"}],\"path\":[{\"cells\":1,\"commit\":8,\"line\":\"m = max; t = ()\",\"parent\":7},{\"cells\":1,\"commit\":7,\"line\":\"x = '" ++ (195 ∷ 169 ∷ []) ++ codes "'; r = range(3, 0, -1)\",\"parent\":0}]}\n"
    ++ codes "{\"answer\":\"inspect\",\"commit\":8,\"names\":{\"m\":\"<built-in function max>\",\"r\":\"range(3, 0, -1)\",\"t\":\"#0\",\"x\":\"'" ++ (195 ∷ 169 ∷ []) ++ codes "'\"},\"nodes\":[[\"tuple\"]]}\n"
unfolding requests_on_literals
walk_12 = refl

abbrev walk_graph12 : Graph
walk_graph12 = record { commits = ((record { parent = 7; profile = One; cells = ((codes "m = max; t = ()") ∷ []) }) ∷ (record { parent = 0; profile = One; cells = ((120 ∷ 32 ∷ 61 ∷ 32 ∷ 39 ∷ 195 ∷ 169 ∷ 39 ∷ 59 ∷ 32 ∷ 114 ∷ 32 ∷ 61 ∷ 32 ∷ 114 ∷ 97 ∷ 110 ∷ 103 ∷ 101 ∷ 40 ∷ 51 ∷ 44 ∷ 32 ∷ 48 ∷ 44 ∷ 32 ∷ 45 ∷ 49 ∷ 41 ∷ []) ∷ []) }) ∷ (record { parent = 5; profile = One; cells = ((codes "e = ValueError(o)") ∷ []) }) ∷ (record { parent = 2; profile = One; cells = ((codes "o = SimpleNamespace(y=y)") ∷ []) }) ∷ (record { parent = 3; profile = One; cells = ((codes "x = 0; del z") ∷ []) }) ∷ (record { parent = 1; profile = One; cells = ((codes "def f(a=x): return a") ∷ []) }) ∷ (record { parent = 1; profile = One; cells = ((codes "y = {1: y, (1, None): z}") ∷ []) }) ∷ (record { parent = 0; profile = One; cells = ((codes "x = [1]; y = [x]; z = (x, 'a')") ∷ []) }) ∷ []); branches = (((codes "b"), 8) ∷ ((codes "c"), 4) ∷ ((codes "d"), 6) ∷ ((codes "main"), 2) ∷ ((codes "try"), 4) ∷ []); head = record { commit = 8; branch = None }; records = 24 }

walk_12_left : after_all walk_graph11 (map answered (checkout (codes "8") ∷ status ∷ log ∷ inspect ∷ [])) ≡ walk_graph12
unfolding requests_on_literals
walk_12_left = refl

walk_13 : answers walk_graph12 (map answered (checkout (codes "main") ∷ status ∷ log ∷ inspect ∷ []))
    ≡ codes "{\"answer\":\"checkout\",\"commit\":2,\"head\":\"main\"}\n"
    ++ codes "{\"answer\":\"status\",\"branch\":\"main\",\"commit\":2,\"commits\":9,\"names\":[\"x\",\"y\",\"z\"],\"records\":25}\n"
    ++ codes "{\"answer\":\"log\",\"branches\":[{\"commit\":8,\"name\":\"b\"},{\"commit\":4,\"name\":\"c\"},{\"commit\":6,\"name\":\"d\"},{\"commit\":2,\"name\":\"main\"},{\"commit\":4,\"name\":\"try\"}],\"path\":[{\"cells\":1,\"commit\":2,\"line\":\"y = {1: y, (1, None): z}\",\"parent\":1},{\"cells\":1,\"commit\":1,\"line\":\"x = [1]; y = [x]; z = (x, 'a')\",\"parent\":0}]}\n"
    ++ codes "{\"answer\":\"inspect\",\"commit\":2,\"names\":{\"x\":\"#0\",\"y\":\"#1\",\"z\":\"#2\"},\"nodes\":[[\"list\",\"1\"],[\"dict\",\"1\",\"#3\",\"(1, None)\",\"#2\"],[\"tuple\",\"#0\",\"'a'\"],[\"list\",\"#0\"]]}\n"
unfolding requests_on_literals
walk_13 = refl

abbrev walk_graph13 : Graph
walk_graph13 = record { commits = ((record { parent = 7; profile = One; cells = ((codes "m = max; t = ()") ∷ []) }) ∷ (record { parent = 0; profile = One; cells = ((120 ∷ 32 ∷ 61 ∷ 32 ∷ 39 ∷ 195 ∷ 169 ∷ 39 ∷ 59 ∷ 32 ∷ 114 ∷ 32 ∷ 61 ∷ 32 ∷ 114 ∷ 97 ∷ 110 ∷ 103 ∷ 101 ∷ 40 ∷ 51 ∷ 44 ∷ 32 ∷ 48 ∷ 44 ∷ 32 ∷ 45 ∷ 49 ∷ 41 ∷ []) ∷ []) }) ∷ (record { parent = 5; profile = One; cells = ((codes "e = ValueError(o)") ∷ []) }) ∷ (record { parent = 2; profile = One; cells = ((codes "o = SimpleNamespace(y=y)") ∷ []) }) ∷ (record { parent = 3; profile = One; cells = ((codes "x = 0; del z") ∷ []) }) ∷ (record { parent = 1; profile = One; cells = ((codes "def f(a=x): return a") ∷ []) }) ∷ (record { parent = 1; profile = One; cells = ((codes "y = {1: y, (1, None): z}") ∷ []) }) ∷ (record { parent = 0; profile = One; cells = ((codes "x = [1]; y = [x]; z = (x, 'a')") ∷ []) }) ∷ []); branches = (((codes "b"), 8) ∷ ((codes "c"), 4) ∷ ((codes "d"), 6) ∷ ((codes "main"), 2) ∷ ((codes "try"), 4) ∷ []); head = record { commit = 2; branch = Some (codes "main") }; records = 25 }

walk_13_left : after_all walk_graph12 (map answered (checkout (codes "main") ∷ status ∷ log ∷ inspect ∷ [])) ≡ walk_graph13
unfolding requests_on_literals
walk_13_left = refl

walk_14 : answers walk_graph13 (map answered (checkout (codes "try") ∷ status ∷ log ∷ inspect ∷ []))
    ≡ codes "{\"answer\":\"checkout\",\"commit\":4,\"head\":\"try\"}\n"
    ++ codes "{\"answer\":\"status\",\"branch\":\"try\",\"commit\":4,\"commits\":9,\"names\":[\"f\",\"x\",\"y\"],\"records\":26}\n"
    ++ codes "{\"answer\":\"log\",\"branches\":[{\"commit\":8,\"name\":\"b\"},{\"commit\":4,\"name\":\"c\"},{\"commit\":6,\"name\":\"d\"},{\"commit\":2,\"name\":\"main\"},{\"commit\":4,\"name\":\"try\"}],\"path\":[{\"cells\":1,\"commit\":4,\"line\":\"x = 0; del z\",\"parent\":3},{\"cells\":1,\"commit\":3,\"line\":\"def f(a=x): return a\",\"parent\":1},{\"cells\":1,\"commit\":1,\"line\":\"x = [1]; y = [x]; z = (x, 'a')\",\"parent\":0}]}\n"
    ++ codes "{\"answer\":\"inspect\",\"commit\":4,\"names\":{\"f\":\"#0\",\"x\":\"0\",\"y\":\"#1\"},\"nodes\":[[\"function\",\"1\",\"def f(a=x): return a\",\"#2\"],[\"list\",\"#2\"],[\"list\",\"1\"]]}\n"
unfolding requests_on_literals
walk_14 = refl

abbrev walk_graph14 : Graph
walk_graph14 = record { commits = ((record { parent = 7; profile = One; cells = ((codes "m = max; t = ()") ∷ []) }) ∷ (record { parent = 0; profile = One; cells = ((120 ∷ 32 ∷ 61 ∷ 32 ∷ 39 ∷ 195 ∷ 169 ∷ 39 ∷ 59 ∷ 32 ∷ 114 ∷ 32 ∷ 61 ∷ 32 ∷ 114 ∷ 97 ∷ 110 ∷ 103 ∷ 101 ∷ 40 ∷ 51 ∷ 44 ∷ 32 ∷ 48 ∷ 44 ∷ 32 ∷ 45 ∷ 49 ∷ 41 ∷ []) ∷ []) }) ∷ (record { parent = 5; profile = One; cells = ((codes "e = ValueError(o)") ∷ []) }) ∷ (record { parent = 2; profile = One; cells = ((codes "o = SimpleNamespace(y=y)") ∷ []) }) ∷ (record { parent = 3; profile = One; cells = ((codes "x = 0; del z") ∷ []) }) ∷ (record { parent = 1; profile = One; cells = ((codes "def f(a=x): return a") ∷ []) }) ∷ (record { parent = 1; profile = One; cells = ((codes "y = {1: y, (1, None): z}") ∷ []) }) ∷ (record { parent = 0; profile = One; cells = ((codes "x = [1]; y = [x]; z = (x, 'a')") ∷ []) }) ∷ []); branches = (((codes "b"), 8) ∷ ((codes "c"), 4) ∷ ((codes "d"), 6) ∷ ((codes "main"), 2) ∷ ((codes "try"), 4) ∷ []); head = record { commit = 4; branch = Some (codes "try") }; records = 26 }

walk_14_left : after_all walk_graph13 (map answered (checkout (codes "try") ∷ status ∷ log ∷ inspect ∷ [])) ≡ walk_graph14
unfolding requests_on_literals
walk_14_left = refl

walk_15 : answers walk_graph14 (map answered (checkout (codes "b") ∷ status ∷ log ∷ inspect ∷ []))
    ≡ codes "{\"answer\":\"checkout\",\"commit\":8,\"head\":\"b\"}\n"
    ++ codes "{\"answer\":\"status\",\"branch\":\"b\",\"commit\":8,\"commits\":9,\"names\":[\"m\",\"r\",\"t\",\"x\"],\"records\":27}\n"
    ++ codes "{\"answer\":\"log\",\"branches\":[{\"commit\":8,\"name\":\"b\"},{\"commit\":4,\"name\":\"c\"},{\"commit\":6,\"name\":\"d\"},{\"commit\":2,\"name\":\"main\"},{\"commit\":4,\"name\":\"try\"}],\"path\":[{\"cells\":1,\"commit\":8,\"line\":\"m = max; t = ()\",\"parent\":7},{\"cells\":1,\"commit\":7,\"line\":\"x = '" ++ (195 ∷ 169 ∷ []) ++ codes "'; r = range(3, 0, -1)\",\"parent\":0}]}\n"
    ++ codes "{\"answer\":\"inspect\",\"commit\":8,\"names\":{\"m\":\"<built-in function max>\",\"r\":\"range(3, 0, -1)\",\"t\":\"#0\",\"x\":\"'" ++ (195 ∷ 169 ∷ []) ++ codes "'\"},\"nodes\":[[\"tuple\"]]}\n"
unfolding requests_on_literals
walk_15 = refl

abbrev walk_graph15 : Graph
walk_graph15 = record { commits = ((record { parent = 7; profile = One; cells = ((codes "m = max; t = ()") ∷ []) }) ∷ (record { parent = 0; profile = One; cells = ((120 ∷ 32 ∷ 61 ∷ 32 ∷ 39 ∷ 195 ∷ 169 ∷ 39 ∷ 59 ∷ 32 ∷ 114 ∷ 32 ∷ 61 ∷ 32 ∷ 114 ∷ 97 ∷ 110 ∷ 103 ∷ 101 ∷ 40 ∷ 51 ∷ 44 ∷ 32 ∷ 48 ∷ 44 ∷ 32 ∷ 45 ∷ 49 ∷ 41 ∷ []) ∷ []) }) ∷ (record { parent = 5; profile = One; cells = ((codes "e = ValueError(o)") ∷ []) }) ∷ (record { parent = 2; profile = One; cells = ((codes "o = SimpleNamespace(y=y)") ∷ []) }) ∷ (record { parent = 3; profile = One; cells = ((codes "x = 0; del z") ∷ []) }) ∷ (record { parent = 1; profile = One; cells = ((codes "def f(a=x): return a") ∷ []) }) ∷ (record { parent = 1; profile = One; cells = ((codes "y = {1: y, (1, None): z}") ∷ []) }) ∷ (record { parent = 0; profile = One; cells = ((codes "x = [1]; y = [x]; z = (x, 'a')") ∷ []) }) ∷ []); branches = (((codes "b"), 8) ∷ ((codes "c"), 4) ∷ ((codes "d"), 6) ∷ ((codes "main"), 2) ∷ ((codes "try"), 4) ∷ []); head = record { commit = 8; branch = Some (codes "b") }; records = 27 }

walk_15_left : after_all walk_graph14 (map answered (checkout (codes "b") ∷ status ∷ log ∷ inspect ∷ [])) ≡ walk_graph15
unfolding requests_on_literals
walk_15_left = refl

walk_16 : answers walk_graph15 (map answered (checkout (codes "c") ∷ status ∷ log ∷ inspect ∷ []))
    ≡ codes "{\"answer\":\"checkout\",\"commit\":4,\"head\":\"c\"}\n"
    ++ codes "{\"answer\":\"status\",\"branch\":\"c\",\"commit\":4,\"commits\":9,\"names\":[\"f\",\"x\",\"y\"],\"records\":28}\n"
    ++ codes "{\"answer\":\"log\",\"branches\":[{\"commit\":8,\"name\":\"b\"},{\"commit\":4,\"name\":\"c\"},{\"commit\":6,\"name\":\"d\"},{\"commit\":2,\"name\":\"main\"},{\"commit\":4,\"name\":\"try\"}],\"path\":[{\"cells\":1,\"commit\":4,\"line\":\"x = 0; del z\",\"parent\":3},{\"cells\":1,\"commit\":3,\"line\":\"def f(a=x): return a\",\"parent\":1},{\"cells\":1,\"commit\":1,\"line\":\"x = [1]; y = [x]; z = (x, 'a')\",\"parent\":0}]}\n"
    ++ codes "{\"answer\":\"inspect\",\"commit\":4,\"names\":{\"f\":\"#0\",\"x\":\"0\",\"y\":\"#1\"},\"nodes\":[[\"function\",\"1\",\"def f(a=x): return a\",\"#2\"],[\"list\",\"#2\"],[\"list\",\"1\"]]}\n"
unfolding requests_on_literals
walk_16 = refl

abbrev walk_graph16 : Graph
walk_graph16 = record { commits = ((record { parent = 7; profile = One; cells = ((codes "m = max; t = ()") ∷ []) }) ∷ (record { parent = 0; profile = One; cells = ((120 ∷ 32 ∷ 61 ∷ 32 ∷ 39 ∷ 195 ∷ 169 ∷ 39 ∷ 59 ∷ 32 ∷ 114 ∷ 32 ∷ 61 ∷ 32 ∷ 114 ∷ 97 ∷ 110 ∷ 103 ∷ 101 ∷ 40 ∷ 51 ∷ 44 ∷ 32 ∷ 48 ∷ 44 ∷ 32 ∷ 45 ∷ 49 ∷ 41 ∷ []) ∷ []) }) ∷ (record { parent = 5; profile = One; cells = ((codes "e = ValueError(o)") ∷ []) }) ∷ (record { parent = 2; profile = One; cells = ((codes "o = SimpleNamespace(y=y)") ∷ []) }) ∷ (record { parent = 3; profile = One; cells = ((codes "x = 0; del z") ∷ []) }) ∷ (record { parent = 1; profile = One; cells = ((codes "def f(a=x): return a") ∷ []) }) ∷ (record { parent = 1; profile = One; cells = ((codes "y = {1: y, (1, None): z}") ∷ []) }) ∷ (record { parent = 0; profile = One; cells = ((codes "x = [1]; y = [x]; z = (x, 'a')") ∷ []) }) ∷ []); branches = (((codes "b"), 8) ∷ ((codes "c"), 4) ∷ ((codes "d"), 6) ∷ ((codes "main"), 2) ∷ ((codes "try"), 4) ∷ []); head = record { commit = 4; branch = Some (codes "c") }; records = 28 }

walk_16_left : after_all walk_graph15 (map answered (checkout (codes "c") ∷ status ∷ log ∷ inspect ∷ [])) ≡ walk_graph16
unfolding requests_on_literals
walk_16_left = refl

walk_17 : answers walk_graph16 (map answered (checkout (codes "d") ∷ status ∷ log ∷ inspect ∷ []))
    ≡ codes "{\"answer\":\"checkout\",\"commit\":6,\"head\":\"d\"}\n"
    ++ codes "{\"answer\":\"status\",\"branch\":\"d\",\"commit\":6,\"commits\":9,\"names\":[\"e\",\"o\",\"x\",\"y\",\"z\"],\"records\":29}\n"
    ++ codes "{\"answer\":\"log\",\"branches\":[{\"commit\":8,\"name\":\"b\"},{\"commit\":4,\"name\":\"c\"},{\"commit\":6,\"name\":\"d\"},{\"commit\":2,\"name\":\"main\"},{\"commit\":4,\"name\":\"try\"}],\"path\":[{\"cells\":1,\"commit\":6,\"line\":\"e = ValueError(o)\",\"parent\":5},{\"cells\":1,\"commit\":5,\"line\":\"o = SimpleNamespace(y=y)\",\"parent\":2},{\"cells\":1,\"commit\":2,\"line\":\"y = {1: y, (1, None): z}\",\"parent\":1},{\"cells\":1,\"commit\":1,\"line\":\"x = [1]; y = [x]; z = (x, 'a')\",\"parent\":0}]}\n"
    ++ codes "{\"answer\":\"inspect\",\"commit\":6,\"names\":{\"e\":\"#0\",\"o\":\"#1\",\"x\":\"#2\",\"y\":\"#3\",\"z\":\"#4\"},\"nodes\":[[\"exception\",\"ValueError\",\"#1\"],[\"object\",\"y\",\"#3\"],[\"list\",\"1\"],[\"dict\",\"1\",\"#5\",\"(1, None)\",\"#4\"],[\"tuple\",\"#2\",\"'a'\"],[\"list\",\"#2\"]]}\n"
unfolding requests_on_literals
walk_17 = refl

abbrev walk_graph17 : Graph
walk_graph17 = record { commits = ((record { parent = 7; profile = One; cells = ((codes "m = max; t = ()") ∷ []) }) ∷ (record { parent = 0; profile = One; cells = ((120 ∷ 32 ∷ 61 ∷ 32 ∷ 39 ∷ 195 ∷ 169 ∷ 39 ∷ 59 ∷ 32 ∷ 114 ∷ 32 ∷ 61 ∷ 32 ∷ 114 ∷ 97 ∷ 110 ∷ 103 ∷ 101 ∷ 40 ∷ 51 ∷ 44 ∷ 32 ∷ 48 ∷ 44 ∷ 32 ∷ 45 ∷ 49 ∷ 41 ∷ []) ∷ []) }) ∷ (record { parent = 5; profile = One; cells = ((codes "e = ValueError(o)") ∷ []) }) ∷ (record { parent = 2; profile = One; cells = ((codes "o = SimpleNamespace(y=y)") ∷ []) }) ∷ (record { parent = 3; profile = One; cells = ((codes "x = 0; del z") ∷ []) }) ∷ (record { parent = 1; profile = One; cells = ((codes "def f(a=x): return a") ∷ []) }) ∷ (record { parent = 1; profile = One; cells = ((codes "y = {1: y, (1, None): z}") ∷ []) }) ∷ (record { parent = 0; profile = One; cells = ((codes "x = [1]; y = [x]; z = (x, 'a')") ∷ []) }) ∷ []); branches = (((codes "b"), 8) ∷ ((codes "c"), 4) ∷ ((codes "d"), 6) ∷ ((codes "main"), 2) ∷ ((codes "try"), 4) ∷ []); head = record { commit = 6; branch = Some (codes "d") }; records = 29 }

walk_17_left : after_all walk_graph16 (map answered (checkout (codes "d") ∷ status ∷ log ∷ inspect ∷ [])) ≡ walk_graph17
unfolding requests_on_literals
walk_17_left = refl
