-- What sessions answer whose names are bound to nodes of each kind: computed on the definitions. Made by tools/rows/request_rows.py.
use Rattle.std.specs.Prelude.{◌≡◌, [], ◌∷◌, ◌++◌, codes, Some, None, refl}
use Rattle.std.specs.Prelude.{map}
use Rattle.kishu_language.specs.declared.profile.Profile.TheVariants.{One}
use Rattle.kishu_store.specs.Graph.{Graph, new_graph}
use Rattle.kishu_model.specs.Request.{cell, cells, checkout, branch, log, status, inspect, stored, plan}
use Rattle.kishu_model.specs.Serve.{answered, after_all, answers}
use Rattle.kishu_store_rows.proofs.OnLiterals.{requests_on_literals}

-- ---- functions with defaults, dicts, objects, exceptions and rings

abbrev kinds_graph0 : Graph
kinds_graph0 = new_graph

kinds_1 : answers kinds_graph0 (map answered (cell (codes "def g(x, acc=[]):\n    acc.append(x)\n    return acc") ∷ cell (codes "p = g(1)") ∷ cell (codes "d = {1: p, (1, 'k'): None}") ∷ []))
    ≡ codes "{\"answer\":\"cell\",\"commit\":1,\"count\":1,\"outcome\":\"ok\",\"outputs\":[]}\n"
    ++ codes "{\"answer\":\"cell\",\"commit\":2,\"count\":2,\"outcome\":\"ok\",\"outputs\":[]}\n"
    ++ codes "{\"answer\":\"cell\",\"commit\":3,\"count\":3,\"outcome\":\"ok\",\"outputs\":[]}\n"
unfolding requests_on_literals
kinds_1 = refl

abbrev kinds_graph1 : Graph
kinds_graph1 = record { commits = ((record { parent = 2; profile = One; cells = ((codes "d = {1: p, (1, 'k'): None}") ∷ []) }) ∷ (record { parent = 1; profile = One; cells = ((codes "p = g(1)") ∷ []) }) ∷ (record { parent = 0; profile = One; cells = ((100 ∷ 101 ∷ 102 ∷ 32 ∷ 103 ∷ 40 ∷ 120 ∷ 44 ∷ 32 ∷ 97 ∷ 99 ∷ 99 ∷ 61 ∷ 91 ∷ 93 ∷ 41 ∷ 58 ∷ 10 ∷ 32 ∷ 32 ∷ 32 ∷ 32 ∷ 97 ∷ 99 ∷ 99 ∷ 46 ∷ 97 ∷ 112 ∷ 112 ∷ 101 ∷ 110 ∷ 100 ∷ 40 ∷ 120 ∷ 41 ∷ 10 ∷ 32 ∷ 32 ∷ 32 ∷ 32 ∷ 114 ∷ 101 ∷ 116 ∷ 117 ∷ 114 ∷ 110 ∷ 32 ∷ 97 ∷ 99 ∷ 99 ∷ []) ∷ []) }) ∷ []); branches = (((codes "main"), 3) ∷ []); head = record { commit = 3; branch = Some (codes "main") }; records = 3 }

kinds_1_left : after_all kinds_graph0 (map answered (cell (codes "def g(x, acc=[]):\n    acc.append(x)\n    return acc") ∷ cell (codes "p = g(1)") ∷ cell (codes "d = {1: p, (1, 'k'): None}") ∷ [])) ≡ kinds_graph1
unfolding requests_on_literals
kinds_1_left = refl

kinds_2 : answers kinds_graph1 (map answered (status ∷ log ∷ inspect ∷ stored (codes "1") ∷ stored (codes "2") ∷ stored (codes "3") ∷ []))
    ≡ codes "{\"answer\":\"status\",\"branch\":\"main\",\"commit\":3,\"commits\":4,\"names\":[\"d\",\"g\",\"p\"],\"records\":3}\n"
    ++ codes "{\"answer\":\"log\",\"branches\":[{\"commit\":3,\"name\":\"main\"}],\"path\":[{\"cells\":1,\"commit\":3,\"line\":\"d = {1: p, (1, 'k'): None}\",\"parent\":2},{\"cells\":1,\"commit\":2,\"line\":\"p = g(1)\",\"parent\":1},{\"cells\":1,\"commit\":1,\"line\":\"def g(x, acc=[]):\",\"parent\":0}]}\n"
    ++ codes "{\"answer\":\"inspect\",\"commit\":3,\"names\":{\"d\":\"#0\",\"g\":\"#1\",\"p\":\"#2\"},\"nodes\":[[\"dict\",\"1\",\"#2\",\"(1, 'k')\",\"None\"],[\"function\",\"1\",\"def g(x, acc=[]):\\n    acc.append(x)\\n    return acc\",\"#2\"],[\"list\",\"1\"]]}\n"
    ++ codes "{\"answer\":\"stored\",\"commit\":1,\"dropped\":[],\"stored\":[[\"g\"]]}\n"
    ++ codes "{\"answer\":\"stored\",\"commit\":2,\"dropped\":[[\"g\"]],\"stored\":[[\"g\",\"p\"]]}\n"
    ++ codes "{\"answer\":\"stored\",\"commit\":3,\"dropped\":[[\"g\",\"p\"]],\"stored\":[[\"d\",\"g\",\"p\"]]}\n"
unfolding requests_on_literals
kinds_2 = refl

kinds_3 : answers kinds_graph1 (map answered (plan (codes "1") ∷ plan (codes "2") ∷ plan (codes "3") ∷ []))
    ≡ codes "{\"answer\":\"plan\",\"commit\":1,\"drop\":[[\"d\",\"g\",\"p\"]],\"keep\":[],\"load\":[[\"g\"]]}\n"
    ++ codes "{\"answer\":\"plan\",\"commit\":2,\"drop\":[[\"d\",\"g\",\"p\"]],\"keep\":[],\"load\":[[\"g\",\"p\"]]}\n"
    ++ codes "{\"answer\":\"plan\",\"commit\":3,\"drop\":[],\"keep\":[[\"d\",\"g\",\"p\"]],\"load\":[]}\n"
unfolding requests_on_literals
kinds_3 = refl

kinds_4 : answers kinds_graph1 (map answered (cell (codes "o = SimpleNamespace(a=1)\no.b = [o]") ∷ cell (codes "try:\n    {}['k']\nexcept KeyError as e:\n    kept = e") ∷ cell (codes "d[1] = 0; r = range(2); f = len; c = dict; t = ('it\\'s', d)") ∷ []))
    ≡ codes "{\"answer\":\"cell\",\"commit\":4,\"count\":4,\"outcome\":\"ok\",\"outputs\":[]}\n"
    ++ codes "{\"answer\":\"cell\",\"commit\":5,\"count\":5,\"outcome\":\"ok\",\"outputs\":[]}\n"
    ++ codes "{\"answer\":\"cell\",\"commit\":6,\"count\":6,\"outcome\":\"ok\",\"outputs\":[]}\n"
unfolding requests_on_literals
kinds_4 = refl

abbrev kinds_graph4 : Graph
kinds_graph4 = record { commits = ((record { parent = 5; profile = One; cells = ((100 ∷ 91 ∷ 49 ∷ 93 ∷ 32 ∷ 61 ∷ 32 ∷ 48 ∷ 59 ∷ 32 ∷ 114 ∷ 32 ∷ 61 ∷ 32 ∷ 114 ∷ 97 ∷ 110 ∷ 103 ∷ 101 ∷ 40 ∷ 50 ∷ 41 ∷ 59 ∷ 32 ∷ 102 ∷ 32 ∷ 61 ∷ 32 ∷ 108 ∷ 101 ∷ 110 ∷ 59 ∷ 32 ∷ 99 ∷ 32 ∷ 61 ∷ 32 ∷ 100 ∷ 105 ∷ 99 ∷ 116 ∷ 59 ∷ 32 ∷ 116 ∷ 32 ∷ 61 ∷ 32 ∷ 40 ∷ 39 ∷ 105 ∷ 116 ∷ 92 ∷ 39 ∷ 115 ∷ 39 ∷ 44 ∷ 32 ∷ 100 ∷ 41 ∷ []) ∷ []) }) ∷ (record { parent = 4; profile = One; cells = ((116 ∷ 114 ∷ 121 ∷ 58 ∷ 10 ∷ 32 ∷ 32 ∷ 32 ∷ 32 ∷ 123 ∷ 125 ∷ 91 ∷ 39 ∷ 107 ∷ 39 ∷ 93 ∷ 10 ∷ 101 ∷ 120 ∷ 99 ∷ 101 ∷ 112 ∷ 116 ∷ 32 ∷ 75 ∷ 101 ∷ 121 ∷ 69 ∷ 114 ∷ 114 ∷ 111 ∷ 114 ∷ 32 ∷ 97 ∷ 115 ∷ 32 ∷ 101 ∷ 58 ∷ 10 ∷ 32 ∷ 32 ∷ 32 ∷ 32 ∷ 107 ∷ 101 ∷ 112 ∷ 116 ∷ 32 ∷ 61 ∷ 32 ∷ 101 ∷ []) ∷ []) }) ∷ (record { parent = 3; profile = One; cells = ((111 ∷ 32 ∷ 61 ∷ 32 ∷ 83 ∷ 105 ∷ 109 ∷ 112 ∷ 108 ∷ 101 ∷ 78 ∷ 97 ∷ 109 ∷ 101 ∷ 115 ∷ 112 ∷ 97 ∷ 99 ∷ 101 ∷ 40 ∷ 97 ∷ 61 ∷ 49 ∷ 41 ∷ 10 ∷ 111 ∷ 46 ∷ 98 ∷ 32 ∷ 61 ∷ 32 ∷ 91 ∷ 111 ∷ 93 ∷ []) ∷ []) }) ∷ (record { parent = 2; profile = One; cells = ((codes "d = {1: p, (1, 'k'): None}") ∷ []) }) ∷ (record { parent = 1; profile = One; cells = ((codes "p = g(1)") ∷ []) }) ∷ (record { parent = 0; profile = One; cells = ((100 ∷ 101 ∷ 102 ∷ 32 ∷ 103 ∷ 40 ∷ 120 ∷ 44 ∷ 32 ∷ 97 ∷ 99 ∷ 99 ∷ 61 ∷ 91 ∷ 93 ∷ 41 ∷ 58 ∷ 10 ∷ 32 ∷ 32 ∷ 32 ∷ 32 ∷ 97 ∷ 99 ∷ 99 ∷ 46 ∷ 97 ∷ 112 ∷ 112 ∷ 101 ∷ 110 ∷ 100 ∷ 40 ∷ 120 ∷ 41 ∷ 10 ∷ 32 ∷ 32 ∷ 32 ∷ 32 ∷ 114 ∷ 101 ∷ 116 ∷ 117 ∷ 114 ∷ 110 ∷ 32 ∷ 97 ∷ 99 ∷ 99 ∷ []) ∷ []) }) ∷ []); branches = (((codes "main"), 6) ∷ []); head = record { commit = 6; branch = Some (codes "main") }; records = 6 }

kinds_4_left : after_all kinds_graph1 (map answered (cell (codes "o = SimpleNamespace(a=1)\no.b = [o]") ∷ cell (codes "try:\n    {}['k']\nexcept KeyError as e:\n    kept = e") ∷ cell (codes "d[1] = 0; r = range(2); f = len; c = dict; t = ('it\\'s', d)") ∷ [])) ≡ kinds_graph4
unfolding requests_on_literals
kinds_4_left = refl

kinds_5 : answers kinds_graph4 (map answered (status ∷ log ∷ inspect ∷ stored (codes "4") ∷ stored (codes "5") ∷ stored (codes "6") ∷ []))
    ≡ codes "{\"answer\":\"status\",\"branch\":\"main\",\"commit\":6,\"commits\":7,\"names\":[\"c\",\"d\",\"f\",\"g\",\"kept\",\"o\",\"p\",\"r\",\"t\"],\"records\":6}\n"
    ++ codes "{\"answer\":\"log\",\"branches\":[{\"commit\":6,\"name\":\"main\"}],\"path\":[{\"cells\":1,\"commit\":6,\"line\":\"d[1] = 0; r = range(2); f = len; c = dict; t = ('it\\\\'s', d)\",\"parent\":5},{\"cells\":1,\"commit\":5,\"line\":\"try:\",\"parent\":4},{\"cells\":1,\"commit\":4,\"line\":\"o = SimpleNamespace(a=1)\",\"parent\":3},{\"cells\":1,\"commit\":3,\"line\":\"d = {1: p, (1, 'k'): None}\",\"parent\":2},{\"cells\":1,\"commit\":2,\"line\":\"p = g(1)\",\"parent\":1},{\"cells\":1,\"commit\":1,\"line\":\"def g(x, acc=[]):\",\"parent\":0}]}\n"
    ++ codes "{\"answer\":\"inspect\",\"commit\":6,\"names\":{\"c\":\"<class 'dict'>\",\"d\":\"#0\",\"f\":\"<built-in function len>\",\"g\":\"#1\",\"kept\":\"#2\",\"o\":\"#3\",\"p\":\"#4\",\"r\":\"range(0, 2)\",\"t\":\"#5\"},\"nodes\":[[\"dict\",\"1\",\"0\",\"(1, 'k')\",\"None\"],[\"function\",\"1\",\"def g(x, acc=[]):\\n    acc.append(x)\\n    return acc\",\"#4\"],[\"exception\",\"KeyError\",\"'k'\"],[\"object\",\"a\",\"1\",\"b\",\"#6\"],[\"list\",\"1\"],[\"tuple\",\"\\\"it's\\\"\",\"#0\"],[\"list\",\"#3\"]]}\n"
    ++ codes "{\"answer\":\"stored\",\"commit\":4,\"dropped\":[],\"stored\":[[\"o\"]]}\n"
    ++ codes "{\"answer\":\"stored\",\"commit\":5,\"dropped\":[],\"stored\":[[\"kept\"]]}\n"
    ++ codes "{\"answer\":\"stored\",\"commit\":6,\"dropped\":[[\"d\",\"g\",\"p\"]],\"stored\":[[\"c\"],[\"d\",\"t\"],[\"f\"],[\"g\",\"p\"],[\"r\"]]}\n"
unfolding requests_on_literals
kinds_5 = refl

kinds_6 : answers kinds_graph4 (map answered (stored (codes "main") ∷ plan (codes "4") ∷ plan (codes "5") ∷ plan (codes "6") ∷ []))
    ≡ codes "{\"answer\":\"stored\",\"commit\":6,\"dropped\":[[\"d\",\"g\",\"p\"]],\"stored\":[[\"c\"],[\"d\",\"t\"],[\"f\"],[\"g\",\"p\"],[\"r\"]]}\n"
    ++ codes "{\"answer\":\"plan\",\"commit\":4,\"drop\":[[\"c\"],[\"d\",\"t\"],[\"f\"],[\"g\",\"p\"],[\"kept\"],[\"r\"]],\"keep\":[[\"o\"]],\"load\":[[\"d\",\"g\",\"p\"]]}\n"
    ++ codes "{\"answer\":\"plan\",\"commit\":5,\"drop\":[[\"c\"],[\"d\",\"t\"],[\"f\"],[\"g\",\"p\"],[\"r\"]],\"keep\":[[\"kept\"],[\"o\"]],\"load\":[[\"d\",\"g\",\"p\"]]}\n"
    ++ codes "{\"answer\":\"plan\",\"commit\":6,\"drop\":[],\"keep\":[[\"c\"],[\"d\",\"t\"],[\"f\"],[\"g\",\"p\"],[\"kept\"],[\"o\"],[\"r\"]],\"load\":[]}\n"
unfolding requests_on_literals
kinds_6 = refl

kinds_7 : answers kinds_graph4 (map answered (checkout (codes "2") ∷ cell (codes "g(2) is p, p") ∷ cell (codes "p = 0; g(3)") ∷ []))
    ≡ codes "{\"answer\":\"checkout\",\"commit\":2,\"head\":null}\n"
    ++ codes "{\"answer\":\"cell\",\"commit\":7,\"count\":3,\"outcome\":\"ok\",\"outputs\":[{\"data\":{\"text/plain\":\"(True, [1, 2])\"},\"execution_count\":3,\"metadata\":{},\"output_type\":\"execute_result\"}]}\n"
    ++ codes "{\"answer\":\"cell\",\"commit\":8,\"count\":4,\"outcome\":\"ok\",\"outputs\":[{\"data\":{\"text/plain\":\"[1, 2, 3]\"},\"execution_count\":4,\"metadata\":{},\"output_type\":\"execute_result\"}]}\n"
unfolding requests_on_literals
kinds_7 = refl

abbrev kinds_graph7 : Graph
kinds_graph7 = record { commits = ((record { parent = 7; profile = One; cells = ((codes "p = 0; g(3)") ∷ []) }) ∷ (record { parent = 2; profile = One; cells = ((codes "g(2) is p, p") ∷ []) }) ∷ (record { parent = 5; profile = One; cells = ((100 ∷ 91 ∷ 49 ∷ 93 ∷ 32 ∷ 61 ∷ 32 ∷ 48 ∷ 59 ∷ 32 ∷ 114 ∷ 32 ∷ 61 ∷ 32 ∷ 114 ∷ 97 ∷ 110 ∷ 103 ∷ 101 ∷ 40 ∷ 50 ∷ 41 ∷ 59 ∷ 32 ∷ 102 ∷ 32 ∷ 61 ∷ 32 ∷ 108 ∷ 101 ∷ 110 ∷ 59 ∷ 32 ∷ 99 ∷ 32 ∷ 61 ∷ 32 ∷ 100 ∷ 105 ∷ 99 ∷ 116 ∷ 59 ∷ 32 ∷ 116 ∷ 32 ∷ 61 ∷ 32 ∷ 40 ∷ 39 ∷ 105 ∷ 116 ∷ 92 ∷ 39 ∷ 115 ∷ 39 ∷ 44 ∷ 32 ∷ 100 ∷ 41 ∷ []) ∷ []) }) ∷ (record { parent = 4; profile = One; cells = ((116 ∷ 114 ∷ 121 ∷ 58 ∷ 10 ∷ 32 ∷ 32 ∷ 32 ∷ 32 ∷ 123 ∷ 125 ∷ 91 ∷ 39 ∷ 107 ∷ 39 ∷ 93 ∷ 10 ∷ 101 ∷ 120 ∷ 99 ∷ 101 ∷ 112 ∷ 116 ∷ 32 ∷ 75 ∷ 101 ∷ 121 ∷ 69 ∷ 114 ∷ 114 ∷ 111 ∷ 114 ∷ 32 ∷ 97 ∷ 115 ∷ 32 ∷ 101 ∷ 58 ∷ 10 ∷ 32 ∷ 32 ∷ 32 ∷ 32 ∷ 107 ∷ 101 ∷ 112 ∷ 116 ∷ 32 ∷ 61 ∷ 32 ∷ 101 ∷ []) ∷ []) }) ∷ (record { parent = 3; profile = One; cells = ((111 ∷ 32 ∷ 61 ∷ 32 ∷ 83 ∷ 105 ∷ 109 ∷ 112 ∷ 108 ∷ 101 ∷ 78 ∷ 97 ∷ 109 ∷ 101 ∷ 115 ∷ 112 ∷ 97 ∷ 99 ∷ 101 ∷ 40 ∷ 97 ∷ 61 ∷ 49 ∷ 41 ∷ 10 ∷ 111 ∷ 46 ∷ 98 ∷ 32 ∷ 61 ∷ 32 ∷ 91 ∷ 111 ∷ 93 ∷ []) ∷ []) }) ∷ (record { parent = 2; profile = One; cells = ((codes "d = {1: p, (1, 'k'): None}") ∷ []) }) ∷ (record { parent = 1; profile = One; cells = ((codes "p = g(1)") ∷ []) }) ∷ (record { parent = 0; profile = One; cells = ((100 ∷ 101 ∷ 102 ∷ 32 ∷ 103 ∷ 40 ∷ 120 ∷ 44 ∷ 32 ∷ 97 ∷ 99 ∷ 99 ∷ 61 ∷ 91 ∷ 93 ∷ 41 ∷ 58 ∷ 10 ∷ 32 ∷ 32 ∷ 32 ∷ 32 ∷ 97 ∷ 99 ∷ 99 ∷ 46 ∷ 97 ∷ 112 ∷ 112 ∷ 101 ∷ 110 ∷ 100 ∷ 40 ∷ 120 ∷ 41 ∷ 10 ∷ 32 ∷ 32 ∷ 32 ∷ 32 ∷ 114 ∷ 101 ∷ 116 ∷ 117 ∷ 114 ∷ 110 ∷ 32 ∷ 97 ∷ 99 ∷ 99 ∷ []) ∷ []) }) ∷ []); branches = (((codes "main"), 6) ∷ []); head = record { commit = 8; branch = None }; records = 9 }

kinds_7_left : after_all kinds_graph4 (map answered (checkout (codes "2") ∷ cell (codes "g(2) is p, p") ∷ cell (codes "p = 0; g(3)") ∷ [])) ≡ kinds_graph7
unfolding requests_on_literals
kinds_7_left = refl

kinds_8 : answers kinds_graph7 (map answered (status ∷ log ∷ inspect ∷ stored (codes "7") ∷ stored (codes "8") ∷ plan (codes "2") ∷ []))
    ≡ codes "{\"answer\":\"status\",\"branch\":null,\"commit\":8,\"commits\":9,\"names\":[\"g\",\"p\"],\"records\":9}\n"
    ++ codes "{\"answer\":\"log\",\"branches\":[{\"commit\":6,\"name\":\"main\"}],\"path\":[{\"cells\":1,\"commit\":8,\"line\":\"p = 0; g(3)\",\"parent\":7},{\"cells\":1,\"commit\":7,\"line\":\"g(2) is p, p\",\"parent\":2},{\"cells\":1,\"commit\":2,\"line\":\"p = g(1)\",\"parent\":1},{\"cells\":1,\"commit\":1,\"line\":\"def g(x, acc=[]):\",\"parent\":0}]}\n"
    ++ codes "{\"answer\":\"inspect\",\"commit\":8,\"names\":{\"g\":\"#0\",\"p\":\"0\"},\"nodes\":[[\"function\",\"1\",\"def g(x, acc=[]):\\n    acc.append(x)\\n    return acc\",\"#1\"],[\"list\",\"1\",\"2\",\"3\"]]}\n"
    ++ codes "{\"answer\":\"stored\",\"commit\":7,\"dropped\":[[\"g\",\"p\"]],\"stored\":[[\"g\",\"p\"]]}\n"
    ++ codes "{\"answer\":\"stored\",\"commit\":8,\"dropped\":[[\"g\",\"p\"]],\"stored\":[[\"g\"],[\"p\"]]}\n"
    ++ codes "{\"answer\":\"plan\",\"commit\":2,\"drop\":[[\"g\"],[\"p\"]],\"keep\":[],\"load\":[[\"g\",\"p\"]]}\n"
unfolding requests_on_literals
kinds_8 = refl

kinds_9 : answers kinds_graph7 (map answered (plan (codes "main") ∷ plan (codes "6") ∷ []))
    ≡ codes "{\"answer\":\"plan\",\"commit\":6,\"drop\":[[\"g\"],[\"p\"]],\"keep\":[],\"load\":[[\"c\"],[\"d\",\"t\"],[\"f\"],[\"g\",\"p\"],[\"kept\"],[\"o\"],[\"r\"]]}\n"
    ++ codes "{\"answer\":\"plan\",\"commit\":6,\"drop\":[[\"g\"],[\"p\"]],\"keep\":[],\"load\":[[\"c\"],[\"d\",\"t\"],[\"f\"],[\"g\",\"p\"],[\"kept\"],[\"o\"],[\"r\"]]}\n"
unfolding requests_on_literals
kinds_9 = refl
