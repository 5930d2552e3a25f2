-- What cells answer, one in a request and several: computed on the definitions. Made by tools/rows/request_rows.py.
use Rattle.std.specs.Prelude.{◌≡◌, [], ◌∷◌, ◌++◌, codes, Some, refl}
use Rattle.std.specs.Prelude.{map}
use Rattle.kishu_language.specs.declared.profile.Profile.TheVariants.{One}
use Rattle.kishu_store.specs.Graph.{Graph, new_graph}
use Rattle.kishu_model.specs.Request.{cell, cells, checkout, branch, log, status, inspect, stored}
use Rattle.kishu_model.specs.Serve.{answered, after_all, answers}
use Rattle.kishu_store_rows.proofs.OnLiterals.{requests_on_literals}

-- ---- outcomes, outputs and counts

abbrev cells_graph0 : Graph
cells_graph0 = new_graph

cells_1 : answers cells_graph0 (map answered (cell ([]) ∷ cell (codes "1") ∷ cell (codes "None") ∷ cell (codes "'a'") ∷ cell (codes "print(1)") ∷ cell (codes "print('a'); 2") ∷ cell (codes "print(end='')") ∷ []))
    ≡ codes "{\"answer\":\"cell\",\"commit\":1,\"count\":1,\"outcome\":\"ok\",\"outputs\":[]}\n"
    ++ codes "{\"answer\":\"cell\",\"commit\":2,\"count\":2,\"outcome\":\"ok\",\"outputs\":[{\"data\":{\"text/plain\":\"1\"},\"execution_count\":2,\"metadata\":{},\"output_type\":\"execute_result\"}]}\n"
    ++ codes "{\"answer\":\"cell\",\"commit\":3,\"count\":3,\"outcome\":\"ok\",\"outputs\":[]}\n"
    ++ codes "{\"answer\":\"cell\",\"commit\":4,\"count\":4,\"outcome\":\"ok\",\"outputs\":[{\"data\":{\"text/plain\":\"'a'\"},\"execution_count\":4,\"metadata\":{},\"output_type\":\"execute_result\"}]}\n"
    ++ codes "{\"answer\":\"cell\",\"commit\":5,\"count\":5,\"outcome\":\"ok\",\"outputs\":[{\"name\":\"stdout\",\"output_type\":\"stream\",\"text\":\"1\\n\"}]}\n"
    ++ codes "{\"answer\":\"cell\",\"commit\":6,\"count\":6,\"outcome\":\"ok\",\"outputs\":[{\"name\":\"stdout\",\"output_type\":\"stream\",\"text\":\"a\\n\"},{\"data\":{\"text/plain\":\"2\"},\"execution_count\":6,\"metadata\":{},\"output_type\":\"execute_result\"}]}\n"
    ++ codes "{\"answer\":\"cell\",\"commit\":7,\"count\":7,\"outcome\":\"ok\",\"outputs\":[]}\n"
unfolding requests_on_literals
cells_1 = refl

abbrev cells_graph1 : Graph
cells_graph1 = record { commits = ((record { parent = 6; profile = One; cells = ((codes "print(end='')") ∷ []) }) ∷ (record { parent = 5; profile = One; cells = ((codes "print('a'); 2") ∷ []) }) ∷ (record { parent = 4; profile = One; cells = ((codes "print(1)") ∷ []) }) ∷ (record { parent = 3; profile = One; cells = ((codes "'a'") ∷ []) }) ∷ (record { parent = 2; profile = One; cells = ((codes "None") ∷ []) }) ∷ (record { parent = 1; profile = One; cells = ((codes "1") ∷ []) }) ∷ (record { parent = 0; profile = One; cells = ([] ∷ []) }) ∷ []); branches = (((codes "main"), 7) ∷ []); head = record { commit = 7; branch = Some (codes "main") }; records = 7 }

cells_1_left : after_all cells_graph0 (map answered (cell ([]) ∷ cell (codes "1") ∷ cell (codes "None") ∷ cell (codes "'a'") ∷ cell (codes "print(1)") ∷ cell (codes "print('a'); 2") ∷ cell (codes "print(end='')") ∷ [])) ≡ cells_graph1
unfolding requests_on_literals
cells_1_left = refl

cells_2 : answers cells_graph1 (map answered (cell (codes "x = 5; x // 0") ∷ cell (codes "x") ∷ cell (codes "raise ValueError('no', 1)") ∷ cell (codes "raise KeyError('k')") ∷ cell (codes "print('" ++ (195 ∷ 169 ∷ []) ++ codes "'); zz") ∷ cell (codes "x = = 1") ∷ cell (codes "a\nb = ") ∷ cell (codes "assert 0") ∷ []))
    ≡ codes "{\"answer\":\"cell\",\"commit\":8,\"count\":8,\"outcome\":\"error\",\"outputs\":[{\"ename\":\"ZeroDivisionError\",\"evalue\":\"division by zero\",\"output_type\":\"error\",\"traceback\":[\"ZeroDivisionError: division by zero\"]}]}\n"
    ++ codes "{\"answer\":\"cell\",\"commit\":9,\"count\":9,\"outcome\":\"ok\",\"outputs\":[{\"data\":{\"text/plain\":\"5\"},\"execution_count\":9,\"metadata\":{},\"output_type\":\"execute_result\"}]}\n"
    ++ codes "{\"answer\":\"cell\",\"commit\":10,\"count\":10,\"outcome\":\"error\",\"outputs\":[{\"ename\":\"ValueError\",\"evalue\":\"('no', 1)\",\"output_type\":\"error\",\"traceback\":[\"ValueError: ('no', 1)\"]}]}\n"
    ++ codes "{\"answer\":\"cell\",\"commit\":11,\"count\":11,\"outcome\":\"error\",\"outputs\":[{\"ename\":\"KeyError\",\"evalue\":\"'k'\",\"output_type\":\"error\",\"traceback\":[\"KeyError: 'k'\"]}]}\n"
    ++ codes "{\"answer\":\"cell\",\"commit\":12,\"count\":12,\"outcome\":\"error\",\"outputs\":[{\"name\":\"stdout\",\"output_type\":\"stream\",\"text\":\"" ++ (195 ∷ 169 ∷ []) ++ codes "\\n\"},{\"ename\":\"NameError\",\"evalue\":\"name 'zz' is not defined\",\"output_type\":\"error\",\"traceback\":[\"NameError: name 'zz' is not defined\"]}]}\n"
    ++ codes "{\"answer\":\"cell\",\"commit\":13,\"count\":13,\"outcome\":\"error\",\"outputs\":[{\"ename\":\"SyntaxError\",\"evalue\":\"invalid syntax, line 1\",\"output_type\":\"error\",\"traceback\":[\"SyntaxError: invalid syntax, line 1\"]}]}\n"
    ++ codes "{\"answer\":\"cell\",\"commit\":14,\"count\":14,\"outcome\":\"error\",\"outputs\":[{\"ename\":\"SyntaxError\",\"evalue\":\"invalid syntax, line 2\",\"output_type\":\"error\",\"traceback\":[\"SyntaxError: invalid syntax, line 2\"]}]}\n"
    ++ codes "{\"answer\":\"cell\",\"commit\":15,\"count\":15,\"outcome\":\"error\",\"outputs\":[{\"ename\":\"AssertionError\",\"evalue\":\"\",\"output_type\":\"error\",\"traceback\":[\"AssertionError: \"]}]}\n"
unfolding requests_on_literals
cells_2 = refl

abbrev cells_graph2 : Graph
cells_graph2 = record { commits = ((record { parent = 14; profile = One; cells = ((codes "assert 0") ∷ []) }) ∷ (record { parent = 13; profile = One; cells = ((97 ∷ 10 ∷ 98 ∷ 32 ∷ 61 ∷ 32 ∷ []) ∷ []) }) ∷ (record { parent = 12; profile = One; cells = ((codes "x = = 1") ∷ []) }) ∷ (record { parent = 11; profile = One; cells = ((112 ∷ 114 ∷ 105 ∷ 110 ∷ 116 ∷ 40 ∷ 39 ∷ 195 ∷ 169 ∷ 39 ∷ 41 ∷ 59 ∷ 32 ∷ 122 ∷ 122 ∷ []) ∷ []) }) ∷ (record { parent = 10; profile = One; cells = ((codes "raise KeyError('k')") ∷ []) }) ∷ (record { parent = 9; profile = One; cells = ((codes "raise ValueError('no', 1)") ∷ []) }) ∷ (record { parent = 8; profile = One; cells = ((codes "x") ∷ []) }) ∷ (record { parent = 7; profile = One; cells = ((codes "x = 5; x // 0") ∷ []) }) ∷ (record { parent = 6; profile = One; cells = ((codes "print(end='')") ∷ []) }) ∷ (record { parent = 5; profile = One; cells = ((codes "print('a'); 2") ∷ []) }) ∷ (record { parent = 4; profile = One; cells = ((codes "print(1)") ∷ []) }) ∷ (record { parent = 3; profile = One; cells = ((codes "'a'") ∷ []) }) ∷ (record { parent = 2; profile = One; cells = ((codes "None") ∷ []) }) ∷ (record { parent = 1; profile = One; cells = ((codes "1") ∷ []) }) ∷ (record { parent = 0; profile = One; cells = ([] ∷ []) }) ∷ []); branches = (((codes "main"), 15) ∷ []); head = record { commit = 15; branch = Some (codes "main") }; records = 15 }

cells_2_left : after_all cells_graph1 (map answered (cell (codes "x = 5; x // 0") ∷ cell (codes "x") ∷ cell (codes "raise ValueError('no', 1)") ∷ cell (codes "raise KeyError('k')") ∷ cell (codes "print('" ++ (195 ∷ 169 ∷ []) ++ codes "'); zz") ∷ cell (codes "x = = 1") ∷ cell (codes "a\nb = ") ∷ cell (codes "assert 0") ∷ [])) ≡ cells_graph2
unfolding requests_on_literals
cells_2_left = refl

cells_3 : answers cells_graph2 (map answered (cells ((codes "x = 6") ∷ (codes "x") ∷ (codes "print(x)") ∷ []) ∷ cells ((codes "1 // 0") ∷ (codes "x = 7") ∷ []) ∷ cells ((codes "x = 8") ∷ (codes "y =") ∷ (codes "x = 9") ∷ []) ∷ cells (([]) ∷ []) ∷ cells ((codes "x") ∷ (codes "x") ∷ []) ∷ []))
    ≡ codes "{\"answer\":\"cells\",\"commit\":16,\"results\":[{\"count\":16,\"outcome\":\"ok\",\"outputs\":[]},{\"count\":17,\"outcome\":\"ok\",\"outputs\":[{\"data\":{\"text/plain\":\"6\"},\"execution_count\":17,\"metadata\":{},\"output_type\":\"execute_result\"}]},{\"count\":18,\"outcome\":\"ok\",\"outputs\":[{\"name\":\"stdout\",\"output_type\":\"stream\",\"text\":\"6\\n\"}]}]}\n"
    ++ codes "{\"answer\":\"cells\",\"commit\":17,\"results\":[{\"count\":19,\"outcome\":\"error\",\"outputs\":[{\"ename\":\"ZeroDivisionError\",\"evalue\":\"division by zero\",\"output_type\":\"error\",\"traceback\":[\"ZeroDivisionError: division by zero\"]}]}]}\n"
    ++ codes "{\"answer\":\"cells\",\"commit\":18,\"results\":[{\"count\":20,\"outcome\":\"ok\",\"outputs\":[]},{\"count\":21,\"outcome\":\"error\",\"outputs\":[{\"ename\":\"SyntaxError\",\"evalue\":\"invalid syntax, line 1\",\"output_type\":\"error\",\"traceback\":[\"SyntaxError: invalid syntax, line 1\"]}]}]}\n"
    ++ codes "{\"answer\":\"cells\",\"commit\":19,\"results\":[{\"count\":22,\"outcome\":\"ok\",\"outputs\":[]}]}\n"
    ++ codes "{\"answer\":\"cells\",\"commit\":20,\"results\":[{\"count\":23,\"outcome\":\"ok\",\"outputs\":[{\"data\":{\"text/plain\":\"8\"},\"execution_count\":23,\"metadata\":{},\"output_type\":\"execute_result\"}]},{\"count\":24,\"outcome\":\"ok\",\"outputs\":[{\"data\":{\"text/plain\":\"8\"},\"execution_count\":24,\"metadata\":{},\"output_type\":\"execute_result\"}]}]}\n"
unfolding requests_on_literals
cells_3 = refl

abbrev cells_graph3 : Graph
cells_graph3 = record { commits = ((record { parent = 19; profile = One; cells = ((codes "x") ∷ (codes "x") ∷ []) }) ∷ (record { parent = 18; profile = One; cells = ([] ∷ []) }) ∷ (record { parent = 17; profile = One; cells = ((codes "x = 8") ∷ (codes "y =") ∷ []) }) ∷ (record { parent = 16; profile = One; cells = ((codes "1 // 0") ∷ []) }) ∷ (record { parent = 15; profile = One; cells = ((codes "x = 6") ∷ (codes "x") ∷ (codes "print(x)") ∷ []) }) ∷ (record { parent = 14; profile = One; cells = ((codes "assert 0") ∷ []) }) ∷ (record { parent = 13; profile = One; cells = ((97 ∷ 10 ∷ 98 ∷ 32 ∷ 61 ∷ 32 ∷ []) ∷ []) }) ∷ (record { parent = 12; profile = One; cells = ((codes "x = = 1") ∷ []) }) ∷ (record { parent = 11; profile = One; cells = ((112 ∷ 114 ∷ 105 ∷ 110 ∷ 116 ∷ 40 ∷ 39 ∷ 195 ∷ 169 ∷ 39 ∷ 41 ∷ 59 ∷ 32 ∷ 122 ∷ 122 ∷ []) ∷ []) }) ∷ (record { parent = 10; profile = One; cells = ((codes "raise KeyError('k')") ∷ []) }) ∷ (record { parent = 9; profile = One; cells = ((codes "raise ValueError('no', 1)") ∷ []) }) ∷ (record { parent = 8; profile = One; cells = ((codes "x") ∷ []) }) ∷ (record { parent = 7; profile = One; cells = ((codes "x = 5; x // 0") ∷ []) }) ∷ (record { parent = 6; profile = One; cells = ((codes "print(end='')") ∷ []) }) ∷ (record { parent = 5; profile = One; cells = ((codes "print('a'); 2") ∷ []) }) ∷ (record { parent = 4; profile = One; cells = ((codes "print(1)") ∷ []) }) ∷ (record { parent = 3; profile = One; cells = ((codes "'a'") ∷ []) }) ∷ (record { parent = 2; profile = One; cells = ((codes "None") ∷ []) }) ∷ (record { parent = 1; profile = One; cells = ((codes "1") ∷ []) }) ∷ (record { parent = 0; profile = One; cells = ([] ∷ []) }) ∷ []); branches = (((codes "main"), 20) ∷ []); head = record { commit = 20; branch = Some (codes "main") }; records = 20 }

cells_3_left : after_all cells_graph2 (map answered (cells ((codes "x = 6") ∷ (codes "x") ∷ (codes "print(x)") ∷ []) ∷ cells ((codes "1 // 0") ∷ (codes "x = 7") ∷ []) ∷ cells ((codes "x = 8") ∷ (codes "y =") ∷ (codes "x = 9") ∷ []) ∷ cells (([]) ∷ []) ∷ cells ((codes "x") ∷ (codes "x") ∷ []) ∷ [])) ≡ cells_graph3
unfolding requests_on_literals
cells_3_left = refl

cells_4 : answers cells_graph3 (map answered (status ∷ log ∷ inspect ∷ []))
    ≡ codes "{\"answer\":\"status\",\"branch\":\"main\",\"commit\":20,\"commits\":21,\"names\":[\"x\"],\"records\":20}\n"
    ++ codes "{\"answer\":\"log\",\"branches\":[{\"commit\":20,\"name\":\"main\"}],\"path\":[{\"cells\":2,\"commit\":20,\"line\":\"x\",\"parent\":19},{\"cells\":1,\"commit\":19,\"line\":\"\",\"parent\":18},{\"cells\":2,\"commit\":18,\"line\":\"x = 8\",\"parent\":17},{\"cells\":1,\"commit\":17,\"line\":\"1 // 0\",\"parent\":16},{\"cells\":3,\"commit\":16,\"line\":\"x = 6\",\"parent\":15},{\"cells\":1,\"commit\":15,\"line\":\"assert 0\",\"parent\":14},{\"cells\":1,\"commit\":14,\"line\":\"a\",\"parent\":13},{\"cells\":1,\"commit\":13,\"line\":\"x = = 1\",\"parent\":12},{\"cells\":1,\"commit\":12,\"line\":\"print('" ++ (195 ∷ 169 ∷ []) ++ codes "'); zz\",\"parent\":11},{\"cells\":1,\"commit\":11,\"line\":\"raise KeyError('k')\",\"parent\":10},{\"cells\":1,\"commit\":10,\"line\":\"raise ValueError('no', 1)\",\"parent\":9},{\"cells\":1,\"commit\":9,\"line\":\"x\",\"parent\":8},{\"cells\":1,\"commit\":8,\"line\":\"x = 5; x // 0\",\"parent\":7},{\"cells\":1,\"commit\":7,\"line\":\"print(end='')\",\"parent\":6},{\"cells\":1,\"commit\":6,\"line\":\"print('a'); 2\",\"parent\":5},{\"cells\":1,\"commit\":5,\"line\":\"print(1)\",\"parent\":4},{\"cells\":1,\"commit\":4,\"line\":\"'a'\",\"parent\":3},{\"cells\":1,\"commit\":3,\"line\":\"None\",\"parent\":2},{\"cells\":1,\"commit\":2,\"line\":\"1\",\"parent\":1},{\"cells\":1,\"commit\":1,\"line\":\"\",\"parent\":0}]}\n"
    ++ codes "{\"answer\":\"inspect\",\"commit\":20,\"names\":{\"x\":\"8\"},\"nodes\":[]}\n"
unfolding requests_on_literals
cells_4 = refl

cells_5 : answers cells_graph3 (map answered (checkout (codes "1") ∷ cells ((codes "q = 1") ∷ (codes "q") ∷ []) ∷ cell (codes "q") ∷ cell (codes "x") ∷ checkout (codes "main") ∷ cells ((codes "x") ∷ (codes "def f(): return x") ∷ (codes "f()") ∷ (codes "x = 1") ∷ (codes "f()") ∷ []) ∷ cell (codes "f() + 1") ∷ []))
    ≡ codes "{\"answer\":\"checkout\",\"commit\":1,\"head\":null}\n"
    ++ codes "{\"answer\":\"cells\",\"commit\":21,\"results\":[{\"count\":2,\"outcome\":\"ok\",\"outputs\":[]},{\"count\":3,\"outcome\":\"ok\",\"outputs\":[{\"data\":{\"text/plain\":\"1\"},\"execution_count\":3,\"metadata\":{},\"output_type\":\"execute_result\"}]}]}\n"
    ++ codes "{\"answer\":\"cell\",\"commit\":22,\"count\":4,\"outcome\":\"ok\",\"outputs\":[{\"data\":{\"text/plain\":\"1\"},\"execution_count\":4,\"metadata\":{},\"output_type\":\"execute_result\"}]}\n"
    ++ codes "{\"answer\":\"cell\",\"commit\":23,\"count\":5,\"outcome\":\"error\",\"outputs\":[{\"ename\":\"NameError\",\"evalue\":\"name 'x' is not defined\",\"output_type\":\"error\",\"traceback\":[\"NameError: name 'x' is not defined\"]}]}\n"
    ++ codes "{\"answer\":\"checkout\",\"commit\":20,\"head\":\"main\"}\n"
    ++ codes "{\"answer\":\"cells\",\"commit\":24,\"results\":[{\"count\":25,\"outcome\":\"ok\",\"outputs\":[{\"data\":{\"text/plain\":\"8\"},\"execution_count\":25,\"metadata\":{},\"output_type\":\"execute_result\"}]},{\"count\":26,\"outcome\":\"ok\",\"outputs\":[]},{\"count\":27,\"outcome\":\"ok\",\"outputs\":[{\"data\":{\"text/plain\":\"8\"},\"execution_count\":27,\"metadata\":{},\"output_type\":\"execute_result\"}]},{\"count\":28,\"outcome\":\"ok\",\"outputs\":[]},{\"count\":29,\"outcome\":\"ok\",\"outputs\":[{\"data\":{\"text/plain\":\"1\"},\"execution_count\":29,\"metadata\":{},\"output_type\":\"execute_result\"}]}]}\n"
    ++ codes "{\"answer\":\"cell\",\"commit\":25,\"count\":30,\"outcome\":\"ok\",\"outputs\":[{\"data\":{\"text/plain\":\"2\"},\"execution_count\":30,\"metadata\":{},\"output_type\":\"execute_result\"}]}\n"
unfolding requests_on_literals
cells_5 = refl

abbrev cells_graph5 : Graph
cells_graph5 = record { commits = ((record { parent = 24; profile = One; cells = ((codes "f() + 1") ∷ []) }) ∷ (record { parent = 20; profile = One; cells = ((codes "x") ∷ (codes "def f(): return x") ∷ (codes "f()") ∷ (codes "x = 1") ∷ (codes "f()") ∷ []) }) ∷ (record { parent = 22; profile = One; cells = ((codes "x") ∷ []) }) ∷ (record { parent = 21; profile = One; cells = ((codes "q") ∷ []) }) ∷ (record { parent = 1; profile = One; cells = ((codes "q = 1") ∷ (codes "q") ∷ []) }) ∷ (record { parent = 19; profile = One; cells = ((codes "x") ∷ (codes "x") ∷ []) }) ∷ (record { parent = 18; profile = One; cells = ([] ∷ []) }) ∷ (record { parent = 17; profile = One; cells = ((codes "x = 8") ∷ (codes "y =") ∷ []) }) ∷ (record { parent = 16; profile = One; cells = ((codes "1 // 0") ∷ []) }) ∷ (record { parent = 15; profile = One; cells = ((codes "x = 6") ∷ (codes "x") ∷ (codes "print(x)") ∷ []) }) ∷ (record { parent = 14; profile = One; cells = ((codes "assert 0") ∷ []) }) ∷ (record { parent = 13; profile = One; cells = ((97 ∷ 10 ∷ 98 ∷ 32 ∷ 61 ∷ 32 ∷ []) ∷ []) }) ∷ (record { parent = 12; profile = One; cells = ((codes "x = = 1") ∷ []) }) ∷ (record { parent = 11; profile = One; cells = ((112 ∷ 114 ∷ 105 ∷ 110 ∷ 116 ∷ 40 ∷ 39 ∷ 195 ∷ 169 ∷ 39 ∷ 41 ∷ 59 ∷ 32 ∷ 122 ∷ 122 ∷ []) ∷ []) }) ∷ (record { parent = 10; profile = One; cells = ((codes "raise KeyError('k')") ∷ []) }) ∷ (record { parent = 9; profile = One; cells = ((codes "raise ValueError('no', 1)") ∷ []) }) ∷ (record { parent = 8; profile = One; cells = ((codes "x") ∷ []) }) ∷ (record { parent = 7; profile = One; cells = ((codes "x = 5; x // 0") ∷ []) }) ∷ (record { parent = 6; profile = One; cells = ((codes "print(end='')") ∷ []) }) ∷ (record { parent = 5; profile = One; cells = ((codes "print('a'); 2") ∷ []) }) ∷ (record { parent = 4; profile = One; cells = ((codes "print(1)") ∷ []) }) ∷ (record { parent = 3; profile = One; cells = ((codes "'a'") ∷ []) }) ∷ (record { parent = 2; profile = One; cells = ((codes "None") ∷ []) }) ∷ (record { parent = 1; profile = One; cells = ((codes "1") ∷ []) }) ∷ (record { parent = 0; profile = One; cells = ([] ∷ []) }) ∷ []); branches = (((codes "main"), 25) ∷ []); head = record { commit = 25; branch = Some (codes "main") }; records = 27 }

cells_5_left : after_all cells_graph3 (map answered (checkout (codes "1") ∷ cells ((codes "q = 1") ∷ (codes "q") ∷ []) ∷ cell (codes "q") ∷ cell (codes "x") ∷ checkout (codes "main") ∷ cells ((codes "x") ∷ (codes "def f(): return x") ∷ (codes "f()") ∷ (codes "x = 1") ∷ (codes "f()") ∷ []) ∷ cell (codes "f() + 1") ∷ [])) ≡ cells_graph5
unfolding requests_on_literals
cells_5_left = refl

cells_6 : answers cells_graph5 (map answered (status ∷ log ∷ inspect ∷ []))
    ≡ codes "{\"answer\":\"status\",\"branch\":\"main\",\"commit\":25,\"commits\":26,\"names\":[\"f\",\"x\"],\"records\":27}\n"
    ++ codes "{\"answer\":\"log\",\"branches\":[{\"commit\":25,\"name\":\"main\"}],\"path\":[{\"cells\":1,\"commit\":25,\"line\":\"f() + 1\",\"parent\":24},{\"cells\":5,\"commit\":24,\"line\":\"x\",\"parent\":20},{\"cells\":2,\"commit\":20,\"line\":\"x\",\"parent\":19},{\"cells\":1,\"commit\":19,\"line\":\"\",\"parent\":18},{\"cells\":2,\"commit\":18,\"line\":\"x = 8\",\"parent\":17},{\"cells\":1,\"commit\":17,\"line\":\"1 // 0\",\"parent\":16},{\"cells\":3,\"commit\":16,\"line\":\"x = 6\",\"parent\":15},{\"cells\":1,\"commit\":15,\"line\":\"assert 0\",\"parent\":14},{\"cells\":1,\"commit\":14,\"line\":\"a\",\"parent\":13},{\"cells\":1,\"commit\":13,\"line\":\"x = = 1\",\"parent\":12},{\"cells\":1,\"commit\":12,\"line\":\"print('" ++ (195 ∷ 169 ∷ []) ++ codes "'); zz\",\"parent\":11},{\"cells\":1,\"commit\":11,\"line\":\"raise KeyError('k')\",\"parent\":10},{\"cells\":1,\"commit\":10,\"line\":\"raise ValueError('no', 1)\",\"parent\":9},{\"cells\":1,\"commit\":9,\"line\":\"x\",\"parent\":8},{\"cells\":1,\"commit\":8,\"line\":\"x = 5; x // 0\",\"parent\":7},{\"cells\":1,\"commit\":7,\"line\":\"print(end='')\",\"parent\":6},{\"cells\":1,\"commit\":6,\"line\":\"print('a'); 2\",\"parent\":5},{\"cells\":1,\"commit\":5,\"line\":\"print(1)\",\"parent\":4},{\"cells\":1,\"commit\":4,\"line\":\"'a'\",\"parent\":3},{\"cells\":1,\"commit\":3,\"line\":\"None\",\"parent\":2},{\"cells\":1,\"commit\":2,\"line\":\"1\",\"parent\":1},{\"cells\":1,\"commit\":1,\"line\":\"\",\"parent\":0}]}\n"
    ++ codes "{\"answer\":\"inspect\",\"commit\":25,\"names\":{\"f\":\"#0\",\"x\":\"1\"},\"nodes\":[[\"function\",\"1\",\"def f(): return x\"]]}\n"
unfolding requests_on_literals
cells_6 = refl

cells_7 : answers cells_graph5 (map answered (cells ((codes "a = [1]") ∷ (codes "b = a") ∷ (codes "b.append(2)") ∷ (codes "a") ∷ []) ∷ cells ((codes "raise a") ∷ (codes "a") ∷ []) ∷ cells ((codes "print(a)") ∷ (codes "print(b); zz") ∷ (codes "del a") ∷ []) ∷ cell (codes "a is b") ∷ cells ((codes "del a") ∷ (codes "a") ∷ []) ∷ cell (codes "b") ∷ []))
    ≡ codes "{\"answer\":\"cells\",\"commit\":26,\"results\":[{\"count\":31,\"outcome\":\"ok\",\"outputs\":[]},{\"count\":32,\"outcome\":\"ok\",\"outputs\":[]},{\"count\":33,\"outcome\":\"ok\",\"outputs\":[]},{\"count\":34,\"outcome\":\"ok\",\"outputs\":[{\"data\":{\"text/plain\":\"[1, 2]\"},\"execution_count\":34,\"metadata\":{},\"output_type\":\"execute_result\"}]}]}\n"
    ++ codes "{\"answer\":\"cells\",\"commit\":27,\"results\":[{\"count\":35,\"outcome\":\"error\",\"outputs\":[{\"ename\":\"TypeError\",\"evalue\":\"exceptions must be exception classes or objects\",\"output_type\":\"error\",\"traceback\":[\"TypeError: exceptions must be exception classes or objects\"]}]}]}\n"
    ++ codes "{\"answer\":\"cells\",\"commit\":28,\"results\":[{\"count\":36,\"outcome\":\"ok\",\"outputs\":[{\"name\":\"stdout\",\"output_type\":\"stream\",\"text\":\"[1, 2]\\n\"}]},{\"count\":37,\"outcome\":\"error\",\"outputs\":[{\"name\":\"stdout\",\"output_type\":\"stream\",\"text\":\"[1, 2]\\n\"},{\"ename\":\"NameError\",\"evalue\":\"name 'zz' is not defined\",\"output_type\":\"error\",\"traceback\":[\"NameError: name 'zz' is not defined\"]}]}]}\n"
    ++ codes "{\"answer\":\"cell\",\"commit\":29,\"count\":38,\"outcome\":\"ok\",\"outputs\":[{\"data\":{\"text/plain\":\"True\"},\"execution_count\":38,\"metadata\":{},\"output_type\":\"execute_result\"}]}\n"
    ++ codes "{\"answer\":\"cells\",\"commit\":30,\"results\":[{\"count\":39,\"outcome\":\"ok\",\"outputs\":[]},{\"count\":40,\"outcome\":\"error\",\"outputs\":[{\"ename\":\"NameError\",\"evalue\":\"name 'a' is not defined\",\"output_type\":\"error\",\"traceback\":[\"NameError: name 'a' is not defined\"]}]}]}\n"
    ++ codes "{\"answer\":\"cell\",\"commit\":31,\"count\":41,\"outcome\":\"ok\",\"outputs\":[{\"data\":{\"text/plain\":\"[1, 2]\"},\"execution_count\":41,\"metadata\":{},\"output_type\":\"execute_result\"}]}\n"
unfolding requests_on_literals
cells_7 = refl

abbrev cells_graph7 : Graph
cells_graph7 = record { commits = ((record { parent = 30; profile = One; cells = ((codes "b") ∷ []) }) ∷ (record { parent = 29; profile = One; cells = ((codes "del a") ∷ (codes "a") ∷ []) }) ∷ (record { parent = 28; profile = One; cells = ((codes "a is b") ∷ []) }) ∷ (record { parent = 27; profile = One; cells = ((codes "print(a)") ∷ (codes "print(b); zz") ∷ []) }) ∷ (record { parent = 26; profile = One; cells = ((codes "raise a") ∷ []) }) ∷ (record { parent = 25; profile = One; cells = ((codes "a = [1]") ∷ (codes "b = a") ∷ (codes "b.append(2)") ∷ (codes "a") ∷ []) }) ∷ (record { parent = 24; profile = One; cells = ((codes "f() + 1") ∷ []) }) ∷ (record { parent = 20; profile = One; cells = ((codes "x") ∷ (codes "def f(): return x") ∷ (codes "f()") ∷ (codes "x = 1") ∷ (codes "f()") ∷ []) }) ∷ (record { parent = 22; profile = One; cells = ((codes "x") ∷ []) }) ∷ (record { parent = 21; profile = One; cells = ((codes "q") ∷ []) }) ∷ (record { parent = 1; profile = One; cells = ((codes "q = 1") ∷ (codes "q") ∷ []) }) ∷ (record { parent = 19; profile = One; cells = ((codes "x") ∷ (codes "x") ∷ []) }) ∷ (record { parent = 18; profile = One; cells = ([] ∷ []) }) ∷ (record { parent = 17; profile = One; cells = ((codes "x = 8") ∷ (codes "y =") ∷ []) }) ∷ (record { parent = 16; profile = One; cells = ((codes "1 // 0") ∷ []) }) ∷ (record { parent = 15; profile = One; cells = ((codes "x = 6") ∷ (codes "x") ∷ (codes "print(x)") ∷ []) }) ∷ (record { parent = 14; profile = One; cells = ((codes "assert 0") ∷ []) }) ∷ (record { parent = 13; profile = One; cells = ((97 ∷ 10 ∷ 98 ∷ 32 ∷ 61 ∷ 32 ∷ []) ∷ []) }) ∷ (record { parent = 12; profile = One; cells = ((codes "x = = 1") ∷ []) }) ∷ (record { parent = 11; profile = One; cells = ((112 ∷ 114 ∷ 105 ∷ 110 ∷ 116 ∷ 40 ∷ 39 ∷ 195 ∷ 169 ∷ 39 ∷ 41 ∷ 59 ∷ 32 ∷ 122 ∷ 122 ∷ []) ∷ []) }) ∷ (record { parent = 10; profile = One; cells = ((codes "raise KeyError('k')") ∷ []) }) ∷ (record { parent = 9; profile = One; cells = ((codes "raise ValueError('no', 1)") ∷ []) }) ∷ (record { parent = 8; profile = One; cells = ((codes "x") ∷ []) }) ∷ (record { parent = 7; profile = One; cells = ((codes "x = 5; x // 0") ∷ []) }) ∷ (record { parent = 6; profile = One; cells = ((codes "print(end='')") ∷ []) }) ∷ (record { parent = 5; profile = One; cells = ((codes "print('a'); 2") ∷ []) }) ∷ (record { parent = 4; profile = One; cells = ((codes "print(1)") ∷ []) }) ∷ (record { parent = 3; profile = One; cells = ((codes "'a'") ∷ []) }) ∷ (record { parent = 2; profile = One; cells = ((codes "None") ∷ []) }) ∷ (record { parent = 1; profile = One; cells = ((codes "1") ∷ []) }) ∷ (record { parent = 0; profile = One; cells = ([] ∷ []) }) ∷ []); branches = (((codes "main"), 31) ∷ []); head = record { commit = 31; branch = Some (codes "main") }; records = 33 }

cells_7_left : after_all cells_graph5 (map answered (cells ((codes "a = [1]") ∷ (codes "b = a") ∷ (codes "b.append(2)") ∷ (codes "a") ∷ []) ∷ cells ((codes "raise a") ∷ (codes "a") ∷ []) ∷ cells ((codes "print(a)") ∷ (codes "print(b); zz") ∷ (codes "del a") ∷ []) ∷ cell (codes "a is b") ∷ cells ((codes "del a") ∷ (codes "a") ∷ []) ∷ cell (codes "b") ∷ [])) ≡ cells_graph7
unfolding requests_on_literals
cells_7_left = refl

cells_8 : answers cells_graph7 (map answered (status ∷ log ∷ inspect ∷ stored (codes "1") ∷ stored (codes "8") ∷ stored (codes "16") ∷ []))
    ≡ codes "{\"answer\":\"status\",\"branch\":\"main\",\"commit\":31,\"commits\":32,\"names\":[\"b\",\"f\",\"x\"],\"records\":33}\n"
    ++ codes "{\"answer\":\"log\",\"branches\":[{\"commit\":31,\"name\":\"main\"}],\"path\":[{\"cells\":1,\"commit\":31,\"line\":\"b\",\"parent\":30},{\"cells\":2,\"commit\":30,\"line\":\"del a\",\"parent\":29},{\"cells\":1,\"commit\":29,\"line\":\"a is b\",\"parent\":28},{\"cells\":2,\"commit\":28,\"line\":\"print(a)\",\"parent\":27},{\"cells\":1,\"commit\":27,\"line\":\"raise a\",\"parent\":26},{\"cells\":4,\"commit\":26,\"line\":\"a = [1]\",\"parent\":25},{\"cells\":1,\"commit\":25,\"line\":\"f() + 1\",\"parent\":24},{\"cells\":5,\"commit\":24,\"line\":\"x\",\"parent\":20},{\"cells\":2,\"commit\":20,\"line\":\"x\",\"parent\":19},{\"cells\":1,\"commit\":19,\"line\":\"\",\"parent\":18},{\"cells\":2,\"commit\":18,\"line\":\"x = 8\",\"parent\":17},{\"cells\":1,\"commit\":17,\"line\":\"1 // 0\",\"parent\":16},{\"cells\":3,\"commit\":16,\"line\":\"x = 6\",\"parent\":15},{\"cells\":1,\"commit\":15,\"line\":\"assert 0\",\"parent\":14},{\"cells\":1,\"commit\":14,\"line\":\"a\",\"parent\":13},{\"cells\":1,\"commit\":13,\"line\":\"x = = 1\",\"parent\":12},{\"cells\":1,\"commit\":12,\"line\":\"print('" ++ (195 ∷ 169 ∷ []) ++ codes "'); zz\",\"parent\":11},{\"cells\":1,\"commit\":11,\"line\":\"raise KeyError('k')\",\"parent\":10},{\"cells\":1,\"commit\":10,\"line\":\"raise ValueError('no', 1)\",\"parent\":9},{\"cells\":1,\"commit\":9,\"line\":\"x\",\"parent\":8},{\"cells\":1,\"commit\":8,\"line\":\"x = 5; x // 0\",\"parent\":7},{\"cells\":1,\"commit\":7,\"line\":\"print(end='')\",\"parent\":6},{\"cells\":1,\"commit\":6,\"line\":\"print('a'); 2\",\"parent\":5},{\"cells\":1,\"commit\":5,\"line\":\"print(1)\",\"parent\":4},{\"cells\":1,\"commit\":4,\"line\":\"'a'\",\"parent\":3},{\"cells\":1,\"commit\":3,\"line\":\"None\",\"parent\":2},{\"cells\":1,\"commit\":2,\"line\":\"1\",\"parent\":1},{\"cells\":1,\"commit\":1,\"line\":\"\",\"parent\":0}]}\n"
    ++ codes "{\"answer\":\"inspect\",\"commit\":31,\"names\":{\"b\":\"#0\",\"f\":\"#1\",\"x\":\"1\"},\"nodes\":[[\"list\",\"1\",\"2\"],[\"function\",\"1\",\"def f(): return x\"]]}\n"
    ++ codes "{\"answer\":\"stored\",\"commit\":1,\"dropped\":[],\"stored\":[]}\n"
    ++ codes "{\"answer\":\"stored\",\"commit\":8,\"dropped\":[],\"stored\":[[\"x\"]]}\n"
    ++ codes "{\"answer\":\"stored\",\"commit\":16,\"dropped\":[[\"x\"]],\"stored\":[[\"x\"]]}\n"
unfolding requests_on_literals
cells_8 = refl

cells_9 : answers cells_graph7 (map answered (stored (codes "18") ∷ stored (codes "23") ∷ stored (codes "24") ∷ stored (codes "25") ∷ stored (codes "28") ∷ []))
    ≡ codes "{\"answer\":\"stored\",\"commit\":18,\"dropped\":[[\"x\"]],\"stored\":[[\"x\"]]}\n"
    ++ codes "{\"answer\":\"stored\",\"commit\":23,\"dropped\":[],\"stored\":[]}\n"
    ++ codes "{\"answer\":\"stored\",\"commit\":24,\"dropped\":[[\"x\"]],\"stored\":[[\"f\"],[\"x\"]]}\n"
    ++ codes "{\"answer\":\"stored\",\"commit\":25,\"dropped\":[],\"stored\":[]}\n"
    ++ codes "{\"answer\":\"stored\",\"commit\":28,\"dropped\":[],\"stored\":[]}\n"
unfolding requests_on_literals
cells_9 = refl
