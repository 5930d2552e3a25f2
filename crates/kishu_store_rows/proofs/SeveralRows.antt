-- What requests of several cells answer: computed on the definitions. Made by tools/rows/request_rows.py.
use Rattle.std.specs.Prelude.{◌≡◌, [], ◌∷◌, ◌++◌, codes, Some, None, refl}
use Rattle.std.specs.Prelude.{map}
use Rattle.kishu_language.specs.declared.profile.Profile.TheVariants.{One}
use Rattle.kishu_store.specs.Graph.{Graph, new_graph}
use Rattle.kishu_model.specs.Request.{cells, checkout, branch, log, status, inspect, stored, plan}
use Rattle.kishu_model.specs.Serve.{answered, after_all, answers}
use Rattle.kishu_store_rows.proofs.OnLiterals.{requests_on_literals}

-- ---- cells up to the first that doesn't end well, with counts that go on

abbrev several_graph0 : Graph
several_graph0 = new_graph

several_1 : answers several_graph0 (map answered (cells ((codes "a = [1]") ∷ []) ∷ cells ((codes "a") ∷ (codes "a") ∷ []) ∷ cells (([]) ∷ ([]) ∷ ([]) ∷ []) ∷ cells ((codes "b = a; b") ∷ (codes "c =") ∷ []) ∷ cells ((codes "zz") ∷ []) ∷ cells ((codes "zz") ∷ (codes "a") ∷ []) ∷ []))
    ≡ codes "{\"answer\":\"cells\",\"commit\":1,\"results\":[{\"count\":1,\"outcome\":\"ok\",\"outputs\":[]}]}\n"
    ++ codes "{\"answer\":\"cells\",\"commit\":2,\"results\":[{\"count\":2,\"outcome\":\"ok\",\"outputs\":[{\"data\":{\"text/plain\":\"[1]\"},\"execution_count\":2,\"metadata\":{},\"output_type\":\"execute_result\"}]},{\"count\":3,\"outcome\":\"ok\",\"outputs\":[{\"data\":{\"text/plain\":\"[1]\"},\"execution_count\":3,\"metadata\":{},\"output_type\":\"execute_result\"}]}]}\n"
    ++ codes "{\"answer\":\"cells\",\"commit\":3,\"results\":[{\"count\":4,\"outcome\":\"ok\",\"outputs\":[]},{\"count\":5,\"outcome\":\"ok\",\"outputs\":[]},{\"count\":6,\"outcome\":\"ok\",\"outputs\":[]}]}\n"
    ++ codes "{\"answer\":\"cells\",\"commit\":4,\"results\":[{\"count\":7,\"outcome\":\"ok\",\"outputs\":[{\"data\":{\"text/plain\":\"[1]\"},\"execution_count\":7,\"metadata\":{},\"output_type\":\"execute_result\"}]},{\"count\":8,\"outcome\":\"error\",\"outputs\":[{\"ename\":\"SyntaxError\",\"evalue\":\"invalid syntax, line 1\",\"output_type\":\"error\",\"traceback\":[\"SyntaxError: invalid syntax, line 1\"]}]}]}\n"
    ++ codes "{\"answer\":\"cells\",\"commit\":5,\"results\":[{\"count\":9,\"outcome\":\"error\",\"outputs\":[{\"ename\":\"NameError\",\"evalue\":\"name 'zz' is not defined\",\"output_type\":\"error\",\"traceback\":[\"NameError: name 'zz' is not defined\"]}]}]}\n"
    ++ codes "{\"answer\":\"cells\",\"commit\":6,\"results\":[{\"count\":10,\"outcome\":\"error\",\"outputs\":[{\"ename\":\"NameError\",\"evalue\":\"name 'zz' is not defined\",\"output_type\":\"error\",\"traceback\":[\"NameError: name 'zz' is not defined\"]}]}]}\n"
unfolding requests_on_literals
several_1 = refl

abbrev several_graph1 : Graph
several_graph1 = record { commits = ((record { parent = 5; profile = One; cells = ((codes "zz") ∷ []) }) ∷ (record { parent = 4; profile = One; cells = ((codes "zz") ∷ []) }) ∷ (record { parent = 3; profile = One; cells = ((codes "b = a; b") ∷ (codes "c =") ∷ []) }) ∷ (record { parent = 2; profile = One; cells = ([] ∷ [] ∷ [] ∷ []) }) ∷ (record { parent = 1; profile = One; cells = ((codes "a") ∷ (codes "a") ∷ []) }) ∷ (record { parent = 0; profile = One; cells = ((codes "a = [1]") ∷ []) }) ∷ []); branches = (((codes "main"), 6) ∷ []); head = record { commit = 6; branch = Some (codes "main") }; records = 6 }

several_1_left : after_all several_graph0 (map answered (cells ((codes "a = [1]") ∷ []) ∷ cells ((codes "a") ∷ (codes "a") ∷ []) ∷ cells (([]) ∷ ([]) ∷ ([]) ∷ []) ∷ cells ((codes "b = a; b") ∷ (codes "c =") ∷ []) ∷ cells ((codes "zz") ∷ []) ∷ cells ((codes "zz") ∷ (codes "a") ∷ []) ∷ [])) ≡ several_graph1
unfolding requests_on_literals
several_1_left = refl

several_2 : answers several_graph1 (map answered (cells ((codes "a.append(2)") ∷ (codes "a") ∷ (codes "b is a") ∷ (codes "1 // 0") ∷ (codes "a") ∷ []) ∷ cells [] ∷ cells ((codes "print('x')") ∷ (codes "print('y'); 1") ∷ []) ∷ cells ((codes "def f(): return a[5]") ∷ (codes "f()") ∷ (codes "a") ∷ []) ∷ []))
    ≡ codes "{\"answer\":\"cells\",\"commit\":7,\"results\":[{\"count\":11,\"outcome\":\"ok\",\"outputs\":[]},{\"count\":12,\"outcome\":\"ok\",\"outputs\":[{\"data\":{\"text/plain\":\"[1, 2]\"},\"execution_count\":12,\"metadata\":{},\"output_type\":\"execute_result\"}]},{\"count\":13,\"outcome\":\"ok\",\"outputs\":[{\"data\":{\"text/plain\":\"True\"},\"execution_count\":13,\"metadata\":{},\"output_type\":\"execute_result\"}]},{\"count\":14,\"outcome\":\"error\",\"outputs\":[{\"ename\":\"ZeroDivisionError\",\"evalue\":\"division by zero\",\"output_type\":\"error\",\"traceback\":[\"ZeroDivisionError: division by zero\"]}]}]}\n"
    ++ codes "{\"answer\":\"refused\",\"number\":1,\"reason\":\"BadRequest\"}\n"
    ++ codes "{\"answer\":\"cells\",\"commit\":8,\"results\":[{\"count\":15,\"outcome\":\"ok\",\"outputs\":[{\"name\":\"stdout\",\"output_type\":\"stream\",\"text\":\"x\\n\"}]},{\"count\":16,\"outcome\":\"ok\",\"outputs\":[{\"name\":\"stdout\",\"output_type\":\"stream\",\"text\":\"y\\n\"},{\"data\":{\"text/plain\":\"1\"},\"execution_count\":16,\"metadata\":{},\"output_type\":\"execute_result\"}]}]}\n"
    ++ codes "{\"answer\":\"cells\",\"commit\":9,\"results\":[{\"count\":17,\"outcome\":\"ok\",\"outputs\":[]},{\"count\":18,\"outcome\":\"error\",\"outputs\":[{\"ename\":\"IndexError\",\"evalue\":\"index out of range\",\"output_type\":\"error\",\"traceback\":[\"IndexError: index out of range\"]}]}]}\n"
unfolding requests_on_literals
several_2 = refl

abbrev several_graph2 : Graph
several_graph2 = record { commits = ((record { parent = 8; profile = One; cells = ((codes "def f(): return a[5]") ∷ (codes "f()") ∷ []) }) ∷ (record { parent = 7; profile = One; cells = ((codes "print('x')") ∷ (codes "print('y'); 1") ∷ []) }) ∷ (record { parent = 6; profile = One; cells = ((codes "a.append(2)") ∷ (codes "a") ∷ (codes "b is a") ∷ (codes "1 // 0") ∷ []) }) ∷ (record { parent = 5; profile = One; cells = ((codes "zz") ∷ []) }) ∷ (record { parent = 4; profile = One; cells = ((codes "zz") ∷ []) }) ∷ (record { parent = 3; profile = One; cells = ((codes "b = a; b") ∷ (codes "c =") ∷ []) }) ∷ (record { parent = 2; profile = One; cells = ([] ∷ [] ∷ [] ∷ []) }) ∷ (record { parent = 1; profile = One; cells = ((codes "a") ∷ (codes "a") ∷ []) }) ∷ (record { parent = 0; profile = One; cells = ((codes "a = [1]") ∷ []) }) ∷ []); branches = (((codes "main"), 9) ∷ []); head = record { commit = 9; branch = Some (codes "main") }; records = 9 }

several_2_left : after_all several_graph1 (map answered (cells ((codes "a.append(2)") ∷ (codes "a") ∷ (codes "b is a") ∷ (codes "1 // 0") ∷ (codes "a") ∷ []) ∷ cells [] ∷ cells ((codes "print('x')") ∷ (codes "print('y'); 1") ∷ []) ∷ cells ((codes "def f(): return a[5]") ∷ (codes "f()") ∷ (codes "a") ∷ []) ∷ [])) ≡ several_graph2
unfolding requests_on_literals
several_2_left = refl

several_3 : answers several_graph2 (map answered (checkout (codes "1") ∷ cells ((codes "a") ∷ (codes "b") ∷ []) ∷ cells ((codes "b = 1") ∷ (codes "b") ∷ []) ∷ cells ((codes "del a") ∷ (codes "del a") ∷ (codes "a") ∷ []) ∷ cells ((codes "b") ∷ []) ∷ []))
    ≡ codes "{\"answer\":\"checkout\",\"commit\":1,\"head\":null}\n"
    ++ codes "{\"answer\":\"cells\",\"commit\":10,\"results\":[{\"count\":2,\"outcome\":\"ok\",\"outputs\":[{\"data\":{\"text/plain\":\"[1]\"},\"execution_count\":2,\"metadata\":{},\"output_type\":\"execute_result\"}]},{\"count\":3,\"outcome\":\"error\",\"outputs\":[{\"ename\":\"NameError\",\"evalue\":\"name 'b' is not defined\",\"output_type\":\"error\",\"traceback\":[\"NameError: name 'b' is not defined\"]}]}]}\n"
    ++ codes "{\"answer\":\"cells\",\"commit\":11,\"results\":[{\"count\":4,\"outcome\":\"ok\",\"outputs\":[]},{\"count\":5,\"outcome\":\"ok\",\"outputs\":[{\"data\":{\"text/plain\":\"1\"},\"execution_count\":5,\"metadata\":{},\"output_type\":\"execute_result\"}]}]}\n"
    ++ codes "{\"answer\":\"cells\",\"commit\":12,\"results\":[{\"count\":6,\"outcome\":\"ok\",\"outputs\":[]},{\"count\":7,\"outcome\":\"error\",\"outputs\":[{\"ename\":\"NameError\",\"evalue\":\"name 'a' is not defined\",\"output_type\":\"error\",\"traceback\":[\"NameError: name 'a' is not defined\"]}]}]}\n"
    ++ codes "{\"answer\":\"cells\",\"commit\":13,\"results\":[{\"count\":8,\"outcome\":\"ok\",\"outputs\":[{\"data\":{\"text/plain\":\"1\"},\"execution_count\":8,\"metadata\":{},\"output_type\":\"execute_result\"}]}]}\n"
unfolding requests_on_literals
several_3 = refl

abbrev several_graph3 : Graph
several_graph3 = record { commits = ((record { parent = 12; profile = One; cells = ((codes "b") ∷ []) }) ∷ (record { parent = 11; profile = One; cells = ((codes "del a") ∷ (codes "del a") ∷ []) }) ∷ (record { parent = 10; profile = One; cells = ((codes "b = 1") ∷ (codes "b") ∷ []) }) ∷ (record { parent = 1; profile = One; cells = ((codes "a") ∷ (codes "b") ∷ []) }) ∷ (record { parent = 8; profile = One; cells = ((codes "def f(): return a[5]") ∷ (codes "f()") ∷ []) }) ∷ (record { parent = 7; profile = One; cells = ((codes "print('x')") ∷ (codes "print('y'); 1") ∷ []) }) ∷ (record { parent = 6; profile = One; cells = ((codes "a.append(2)") ∷ (codes "a") ∷ (codes "b is a") ∷ (codes "1 // 0") ∷ []) }) ∷ (record { parent = 5; profile = One; cells = ((codes "zz") ∷ []) }) ∷ (record { parent = 4; profile = One; cells = ((codes "zz") ∷ []) }) ∷ (record { parent = 3; profile = One; cells = ((codes "b = a; b") ∷ (codes "c =") ∷ []) }) ∷ (record { parent = 2; profile = One; cells = ([] ∷ [] ∷ [] ∷ []) }) ∷ (record { parent = 1; profile = One; cells = ((codes "a") ∷ (codes "a") ∷ []) }) ∷ (record { parent = 0; profile = One; cells = ((codes "a = [1]") ∷ []) }) ∷ []); branches = (((codes "main"), 9) ∷ []); head = record { commit = 13; branch = None }; records = 14 }

several_3_left : after_all several_graph2 (map answered (checkout (codes "1") ∷ cells ((codes "a") ∷ (codes "b") ∷ []) ∷ cells ((codes "b = 1") ∷ (codes "b") ∷ []) ∷ cells ((codes "del a") ∷ (codes "del a") ∷ (codes "a") ∷ []) ∷ cells ((codes "b") ∷ []) ∷ [])) ≡ several_graph3
unfolding requests_on_literals
several_3_left = refl

several_4 : answers several_graph3 (map answered (branch (codes "q") None ∷ checkout (codes "q") ∷ cells ((codes "b = 2") ∷ (codes "b") ∷ []) ∷ cells ((codes "b") ∷ []) ∷ checkout (codes "main") ∷ cells ((codes "b is a") ∷ (codes "a") ∷ []) ∷ []))
    ≡ codes "{\"answer\":\"branch\",\"commit\":13,\"name\":\"q\"}\n"
    ++ codes "{\"answer\":\"checkout\",\"commit\":13,\"head\":\"q\"}\n"
    ++ codes "{\"answer\":\"cells\",\"commit\":14,\"results\":[{\"count\":9,\"outcome\":\"ok\",\"outputs\":[]},{\"count\":10,\"outcome\":\"ok\",\"outputs\":[{\"data\":{\"text/plain\":\"2\"},\"execution_count\":10,\"metadata\":{},\"output_type\":\"execute_result\"}]}]}\n"
    ++ codes "{\"answer\":\"cells\",\"commit\":15,\"results\":[{\"count\":11,\"outcome\":\"ok\",\"outputs\":[{\"data\":{\"text/plain\":\"2\"},\"execution_count\":11,\"metadata\":{},\"output_type\":\"execute_result\"}]}]}\n"
    ++ codes "{\"answer\":\"checkout\",\"commit\":9,\"head\":\"main\"}\n"
    ++ codes "{\"answer\":\"cells\",\"commit\":16,\"results\":[{\"count\":19,\"outcome\":\"ok\",\"outputs\":[{\"data\":{\"text/plain\":\"True\"},\"execution_count\":19,\"metadata\":{},\"output_type\":\"execute_result\"}]},{\"count\":20,\"outcome\":\"ok\",\"outputs\":[{\"data\":{\"text/plain\":\"[1, 2]\"},\"execution_count\":20,\"metadata\":{},\"output_type\":\"execute_result\"}]}]}\n"
unfolding requests_on_literals
several_4 = refl

abbrev several_graph4 : Graph
several_graph4 = record { commits = ((record { parent = 9; profile = One; cells = ((codes "b is a") ∷ (codes "a") ∷ []) }) ∷ (record { parent = 14; profile = One; cells = ((codes "b") ∷ []) }) ∷ (record { parent = 13; profile = One; cells = ((codes "b = 2") ∷ (codes "b") ∷ []) }) ∷ (record { parent = 12; profile = One; cells = ((codes "b") ∷ []) }) ∷ (record { parent = 11; profile = One; cells = ((codes "del a") ∷ (codes "del a") ∷ []) }) ∷ (record { parent = 10; profile = One; cells = ((codes "b = 1") ∷ (codes "b") ∷ []) }) ∷ (record { parent = 1; profile = One; cells = ((codes "a") ∷ (codes "b") ∷ []) }) ∷ (record { parent = 8; profile = One; cells = ((codes "def f(): return a[5]") ∷ (codes "f()") ∷ []) }) ∷ (record { parent = 7; profile = One; cells = ((codes "print('x')") ∷ (codes "print('y'); 1") ∷ []) }) ∷ (record { parent = 6; profile = One; cells = ((codes "a.append(2)") ∷ (codes "a") ∷ (codes "b is a") ∷ (codes "1 // 0") ∷ []) }) ∷ (record { parent = 5; profile = One; cells = ((codes "zz") ∷ []) }) ∷ (record { parent = 4; profile = One; cells = ((codes "zz") ∷ []) }) ∷ (record { parent = 3; profile = One; cells = ((codes "b = a; b") ∷ (codes "c =") ∷ []) }) ∷ (record { parent = 2; profile = One; cells = ([] ∷ [] ∷ [] ∷ []) }) ∷ (record { parent = 1; profile = One; cells = ((codes "a") ∷ (codes "a") ∷ []) }) ∷ (record { parent = 0; profile = One; cells = ((codes "a = [1]") ∷ []) }) ∷ []); branches = (((codes "main"), 16) ∷ ((codes "q"), 15) ∷ []); head = record { commit = 16; branch = Some (codes "main") }; records = 20 }

several_4_left : after_all several_graph3 (map answered (branch (codes "q") None ∷ checkout (codes "q") ∷ cells ((codes "b = 2") ∷ (codes "b") ∷ []) ∷ cells ((codes "b") ∷ []) ∷ checkout (codes "main") ∷ cells ((codes "b is a") ∷ (codes "a") ∷ []) ∷ [])) ≡ several_graph4
unfolding requests_on_literals
several_4_left = refl

several_5 : answers several_graph4 (map answered (cells ((codes "x = 1") ∷ (codes "x = 2") ∷ (codes "x = 3") ∷ (codes "x") ∷ []) ∷ cells ((codes "try:\n    x // 0\nexcept ZeroDivisionError: x = 4") ∷ (codes "x") ∷ []) ∷ cells ((codes "raise KeyError('k')") ∷ []) ∷ cells ((codes "assert x, 1") ∷ (codes "assert 0, x") ∷ (codes "x") ∷ []) ∷ cells ((codes "'" ++ (195 ∷ 169 ∷ []) ++ codes "'") ∷ (codes "print('" ++ (195 ∷ 169 ∷ []) ++ codes "')") ∷ []) ∷ []))
    ≡ codes "{\"answer\":\"cells\",\"commit\":17,\"results\":[{\"count\":21,\"outcome\":\"ok\",\"outputs\":[]},{\"count\":22,\"outcome\":\"ok\",\"outputs\":[]},{\"count\":23,\"outcome\":\"ok\",\"outputs\":[]},{\"count\":24,\"outcome\":\"ok\",\"outputs\":[{\"data\":{\"text/plain\":\"3\"},\"execution_count\":24,\"metadata\":{},\"output_type\":\"execute_result\"}]}]}\n"
    ++ codes "{\"answer\":\"cells\",\"commit\":18,\"results\":[{\"count\":25,\"outcome\":\"ok\",\"outputs\":[]},{\"count\":26,\"outcome\":\"ok\",\"outputs\":[{\"data\":{\"text/plain\":\"4\"},\"execution_count\":26,\"metadata\":{},\"output_type\":\"execute_result\"}]}]}\n"
    ++ codes "{\"answer\":\"cells\",\"commit\":19,\"results\":[{\"count\":27,\"outcome\":\"error\",\"outputs\":[{\"ename\":\"KeyError\",\"evalue\":\"'k'\",\"output_type\":\"error\",\"traceback\":[\"KeyError: 'k'\"]}]}]}\n"
    ++ codes "{\"answer\":\"cells\",\"commit\":20,\"results\":[{\"count\":28,\"outcome\":\"ok\",\"outputs\":[]},{\"count\":29,\"outcome\":\"error\",\"outputs\":[{\"ename\":\"AssertionError\",\"evalue\":\"4\",\"output_type\":\"error\",\"traceback\":[\"AssertionError: 4\"]}]}]}\n"
    ++ codes "{\"answer\":\"cells\",\"commit\":21,\"results\":[{\"count\":30,\"outcome\":\"ok\",\"outputs\":[{\"data\":{\"text/plain\":\"'" ++ (195 ∷ 169 ∷ []) ++ codes "'\"},\"execution_count\":30,\"metadata\":{},\"output_type\":\"execute_result\"}]},{\"count\":31,\"outcome\":\"ok\",\"outputs\":[{\"name\":\"stdout\",\"output_type\":\"stream\",\"text\":\"" ++ (195 ∷ 169 ∷ []) ++ codes "\\n\"}]}]}\n"
unfolding requests_on_literals
several_5 = refl

abbrev several_graph5 : Graph
several_graph5 = record { commits = ((record { parent = 20; profile = One; cells = ((39 ∷ 195 ∷ 169 ∷ 39 ∷ []) ∷ (112 ∷ 114 ∷ 105 ∷ 110 ∷ 116 ∷ 40 ∷ 39 ∷ 195 ∷ 169 ∷ 39 ∷ 41 ∷ []) ∷ []) }) ∷ (record { parent = 19; profile = One; cells = ((codes "assert x, 1") ∷ (codes "assert 0, x") ∷ []) }) ∷ (record { parent = 18; profile = One; cells = ((codes "raise KeyError('k')") ∷ []) }) ∷ (record { parent = 17; profile = One; cells = ((116 ∷ 114 ∷ 121 ∷ 58 ∷ 10 ∷ 32 ∷ 32 ∷ 32 ∷ 32 ∷ 120 ∷ 32 ∷ 47 ∷ 47 ∷ 32 ∷ 48 ∷ 10 ∷ 101 ∷ 120 ∷ 99 ∷ 101 ∷ 112 ∷ 116 ∷ 32 ∷ 90 ∷ 101 ∷ 114 ∷ 111 ∷ 68 ∷ 105 ∷ 118 ∷ 105 ∷ 115 ∷ 105 ∷ 111 ∷ 110 ∷ 69 ∷ 114 ∷ 114 ∷ 111 ∷ 114 ∷ 58 ∷ 32 ∷ 120 ∷ 32 ∷ 61 ∷ 32 ∷ 52 ∷ []) ∷ (codes "x") ∷ []) }) ∷ (record { parent = 16; profile = One; cells = ((codes "x = 1") ∷ (codes "x = 2") ∷ (codes "x = 3") ∷ (codes "x") ∷ []) }) ∷ (record { parent = 9; profile = One; cells = ((codes "b is a") ∷ (codes "a") ∷ []) }) ∷ (record { parent = 14; profile = One; cells = ((codes "b") ∷ []) }) ∷ (record { parent = 13; profile = One; cells = ((codes "b = 2") ∷ (codes "b") ∷ []) }) ∷ (record { parent = 12; profile = One; cells = ((codes "b") ∷ []) }) ∷ (record { parent = 11; profile = One; cells = ((codes "del a") ∷ (codes "del a") ∷ []) }) ∷ (record { parent = 10; profile = One; cells = ((codes "b = 1") ∷ (codes "b") ∷ []) }) ∷ (record { parent = 1; profile = One; cells = ((codes "a") ∷ (codes "b") ∷ []) }) ∷ (record { parent = 8; profile = One; cells = ((codes "def f(): return a[5]") ∷ (codes "f()") ∷ []) }) ∷ (record { parent = 7; profile = One; cells = ((codes "print('x')") ∷ (codes "print('y'); 1") ∷ []) }) ∷ (record { parent = 6; profile = One; cells = ((codes "a.append(2)") ∷ (codes "a") ∷ (codes "b is a") ∷ (codes "1 // 0") ∷ []) }) ∷ (record { parent = 5; profile = One; cells = ((codes "zz") ∷ []) }) ∷ (record { parent = 4; profile = One; cells = ((codes "zz") ∷ []) }) ∷ (record { parent = 3; profile = One; cells = ((codes "b = a; b") ∷ (codes "c =") ∷ []) }) ∷ (record { parent = 2; profile = One; cells = ([] ∷ [] ∷ [] ∷ []) }) ∷ (record { parent = 1; profile = One; cells = ((codes "a") ∷ (codes "a") ∷ []) }) ∷ (record { parent = 0; profile = One; cells = ((codes "a = [1]") ∷ []) }) ∷ []); branches = (((codes "main"), 21) ∷ ((codes "q"), 15) ∷ []); head = record { commit = 21; branch = Some (codes "main") }; records = 25 }

several_5_left : after_all several_graph4 (map answered (cells ((codes "x = 1") ∷ (codes "x = 2") ∷ (codes "x = 3") ∷ (codes "x") ∷ []) ∷ cells ((codes "try:\n    x // 0\nexcept ZeroDivisionError: x = 4") ∷ (codes "x") ∷ []) ∷ cells ((codes "raise KeyError('k')") ∷ []) ∷ cells ((codes "assert x, 1") ∷ (codes "assert 0, x") ∷ (codes "x") ∷ []) ∷ cells ((codes "'" ++ (195 ∷ 169 ∷ []) ++ codes "'") ∷ (codes "print('" ++ (195 ∷ 169 ∷ []) ++ codes "')") ∷ []) ∷ [])) ≡ several_graph5
unfolding requests_on_literals
several_5_left = refl

several_6 : answers several_graph5 (map answered (status ∷ log ∷ inspect ∷ stored (codes "main") ∷ stored (codes "q") ∷ plan (codes "q") ∷ []))
    ≡ codes "{\"answer\":\"status\",\"branch\":\"main\",\"commit\":21,\"commits\":22,\"names\":[\"a\",\"b\",\"f\",\"x\"],\"records\":25}\n"
    ++ codes "{\"answer\":\"log\",\"branches\":[{\"commit\":21,\"name\":\"main\"},{\"commit\":15,\"name\":\"q\"}],\"path\":[{\"cells\":2,\"commit\":21,\"line\":\"'" ++ (195 ∷ 169 ∷ []) ++ codes "'\",\"parent\":20},{\"cells\":2,\"commit\":20,\"line\":\"assert x, 1\",\"parent\":19},{\"cells\":1,\"commit\":19,\"line\":\"raise KeyError('k')\",\"parent\":18},{\"cells\":2,\"commit\":18,\"line\":\"try:\",\"parent\":17},{\"cells\":4,\"commit\":17,\"line\":\"x = 1\",\"parent\":16},{\"cells\":2,\"commit\":16,\"line\":\"b is a\",\"parent\":9},{\"cells\":2,\"commit\":9,\"line\":\"def f(): return a[5]\",\"parent\":8},{\"cells\":2,\"commit\":8,\"line\":\"print('x')\",\"parent\":7},{\"cells\":4,\"commit\":7,\"line\":\"a.append(2)\",\"parent\":6},{\"cells\":1,\"commit\":6,\"line\":\"zz\",\"parent\":5},{\"cells\":1,\"commit\":5,\"line\":\"zz\",\"parent\":4},{\"cells\":2,\"commit\":4,\"line\":\"b = a; b\",\"parent\":3},{\"cells\":3,\"commit\":3,\"line\":\"\",\"parent\":2},{\"cells\":2,\"commit\":2,\"line\":\"a\",\"parent\":1},{\"cells\":1,\"commit\":1,\"line\":\"a = [1]\",\"parent\":0}]}\n"
    ++ codes "{\"answer\":\"inspect\",\"commit\":21,\"names\":{\"a\":\"#0\",\"b\":\"#0\",\"f\":\"#1\",\"x\":\"4\"},\"nodes\":[[\"list\",\"1\",\"2\"],[\"function\",\"1\",\"def f(): return a[5]\"]]}\n"
    ++ codes "{\"answer\":\"stored\",\"commit\":21,\"dropped\":[],\"stored\":[]}\n"
    ++ codes "{\"answer\":\"stored\",\"commit\":15,\"dropped\":[],\"stored\":[]}\n"
    ++ codes "{\"answer\":\"plan\",\"commit\":15,\"drop\":[[\"a\",\"b\"],[\"f\"],[\"x\"]],\"keep\":[],\"load\":[[\"b\"]]}\n"
unfolding requests_on_literals
several_6 = refl

several_7 : answers several_graph5 (map answered (plan (codes "1") ∷ stored (codes "14") ∷ stored (codes "2") ∷ []))
    ≡ codes "{\"answer\":\"plan\",\"commit\":1,\"drop\":[[\"a\",\"b\"],[\"f\"],[\"x\"]],\"keep\":[],\"load\":[[\"a\"]]}\n"
    ++ codes "{\"answer\":\"stored\",\"commit\":14,\"dropped\":[[\"b\"]],\"stored\":[[\"b\"]]}\n"
    ++ codes "{\"answer\":\"stored\",\"commit\":2,\"dropped\":[],\"stored\":[]}\n"
unfolding requests_on_literals
several_7 = refl
