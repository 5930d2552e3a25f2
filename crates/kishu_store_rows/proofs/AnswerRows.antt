-- The lines that tell answers: computed on the definition. Made by tools/rows/answer_rows.py.
use Rattle.std.specs.Prelude.{◌≡◌, [], ◌∷◌, ◌++◌, codes, Some, None, refl}
use Rattle.kishu_meaning.specs.declared.result.Outcome.TheVariants.{Done, Raised, Stopped}
use Rattle.kishu_meaning.specs.values.Values.{stream, shown, fault}
use Rattle.kishu_model.specs.Answers.{bad_request, no_such_ref, bad_name, name_taken, store_full, cell_too_long, state_too_large, ran_cell, ran_cells, checked_out, branched, logged, told_status, inspected, told_stored, told_plan, refused, answer_line}
use Rattle.kishu_store_rows.proofs.OnLiterals.{requests_on_literals}

cell_1 : answer_line (ran_cell 1 1 (record { outcome = Done; outputs = [] })) ≡ codes "{\"answer\":\"cell\",\"commit\":1,\"count\":1,\"outcome\":\"ok\",\"outputs\":[]}\n"
unfolding requests_on_literals
cell_1 = refl

cell_2 : answer_line (ran_cell 999999 12345678901 (record { outcome = Done; outputs = [] })) ≡ codes "{\"answer\":\"cell\",\"commit\":999999,\"count\":12345678901,\"outcome\":\"ok\",\"outputs\":[]}\n"
unfolding requests_on_literals
cell_2 = refl

cell_3 : answer_line (ran_cell 1 1 (record { outcome = Done; outputs = ((stream (codes "a\n")) ∷ []) })) ≡ codes "{\"answer\":\"cell\",\"commit\":1,\"count\":1,\"outcome\":\"ok\",\"outputs\":[{\"name\":\"stdout\",\"output_type\":\"stream\",\"text\":\"a\\n\"}]}\n"
unfolding requests_on_literals
cell_3 = refl

cell_4 : answer_line (ran_cell 999999 12345678901 (record { outcome = Done; outputs = ((stream (codes "a\n")) ∷ []) })) ≡ codes "{\"answer\":\"cell\",\"commit\":999999,\"count\":12345678901,\"outcome\":\"ok\",\"outputs\":[{\"name\":\"stdout\",\"output_type\":\"stream\",\"text\":\"a\\n\"}]}\n"
unfolding requests_on_literals
cell_4 = refl

cell_5 : answer_line (ran_cell 1 1 (record { outcome = Done; outputs = ((stream (codes "a")) ∷ (shown (codes "1")) ∷ []) })) ≡ codes "{\"answer\":\"cell\",\"commit\":1,\"count\":1,\"outcome\":\"ok\",\"outputs\":[{\"name\":\"stdout\",\"output_type\":\"stream\",\"text\":\"a\"},{\"data\":{\"text/plain\":\"1\"},\"execution_count\":1,\"metadata\":{},\"output_type\":\"execute_result\"}]}\n"
unfolding requests_on_literals
cell_5 = refl

cell_6 : answer_line (ran_cell 999999 12345678901 (record { outcome = Done; outputs = ((stream (codes "a")) ∷ (shown (codes "1")) ∷ []) })) ≡ codes "{\"answer\":\"cell\",\"commit\":999999,\"count\":12345678901,\"outcome\":\"ok\",\"outputs\":[{\"name\":\"stdout\",\"output_type\":\"stream\",\"text\":\"a\"},{\"data\":{\"text/plain\":\"1\"},\"execution_count\":12345678901,\"metadata\":{},\"output_type\":\"execute_result\"}]}\n"
unfolding requests_on_literals
cell_6 = refl

cell_7 : answer_line (ran_cell 1 1 (record { outcome = Done; outputs = ((shown (codes "a\"b\\c\nd" ++ (9 ∷ []) ++ codes "e" ++ (1 ∷ []) ++ (195 ∷ 169 ∷ []) ++ (226 ∷ 128 ∷ 168 ∷ []) ++ (240 ∷ 159 ∷ 152 ∷ 128 ∷ []) ++ codes "/" ++ (127 ∷ []))) ∷ []) })) ≡ codes "{\"answer\":\"cell\",\"commit\":1,\"count\":1,\"outcome\":\"ok\",\"outputs\":[{\"data\":{\"text/plain\":\"a\\\"b\\\\c\\nd\\te\\u0001" ++ (195 ∷ 169 ∷ []) ++ (226 ∷ 128 ∷ 168 ∷ []) ++ (240 ∷ 159 ∷ 152 ∷ 128 ∷ []) ++ codes "/" ++ (127 ∷ []) ++ codes "\"},\"execution_count\":1,\"metadata\":{},\"output_type\":\"execute_result\"}]}\n"
unfolding requests_on_literals
cell_7 = refl

cell_8 : answer_line (ran_cell 999999 12345678901 (record { outcome = Done; outputs = ((shown (codes "a\"b\\c\nd" ++ (9 ∷ []) ++ codes "e" ++ (1 ∷ []) ++ (195 ∷ 169 ∷ []) ++ (226 ∷ 128 ∷ 168 ∷ []) ++ (240 ∷ 159 ∷ 152 ∷ 128 ∷ []) ++ codes "/" ++ (127 ∷ []))) ∷ []) })) ≡ codes "{\"answer\":\"cell\",\"commit\":999999,\"count\":12345678901,\"outcome\":\"ok\",\"outputs\":[{\"data\":{\"text/plain\":\"a\\\"b\\\\c\\nd\\te\\u0001" ++ (195 ∷ 169 ∷ []) ++ (226 ∷ 128 ∷ 168 ∷ []) ++ (240 ∷ 159 ∷ 152 ∷ 128 ∷ []) ++ codes "/" ++ (127 ∷ []) ++ codes "\"},\"execution_count\":12345678901,\"metadata\":{},\"output_type\":\"execute_result\"}]}\n"
unfolding requests_on_literals
cell_8 = refl

cell_9 : answer_line (ran_cell 1 1 (record { outcome = Raised; outputs = ((fault (codes "KeyError") (codes "'k'")) ∷ []) })) ≡ codes "{\"answer\":\"cell\",\"commit\":1,\"count\":1,\"outcome\":\"error\",\"outputs\":[{\"ename\":\"KeyError\",\"evalue\":\"'k'\",\"output_type\":\"error\",\"traceback\":[\"KeyError: 'k'\"]}]}\n"
unfolding requests_on_literals
cell_9 = refl

cell_10 : answer_line (ran_cell 999999 12345678901 (record { outcome = Raised; outputs = ((fault (codes "KeyError") (codes "'k'")) ∷ []) })) ≡ codes "{\"answer\":\"cell\",\"commit\":999999,\"count\":12345678901,\"outcome\":\"error\",\"outputs\":[{\"ename\":\"KeyError\",\"evalue\":\"'k'\",\"output_type\":\"error\",\"traceback\":[\"KeyError: 'k'\"]}]}\n"
unfolding requests_on_literals
cell_10 = refl

cell_11 : answer_line (ran_cell 1 1 (record { outcome = Raised; outputs = ((stream (codes "a\"b\\c\nd" ++ (9 ∷ []) ++ codes "e" ++ (1 ∷ []) ++ (195 ∷ 169 ∷ []) ++ (226 ∷ 128 ∷ 168 ∷ []) ++ (240 ∷ 159 ∷ 152 ∷ 128 ∷ []) ++ codes "/" ++ (127 ∷ []))) ∷ (fault (codes "ValueError") ([])) ∷ []) })) ≡ codes "{\"answer\":\"cell\",\"commit\":1,\"count\":1,\"outcome\":\"error\",\"outputs\":[{\"name\":\"stdout\",\"output_type\":\"stream\",\"text\":\"a\\\"b\\\\c\\nd\\te\\u0001" ++ (195 ∷ 169 ∷ []) ++ (226 ∷ 128 ∷ 168 ∷ []) ++ (240 ∷ 159 ∷ 152 ∷ 128 ∷ []) ++ codes "/" ++ (127 ∷ []) ++ codes "\"},{\"ename\":\"ValueError\",\"evalue\":\"\",\"output_type\":\"error\",\"traceback\":[\"ValueError: \"]}]}\n"
unfolding requests_on_literals
cell_11 = refl

cell_12 : answer_line (ran_cell 999999 12345678901 (record { outcome = Raised; outputs = ((stream (codes "a\"b\\c\nd" ++ (9 ∷ []) ++ codes "e" ++ (1 ∷ []) ++ (195 ∷ 169 ∷ []) ++ (226 ∷ 128 ∷ 168 ∷ []) ++ (240 ∷ 159 ∷ 152 ∷ 128 ∷ []) ++ codes "/" ++ (127 ∷ []))) ∷ (fault (codes "ValueError") ([])) ∷ []) })) ≡ codes "{\"answer\":\"cell\",\"commit\":999999,\"count\":12345678901,\"outcome\":\"error\",\"outputs\":[{\"name\":\"stdout\",\"output_type\":\"stream\",\"text\":\"a\\\"b\\\\c\\nd\\te\\u0001" ++ (195 ∷ 169 ∷ []) ++ (226 ∷ 128 ∷ 168 ∷ []) ++ (240 ∷ 159 ∷ 152 ∷ 128 ∷ []) ++ codes "/" ++ (127 ∷ []) ++ codes "\"},{\"ename\":\"ValueError\",\"evalue\":\"\",\"output_type\":\"error\",\"traceback\":[\"ValueError: \"]}]}\n"
unfolding requests_on_literals
cell_12 = refl

cell_13 : answer_line (ran_cell 1 1 (record { outcome = Stopped; outputs = ((fault (codes "Stopped") (codes "step budget spent")) ∷ []) })) ≡ codes "{\"answer\":\"cell\",\"commit\":1,\"count\":1,\"outcome\":\"stopped\",\"outputs\":[{\"ename\":\"Stopped\",\"evalue\":\"step budget spent\",\"output_type\":\"error\",\"traceback\":[\"Stopped: step budget spent\"]}]}\n"
unfolding requests_on_literals
cell_13 = refl

cell_14 : answer_line (ran_cell 999999 12345678901 (record { outcome = Stopped; outputs = ((fault (codes "Stopped") (codes "step budget spent")) ∷ []) })) ≡ codes "{\"answer\":\"cell\",\"commit\":999999,\"count\":12345678901,\"outcome\":\"stopped\",\"outputs\":[{\"ename\":\"Stopped\",\"evalue\":\"step budget spent\",\"output_type\":\"error\",\"traceback\":[\"Stopped: step budget spent\"]}]}\n"
unfolding requests_on_literals
cell_14 = refl

cell_15 : answer_line (ran_cell 1 1 (record { outcome = Stopped; outputs = ((stream (codes "x")) ∷ (fault (codes "Stopped") (codes "step budget spent")) ∷ []) })) ≡ codes "{\"answer\":\"cell\",\"commit\":1,\"count\":1,\"outcome\":\"stopped\",\"outputs\":[{\"name\":\"stdout\",\"output_type\":\"stream\",\"text\":\"x\"},{\"ename\":\"Stopped\",\"evalue\":\"step budget spent\",\"output_type\":\"error\",\"traceback\":[\"Stopped: step budget spent\"]}]}\n"
unfolding requests_on_literals
cell_15 = refl

cell_16 : answer_line (ran_cell 999999 12345678901 (record { outcome = Stopped; outputs = ((stream (codes "x")) ∷ (fault (codes "Stopped") (codes "step budget spent")) ∷ []) })) ≡ codes "{\"answer\":\"cell\",\"commit\":999999,\"count\":12345678901,\"outcome\":\"stopped\",\"outputs\":[{\"name\":\"stdout\",\"output_type\":\"stream\",\"text\":\"x\"},{\"ename\":\"Stopped\",\"evalue\":\"step budget spent\",\"output_type\":\"error\",\"traceback\":[\"Stopped: step budget spent\"]}]}\n"
unfolding requests_on_literals
cell_16 = refl

cells_1 : answer_line (ran_cells 3 []) ≡ codes "{\"answer\":\"cells\",\"commit\":3,\"results\":[]}\n"
unfolding requests_on_literals
cells_1 = refl

cells_2 : answer_line (ran_cells 3 ((record { count = 1; report = (record { outcome = Done; outputs = [] }) }) ∷ [])) ≡ codes "{\"answer\":\"cells\",\"commit\":3,\"results\":[{\"count\":1,\"outcome\":\"ok\",\"outputs\":[]}]}\n"
unfolding requests_on_literals
cells_2 = refl

cells_3 : answer_line (ran_cells 3 ((record { count = 7; report = (record { outcome = Done; outputs = ((stream (codes "a")) ∷ (shown (codes "b")) ∷ []) }) }) ∷ (record { count = 8; report = (record { outcome = Raised; outputs = ((fault (codes "E") (codes "v")) ∷ []) }) }) ∷ [])) ≡ codes "{\"answer\":\"cells\",\"commit\":3,\"results\":[{\"count\":7,\"outcome\":\"ok\",\"outputs\":[{\"name\":\"stdout\",\"output_type\":\"stream\",\"text\":\"a\"},{\"data\":{\"text/plain\":\"b\"},\"execution_count\":7,\"metadata\":{},\"output_type\":\"execute_result\"}]},{\"count\":8,\"outcome\":\"error\",\"outputs\":[{\"ename\":\"E\",\"evalue\":\"v\",\"output_type\":\"error\",\"traceback\":[\"E: v\"]}]}]}\n"
unfolding requests_on_literals
cells_3 = refl

cells_4 : answer_line (ran_cells 3 ((record { count = 2; report = (record { outcome = Stopped; outputs = ((fault (codes "Stopped") (codes "step budget spent")) ∷ []) }) }) ∷ [])) ≡ codes "{\"answer\":\"cells\",\"commit\":3,\"results\":[{\"count\":2,\"outcome\":\"stopped\",\"outputs\":[{\"ename\":\"Stopped\",\"evalue\":\"step budget spent\",\"output_type\":\"error\",\"traceback\":[\"Stopped: step budget spent\"]}]}]}\n"
unfolding requests_on_literals
cells_4 = refl

checkout_1 : answer_line (checked_out 0 None) ≡ codes "{\"answer\":\"checkout\",\"commit\":0,\"head\":null}\n"
unfolding requests_on_literals
checkout_1 = refl

checkout_2 : answer_line (checked_out 7 (Some (codes "main"))) ≡ codes "{\"answer\":\"checkout\",\"commit\":7,\"head\":\"main\"}\n"
unfolding requests_on_literals
checkout_2 = refl

checkout_3 : answer_line (checked_out 1000000 (Some (codes "a-b_9"))) ≡ codes "{\"answer\":\"checkout\",\"commit\":1000000,\"head\":\"a-b_9\"}\n"
unfolding requests_on_literals
checkout_3 = refl

branch_1 : answer_line (branched 0 (codes "try")) ≡ codes "{\"answer\":\"branch\",\"commit\":0,\"name\":\"try\"}\n"
unfolding requests_on_literals
branch_1 = refl

branch_2 : answer_line (branched 4294967295 (codes "_")) ≡ codes "{\"answer\":\"branch\",\"commit\":4294967295,\"name\":\"_\"}\n"
unfolding requests_on_literals
branch_2 = refl

log_1 : answer_line (logged ((codes "main", 0) ∷ []) []) ≡ codes "{\"answer\":\"log\",\"branches\":[{\"commit\":0,\"name\":\"main\"}],\"path\":[]}\n"
unfolding requests_on_literals
log_1 = refl

log_2 : answer_line (logged [] ((record { cells = 1; commit = 1; line = codes "x"; parent = 0 }) ∷ [])) ≡ codes "{\"answer\":\"log\",\"branches\":[],\"path\":[{\"cells\":1,\"commit\":1,\"line\":\"x\",\"parent\":0}]}\n"
unfolding requests_on_literals
log_2 = refl

log_3 : answer_line (logged ((codes "Z", 3) ∷ (codes "a", 0) ∷ []) ((record { cells = 2; commit = 3; line = codes "a\"b\\c\nd" ++ (9 ∷ []) ++ codes "e" ++ (1 ∷ []) ++ (195 ∷ 169 ∷ []) ++ (226 ∷ 128 ∷ 168 ∷ []) ++ (240 ∷ 159 ∷ 152 ∷ 128 ∷ []) ++ codes "/" ++ (127 ∷ []); parent = 1 }) ∷ (record { cells = 1; commit = 1; line = []; parent = 0 }) ∷ [])) ≡ codes "{\"answer\":\"log\",\"branches\":[{\"commit\":3,\"name\":\"Z\"},{\"commit\":0,\"name\":\"a\"}],\"path\":[{\"cells\":2,\"commit\":3,\"line\":\"a\\\"b\\\\c\\nd\\te\\u0001" ++ (195 ∷ 169 ∷ []) ++ (226 ∷ 128 ∷ 168 ∷ []) ++ (240 ∷ 159 ∷ 152 ∷ 128 ∷ []) ++ codes "/" ++ (127 ∷ []) ++ codes "\",\"parent\":1},{\"cells\":1,\"commit\":1,\"line\":\"\",\"parent\":0}]}\n"
unfolding requests_on_literals
log_3 = refl

status_1 : answer_line (told_status (record { branch = None; commit = 0; commits = 1; names = []; records = 0 })) ≡ codes "{\"answer\":\"status\",\"branch\":null,\"commit\":0,\"commits\":1,\"names\":[],\"records\":0}\n"
unfolding requests_on_literals
status_1 = refl

status_2 : answer_line (told_status (record { branch = (Some (codes "main")); commit = 1000000; commits = 1000001; names = ((codes "Z") ∷ (codes "_") ∷ (codes "a") ∷ []); records = 1000000 })) ≡ codes "{\"answer\":\"status\",\"branch\":\"main\",\"commit\":1000000,\"commits\":1000001,\"names\":[\"Z\",\"_\",\"a\"],\"records\":1000000}\n"
unfolding requests_on_literals
status_2 = refl

inspect_1 : answer_line (inspected 5 [] []) ≡ codes "{\"answer\":\"inspect\",\"commit\":5,\"names\":{},\"nodes\":[]}\n"
unfolding requests_on_literals
inspect_1 = refl

inspect_2 : answer_line (inspected 5 ((codes "b", codes "#0") ∷ (codes "a", codes "1") ∷ (codes "Z", codes "None") ∷ []) (((codes "list") ∷ []) ∷ [])) ≡ codes "{\"answer\":\"inspect\",\"commit\":5,\"names\":{\"Z\":\"None\",\"a\":\"1\",\"b\":\"#0\"},\"nodes\":[[\"list\"]]}\n"
unfolding requests_on_literals
inspect_2 = refl

inspect_3 : answer_line (inspected 5 ((codes "a", codes "a\"b\\c\nd" ++ (9 ∷ []) ++ codes "e" ++ (1 ∷ []) ++ (195 ∷ 169 ∷ []) ++ (226 ∷ 128 ∷ 168 ∷ []) ++ (240 ∷ 159 ∷ 152 ∷ 128 ∷ []) ++ codes "/" ++ (127 ∷ [])) ∷ []) (((codes "dict") ∷ (codes "'k'") ∷ (codes "#1") ∷ []) ∷ ((codes "object") ∷ (codes "x") ∷ (codes "'\"'") ∷ []) ∷ ((codes "function") ∷ (codes "1") ∷ (codes "def f():\n    pass") ∷ []) ∷ [])) ≡ codes "{\"answer\":\"inspect\",\"commit\":5,\"names\":{\"a\":\"a\\\"b\\\\c\\nd\\te\\u0001" ++ (195 ∷ 169 ∷ []) ++ (226 ∷ 128 ∷ 168 ∷ []) ++ (240 ∷ 159 ∷ 152 ∷ 128 ∷ []) ++ codes "/" ++ (127 ∷ []) ++ codes "\"},\"nodes\":[[\"dict\",\"'k'\",\"#1\"],[\"object\",\"x\",\"'\\\"'\"],[\"function\",\"1\",\"def f():\\n    pass\"]]}\n"
unfolding requests_on_literals
inspect_3 = refl

stored_1 : answer_line (told_stored 9 [] []) ≡ codes "{\"answer\":\"stored\",\"commit\":9,\"dropped\":[],\"stored\":[]}\n"
unfolding requests_on_literals
stored_1 = refl

stored_2 : answer_line (told_stored 9 (((codes "a") ∷ (codes "b") ∷ []) ∷ ((codes "c") ∷ []) ∷ []) (((codes "a") ∷ []) ∷ [])) ≡ codes "{\"answer\":\"stored\",\"commit\":9,\"dropped\":[[\"a\",\"b\"],[\"c\"]],\"stored\":[[\"a\"]]}\n"
unfolding requests_on_literals
stored_2 = refl

plan_1 : answer_line (told_plan 0 [] [] []) ≡ codes "{\"answer\":\"plan\",\"commit\":0,\"drop\":[],\"keep\":[],\"load\":[]}\n"
unfolding requests_on_literals
plan_1 = refl

plan_2 : answer_line (told_plan 0 (((codes "a") ∷ []) ∷ []) (((codes "b") ∷ (codes "c") ∷ []) ∷ []) (((codes "d") ∷ []) ∷ ((codes "e") ∷ []) ∷ [])) ≡ codes "{\"answer\":\"plan\",\"commit\":0,\"drop\":[[\"a\"]],\"keep\":[[\"b\",\"c\"]],\"load\":[[\"d\"],[\"e\"]]}\n"
unfolding requests_on_literals
plan_2 = refl

refused_1 : answer_line (refused bad_request) ≡ codes "{\"answer\":\"refused\",\"number\":1,\"reason\":\"BadRequest\"}\n"
unfolding requests_on_literals
refused_1 = refl

refused_2 : answer_line (refused no_such_ref) ≡ codes "{\"answer\":\"refused\",\"number\":2,\"reason\":\"NoSuchRef\"}\n"
unfolding requests_on_literals
refused_2 = refl

refused_3 : answer_line (refused bad_name) ≡ codes "{\"answer\":\"refused\",\"number\":3,\"reason\":\"BadName\"}\n"
unfolding requests_on_literals
refused_3 = refl

refused_4 : answer_line (refused name_taken) ≡ codes "{\"answer\":\"refused\",\"number\":4,\"reason\":\"NameTaken\"}\n"
unfolding requests_on_literals
refused_4 = refl

refused_5 : answer_line (refused store_full) ≡ codes "{\"answer\":\"refused\",\"number\":5,\"reason\":\"StoreFull\"}\n"
unfolding requests_on_literals
refused_5 = refl

refused_6 : answer_line (refused cell_too_long) ≡ codes "{\"answer\":\"refused\",\"number\":6,\"reason\":\"CellTooLong\"}\n"
unfolding requests_on_literals
refused_6 = refl

refused_7 : answer_line (refused (state_too_large 268435457)) ≡ codes "{\"answer\":\"refused\",\"bytes\":268435457,\"number\":7,\"reason\":\"StateTooLarge\"}\n"
unfolding requests_on_literals
refused_7 = refl

refused_8 : answer_line (refused (state_too_large 301001535)) ≡ codes "{\"answer\":\"refused\",\"bytes\":301001535,\"number\":7,\"reason\":\"StateTooLarge\"}\n"
unfolding requests_on_literals
refused_8 = refl

refused_9 : answer_line (refused (state_too_large 18446744073709551615)) ≡ codes "{\"answer\":\"refused\",\"bytes\":18446744073709551615,\"number\":7,\"reason\":\"StateTooLarge\"}\n"
unfolding requests_on_literals
refused_9 = refl
