-- Worked lines of answers, computed on the definitions.
use Rattle.std.proofs.Common.{◌≡◌, [], ◌∷◌, ◌++◌, map, codes, Some, None, refl}
use Rattle.std.specs.Fmt.{digits}
use Rattle.serde_json.proofs.OnLiterals.{serde_json_on_literals}
use Rattle.kishu_meaning.specs.declared.result.Outcome.TheVariants.{Done, Raised, Stopped}
use Rattle.kishu_meaning.specs.values.Values.{stream, shown, fault}
use Rattle.kishu_store.specs.Graph.{new_graph}
use Rattle.kishu_model.specs.Answers.{answer_line, ran_cell, ran_cells, checked_out, branched, logged, told_status, inspected, refused, store_full, no_such_ref, bad_name, name_taken, cell_too_long, state_too_large}
use Rattle.kishu_model.specs.Request.{unreadable}
use Rattle.kishu_model.specs.Serve.{answered, answers}

answer-stopped : answer_line (ran_cell 1 1 (record { outcome = Stopped; outputs = [] })) ≡ codes "{\"answer\":\"cell\",\"commit\":1,\"count\":1,\"outcome\":\"stopped\",\"outputs\":[]}\n"
unfolding digits serde_json_on_literals
answer-stopped = refl

answer-stopped-stream : answer_line (ran_cell 2 3 (record { outcome = Stopped; outputs = stream (codes "1\n") ∷ [] }))
    ≡ codes "{\"answer\":\"cell\",\"commit\":2,\"count\":3,\"outcome\":\"stopped\",\"outputs\":[{\"name\":\"stdout\",\"output_type\":\"stream\",\"text\":\"1\\n\"}]}\n"
unfolding digits serde_json_on_literals
answer-stopped-stream = refl

-- a stream and an exception, and numbers of several digits
answer-raised : answer_line (ran_cell 1000000 1048576 (record { outcome = Raised; outputs = stream (codes "a") ∷ fault (codes "ValueError") [] ∷ [] }))
    ≡ codes "{\"answer\":\"cell\",\"commit\":1000000,\"count\":1048576,\"outcome\":\"error\",\"outputs\":[{\"name\":\"stdout\",\"output_type\":\"stream\",\"text\":\"a\"},{\"ename\":\"ValueError\",\"evalue\":\"\",\"output_type\":\"error\",\"traceback\":[\"ValueError: \"]}]}\n"
unfolding digits serde_json_on_literals
answer-raised = refl

answer-shown : answer_line (ran_cell 10 12 (record { outcome = Done; outputs = shown (codes "7") ∷ [] }))
    ≡ codes "{\"answer\":\"cell\",\"commit\":10,\"count\":12,\"outcome\":\"ok\",\"outputs\":[{\"data\":{\"text/plain\":\"7\"},\"execution_count\":12,\"metadata\":{},\"output_type\":\"execute_result\"}]}\n"
unfolding digits serde_json_on_literals
answer-shown = refl

-- control characters, a quote, a backslash, a slash, DEL and e acute
answer-escapes : answer_line (ran_cell 1 1 (record { outcome = Done; outputs = stream (0 ∷ 8 ∷ 9 ∷ 10 ∷ 11 ∷ 12 ∷ 13 ∷ 27 ∷ 34 ∷ 92 ∷ 47 ∷ 127 ∷ 195 ∷ 169 ∷ []) ∷ [] }))
    ≡ codes "{\"answer\":\"cell\",\"commit\":1,\"count\":1,\"outcome\":\"ok\",\"outputs\":[{\"name\":\"stdout\",\"output_type\":\"stream\",\"text\":\"\\u0000\\b\\t\\n\\u000b\\f\\r\\u001b\\\"\\\\/" ++ 127 ∷ 195 ∷ 169 ∷ codes "\"}]}\n"
unfolding digits serde_json_on_literals
answer-escapes = refl

answer-cells : answer_line (ran_cells 1 (record { count = 1; report = record { outcome = Done; outputs = [] } } ∷ record { count = 2; report = record { outcome = Stopped; outputs = shown (codes "7") ∷ [] } } ∷ []))
    ≡ codes "{\"answer\":\"cells\",\"commit\":1,\"results\":[{\"count\":1,\"outcome\":\"ok\",\"outputs\":[]},{\"count\":2,\"outcome\":\"stopped\",\"outputs\":[{\"data\":{\"text/plain\":\"7\"},\"execution_count\":2,\"metadata\":{},\"output_type\":\"execute_result\"}]}]}\n"
unfolding digits serde_json_on_literals
answer-cells = refl

answer-refused : answer_line (refused store_full) ≡ codes "{\"answer\":\"refused\",\"number\":5,\"reason\":\"StoreFull\"}\n"
unfolding digits serde_json_on_literals
answer-refused = refl

-- two refused requests
refused-lines : answers new_graph (map answered (unreadable ∷ unreadable ∷ [])) ≡ codes "{\"answer\":\"refused\",\"number\":1,\"reason\":\"BadRequest\"}\n{\"answer\":\"refused\",\"number\":1,\"reason\":\"BadRequest\"}\n"
unfolding digits serde_json_on_literals
refused-lines = refl

answer-checkout : answer_line (checked_out 1 None) ≡ codes "{\"answer\":\"checkout\",\"commit\":1,\"head\":null}\n"
unfolding digits serde_json_on_literals
answer-checkout = refl

answer-checkout-branch : answer_line (checked_out 12 (Some (codes "main"))) ≡ codes "{\"answer\":\"checkout\",\"commit\":12,\"head\":\"main\"}\n"
unfolding digits serde_json_on_literals
answer-checkout-branch = refl

answer-branch : answer_line (branched 0 (codes "try")) ≡ codes "{\"answer\":\"branch\",\"commit\":0,\"name\":\"try\"}\n"
unfolding digits serde_json_on_literals
answer-branch = refl

answer-log : answer_line (logged ((codes "main", 2) ∷ []) (record { cells = 1; commit = 3; line = codes "print(a, a is b)"; parent = 1 } ∷ record { cells = 1; commit = 1; line = codes "a = [1]; b = a"; parent = 0 } ∷ []))
    ≡ codes "{\"answer\":\"log\",\"branches\":[{\"commit\":2,\"name\":\"main\"}],\"path\":[{\"cells\":1,\"commit\":3,\"line\":\"print(a, a is b)\",\"parent\":1},{\"cells\":1,\"commit\":1,\"line\":\"a = [1]; b = a\",\"parent\":0}]}\n"
unfolding digits serde_json_on_literals
answer-log = refl

answer-status : answer_line (told_status (record { branch = Some (codes "main"); commit = 0; commits = 1; names = []; records = 0 }))
    ≡ codes "{\"answer\":\"status\",\"branch\":\"main\",\"commit\":0,\"commits\":1,\"names\":[],\"records\":0}\n"
unfolding digits serde_json_on_literals
answer-status = refl

answer-status-names : answer_line (told_status (record { branch = None; commit = 3; commits = 5; names = codes "a" ∷ codes "b" ∷ []; records = 7 }))
    ≡ codes "{\"answer\":\"status\",\"branch\":null,\"commit\":3,\"commits\":5,\"names\":[\"a\",\"b\"],\"records\":7}\n"
unfolding digits serde_json_on_literals
answer-status-names = refl

answer-inspect : answer_line (inspected 1 ((codes "a", codes "#0") ∷ (codes "b", codes "#0") ∷ []) ((codes "list" ∷ codes "1" ∷ []) ∷ []))
    ≡ codes "{\"answer\":\"inspect\",\"commit\":1,\"names\":{\"a\":\"#0\",\"b\":\"#0\"},\"nodes\":[[\"list\",\"1\"]]}\n"
unfolding digits serde_json_on_literals
answer-inspect = refl

-- nothing is bound
answer-inspect-root : answer_line (inspected 0 [] []) ≡ codes "{\"answer\":\"inspect\",\"commit\":0,\"names\":{},\"nodes\":[]}\n"
unfolding digits serde_json_on_literals
answer-inspect-root = refl

-- Names that don't stand in order are put in order, and of one that is told twice the last text stays.
answer-inspect-order : answer_line (inspected 1 ((codes "b", codes "2") ∷ (codes "a", codes "'x'") ∷ (codes "b", codes "3") ∷ []) [])
    ≡ codes "{\"answer\":\"inspect\",\"commit\":1,\"names\":{\"a\":\"'x'\",\"b\":\"3\"},\"nodes\":[]}\n"
unfolding digits serde_json_on_literals
answer-inspect-order = refl

refused-no-such-ref : answer_line (refused no_such_ref) ≡ codes "{\"answer\":\"refused\",\"number\":2,\"reason\":\"NoSuchRef\"}\n"
unfolding digits serde_json_on_literals
refused-no-such-ref = refl

refused-bad-name : answer_line (refused bad_name) ≡ codes "{\"answer\":\"refused\",\"number\":3,\"reason\":\"BadName\"}\n"
unfolding digits serde_json_on_literals
refused-bad-name = refl

refused-name-taken : answer_line (refused name_taken) ≡ codes "{\"answer\":\"refused\",\"number\":4,\"reason\":\"NameTaken\"}\n"
unfolding digits serde_json_on_literals
refused-name-taken = refl

refused-cell-too-long : answer_line (refused cell_too_long) ≡ codes "{\"answer\":\"refused\",\"number\":6,\"reason\":\"CellTooLong\"}\n"
unfolding digits serde_json_on_literals
refused-cell-too-long = refl

refused-state-too-large : answer_line (refused (state_too_large 301001535)) ≡ codes "{\"answer\":\"refused\",\"bytes\":301001535,\"number\":7,\"reason\":\"StateTooLarge\"}\n"
unfolding digits serde_json_on_literals
refused-state-too-large = refl
