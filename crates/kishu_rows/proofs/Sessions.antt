-- Sessions: what checkouts, branches, logs and statuses answer, computed on the definitions.
use Rattle.std.proofs.Common.{◌≡◌, [], ◌∷◌, ◌++◌, map, codes, Some, None, refl}
use Rattle.std.specs.Fmt.{digits}
use Rattle.serde_json.proofs.OnLiterals.{serde_json_on_literals}
use Rattle.kishu_store.specs.Graph.{Graph, new_graph}
use Rattle.kishu_model.specs.Request.{cell, checkout, branch, log, status, unreadable}
use Rattle.kishu_model.specs.Serve.{after, answered, after_all, answer_of, answers}
use Rattle.kishu_rows.proofs.OnLiterals.{cells_on_literals}

-- Two names for a list, a change of it, and the way back before the change.
abbrev changed : Graph
changed = after_all new_graph (map answered (cell (codes "a = [1]; b = a") ∷ cell (codes "b.append(2)") ∷ []))

abbrev went_back : Graph
went_back = after changed (checkout (codes "1"))

back_answer : answer_of changed (checkout (codes "1")) ≡ codes "{\"answer\":\"checkout\",\"commit\":1,\"head\":null}\n"
unfolding cells_on_literals
back_answer = refl

there_answer : answer_of went_back (cell (codes "print(a, a is b)"))
    ≡ codes "{\"answer\":\"cell\",\"commit\":3,\"count\":2,\"outcome\":\"ok\",\"outputs\":[{\"name\":\"stdout\",\"output_type\":\"stream\",\"text\":\"[1] True\\n\"}]}\n"
unfolding cells_on_literals
there_answer = refl

log_answer : answer_of (after went_back (cell (codes "print(a, a is b)"))) log
    ≡ codes "{\"answer\":\"log\",\"branches\":[{\"commit\":2,\"name\":\"main\"}],\"path\":[{\"cells\":1,\"commit\":3,\"line\":\"print(a, a is b)\",\"parent\":1},{\"cells\":1,\"commit\":1,\"line\":\"a = [1]; b = a\",\"parent\":0}]}\n"
unfolding cells_on_literals
log_answer = refl

there_status : answer_of (after went_back (cell (codes "print(a, a is b)"))) status
    ≡ codes "{\"answer\":\"status\",\"branch\":null,\"commit\":3,\"commits\":4,\"names\":[\"a\",\"b\"],\"records\":4}\n"
unfolding cells_on_literals
there_status = refl

-- A log's line is the cell's first one, and a character isn't cut in two: 60 of them are told, whatever bytes they have.
long_line : answer_of (after new_graph (cell (codes "'0123456789012345678901234567890123456789012345678901234567" ++ 195 ∷ 169 ∷ codes "0'\r\nx"))) log
    ≡ codes "{\"answer\":\"log\",\"branches\":[{\"commit\":1,\"name\":\"main\"}],\"path\":[{\"cells\":1,\"commit\":1,\"line\":\"'0123456789012345678901234567890123456789012345678901234567" ++ 195 ∷ 169 ∷ codes "\",\"parent\":0}]}\n"
unfolding cells_on_literals
long_line = refl

-- A list that holds itself comes back as one.
abbrev holds_itself : Graph
holds_itself = after_all new_graph (map answered (cell (codes "a = []") ∷ cell (codes "a.append(a)") ∷ cell (codes "print(a)") ∷ checkout (codes "0") ∷ []))

main_answer : answer_of holds_itself (checkout (codes "main")) ≡ codes "{\"answer\":\"checkout\",\"commit\":3,\"head\":\"main\"}\n"
unfolding cells_on_literals
main_answer = refl

itself_answer : answer_of (after holds_itself (checkout (codes "main"))) (cell (codes "print(a, a[0] is a)"))
    ≡ codes "{\"answer\":\"cell\",\"commit\":4,\"count\":4,\"outcome\":\"ok\",\"outputs\":[{\"name\":\"stdout\",\"output_type\":\"stream\",\"text\":\"[[...]] True\\n\"}]}\n"
unfolding cells_on_literals
itself_answer = refl

-- A caught exception's name is bound no longer.
abbrev caught : Graph
caught = after new_graph (cell (codes "try:\n    {}['k']\nexcept KeyError as e:\n    print(e, repr(e))\nfinally:\n    print('end')"))

caught_answer : answer_of new_graph (cell (codes "try:\n    {}['k']\nexcept KeyError as e:\n    print(e, repr(e))\nfinally:\n    print('end')"))
    ≡ codes "{\"answer\":\"cell\",\"commit\":1,\"count\":1,\"outcome\":\"ok\",\"outputs\":[{\"name\":\"stdout\",\"output_type\":\"stream\",\"text\":\"'k' KeyError('k')\\nend\\n\"}]}\n"
unfolding cells_on_literals
caught_answer = refl

caught_status : answer_of caught status ≡ codes "{\"answer\":\"status\",\"branch\":\"main\",\"commit\":1,\"commits\":2,\"names\":[],\"records\":1}\n"
unfolding cells_on_literals
caught_status = refl

new_status : answer_of new_graph status ≡ codes "{\"answer\":\"status\",\"branch\":\"main\",\"commit\":0,\"commits\":1,\"names\":[],\"records\":0}\n"
unfolding cells_on_literals
new_status = refl

-- A checkout of the branch on which the head stands is a record, too.
stays : answers new_graph (map answered (cell (codes "x = 1") ∷ checkout (codes "main") ∷ status ∷ []))
    ≡ codes "{\"answer\":\"cell\",\"commit\":1,\"count\":1,\"outcome\":\"ok\",\"outputs\":[]}\n{\"answer\":\"checkout\",\"commit\":1,\"head\":\"main\"}\n{\"answer\":\"status\",\"branch\":\"main\",\"commit\":1,\"commits\":2,\"names\":[\"x\"],\"records\":2}\n"
unfolding cells_on_literals
stays = refl

-- A branch moves with the head that stands on it.
goes_along : answers new_graph (map answered (branch (codes "try") None ∷ checkout (codes "try") ∷ cell [] ∷ log ∷ []))
    ≡ codes "{\"answer\":\"branch\",\"commit\":0,\"name\":\"try\"}\n{\"answer\":\"checkout\",\"commit\":0,\"head\":\"try\"}\n{\"answer\":\"cell\",\"commit\":1,\"count\":1,\"outcome\":\"ok\",\"outputs\":[]}\n{\"answer\":\"log\",\"branches\":[{\"commit\":0,\"name\":\"main\"},{\"commit\":1,\"name\":\"try\"}],\"path\":[{\"cells\":1,\"commit\":1,\"line\":\"\",\"parent\":0}]}\n"
unfolding cells_on_literals
goes_along = refl

name_taken_answer : answer_of new_graph (branch (codes "main") None) ≡ codes "{\"answer\":\"refused\",\"number\":4,\"reason\":\"NameTaken\"}\n"
unfolding digits serde_json_on_literals
name_taken_answer = refl

bad_name_answer : answer_of new_graph (branch (codes "9") None) ≡ codes "{\"answer\":\"refused\",\"number\":3,\"reason\":\"BadName\"}\n"
unfolding digits serde_json_on_literals
bad_name_answer = refl

-- A bad name comes before a reference that names nothing, and so does one that is taken.
bad_before_nowhere : answer_of new_graph (branch [] (Some (codes "nowhere"))) ≡ codes "{\"answer\":\"refused\",\"number\":3,\"reason\":\"BadName\"}\n"
unfolding digits serde_json_on_literals
bad_before_nowhere = refl

taken_before_nowhere : answer_of new_graph (branch (codes "main") (Some (codes "nowhere"))) ≡ codes "{\"answer\":\"refused\",\"number\":4,\"reason\":\"NameTaken\"}\n"
unfolding digits serde_json_on_literals
taken_before_nowhere = refl

nowhere_answer : answer_of new_graph (branch (codes "try") (Some (codes "nowhere"))) ≡ codes "{\"answer\":\"refused\",\"number\":2,\"reason\":\"NoSuchRef\"}\n"
unfolding digits serde_json_on_literals
nowhere_answer = refl

no_such_commit : answer_of new_graph (checkout (codes "999")) ≡ codes "{\"answer\":\"refused\",\"number\":2,\"reason\":\"NoSuchRef\"}\n"
unfolding digits serde_json_on_literals
no_such_commit = refl

leading_zeros : answer_of new_graph (checkout (codes "007")) ≡ codes "{\"answer\":\"refused\",\"number\":2,\"reason\":\"NoSuchRef\"}\n"
unfolding digits serde_json_on_literals
leading_zeros = refl

-- A refused request changes nothing, and the next one is answered.
after_refusals : answers new_graph (map answered (branch (codes "main") None ∷ branch (codes "9") None ∷ checkout (codes "999") ∷ unreadable ∷ branch (codes "try") None ∷ []))
    ≡ codes "{\"answer\":\"refused\",\"number\":4,\"reason\":\"NameTaken\"}\n{\"answer\":\"refused\",\"number\":3,\"reason\":\"BadName\"}\n{\"answer\":\"refused\",\"number\":2,\"reason\":\"NoSuchRef\"}\n{\"answer\":\"refused\",\"number\":1,\"reason\":\"BadRequest\"}\n{\"answer\":\"branch\",\"commit\":0,\"name\":\"try\"}\n"
unfolding digits serde_json_on_literals
after_refusals = refl

-- A full store takes no record more, and what adds none is answered.
abbrev full : Graph
full = record new_graph { records = 1000000 }

full_checkout : answer_of full (checkout (codes "main")) ≡ codes "{\"answer\":\"refused\",\"number\":5,\"reason\":\"StoreFull\"}\n"
unfolding digits serde_json_on_literals
full_checkout = refl

full_branch : answer_of full (branch (codes "try") None) ≡ codes "{\"answer\":\"refused\",\"number\":5,\"reason\":\"StoreFull\"}\n"
unfolding digits serde_json_on_literals
full_branch = refl

full_nowhere : answer_of full (checkout (codes "1")) ≡ codes "{\"answer\":\"refused\",\"number\":2,\"reason\":\"NoSuchRef\"}\n"
unfolding digits serde_json_on_literals
full_nowhere = refl

full_status : answer_of full status ≡ codes "{\"answer\":\"status\",\"branch\":\"main\",\"commit\":0,\"commits\":1,\"names\":[],\"records\":1000000}\n"
unfolding cells_on_literals
full_status = refl
