-- The first cell of an empty store: its file and its answer, computed on the definitions.
use Rattle.std.proofs.Common.{◌≡◌, inl, inr, [], ◌∷◌, ◌++◌, length, codes, Some, None, refl, ap, arith, slice_index}
use Rattle.serde_json.proofs.OnLiterals.{serde_json_on_literals}
use Rattle.std.proofs.lemmas.Bool.{false≢true}
use Rattle.std.proofs.lemmas.Str.{IsUtf8-from_is_utf8, is_utf8-from_IsUtf8}
use Rattle.std.specs.Char.{encode_utf8}
use Rattle.std.specs.Fmt.{digits}
use Rattle.std.specs.List.Sorted.{IsStrictlySortedBy}
use Rattle.std.specs.Str.{chars, is_utf8}
use Rattle.kishu_language.specs.declared.profile.Profile.TheVariants.{One}
use Rattle.kishu_language.specs.tokens.Names.{reserved_words}
use Rattle.kishu_rows.proofs.OnLiterals.{cells_on_literals}
use Rattle.kishu_store.specs.Graph.{Graph, new_graph, with_commit}
use Rattle.kishu_model.specs.Answers.{answer_line}
use Rattle.kishu_model.specs.Request.{cell, unreadable}
use Rattle.kishu_model.specs.Serve.{answered}
use Rattle.kishu_model.specs.Step.{step}
use Rattle.kishu_model.specs.Task.{task, one_cell}
use Rattle.kishu_store.specs.Entries.{commit, plain}
use Rattle.kishu_store.specs.EntryBytes.{head_of, body_of}
use Rattle.kishu_store.specs.Histories.{new_history, Follows}
use Rattle.kishu_store.specs.Rules.{IsCell, IsRecord}
use Rattle.kishu_store.specs.Holds.{header, framed, front, Holds, IsForeign}

all_keywords : length reserved_words ≡ 35
unfolding reserved_words
all_keywords = refl

first_file : front (plain (commit 0 One (codes "print(1 + 2)" ∷ []) [] []) ∷ []) ++ 0 ∷ []
    ≡ codes "KISHU-JOURNAL-1\n" ++ 165 ∷ 0 ∷ 0 ∷ 0 ∷ 0 ∷ 0 ∷ 0 ∷ 0 ∷ 38 ∷ 0 ∷ 0 ∷ 0 ∷ 34 ∷ 1 ∷ 0 ∷ 0 ∷ 0 ∷ 0 ∷ 1 ∷ 0 ∷ 0 ∷ 0 ∷ 1 ∷ 0 ∷ 0 ∷ 0 ∷ 12
    ∷ codes "print(1 + 2)" ++ 0 ∷ 0 ∷ 0 ∷ 0 ∷ 0 ∷ 0 ∷ 0 ∷ 0 ∷ 0 ∷ []
unfolding header framed head_of body_of
first_file = refl

first_length : length (front (plain (commit 0 One (codes "print(1 + 2)" ∷ []) [] []) ∷ []) ++ 0 ∷ []) ≡ 64
unfolding header framed head_of body_of
first_length = refl

first_answer : answer_line (step new_graph (cell (codes "print(1 + 2)"))).answer
    ≡ codes "{\"answer\":\"cell\",\"commit\":1,\"count\":1,\"outcome\":\"ok\",\"outputs\":[{\"name\":\"stdout\",\"output_type\":\"stream\",\"text\":\"3\\n\"}]}\n"
unfolding cells_on_literals
first_answer = refl

shown_answer : answer_line (step new_graph (cell (codes "'a'"))).answer
    ≡ codes "{\"answer\":\"cell\",\"commit\":1,\"count\":1,\"outcome\":\"ok\",\"outputs\":[{\"data\":{\"text/plain\":\"'a'\"},\"execution_count\":1,\"metadata\":{},\"output_type\":\"execute_result\"}]}\n"
unfolding cells_on_literals
shown_answer = refl

error_answer : answer_line (step new_graph (cell (codes "print(z)"))).answer
    ≡ codes "{\"answer\":\"cell\",\"commit\":1,\"count\":1,\"outcome\":\"error\",\"outputs\":[{\"ename\":\"NameError\",\"evalue\":\"name 'z' is not defined\",\"output_type\":\"error\",\"traceback\":[\"NameError: name 'z' is not defined\"]}]}\n"
unfolding cells_on_literals
error_answer = refl

fault_answer : answer_line (step new_graph (cell (codes "x = 1\nif x:\n    y = "))).answer
    ≡ codes "{\"answer\":\"cell\",\"commit\":1,\"count\":1,\"outcome\":\"error\",\"outputs\":[{\"ename\":\"SyntaxError\",\"evalue\":\"invalid syntax, line 2\",\"output_type\":\"error\",\"traceback\":[\"SyntaxError: invalid syntax, line 2\"]}]}\n"
unfolding cells_on_literals
fault_answer = refl

-- Names are kept from cell to cell, also by one that raised, and the cells on a path are counted.
second_answer : answer_line (step (step new_graph (cell (codes "n = 1; m = 1 // 0; n = 2"))).graph (cell (codes "n"))).answer
    ≡ codes "{\"answer\":\"cell\",\"commit\":2,\"count\":2,\"outcome\":\"ok\",\"outputs\":[{\"data\":{\"text/plain\":\"1\"},\"execution_count\":2,\"metadata\":{},\"output_type\":\"execute_result\"}]}\n"
unfolding cells_on_literals
second_answer = refl

-- So are nodes, with what they share.
shared_answer : answer_line (step (step new_graph (cell (codes "a = [1]; b = a"))).graph (cell (codes "b.append(2); a"))).answer
    ≡ codes "{\"answer\":\"cell\",\"commit\":2,\"count\":2,\"outcome\":\"ok\",\"outputs\":[{\"data\":{\"text/plain\":\"[1, 2]\"},\"execution_count\":2,\"metadata\":{},\"output_type\":\"execute_result\"}]}\n"
unfolding cells_on_literals
shared_answer = refl

full_answer : answer_line (step (let g : Graph = record { commits = []; branches = []; head = record { commit = 0; branch = None }; records = 1000000 } in g) (cell (codes "x = 1"))).answer
    ≡ codes "{\"answer\":\"refused\",\"number\":5,\"reason\":\"StoreFull\"}\n"
unfolding digits serde_json_on_literals
full_answer = refl

unreadable_answer : answer_line (step new_graph unreadable).answer ≡ codes "{\"answer\":\"refused\",\"number\":1,\"reason\":\"BadRequest\"}\n"
unfolding digits serde_json_on_literals
unreadable_answer = refl

text_asked : task (Some one_cell) new_graph (206 ∷ 187 ∷ []) ≡ answered (cell (206 ∷ 187 ∷ [])) ∷ []
unfolding is_utf8 chars encode_utf8
text_asked = refl

-- the byte ff alone
no_text_asked : task (Some one_cell) new_graph (255 ∷ []) ≡ answered unreadable ∷ []
unfolding is_utf8 chars encode_utf8
no_text_asked = refl

seventeen_bytes : Holds (codes "xxxxxxxxxxxxxxxxx") new_graph
seventeen_bytes = inl (omega arith, refl)

eighteen_bytes : IsForeign (codes "xxxxxxxxxxxxxxxxxx")
unfolding header
eighteen_bytes = (omega arith, λ rest e. let d : 120 ≡ 75 = ap (λ l. slice_index l 0) e in absurd (omega arith))

-- Any text within the limit is a cell, also one without a tree.
first_cell : IsCell (codes "print(1 + 2)")
unfolding is_utf8 chars encode_utf8
first_cell = record { short = omega arith; utf8 = IsUtf8-from_is_utf8 (codes "print(1 + 2)") refl }

empty_cell : IsCell []
unfolding is_utf8 chars encode_utf8
empty_cell = record { short = omega arith; utf8 = IsUtf8-from_is_utf8 [] refl }

faulty_cell : IsCell (codes "a = = 1\ndef f")
unfolding is_utf8 chars encode_utf8
faulty_cell = record { short = omega arith; utf8 = IsUtf8-from_is_utf8 (codes "a = = 1\ndef f") refl }

no_cell : IsCell (255 ∷ []) → ⊥
unfolding is_utf8 chars encode_utf8
no_cell c = false≢true (is_utf8-from_IsUtf8 (255 ∷ []) c.utf8)

first_fits : Follows new_history (commit 0 One (codes "print(1 + 2)" ∷ []) [] [])
first_fits = record { graph = record { room = omega arith; goes_on = refl }; table = (record { dropped = refl; apart = refl; small = omega arith }, tt) }

first_record : IsRecord (plain (commit 0 One (codes "print(1 + 2)" ∷ []) [] []))
unfolding head_of body_of IsStrictlySortedBy
first_record = record {
  rules = record { parent = omega arith; profile = refl; some = omega arith; cells = (first_cell, tt); dropped = record { each = tt; rise = tt }; stored = record { each = tt; rise = tt } };
  pictures = refl;
  small = omega arith;
}

first_graph : (step new_graph (cell (codes "print(1 + 2)"))).graph ≡ with_commit One (codes "print(1 + 2)" ∷ []) new_graph
unfolding cells_on_literals
first_graph = refl

first_holds : Holds (front (plain (commit 0 One (codes "print(1 + 2)" ∷ []) [] []) ∷ []) ++ 0 ∷ []) (step new_graph (cell (codes "print(1 + 2)"))).graph
unfolding header framed head_of body_of
first_holds = inr (omega arith, plain (commit 0 One (codes "print(1 + 2)" ∷ []) [] []) ∷ [], record { gate = 0; rest = []; split = refl; closed = λ e. absurd (omega arith); fit = (first_record, first_fits, tt) }, first_graph)
