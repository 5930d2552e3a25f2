-- Runs of notebooks, and requests of several cells, computed on the definitions.
use Rattle.std.proofs.Common.{◌≡◌, ℕ, List, [], ◌∷◌, ◌++◌, map, codes, Some, refl}
use Rattle.std.specs.Prelude.{⊤, true, false}
use Rattle.json.specs.Layout.{pretty_from}
use Rattle.kishu_language.specs.declared.profile.Profile.TheVariants.{One}
use Rattle.kishu_store.specs.Graph.{Graph, Commit, new_graph}
use Rattle.kishu_model.specs.Request.{Request, cell, cells, checkout}
use Rattle.kishu_model.specs.Serve.{after, answered, after_all, answer_of, answers}
use Rattle.kishu_model.specs.Task.{task, notebook}
use Rattle.kishu_model.specs.notebooks.Cells.{is_code, has_kind, is_id, has_source, source_of, has_outputs, has_count, is_cell}
use Rattle.kishu_model.specs.notebooks.Notebook.{has_format, missing_key, other_minor, unwhole, fault_from, fault_in, verdict, opening, sources_of}
use Rattle.kishu_model.specs.notebooks.Setting.{with_run_at}
use Rattle.kishu_rows.proofs.OnLiterals.{lines_on_literals}

-- what a row unfolds
unfoldable pub notebooks_on_literals : ⊤
unfolding lines_on_literals is_code has_kind is_id has_source source_of has_outputs has_count is_cell has_format missing_key other_minor unwhole fault_from fault_in verdict opening sources_of with_run_at pretty_from
notebooks_on_literals = tt

-- ---- several cells in one request

abbrev three : Request
three = cells (codes "a = 1" ∷ codes "a // 0" ∷ codes "a = 2" ∷ [])

three_answer : answer_of new_graph three
    ≡ codes "{\"answer\":\"cells\",\"commit\":1,\"results\":[{\"count\":1,\"outcome\":\"ok\",\"outputs\":[]},{\"count\":2,\"outcome\":\"error\",\"outputs\":[{\"ename\":\"ZeroDivisionError\",\"evalue\":\"division by zero\",\"output_type\":\"error\",\"traceback\":[\"ZeroDivisionError: division by zero\"]}]}]}\n"
unfolding lines_on_literals
three_answer = refl

-- The commit holds the two that were run, and counts go on behind them.
abbrev two_held : List Commit
two_held = record { parent = 0; profile = One; cells = codes "a = 1" ∷ codes "a // 0" ∷ [] } ∷ []

three_commits : (after new_graph three).commits ≡ two_held
unfolding lines_on_literals
three_commits = refl

next_answer : answer_of (after new_graph three) (cells (codes "a" ∷ codes "'b'" ∷ []))
    ≡ codes "{\"answer\":\"cells\",\"commit\":2,\"results\":[{\"count\":3,\"outcome\":\"ok\",\"outputs\":[{\"data\":{\"text/plain\":\"1\"},\"execution_count\":3,\"metadata\":{},\"output_type\":\"execute_result\"}]},{\"count\":4,\"outcome\":\"ok\",\"outputs\":[{\"data\":{\"text/plain\":\"'b'\"},\"execution_count\":4,\"metadata\":{},\"output_type\":\"execute_result\"}]}]}\n"
unfolding lines_on_literals
next_answer = refl

-- A text without a tree is a cell like others: it is committed, and no further one is run.
abbrev faulty : Request
faulty = cells (codes "a = 1" ∷ codes "b =" ∷ codes "a" ∷ [])

faulty_answer : answer_of new_graph faulty
    ≡ codes "{\"answer\":\"cells\",\"commit\":1,\"results\":[{\"count\":1,\"outcome\":\"ok\",\"outputs\":[]},{\"count\":2,\"outcome\":\"error\",\"outputs\":[{\"ename\":\"SyntaxError\",\"evalue\":\"invalid syntax, line 1\",\"output_type\":\"error\",\"traceback\":[\"SyntaxError: invalid syntax, line 1\"]}]}]}\n"
unfolding lines_on_literals
faulty_answer = refl

abbrev faulty_held : List Commit
faulty_held = record { parent = 0; profile = One; cells = codes "a = 1" ∷ codes "b =" ∷ [] } ∷ []

faulty_commits : (after new_graph faulty).commits ≡ faulty_held
unfolding lines_on_literals
faulty_commits = refl

full_answer : answer_of (let g : Graph = record { commits = []; branches = []; head = record { commit = 0; branch = Some (codes "main") }; records = 1000000 } in g) three
    ≡ codes "{\"answer\":\"refused\",\"number\":5,\"reason\":\"StoreFull\"}\n"
unfolding lines_on_literals
full_answer = refl

none_answer : answer_of new_graph (cells []) ≡ codes "{\"answer\":\"refused\",\"number\":1,\"reason\":\"BadRequest\"}\n"
unfolding lines_on_literals
none_answer = refl

-- ---- notebooks

-- what is written for a notebook that is run on a new store, and the commits that this leaves
abbrev ran : List ℕ → List ℕ
ran input = answers new_graph (task (Some (notebook false)) new_graph input)

abbrev ran_together : List ℕ → List ℕ
ran_together input = answers new_graph (task (Some (notebook true)) new_graph input)

abbrev commits : List ℕ → List Commit
commits input = (after_all new_graph (task (Some (notebook false)) new_graph input)).commits

abbrev commits_together : List ℕ → List Commit
commits_together input = (after_all new_graph (task (Some (notebook true)) new_graph input)).commits

abbrev empty : List ℕ
empty = codes "{\"cells\":[],\"metadata\":{},\"nbformat\":4,\"nbformat_minor\":5}"

abbrev empty_written : List ℕ
empty_written = codes "{\n  \"cells\": [],\n  \"metadata\": {},\n  \"nbformat\": 4,\n  \"nbformat_minor\": 5\n}\n"

empty_ran : ran empty ≡ empty_written
unfolding notebooks_on_literals
empty_ran = refl

empty_together : ran_together empty ≡ empty_written
unfolding notebooks_on_literals
empty_together = refl

empty_commits : commits_together empty ≡ []
unfolding notebooks_on_literals
empty_commits = refl

-- bytes that are no notebook
refused_ran : task (Some (notebook false)) new_graph (codes "{\"cells\":[],\"metadata\":{\"a\":1.5},\"nbformat\":4,\"nbformat_minor\":5}") ≡ []
unfolding notebooks_on_literals
refused_ran = refl

-- A notebook as Jupyter writes it: a markdown cell, and code cells whose sources are `x = [1]` and `x` on two lines, `x[5]`, and nothing; the last has a picture among its outputs.
abbrev jupyter : List ℕ
jupyter =
    codes "{\n \"cells\": [\n  {\n   \"cell_type\": \"markdown\",\n   \"id\": \"aa11\",\n   \"metadata\": {},\n"
    ++ codes "   \"source\": [\n    \"# A title\\n\",\n    \"x = 7\"\n   ]\n  },\n  {\n"
    ++ codes "   \"cell_type\": \"code\",\n   \"execution_count\": null,\n   \"id\": \"bb22\",\n"
    ++ codes "   \"metadata\": {},\n   \"outputs\": [],\n   \"source\": [\n    \"x = [1]\\n\",\n    \"x\"\n   ]\n"
    ++ codes "  },\n  {\n   \"cell_type\": \"code\",\n   \"execution_count\": null,\n   \"id\": \"cc33\",\n"
    ++ codes "   \"metadata\": {},\n   \"outputs\": [],\n"
    ++ codes "   \"source\": \"x[5]\"\n  },\n  {\n   \"cell_type\": \"code\",\n   \"execution_count\": 4,\n"
    ++ codes "   \"id\": \"dd44\",\n   \"metadata\": {},\n   \"outputs\": [\n    {\n     \"data\": {\n"
    ++ codes "      \"image/png\": \"iVBORw0KGgo=\"\n     },\n     \"metadata\": {},\n"
    ++ codes "     \"output_type\": \"display_data\"\n    }\n   ],\n   \"source\": []\n  }\n ],\n"
    ++ codes " \"metadata\": {\n  \"kernelspec\": {\n   \"display_name\": \"Python 3\",\n"
    ++ codes "   \"language\": \"python\",\n   \"name\": \"python3\"\n  }\n },\n \"nbformat\": 4,\n"
    ++ codes " \"nbformat_minor\": 5\n}\n"

-- The third code cell isn't run, since the second one raises.
jupyter_ran : ran jupyter
    ≡ codes "{\n  \"cells\": [\n    {\n      \"cell_type\": \"markdown\",\n      \"id\": \"aa11\",\n"
    ++ codes "      \"metadata\": {},\n      \"source\": [\n        \"# A title\\n\",\n        \"x = 7\"\n"
    ++ codes "      ]\n    },\n    {\n      \"cell_type\": \"code\",\n      \"execution_count\": 1,\n"
    ++ codes "      \"id\": \"bb22\",\n      \"metadata\": {},\n      \"outputs\": [\n        {\n"
    ++ codes "          \"data\": {\n            \"text/plain\": \"[1]\"\n          },\n"
    ++ codes "          \"execution_count\": 1,\n          \"metadata\": {},\n"
    ++ codes "          \"output_type\": \"execute_result\"\n        }\n      ],\n      \"source\": [\n"
    ++ codes "        \"x = [1]\\n\",\n        \"x\"\n      ]\n    },\n    {\n      \"cell_type\": \"code\",\n"
    ++ codes "      \"execution_count\": 2,\n      \"id\": \"cc33\",\n      \"metadata\": {},\n"
    ++ codes "      \"outputs\": [\n        {\n          \"ename\": \"IndexError\",\n"
    ++ codes "          \"evalue\": \"index out of range\",\n          \"output_type\": \"error\",\n"
    ++ codes "          \"traceback\": [\n            \"IndexError: index out of range\"\n          ]\n        }\n"
    ++ codes "      ],\n      \"source\": \"x[5]\"\n    },\n    {\n      \"cell_type\": \"code\",\n"
    ++ codes "      \"execution_count\": 4,\n      \"id\": \"dd44\",\n      \"metadata\": {},\n"
    ++ codes "      \"outputs\": [\n        {\n          \"data\": {\n"
    ++ codes "            \"image/png\": \"iVBORw0KGgo=\"\n          },\n          \"metadata\": {},\n"
    ++ codes "          \"output_type\": \"display_data\"\n        }\n      ],\n      \"source\": []\n    }\n"
    ++ codes "  ],\n  \"metadata\": {\n    \"kernelspec\": {\n      \"display_name\": \"Python 3\",\n"
    ++ codes "      \"language\": \"python\",\n      \"name\": \"python3\"\n    }\n  },\n  \"nbformat\": 4,\n"
    ++ codes "  \"nbformat_minor\": 5\n}\n"
unfolding notebooks_on_literals
jupyter_ran = refl

abbrev jupyter_held : List Commit
jupyter_held = record { parent = 1; profile = One; cells = codes "x[5]" ∷ [] } ∷ record { parent = 0; profile = One; cells = codes "x = [1]\nx" ∷ [] } ∷ []

jupyter_commits : commits jupyter ≡ jupyter_held
unfolding notebooks_on_literals
jupyter_commits = refl

-- ---- all code cells in one commit

-- the text of a code cell that has not been run
abbrev code_cell : (id source : List ℕ) → List ℕ
code_cell id source = codes "{\"cell_type\":\"code\",\"execution_count\":null,\"id\":\"" ++ (id ++ (codes "\",\"metadata\":{},\"outputs\":[],\"source\":\"" ++ (source ++ codes "\"}")))

-- the text of a notebook with these cells
abbrev in_notebook : List ℕ → List ℕ
in_notebook inside = codes "{\"cells\":[" ++ (inside ++ codes "],\"metadata\":{},\"nbformat\":4,\"nbformat_minor\":5}")

abbrev three_cells : List ℕ
three_cells = in_notebook (code_cell (codes "a") (codes "a = 1") ++ (codes "," ++ (code_cell (codes "b") (codes "a // 0") ++ (codes "," ++ code_cell (codes "c") (codes "a = 2")))))

three_commits_together : commits_together three_cells ≡ two_held
unfolding notebooks_on_literals
three_commits_together = refl

-- The counts 1 and 2 are set, and the third cell stays.
three_together : ran_together three_cells
    ≡ codes "{\n  \"cells\": [\n    {\n      \"cell_type\": \"code\",\n      \"execution_count\": 1,\n      \"id\": \"a\",\n"
    ++ codes "      \"metadata\": {},\n      \"outputs\": [],\n      \"source\": \"a = 1\"\n    },\n"
    ++ codes "    {\n      \"cell_type\": \"code\",\n      \"execution_count\": 2,\n      \"id\": \"b\",\n      \"metadata\": {},\n"
    ++ codes "      \"outputs\": [\n        {\n          \"ename\": \"ZeroDivisionError\",\n          \"evalue\": \"division by zero\",\n"
    ++ codes "          \"output_type\": \"error\",\n          \"traceback\": [\n            \"ZeroDivisionError: division by zero\"\n"
    ++ codes "          ]\n        }\n      ],\n      \"source\": \"a // 0\"\n    },\n"
    ++ codes "    {\n      \"cell_type\": \"code\",\n      \"execution_count\": null,\n      \"id\": \"c\",\n"
    ++ codes "      \"metadata\": {},\n      \"outputs\": [],\n      \"source\": \"a = 2\"\n    }\n  ],\n"
    ++ codes "  \"metadata\": {},\n  \"nbformat\": 4,\n  \"nbformat_minor\": 5\n}\n"
unfolding notebooks_on_literals
three_together = refl

-- In a store that is full, the first code cell shows the refusal, one by one and together.
abbrev full : Graph
full = record { commits = []; branches = []; head = record { commit = 0; branch = Some (codes "main") }; records = 1000000 }

abbrev two_cells : List ℕ
two_cells = in_notebook (code_cell (codes "a") (codes "1") ++ (codes "," ++ code_cell (codes "b") (codes "2")))

abbrev two_refused : List ℕ
two_refused =
    codes "{\n  \"cells\": [\n    {\n      \"cell_type\": \"code\",\n      \"execution_count\": null,\n      \"id\": \"a\",\n"
    ++ codes "      \"metadata\": {},\n      \"outputs\": [\n        {\n          \"ename\": \"StoreFull\",\n          \"evalue\": \"\",\n"
    ++ codes "          \"output_type\": \"error\",\n          \"traceback\": [\n            \"StoreFull: \"\n"
    ++ codes "          ]\n        }\n      ],\n      \"source\": \"1\"\n    },\n"
    ++ codes "    {\n      \"cell_type\": \"code\",\n      \"execution_count\": null,\n      \"id\": \"b\",\n"
    ++ codes "      \"metadata\": {},\n      \"outputs\": [],\n      \"source\": \"2\"\n    }\n  ],\n"
    ++ codes "  \"metadata\": {},\n  \"nbformat\": 4,\n  \"nbformat_minor\": 5\n}\n"

full_ran : answers full (task (Some (notebook false)) full two_cells) ≡ two_refused
unfolding notebooks_on_literals
full_ran = refl

full_together : answers full (task (Some (notebook true)) full two_cells) ≡ two_refused
unfolding notebooks_on_literals
full_together = refl

-- Where the store has room for one record, the first cell is run, the second one shows the refusal, and the third one stays.
abbrev nearly_full : Graph
nearly_full = record { commits = []; branches = (codes "main", 0) ∷ []; head = record { commit = 0; branch = Some (codes "main") }; records = 999999 }

nearly_full_ran : answers nearly_full (task (Some (notebook false)) nearly_full (in_notebook (code_cell (codes "a") (codes "1") ++ (codes "," ++ (code_cell (codes "b") (codes "2") ++ (codes "," ++ code_cell (codes "c") (codes "3")))))))
    ≡ codes "{\n  \"cells\": [\n    {\n      \"cell_type\": \"code\",\n      \"execution_count\": 1,\n      \"id\": \"a\",\n"
    ++ codes "      \"metadata\": {},\n      \"outputs\": [\n        {\n          \"data\": {\n            \"text/plain\": \"1\"\n          },\n"
    ++ codes "          \"execution_count\": 1,\n          \"metadata\": {},\n          \"output_type\": \"execute_result\"\n        }\n      ],\n"
    ++ codes "      \"source\": \"1\"\n    },\n"
    ++ codes "    {\n      \"cell_type\": \"code\",\n      \"execution_count\": null,\n      \"id\": \"b\",\n"
    ++ codes "      \"metadata\": {},\n      \"outputs\": [\n        {\n          \"ename\": \"StoreFull\",\n          \"evalue\": \"\",\n"
    ++ codes "          \"output_type\": \"error\",\n          \"traceback\": [\n            \"StoreFull: \"\n"
    ++ codes "          ]\n        }\n      ],\n      \"source\": \"2\"\n    },\n"
    ++ codes "    {\n      \"cell_type\": \"code\",\n      \"execution_count\": null,\n      \"id\": \"c\",\n"
    ++ codes "      \"metadata\": {},\n      \"outputs\": [],\n      \"source\": \"3\"\n    }\n  ],\n"
    ++ codes "  \"metadata\": {},\n  \"nbformat\": 4,\n  \"nbformat_minor\": 5\n}\n"
unfolding notebooks_on_literals
nearly_full_ran = refl

-- ---- counts

-- From a commit of two cells a count goes on, whatever was committed elsewhere: `a` is the third cell on its path.
abbrev back_there : Graph
back_there = after_all new_graph (map answered (three ∷ cell (codes "a = 5") ∷ checkout (codes "1") ∷ []))

third_ran : answers back_there (task (Some (notebook false)) back_there (in_notebook (code_cell (codes "a") (codes "a"))))
    ≡ codes "{\n  \"cells\": [\n    {\n      \"cell_type\": \"code\",\n      \"execution_count\": 3,\n      \"id\": \"a\",\n"
    ++ codes "      \"metadata\": {},\n      \"outputs\": [\n        {\n          \"data\": {\n            \"text/plain\": \"1\"\n          },\n"
    ++ codes "          \"execution_count\": 3,\n          \"metadata\": {},\n          \"output_type\": \"execute_result\"\n        }\n      ],\n"
    ++ codes "      \"source\": \"a\"\n    }\n  ],\n"
    ++ codes "  \"metadata\": {},\n  \"nbformat\": 4,\n  \"nbformat_minor\": 5\n}\n"
unfolding notebooks_on_literals
third_ran = refl

-- ---- no code

abbrev written_alone : List ℕ
written_alone = in_notebook (codes "{\"cell_type\":\"markdown\",\"id\":\"a\",\"metadata\":{},\"source\":\"x = 1\"}")

abbrev alone_written : List ℕ
alone_written =
    codes "{\n  \"cells\": [\n    {\n      \"cell_type\": \"markdown\",\n      \"id\": \"a\",\n      \"metadata\": {},\n      \"source\": \"x = 1\"\n    }\n  ],\n"
    ++ codes "  \"metadata\": {},\n  \"nbformat\": 4,\n  \"nbformat_minor\": 5\n}\n"

alone_ran : ran written_alone ≡ alone_written
unfolding notebooks_on_literals
alone_ran = refl

alone_together : ran_together written_alone ≡ alone_written
unfolding notebooks_on_literals
alone_together = refl

alone_commits : commits_together written_alone ≡ []
unfolding notebooks_on_literals
alone_commits = refl
