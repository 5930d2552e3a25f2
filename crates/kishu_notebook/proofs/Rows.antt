-- Notebooks that are read, changed and written, computed on the definitions.
use Rattle.std.proofs.Common.{◌≡◌, ℕ, [], ◌∷◌, List, ◌++◌, codes, refl}
use Rattle.std.specs.Prelude.{Result, Ok, Err}
use Rattle.json.specs.Layout.{pretty_from}
use Rattle.serde_json.specs.Data.{Data}
use Rattle.kishu_meaning.specs.declared.result.Outcome.TheVariants.{Done, Raised}
use Rattle.kishu_meaning.specs.values.Values.{shown, fault, Report}
use Rattle.kishu_model.specs.notebooks.Notebook.{Fault, opening, sources_of, reason, not_json, not_notebook, version, bad_cell, repeated_id, not_whole, format_key, minor_key}
use Rattle.kishu_model.specs.notebooks.Setting.{with_run_at, with_result, with_refused, written}
use Rattle.kishu_notebook.proofs.FaultRows.{opens}

-- what is written of the notebook that a text is, after a change; nothing where it is none
abbrev changed : (Data → Data) → Result Data Fault → List ℕ
changed f (Ok d) = written (f d)
changed f (Err why) = []

abbrev texts : Result Data Fault → List (List ℕ)
texts (Ok d) = sources_of d
texts (Err why) = []

without-cells : changed (λ d. d) (opening (codes "{\"cells\":[],\"metadata\":{},\"nbformat\":4,\"nbformat_minor\":5}"))
    ≡ codes "{\n  \"cells\": [],\n  \"metadata\": {},\n  \"nbformat\": 4,\n  \"nbformat_minor\": 5\n}\n"
unfolding opens pretty_from
without-cells = refl

-- A notebook as Jupyter writes it: a markdown cell, and code cells whose sources are `x = [1]` and `x` on two lines, `x[5]`, and nothing; the last has a picture among its outputs.
abbrev jupyter : List ℕ
jupyter =
    codes "{\n \"cells\": [\n  {\n   \"cell_type\": \"markdown\",\n   \"id\": \"aa11\",\n   \"metadata\": {},\n"
    ++ codes "   \"source\": [\n    \"# A title\\n\",\n    \"x = 7\"\n   ]\n  },\n  {\n"
    ++ codes "   \"cell_type\": \"code\",\n   \"execution_count\": null,\n   \"id\": \"bb22\",\n"
    ++ codes "   \"metadata\": {},\n   \"outputs\": [],\n   \"source\": [\n    \"x = [1]\\n\",\n    \"x\"\n   ]\n"
    ++ codes "  },\n  {\n   \"cell_type\": \"code\",\n   \"execution_count\": 7,\n   \"id\": \"cc33\",\n"
    ++ codes "   \"metadata\": {},\n   \"outputs\": [\n    {\n     \"name\": \"stdout\",\n"
    ++ codes "     \"output_type\": \"stream\",\n     \"text\": [\n      \"old\\n\"\n     ]\n    }\n   ],\n"
    ++ codes "   \"source\": \"x[5]\"\n  },\n  {\n   \"cell_type\": \"code\",\n   \"execution_count\": 4,\n"
    ++ codes "   \"id\": \"dd44\",\n   \"metadata\": {},\n   \"outputs\": [\n    {\n     \"data\": {\n"
    ++ codes "      \"image/png\": \"iVBORw0KGgo=\"\n     },\n     \"metadata\": {},\n"
    ++ codes "     \"output_type\": \"display_data\"\n    }\n   ],\n   \"source\": []\n  }\n ],\n"
    ++ codes " \"metadata\": {\n  \"kernelspec\": {\n   \"display_name\": \"Python 3\",\n"
    ++ codes "   \"language\": \"python\",\n   \"name\": \"python3\"\n  }\n },\n \"nbformat\": 4,\n"
    ++ codes " \"nbformat_minor\": 5\n}\n"

jupyter-sources : texts (opening jupyter) ≡ codes "x = [1]\nx" ∷ codes "x[5]" ∷ [] ∷ []
unfolding opens
jupyter-sources = refl

abbrev first : Report
first = record { outcome = Done; outputs = shown (codes "[1]") ∷ [] }

abbrev second : Report
second = record { outcome = Raised; outputs = fault (codes "IndexError") (codes "index out of range") ∷ [] }

-- the first two cells have run
jupyter-run : changed (λ d. with_result 1 2 second (with_result 0 1 first d)) (opening jupyter)
    ≡ codes "{\n  \"cells\": [\n    {\n      \"cell_type\": \"markdown\",\n      \"id\": \"aa11\",\n"
    ++ codes "      \"metadata\": {},\n      \"source\": [\n        \"# A title\\n\",\n        \"x = 7\"\n"
    ++ codes "      ]\n    },\n    {\n      \"cell_type\": \"code\",\n      \"execution_count\": 1,\n"
    ++ codes "      \"id\": \"bb22\",\n      \"metadata\": {},\n      \"outputs\": [\n        {\n"
    ++ codes "          \"data\": {\n            \"text/plain\": \"[1]\"\n          },\n"
    ++ codes "          \"execution_count\": 1,\n          \"metadata\": {},\n"
    ++ codes "          \"output_type\": \"execute_result\"\n        }\n      ],\n      \"source\": [\n"
    ++ codes "        \"x = [1]\\n\",\n        \"x\"\n      ]\n    },\n    {\n      \"cell_type\": \"code\",\n"
    ++ codes "      \"execution_count\": 2,\n      \"id\": \"cc33\",\n      \"metadata\": {},\n"
    ++ codes "      \"outputs\": [\n        {\n          \"ename\": \"IndexError\",\n"
    ++ codes "          \"evalue\": \"index out of range\",\n          \"output_type\": \"error\",\n"
    ++ codes "          \"traceback\": [\n            \"IndexError: index out of range\"\n          ]\n        }\n"
    ++ codes "      ],\n      \"source\": \"x[5]\"\n    },\n    {\n      \"cell_type\": \"code\",\n"
    ++ codes "      \"execution_count\": 4,\n      \"id\": \"dd44\",\n      \"metadata\": {},\n"
    ++ codes "      \"outputs\": [\n        {\n          \"data\": {\n"
    ++ codes "            \"image/png\": \"iVBORw0KGgo=\"\n          },\n          \"metadata\": {},\n"
    ++ codes "          \"output_type\": \"display_data\"\n        }\n      ],\n      \"source\": []\n    }\n"
    ++ codes "  ],\n  \"metadata\": {\n    \"kernelspec\": {\n      \"display_name\": \"Python 3\",\n"
    ++ codes "      \"language\": \"python\",\n      \"name\": \"python3\"\n    }\n  },\n  \"nbformat\": 4,\n"
    ++ codes "  \"nbformat_minor\": 5\n}\n"
unfolding opens with_run_at pretty_from
jupyter-run = refl

-- the first cell was refused
jupyter-refused : changed (with_refused 0 (codes "StoreFull")) (opening jupyter)
    ≡ codes "{\n  \"cells\": [\n    {\n      \"cell_type\": \"markdown\",\n      \"id\": \"aa11\",\n"
    ++ codes "      \"metadata\": {},\n      \"source\": [\n        \"# A title\\n\",\n        \"x = 7\"\n"
    ++ codes "      ]\n    },\n    {\n      \"cell_type\": \"code\",\n      \"execution_count\": null,\n"
    ++ codes "      \"id\": \"bb22\",\n      \"metadata\": {},\n      \"outputs\": [\n        {\n"
    ++ codes "          \"ename\": \"StoreFull\",\n          \"evalue\": \"\",\n"
    ++ codes "          \"output_type\": \"error\",\n          \"traceback\": [\n            \"StoreFull: \"\n"
    ++ codes "          ]\n        }\n      ],\n      \"source\": [\n        \"x = [1]\\n\",\n        \"x\"\n"
    ++ codes "      ]\n    },\n    {\n      \"cell_type\": \"code\",\n      \"execution_count\": 7,\n"
    ++ codes "      \"id\": \"cc33\",\n      \"metadata\": {},\n      \"outputs\": [\n        {\n"
    ++ codes "          \"name\": \"stdout\",\n          \"output_type\": \"stream\",\n          \"text\": [\n"
    ++ codes "            \"old\\n\"\n          ]\n        }\n      ],\n      \"source\": \"x[5]\"\n    },\n"
    ++ codes "    {\n      \"cell_type\": \"code\",\n      \"execution_count\": 4,\n      \"id\": \"dd44\",\n"
    ++ codes "      \"metadata\": {},\n      \"outputs\": [\n        {\n          \"data\": {\n"
    ++ codes "            \"image/png\": \"iVBORw0KGgo=\"\n          },\n          \"metadata\": {},\n"
    ++ codes "          \"output_type\": \"display_data\"\n        }\n      ],\n      \"source\": []\n    }\n"
    ++ codes "  ],\n  \"metadata\": {\n    \"kernelspec\": {\n      \"display_name\": \"Python 3\",\n"
    ++ codes "      \"language\": \"python\",\n      \"name\": \"python3\"\n    }\n  },\n  \"nbformat\": 4,\n"
    ++ codes "  \"nbformat_minor\": 5\n}\n"
unfolding opens with_run_at pretty_from
jupyter-refused = refl

-- ---- how faults are told

told-json : reason not_json ≡ codes "not JSON"
told-json = refl

told-format : reason (not_notebook format_key) ≡ codes "key nbformat"
told-format = refl

told-minor-key : reason (not_notebook minor_key) ≡ codes "key nbformat_minor"
told-minor-key = refl

told-minor : reason (version 4) ≡ codes "minor 4"
unfolding opens
told-minor = refl

told-cell : reason (bad_cell 0) ≡ codes "cell 0"
unfolding opens
told-cell = refl

told-repeated : reason (repeated_id 12) ≡ codes "repeated id at cell 12"
unfolding opens
told-repeated = refl

told-whole : reason not_whole ≡ codes "a number is not whole"
told-whole = refl
