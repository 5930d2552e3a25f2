-- Which bytes are a notebook, and the first fault of others: computed on the definition. Made by tools/rows/notebook_rows.py.
use Rattle.std.specs.Prelude.{◌≡◌, [], ◌∷◌, ◌++◌, codes, Option, Some, None, Ok, Err, refl}
use Rattle.std.specs.Prelude.{Result}
use Rattle.serde_json.specs.Data.{Data}
use Rattle.kishu_model.specs.notebooks.Notebook.{Fault, not_json, not_notebook, version, bad_cell, repeated_id, not_whole, format_key, minor_key, metadata_key, cells_key, opening, reason}
use Rattle.kishu_store_rows.proofs.OnLiterals.{notebooks_on_literals}

-- the fault, if there is one
abbrev fault_of : Result Data Fault → Option Fault
fault_of (Ok d) = None
fault_of (Err e) = Some e

fault_102 : fault_of (opening (codes "{\"cells\": [{\"cell_type\": \"code\", \"execution_count\": null, \"id\": \"a\", \"metadata\": {}, \"outputs\": [], \"source\": null}], \"metadata\": {}, \"nbformat\": 4, \"nbformat_minor\": 5}")) ≡ Some (bad_cell 0)
unfolding notebooks_on_literals
fault_102 = refl

fault_103 : fault_of (opening (codes "{\"cells\": [{\"cell_type\": \"code\", \"execution_count\": null, \"id\": \"a\", \"metadata\": {}, \"outputs\": [], \"source\": 1}], \"metadata\": {}, \"nbformat\": 4, \"nbformat_minor\": 5}")) ≡ Some (bad_cell 0)
unfolding notebooks_on_literals
fault_103 = refl

fault_104 : fault_of (opening (codes "{\"cells\": [{\"cell_type\": \"code\", \"execution_count\": null, \"id\": \"a\", \"metadata\": {}, \"outputs\": [], \"source\": []}], \"metadata\": {}, \"nbformat\": 4, \"nbformat_minor\": 5}")) ≡ None
unfolding notebooks_on_literals
fault_104 = refl

fault_105 : fault_of (opening (codes "{\"cells\": [{\"cell_type\": \"code\", \"execution_count\": null, \"id\": \"a\", \"metadata\": {}, \"outputs\": [], \"source\": [\"a\", \"b\"]}], \"metadata\": {}, \"nbformat\": 4, \"nbformat_minor\": 5}")) ≡ None
unfolding notebooks_on_literals
fault_105 = refl

fault_106 : fault_of (opening (codes "{\"cells\": [{\"cell_type\": \"code\", \"execution_count\": null, \"id\": \"a\", \"metadata\": {}, \"outputs\": [], \"source\": [\"a\", 1]}], \"metadata\": {}, \"nbformat\": 4, \"nbformat_minor\": 5}")) ≡ Some (bad_cell 0)
unfolding notebooks_on_literals
fault_106 = refl

fault_107 : fault_of (opening (codes "{\"cells\": [{\"cell_type\": \"code\", \"execution_count\": null, \"id\": \"a\", \"metadata\": {}, \"outputs\": [], \"source\": {}}], \"metadata\": {}, \"nbformat\": 4, \"nbformat_minor\": 5}")) ≡ Some (bad_cell 0)
unfolding notebooks_on_literals
fault_107 = refl

fault_108 : fault_of (opening (codes "{\"cells\": [{\"cell_type\": \"code\", \"execution_count\": null, \"id\": \"a\", \"metadata\": {}, \"outputs\": [], \"source\": [[\"a\"]]}], \"metadata\": {}, \"nbformat\": 4, \"nbformat_minor\": 5}")) ≡ Some (bad_cell 0)
unfolding notebooks_on_literals
fault_108 = refl

fault_109 : fault_of (opening (codes "{\"cells\": [{\"cell_type\": \"code\", \"execution_count\": null, \"id\": \"a\", \"metadata\": null, \"outputs\": [], \"source\": \"1\"}], \"metadata\": {}, \"nbformat\": 4, \"nbformat_minor\": 5}")) ≡ Some (bad_cell 0)
unfolding notebooks_on_literals
fault_109 = refl

fault_110 : fault_of (opening (codes "{\"cells\": [{\"cell_type\": \"code\", \"execution_count\": null, \"id\": \"a\", \"metadata\": [], \"outputs\": [], \"source\": \"1\"}], \"metadata\": {}, \"nbformat\": 4, \"nbformat_minor\": 5}")) ≡ Some (bad_cell 0)
unfolding notebooks_on_literals
fault_110 = refl

fault_111 : fault_of (opening (codes "{\"cells\": [{\"cell_type\": \"code\", \"execution_count\": null, \"id\": \"a\", \"metadata\": {\"a\": {\"b\": 1}}, \"outputs\": [], \"source\": \"1\"}], \"metadata\": {}, \"nbformat\": 4, \"nbformat_minor\": 5}")) ≡ None
unfolding notebooks_on_literals
fault_111 = refl

fault_112 : fault_of (opening (codes "{\"cells\": [{\"cell_type\": \"code\", \"execution_count\": null, \"id\": \"a\", \"metadata\": {\"a\": 1.5}, \"outputs\": [], \"source\": \"1\"}], \"metadata\": {}, \"nbformat\": 4, \"nbformat_minor\": 5}")) ≡ Some not_whole
unfolding notebooks_on_literals
fault_112 = refl

fault_113 : fault_of (opening (codes "{\"cells\": [{\"cell_type\": \"code\", \"execution_count\": null, \"id\": \"a\", \"metadata\": {\"a\": -9223372036854775808}, \"outputs\": [], \"source\": \"1\"}], \"metadata\": {}, \"nbformat\": 4, \"nbformat_minor\": 5}")) ≡ None
unfolding notebooks_on_literals
fault_113 = refl

fault_114 : fault_of (opening (codes "{\"cells\": [{\"cell_type\": \"code\", \"execution_count\": null, \"id\": \"a\", \"metadata\": {\"a\": -9223372036854775809}, \"outputs\": [], \"source\": \"1\"}], \"metadata\": {}, \"nbformat\": 4, \"nbformat_minor\": 5}")) ≡ Some not_whole
unfolding notebooks_on_literals
fault_114 = refl

fault_115 : fault_of (opening (codes "{\"cells\": [{\"cell_type\": \"code\", \"execution_count\": null, \"id\": \"a\", \"metadata\": {\"a\": 18446744073709551615}, \"outputs\": [], \"source\": \"1\"}], \"metadata\": {}, \"nbformat\": 4, \"nbformat_minor\": 5}")) ≡ None
unfolding notebooks_on_literals
fault_115 = refl

fault_116 : fault_of (opening (codes "{\"cells\": [{\"cell_type\": \"code\", \"execution_count\": null, \"id\": \"a\", \"metadata\": {\"a\": 18446744073709551616}, \"outputs\": [], \"source\": \"1\"}], \"metadata\": {}, \"nbformat\": 4, \"nbformat_minor\": 5}")) ≡ Some not_whole
unfolding notebooks_on_literals
fault_116 = refl

fault_117 : fault_of (opening (codes "{\"cells\": [{\"cell_type\": \"code\", \"execution_count\": null, \"id\": \"a\", \"metadata\": {\"a\": 1000.0}, \"outputs\": [], \"source\": \"1\"}], \"metadata\": {}, \"nbformat\": 4, \"nbformat_minor\": 5}")) ≡ Some not_whole
unfolding notebooks_on_literals
fault_117 = refl

fault_118 : fault_of (opening (codes "{\"cells\": [{\"cell_type\": \"code\", \"execution_count\": null, \"id\": \"a\", \"metadata\": {}, \"outputs\": [], \"source\": \"1\"}, {\"cell_type\": \"markdown\", \"id\": \"m\", \"metadata\": {}, \"source\": \"1\"}, {\"cell_type\": \"code\", \"execution_count\": null, \"id\": \"a\", \"metadata\": {}, \"outputs\": [], \"source\": \"1\"}], \"metadata\": {}, \"nbformat\": 4, \"nbformat_minor\": 5}")) ≡ Some (repeated_id 2)
unfolding notebooks_on_literals
fault_118 = refl

fault_119 : fault_of (opening (codes "{\"cells\": [{\"cell_type\": \"code\", \"execution_count\": null, \"id\": \"a\", \"metadata\": {}, \"outputs\": [], \"source\": \"1\"}, {\"cell_type\": \"markdown\", \"id\": \"a\", \"metadata\": {}, \"source\": \"1\"}, 1], \"metadata\": {}, \"nbformat\": 4, \"nbformat_minor\": 5}")) ≡ Some (bad_cell 2)
unfolding notebooks_on_literals
fault_119 = refl

fault_120 : fault_of (opening (codes "{\"cells\": [{\"cell_type\": \"markdown\", \"id\": \"m\", \"metadata\": {}, \"source\": \"1\"}, 1, {\"cell_type\": \"markdown\", \"id\": \"m\", \"metadata\": {}, \"source\": \"1\"}], \"metadata\": {}, \"nbformat\": 4, \"nbformat_minor\": 5}")) ≡ Some (bad_cell 1)
unfolding notebooks_on_literals
fault_120 = refl

fault_121 : fault_of (opening (codes "{\"cells\": [{\"cell_type\": \"markdown\", \"id\": \"A\", \"metadata\": {}, \"source\": \"1\"}, {\"cell_type\": \"code\", \"execution_count\": null, \"id\": \"a\", \"metadata\": {}, \"outputs\": [], \"source\": \"1\"}], \"metadata\": {}, \"nbformat\": 4, \"nbformat_minor\": 5}")) ≡ None
unfolding notebooks_on_literals
fault_121 = refl

fault_122 : fault_of (opening (codes "{\"cells\": [{\"cell_type\": \"code\", \"execution_count\": null, \"id\": \"a\", \"metadata\": {\"x\": 0.5}, \"outputs\": [], \"source\": \"1\"}, {\"cell_type\": \"code\", \"execution_count\": null, \"id\": \"a\", \"metadata\": {}, \"outputs\": [], \"source\": \"1\"}], \"metadata\": {}, \"nbformat\": 4, \"nbformat_minor\": 5}")) ≡ Some (repeated_id 1)
unfolding notebooks_on_literals
fault_122 = refl

fault_123 : fault_of (opening (codes "{\"cells\": [{\"cell_type\": \"code\", \"execution_count\": null, \"id\": \"a\", \"metadata\": {}, \"outputs\": [], \"source\": \"1\"}, {\"cell_type\": \"markdown\", \"id\": \"m\", \"metadata\": {}, \"source\": \"1\"}, {\"cell_type\": \"code\", \"execution_count\": null, \"id\": \"b\", \"metadata\": {}, \"outputs\": [], \"source\": \"1\"}, {\"cell_type\": \"markdown\", \"id\": \"b\", \"metadata\": {}, \"source\": \"1\"}], \"metadata\": {}, \"nbformat\": 4, \"nbformat_minor\": 5}")) ≡ Some (repeated_id 3)
unfolding notebooks_on_literals
fault_123 = refl

fault_124 : fault_of (opening (codes "{\"cells\": [], \"metadata\": {\"x\": 1.25}, \"nbformat\": 4, \"nbformat_minor\": 5}")) ≡ Some not_whole
unfolding notebooks_on_literals
fault_124 = refl

fault_125 : fault_of (opening (codes "{\"cells\": [{\"cell_type\": \"markdown\", \"id\": \"m\", \"metadata\": {}, \"source\": \"1\", \"outputs\": 1, \"execution_count\": \"x\"}], \"metadata\": {}, \"nbformat\": 4, \"nbformat_minor\": 5}")) ≡ None
unfolding notebooks_on_literals
fault_125 = refl

-- ---- how faults are told

reason_1 : reason not_json ∷ reason (not_notebook format_key) ∷ reason (not_notebook minor_key) ∷ reason (not_notebook metadata_key) ∷ reason (not_notebook cells_key) ∷ reason (version 4) ∷ reason (version 0) ∷ reason (bad_cell 0) ∷ reason (bad_cell 17) ∷ reason (repeated_id 1) ∷ reason not_whole ∷ []
    ≡ codes "not JSON" ∷ codes "key nbformat" ∷ codes "key nbformat_minor" ∷ codes "key metadata" ∷ codes "key cells" ∷ codes "minor 4" ∷ codes "minor 0" ∷ codes "cell 0" ∷ codes "cell 17" ∷ codes "repeated id at cell 1" ∷ codes "a number is not whole" ∷ []
unfolding notebooks_on_literals
reason_1 = refl
