-- Which bytes are a notebook, and the first fault of others: computed on the definition. Made by tools/rows/notebook_rows.py.
use Rattle.std.specs.Prelude.{◌≡◌, [], ◌∷◌, ◌++◌, codes, Option, Some, None, Ok, Err, refl}
use Rattle.std.specs.Prelude.{Result}
use Rattle.serde_json.specs.Data.{Data}
use Rattle.kishu_model.specs.notebooks.Notebook.{Fault, not_json, not_notebook, version, bad_cell, repeated_id, not_whole, format_key, minor_key, metadata_key, cells_key, opening, reason}
use Rattle.kishu_store_rows.proofs.OnLiterals.{notebooks_on_literals}

-- the fault, if there is one
abbrev fault_of : Result Data Fault → Option Fault
fault_of (Ok d) = None
fault_of (Err e) = Some e

fault_1 : fault_of (opening ([])) ≡ Some not_json
unfolding notebooks_on_literals
fault_1 = refl

fault_2 : fault_of (opening (codes "{")) ≡ Some not_json
unfolding notebooks_on_literals
fault_2 = refl

fault_3 : fault_of (opening (codes "[]")) ≡ Some (not_notebook format_key)
unfolding notebooks_on_literals
fault_3 = refl

fault_4 : fault_of (opening (codes "null")) ≡ Some (not_notebook format_key)
unfolding notebooks_on_literals
fault_4 = refl

fault_5 : fault_of (opening (codes "{}")) ≡ Some (not_notebook format_key)
unfolding notebooks_on_literals
fault_5 = refl

fault_6 : fault_of (opening (codes "1")) ≡ Some (not_notebook format_key)
unfolding notebooks_on_literals
fault_6 = refl

fault_7 : fault_of (opening (codes "\"a\"")) ≡ Some (not_notebook format_key)
unfolding notebooks_on_literals
fault_7 = refl

fault_8 : fault_of (opening (codes "{\"cells\": [], \"metadata\": {}, \"nbformat\": 4, \"nbformat_minor\": 5}")) ≡ None
unfolding notebooks_on_literals
fault_8 = refl

fault_9 : fault_of (opening (codes "{\"cells\": [], \"metadata\": {}, \"nbformat\": 4, \"nbformat_minor\": 5} ")) ≡ None
unfolding notebooks_on_literals
fault_9 = refl

fault_10 : fault_of (opening (codes "{\"cells\": [], \"metadata\": {}, \"nbformat\": 4, \"nbformat_minor\": 5}x")) ≡ Some not_json
unfolding notebooks_on_literals
fault_10 = refl

fault_11 : fault_of (opening (codes "{\"cells\": [], \"metadata\": {}, \"nbformat\": 4, \"nbformat_minor\": 5")) ≡ Some not_json
unfolding notebooks_on_literals
fault_11 = refl

fault_12 : fault_of (opening ((239 ∷ 187 ∷ 191 ∷ []) ++ codes "{\"cells\": [], \"metadata\": {}, \"nbformat\": 4, \"nbformat_minor\": 5}")) ≡ Some not_json
unfolding notebooks_on_literals
fault_12 = refl

fault_13 : fault_of (opening (codes "{\"cells\": [], \"metadata\": {}, \"nbformat_minor\": 5}")) ≡ Some (not_notebook format_key)
unfolding notebooks_on_literals
fault_13 = refl

fault_14 : fault_of (opening (codes "{\"cells\": [], \"metadata\": {}, \"nbformat\": null, \"nbformat_minor\": 5}")) ≡ Some (not_notebook format_key)
unfolding notebooks_on_literals
fault_14 = refl

fault_15 : fault_of (opening (codes "{\"cells\": [], \"metadata\": {}, \"nbformat\": \"4\", \"nbformat_minor\": 5}")) ≡ Some (not_notebook format_key)
unfolding notebooks_on_literals
fault_15 = refl

fault_16 : fault_of (opening (codes "{\"cells\": [], \"metadata\": {}, \"nbformat\": 4.0, \"nbformat_minor\": 5}")) ≡ Some (not_notebook format_key)
unfolding notebooks_on_literals
fault_16 = refl

fault_17 : fault_of (opening (codes "{\"cells\": [], \"metadata\": {}, \"nbformat\": 5, \"nbformat_minor\": 5}")) ≡ Some (not_notebook format_key)
unfolding notebooks_on_literals
fault_17 = refl

fault_18 : fault_of (opening (codes "{\"cells\": [], \"metadata\": {}, \"nbformat\": 6, \"nbformat_minor\": 5}")) ≡ Some (not_notebook format_key)
unfolding notebooks_on_literals
fault_18 = refl

fault_19 : fault_of (opening (codes "{\"cells\": [], \"metadata\": {}, \"nbformat\": 0, \"nbformat_minor\": 5}")) ≡ Some (not_notebook format_key)
unfolding notebooks_on_literals
fault_19 = refl

fault_20 : fault_of (opening (codes "{\"cells\": [], \"metadata\": {}, \"nbformat\": -1, \"nbformat_minor\": 5}")) ≡ Some (not_notebook format_key)
unfolding notebooks_on_literals
fault_20 = refl

fault_21 : fault_of (opening (codes "{\"cells\": [], \"metadata\": {}, \"nbformat\": {}, \"nbformat_minor\": 5}")) ≡ Some (not_notebook format_key)
unfolding notebooks_on_literals
fault_21 = refl

fault_22 : fault_of (opening (codes "{\"cells\": [], \"metadata\": {}, \"nbformat\": [], \"nbformat_minor\": 5}")) ≡ Some (not_notebook format_key)
unfolding notebooks_on_literals
fault_22 = refl

fault_23 : fault_of (opening (codes "{\"cells\": [], \"metadata\": {}, \"nbformat\": 4}")) ≡ Some (not_notebook minor_key)
unfolding notebooks_on_literals
fault_23 = refl

fault_24 : fault_of (opening (codes "{\"cells\": [], \"metadata\": {}, \"nbformat\": 4, \"nbformat_minor\": null}")) ≡ Some (not_notebook minor_key)
unfolding notebooks_on_literals
fault_24 = refl

fault_25 : fault_of (opening (codes "{\"cells\": [], \"metadata\": {}, \"nbformat\": 4, \"nbformat_minor\": \"4\"}")) ≡ Some (not_notebook minor_key)
unfolding notebooks_on_literals
fault_25 = refl

fault_26 : fault_of (opening (codes "{\"cells\": [], \"metadata\": {}, \"nbformat\": 4, \"nbformat_minor\": 4.0}")) ≡ Some (not_notebook minor_key)
unfolding notebooks_on_literals
fault_26 = refl

fault_27 : fault_of (opening (codes "{\"cells\": [], \"metadata\": {}, \"nbformat\": 4, \"nbformat_minor\": 4}")) ≡ Some (version 4)
unfolding notebooks_on_literals
fault_27 = refl

fault_28 : fault_of (opening (codes "{\"cells\": [], \"metadata\": {}, \"nbformat\": 4, \"nbformat_minor\": 6}")) ≡ Some (version 6)
unfolding notebooks_on_literals
fault_28 = refl

fault_29 : fault_of (opening (codes "{\"cells\": [], \"metadata\": {}, \"nbformat\": 4, \"nbformat_minor\": 0}")) ≡ Some (version 0)
unfolding notebooks_on_literals
fault_29 = refl

fault_30 : fault_of (opening (codes "{\"cells\": [], \"metadata\": {}, \"nbformat\": 4, \"nbformat_minor\": -1}")) ≡ Some (not_notebook minor_key)
unfolding notebooks_on_literals
fault_30 = refl

fault_31 : fault_of (opening (codes "{\"cells\": [], \"metadata\": {}, \"nbformat\": 4, \"nbformat_minor\": {}}")) ≡ Some (not_notebook minor_key)
unfolding notebooks_on_literals
fault_31 = refl

fault_32 : fault_of (opening (codes "{\"cells\": [], \"metadata\": {}, \"nbformat\": 4, \"nbformat_minor\": []}")) ≡ Some (not_notebook minor_key)
unfolding notebooks_on_literals
fault_32 = refl

fault_33 : fault_of (opening (codes "{\"cells\": [], \"nbformat\": 4, \"nbformat_minor\": 5}")) ≡ Some (not_notebook metadata_key)
unfolding notebooks_on_literals
fault_33 = refl

fault_34 : fault_of (opening (codes "{\"cells\": [], \"metadata\": null, \"nbformat\": 4, \"nbformat_minor\": 5}")) ≡ Some (not_notebook metadata_key)
unfolding notebooks_on_literals
fault_34 = refl

fault_35 : fault_of (opening (codes "{\"cells\": [], \"metadata\": \"4\", \"nbformat\": 4, \"nbformat_minor\": 5}")) ≡ Some (not_notebook metadata_key)
unfolding notebooks_on_literals
fault_35 = refl

fault_36 : fault_of (opening (codes "{\"cells\": [], \"metadata\": 4.0, \"nbformat\": 4, \"nbformat_minor\": 5}")) ≡ Some (not_notebook metadata_key)
unfolding notebooks_on_literals
fault_36 = refl

fault_37 : fault_of (opening (codes "{\"cells\": [], \"metadata\": 4, \"nbformat\": 4, \"nbformat_minor\": 5}")) ≡ Some (not_notebook metadata_key)
unfolding notebooks_on_literals
fault_37 = refl

fault_38 : fault_of (opening (codes "{\"cells\": [], \"metadata\": 5, \"nbformat\": 4, \"nbformat_minor\": 5}")) ≡ Some (not_notebook metadata_key)
unfolding notebooks_on_literals
fault_38 = refl

fault_39 : fault_of (opening (codes "{\"cells\": [], \"metadata\": 6, \"nbformat\": 4, \"nbformat_minor\": 5}")) ≡ Some (not_notebook metadata_key)
unfolding notebooks_on_literals
fault_39 = refl

fault_40 : fault_of (opening (codes "{\"cells\": [], \"metadata\": 0, \"nbformat\": 4, \"nbformat_minor\": 5}")) ≡ Some (not_notebook metadata_key)
unfolding notebooks_on_literals
fault_40 = refl

fault_41 : fault_of (opening (codes "{\"cells\": [], \"metadata\": -1, \"nbformat\": 4, \"nbformat_minor\": 5}")) ≡ Some (not_notebook metadata_key)
unfolding notebooks_on_literals
fault_41 = refl

fault_42 : fault_of (opening (codes "{\"cells\": [], \"metadata\": [], \"nbformat\": 4, \"nbformat_minor\": 5}")) ≡ Some (not_notebook metadata_key)
unfolding notebooks_on_literals
fault_42 = refl

fault_43 : fault_of (opening (codes "{\"metadata\": {}, \"nbformat\": 4, \"nbformat_minor\": 5}")) ≡ Some (not_notebook cells_key)
unfolding notebooks_on_literals
fault_43 = refl

fault_44 : fault_of (opening (codes "{\"cells\": null, \"metadata\": {}, \"nbformat\": 4, \"nbformat_minor\": 5}")) ≡ Some (not_notebook cells_key)
unfolding notebooks_on_literals
fault_44 = refl

fault_45 : fault_of (opening (codes "{\"cells\": \"4\", \"metadata\": {}, \"nbformat\": 4, \"nbformat_minor\": 5}")) ≡ Some (not_notebook cells_key)
unfolding notebooks_on_literals
fault_45 = refl

fault_46 : fault_of (opening (codes "{\"cells\": 4.0, \"metadata\": {}, \"nbformat\": 4, \"nbformat_minor\": 5}")) ≡ Some (not_notebook cells_key)
unfolding notebooks_on_literals
fault_46 = refl

fault_47 : fault_of (opening (codes "{\"cells\": 4, \"metadata\": {}, \"nbformat\": 4, \"nbformat_minor\": 5}")) ≡ Some (not_notebook cells_key)
unfolding notebooks_on_literals
fault_47 = refl

fault_48 : fault_of (opening (codes "{\"cells\": 5, \"metadata\": {}, \"nbformat\": 4, \"nbformat_minor\": 5}")) ≡ Some (not_notebook cells_key)
unfolding notebooks_on_literals
fault_48 = refl

fault_49 : fault_of (opening (codes "{\"cells\": 6, \"metadata\": {}, \"nbformat\": 4, \"nbformat_minor\": 5}")) ≡ Some (not_notebook cells_key)
unfolding notebooks_on_literals
fault_49 = refl

fault_50 : fault_of (opening (codes "{\"cells\": 0, \"metadata\": {}, \"nbformat\": 4, \"nbformat_minor\": 5}")) ≡ Some (not_notebook cells_key)
unfolding notebooks_on_literals
fault_50 = refl

fault_51 : fault_of (opening (codes "{\"cells\": -1, \"metadata\": {}, \"nbformat\": 4, \"nbformat_minor\": 5}")) ≡ Some (not_notebook cells_key)
unfolding notebooks_on_literals
fault_51 = refl

fault_52 : fault_of (opening (codes "{\"cells\": {}, \"metadata\": {}, \"nbformat\": 4, \"nbformat_minor\": 5}")) ≡ Some (not_notebook cells_key)
unfolding notebooks_on_literals
fault_52 = refl

fault_53 : fault_of (opening (codes "{\"cells\": [], \"metadata\": {}, \"nbformat\": 3}")) ≡ Some (not_notebook format_key)
unfolding notebooks_on_literals
fault_53 = refl

fault_54 : fault_of (opening (codes "{\"cells\": [1], \"metadata\": {}, \"nbformat\": 4, \"nbformat_minor\": 4}")) ≡ Some (version 4)
unfolding notebooks_on_literals
fault_54 = refl

fault_55 : fault_of (opening (codes "{\"cells\": [], \"metadata\": {\"a\": 1.5}, \"nbformat\": 4, \"nbformat_minor\": 6}")) ≡ Some (version 6)
unfolding notebooks_on_literals
fault_55 = refl

fault_56 : fault_of (opening (codes "{\"nbformat\": 4, \"nbformat_minor\": 5}")) ≡ Some (not_notebook metadata_key)
unfolding notebooks_on_literals
fault_56 = refl

fault_57 : fault_of (opening (codes "{\"cells\": [], \"metadata\": {}, \"nbformat\": 4, \"nbformat_minor\": 18446744073709551616}")) ≡ Some (not_notebook minor_key)
unfolding notebooks_on_literals
fault_57 = refl

fault_58 : fault_of (opening (codes "{\"cells\": [], \"metadata\": {}, \"nbformat\": 4, \"nbformat_minor\": 18446744073709551615}")) ≡ Some (version 18446744073709551615)
unfolding notebooks_on_literals
fault_58 = refl

fault_59 : fault_of (opening (codes "{\"cells\": [{\"cell_type\": \"code\", \"execution_count\": null, \"id\": \"a\", \"metadata\": {}, \"outputs\": [], \"source\": \"1\"}, {\"cell_type\": \"markdown\", \"id\": [], \"metadata\": {}, \"source\": \"1\"}], \"metadata\": {}, \"nbformat\": 4, \"nbformat_minor\": 5}")) ≡ Some (bad_cell 1)
unfolding notebooks_on_literals
fault_59 = refl

fault_60 : fault_of (opening (codes "{\"cells\": [{\"cell_type\": \"code\", \"execution_count\": null, \"id\": \"a\", \"metadata\": {}, \"outputs\": [], \"source\": \"1\"}, {\"cell_type\": \"markdown\", \"id\": \"\", \"metadata\": {}, \"source\": \"1\"}], \"metadata\": {}, \"nbformat\": 4, \"nbformat_minor\": 5}")) ≡ Some (bad_cell 1)
unfolding notebooks_on_literals
fault_60 = refl

fault_61 : fault_of (opening (codes "{\"cells\": [{\"cell_type\": \"code\", \"execution_count\": null, \"id\": \"a\", \"metadata\": {}, \"outputs\": [], \"source\": \"1\"}, {\"cell_type\": \"markdown\", \"id\": null, \"metadata\": {}, \"source\": \"1\"}], \"metadata\": {}, \"nbformat\": 4, \"nbformat_minor\": 5}")) ≡ Some (bad_cell 1)
unfolding notebooks_on_literals
fault_61 = refl

fault_62 : fault_of (opening (codes "{\"cells\": [{\"cell_type\": \"code\", \"execution_count\": null, \"id\": \"a\", \"metadata\": {}, \"outputs\": [], \"source\": \"1\"}, {\"cell_type\": \"markdown\", \"id\": 0, \"metadata\": {}, \"source\": \"1\"}], \"metadata\": {}, \"nbformat\": 4, \"nbformat_minor\": 5}")) ≡ Some (bad_cell 1)
unfolding notebooks_on_literals
fault_62 = refl

fault_63 : fault_of (opening (codes "{\"cells\": [{\"cell_type\": \"code\", \"execution_count\": null, \"id\": \"a\", \"metadata\": {}, \"outputs\": [], \"source\": \"1\"}, {\"cell_type\": \"markdown\", \"id\": 1.5, \"metadata\": {}, \"source\": \"1\"}], \"metadata\": {}, \"nbformat\": 4, \"nbformat_minor\": 5}")) ≡ Some (bad_cell 1)
unfolding notebooks_on_literals
fault_63 = refl

fault_64 : fault_of (opening (codes "{\"cells\": [{\"cell_type\": \"code\", \"execution_count\": null, \"id\": \"a\", \"metadata\": {}, \"outputs\": [], \"source\": \"1\"}, {\"cell_type\": \"markdown\", \"id\": true, \"metadata\": {}, \"source\": \"1\"}], \"metadata\": {}, \"nbformat\": 4, \"nbformat_minor\": 5}")) ≡ Some (bad_cell 1)
unfolding notebooks_on_literals
fault_64 = refl

fault_65 : fault_of (opening (codes "{\"cells\": [{\"cell_type\": \"code\", \"execution_count\": null, \"id\": \"a\", \"metadata\": {}, \"outputs\": [], \"source\": \"1\"}, {\"cell_type\": \"markdown\", \"id\": {}, \"metadata\": {}, \"source\": \"1\"}], \"metadata\": {}, \"nbformat\": 4, \"nbformat_minor\": 5}")) ≡ Some (bad_cell 1)
unfolding notebooks_on_literals
fault_65 = refl

fault_66 : fault_of (opening (codes "{\"cells\": [{\"cell_type\": \"code\", \"execution_count\": null, \"id\": \"a\", \"metadata\": {}, \"outputs\": [], \"source\": \"1\"}, {\"cell_type\": \"markdown\", \"id\": \"b c\", \"metadata\": {}, \"source\": \"1\"}], \"metadata\": {}, \"nbformat\": 4, \"nbformat_minor\": 5}")) ≡ Some (bad_cell 1)
unfolding notebooks_on_literals
fault_66 = refl

fault_67 : fault_of (opening (codes "{\"cells\": [{\"cell_type\": \"code\", \"execution_count\": null, \"id\": \"a\", \"metadata\": {}, \"outputs\": [], \"source\": \"1\"}, {\"cell_type\": \"markdown\", \"id\": \"" ++ (195 ∷ 169 ∷ []) ++ codes "\", \"metadata\": {}, \"source\": \"1\"}], \"metadata\": {}, \"nbformat\": 4, \"nbformat_minor\": 5}")) ≡ Some (bad_cell 1)
unfolding notebooks_on_literals
fault_67 = refl

fault_68 : fault_of (opening (codes "{\"cells\": [{\"cell_type\": \"code\", \"execution_count\": null, \"id\": \"a\", \"metadata\": {}, \"outputs\": [], \"source\": \"1\"}, {\"cell_type\": \"markdown\", \"id\": \"----------------------------------------------------------------\", \"metadata\": {}, \"source\": \"1\"}], \"metadata\": {}, \"nbformat\": 4, \"nbformat_minor\": 5}")) ≡ None
unfolding notebooks_on_literals
fault_68 = refl

fault_69 : fault_of (opening (codes "{\"cells\": [{\"cell_type\": \"code\", \"execution_count\": null, \"id\": \"a\", \"metadata\": {}, \"outputs\": [], \"source\": \"1\"}, {\"cell_type\": \"markdown\", \"id\": \"xxxxxxxxxxxxxxxxxxxxxxxxxxxxxxxxxxxxxxxxxxxxxxxxxxxxxxxxxxxxxxxxx\", \"metadata\": {}, \"source\": \"1\"}], \"metadata\": {}, \"nbformat\": 4, \"nbformat_minor\": 5}")) ≡ Some (bad_cell 1)
unfolding notebooks_on_literals
fault_69 = refl

fault_70 : fault_of (opening (codes "{\"cells\": [{\"execution_count\": null, \"id\": \"a\", \"metadata\": {}, \"outputs\": [], \"source\": \"1\"}], \"metadata\": {}, \"nbformat\": 4, \"nbformat_minor\": 5}")) ≡ Some (bad_cell 0)
unfolding notebooks_on_literals
fault_70 = refl

fault_71 : fault_of (opening (codes "{\"cells\": [{\"cell_type\": \"code\", \"id\": \"a\", \"metadata\": {}, \"outputs\": [], \"source\": \"1\"}], \"metadata\": {}, \"nbformat\": 4, \"nbformat_minor\": 5}")) ≡ Some (bad_cell 0)
unfolding notebooks_on_literals
fault_71 = refl

fault_72 : fault_of (opening (codes "{\"cells\": [{\"cell_type\": \"code\", \"execution_count\": null, \"metadata\": {}, \"outputs\": [], \"source\": \"1\"}], \"metadata\": {}, \"nbformat\": 4, \"nbformat_minor\": 5}")) ≡ Some (bad_cell 0)
unfolding notebooks_on_literals
fault_72 = refl

fault_73 : fault_of (opening (codes "{\"cells\": [{\"cell_type\": \"code\", \"execution_count\": null, \"id\": \"a\", \"outputs\": [], \"source\": \"1\"}], \"metadata\": {}, \"nbformat\": 4, \"nbformat_minor\": 5}")) ≡ Some (bad_cell 0)
unfolding notebooks_on_literals
fault_73 = refl

fault_74 : fault_of (opening (codes "{\"cells\": [{\"cell_type\": \"code\", \"execution_count\": null, \"id\": \"a\", \"metadata\": {}, \"source\": \"1\"}], \"metadata\": {}, \"nbformat\": 4, \"nbformat_minor\": 5}")) ≡ Some (bad_cell 0)
unfolding notebooks_on_literals
fault_74 = refl

fault_75 : fault_of (opening (codes "{\"cells\": [{\"cell_type\": \"code\", \"execution_count\": null, \"id\": \"a\", \"metadata\": {}, \"outputs\": []}], \"metadata\": {}, \"nbformat\": 4, \"nbformat_minor\": 5}")) ≡ Some (bad_cell 0)
unfolding notebooks_on_literals
fault_75 = refl

fault_76 : fault_of (opening (codes "{\"cells\": [{\"id\": \"m\", \"metadata\": {}, \"source\": \"1\"}], \"metadata\": {}, \"nbformat\": 4, \"nbformat_minor\": 5}")) ≡ Some (bad_cell 0)
unfolding notebooks_on_literals
fault_76 = refl

fault_77 : fault_of (opening (codes "{\"cells\": [{\"cell_type\": \"markdown\", \"metadata\": {}, \"source\": \"1\"}], \"metadata\": {}, \"nbformat\": 4, \"nbformat_minor\": 5}")) ≡ Some (bad_cell 0)
unfolding notebooks_on_literals
fault_77 = refl

fault_78 : fault_of (opening (codes "{\"cells\": [{\"cell_type\": \"markdown\", \"id\": \"m\", \"source\": \"1\"}], \"metadata\": {}, \"nbformat\": 4, \"nbformat_minor\": 5}")) ≡ Some (bad_cell 0)
unfolding notebooks_on_literals
fault_78 = refl

fault_79 : fault_of (opening (codes "{\"cells\": [{\"cell_type\": \"markdown\", \"id\": \"m\", \"metadata\": {}}], \"metadata\": {}, \"nbformat\": 4, \"nbformat_minor\": 5}")) ≡ Some (bad_cell 0)
unfolding notebooks_on_literals
fault_79 = refl

fault_80 : fault_of (opening (codes "{\"cells\": [{\"cell_type\": \"raw\", \"execution_count\": null, \"id\": \"a\", \"metadata\": {}, \"outputs\": [], \"source\": \"1\"}], \"metadata\": {}, \"nbformat\": 4, \"nbformat_minor\": 5}")) ≡ None
unfolding notebooks_on_literals
fault_80 = refl

fault_81 : fault_of (opening (codes "{\"cells\": [{\"cell_type\": \"Code\", \"execution_count\": null, \"id\": \"a\", \"metadata\": {}, \"outputs\": [], \"source\": \"1\"}], \"metadata\": {}, \"nbformat\": 4, \"nbformat_minor\": 5}")) ≡ Some (bad_cell 0)
unfolding notebooks_on_literals
fault_81 = refl

fault_82 : fault_of (opening (codes "{\"cells\": [{\"cell_type\": \"\", \"execution_count\": null, \"id\": \"a\", \"metadata\": {}, \"outputs\": [], \"source\": \"1\"}], \"metadata\": {}, \"nbformat\": 4, \"nbformat_minor\": 5}")) ≡ Some (bad_cell 0)
unfolding notebooks_on_literals
fault_82 = refl

fault_83 : fault_of (opening (codes "{\"cells\": [{\"cell_type\": null, \"execution_count\": null, \"id\": \"a\", \"metadata\": {}, \"outputs\": [], \"source\": \"1\"}], \"metadata\": {}, \"nbformat\": 4, \"nbformat_minor\": 5}")) ≡ Some (bad_cell 0)
unfolding notebooks_on_literals
fault_83 = refl

fault_84 : fault_of (opening (codes "{\"cells\": [{\"cell_type\": 1, \"execution_count\": null, \"id\": \"a\", \"metadata\": {}, \"outputs\": [], \"source\": \"1\"}], \"metadata\": {}, \"nbformat\": 4, \"nbformat_minor\": 5}")) ≡ Some (bad_cell 0)
unfolding notebooks_on_literals
fault_84 = refl

fault_85 : fault_of (opening (codes "{\"cells\": [{\"cell_type\": \"code \", \"execution_count\": null, \"id\": \"a\", \"metadata\": {}, \"outputs\": [], \"source\": \"1\"}], \"metadata\": {}, \"nbformat\": 4, \"nbformat_minor\": 5}")) ≡ Some (bad_cell 0)
unfolding notebooks_on_literals
fault_85 = refl

fault_86 : fault_of (opening (codes "{\"cells\": [{\"cell_type\": \"code\", \"execution_count\": 0, \"id\": \"a\", \"metadata\": {}, \"outputs\": [], \"source\": \"1\"}], \"metadata\": {}, \"nbformat\": 4, \"nbformat_minor\": 5}")) ≡ None
unfolding notebooks_on_literals
fault_86 = refl

fault_87 : fault_of (opening (codes "{\"cells\": [{\"cell_type\": \"code\", \"execution_count\": 7, \"id\": \"a\", \"metadata\": {}, \"outputs\": [], \"source\": \"1\"}], \"metadata\": {}, \"nbformat\": 4, \"nbformat_minor\": 5}")) ≡ None
unfolding notebooks_on_literals
fault_87 = refl

fault_88 : fault_of (opening (codes "{\"cells\": [{\"cell_type\": \"code\", \"execution_count\": 18446744073709551615, \"id\": \"a\", \"metadata\": {}, \"outputs\": [], \"source\": \"1\"}], \"metadata\": {}, \"nbformat\": 4, \"nbformat_minor\": 5}")) ≡ None
unfolding notebooks_on_literals
fault_88 = refl

fault_89 : fault_of (opening (codes "{\"cells\": [{\"cell_type\": \"code\", \"execution_count\": 18446744073709551616, \"id\": \"a\", \"metadata\": {}, \"outputs\": [], \"source\": \"1\"}], \"metadata\": {}, \"nbformat\": 4, \"nbformat_minor\": 5}")) ≡ Some (bad_cell 0)
unfolding notebooks_on_literals
fault_89 = refl

fault_90 : fault_of (opening (codes "{\"cells\": [{\"cell_type\": \"code\", \"execution_count\": -1, \"id\": \"a\", \"metadata\": {}, \"outputs\": [], \"source\": \"1\"}], \"metadata\": {}, \"nbformat\": 4, \"nbformat_minor\": 5}")) ≡ Some (bad_cell 0)
unfolding notebooks_on_literals
fault_90 = refl

fault_91 : fault_of (opening (codes "{\"cells\": [{\"cell_type\": \"code\", \"execution_count\": 1.0, \"id\": \"a\", \"metadata\": {}, \"outputs\": [], \"source\": \"1\"}], \"metadata\": {}, \"nbformat\": 4, \"nbformat_minor\": 5}")) ≡ Some (bad_cell 0)
unfolding notebooks_on_literals
fault_91 = refl

fault_92 : fault_of (opening (codes "{\"cells\": [{\"cell_type\": \"code\", \"execution_count\": \"1\", \"id\": \"a\", \"metadata\": {}, \"outputs\": [], \"source\": \"1\"}], \"metadata\": {}, \"nbformat\": 4, \"nbformat_minor\": 5}")) ≡ Some (bad_cell 0)
unfolding notebooks_on_literals
fault_92 = refl

fault_93 : fault_of (opening (codes "{\"cells\": [{\"cell_type\": \"code\", \"execution_count\": true, \"id\": \"a\", \"metadata\": {}, \"outputs\": [], \"source\": \"1\"}], \"metadata\": {}, \"nbformat\": 4, \"nbformat_minor\": 5}")) ≡ Some (bad_cell 0)
unfolding notebooks_on_literals
fault_93 = refl

fault_94 : fault_of (opening (codes "{\"cells\": [{\"cell_type\": \"code\", \"execution_count\": [], \"id\": \"a\", \"metadata\": {}, \"outputs\": [], \"source\": \"1\"}], \"metadata\": {}, \"nbformat\": 4, \"nbformat_minor\": 5}")) ≡ Some (bad_cell 0)
unfolding notebooks_on_literals
fault_94 = refl

fault_95 : fault_of (opening (codes "{\"cells\": [{\"cell_type\": \"code\", \"execution_count\": null, \"id\": \"a\", \"metadata\": {}, \"outputs\": null, \"source\": \"1\"}], \"metadata\": {}, \"nbformat\": 4, \"nbformat_minor\": 5}")) ≡ Some (bad_cell 0)
unfolding notebooks_on_literals
fault_95 = refl

fault_96 : fault_of (opening (codes "{\"cells\": [{\"cell_type\": \"code\", \"execution_count\": null, \"id\": \"a\", \"metadata\": {}, \"outputs\": {}, \"source\": \"1\"}], \"metadata\": {}, \"nbformat\": 4, \"nbformat_minor\": 5}")) ≡ Some (bad_cell 0)
unfolding notebooks_on_literals
fault_96 = refl

fault_97 : fault_of (opening (codes "{\"cells\": [{\"cell_type\": \"code\", \"execution_count\": null, \"id\": \"a\", \"metadata\": {}, \"outputs\": [1], \"source\": \"1\"}], \"metadata\": {}, \"nbformat\": 4, \"nbformat_minor\": 5}")) ≡ Some (bad_cell 0)
unfolding notebooks_on_literals
fault_97 = refl

fault_98 : fault_of (opening (codes "{\"cells\": [{\"cell_type\": \"code\", \"execution_count\": null, \"id\": \"a\", \"metadata\": {}, \"outputs\": [{}], \"source\": \"1\"}], \"metadata\": {}, \"nbformat\": 4, \"nbformat_minor\": 5}")) ≡ Some (bad_cell 0)
unfolding notebooks_on_literals
fault_98 = refl

fault_99 : fault_of (opening (codes "{\"cells\": [{\"cell_type\": \"code\", \"execution_count\": null, \"id\": \"a\", \"metadata\": {}, \"outputs\": [{\"output_type\": 1}], \"source\": \"1\"}], \"metadata\": {}, \"nbformat\": 4, \"nbformat_minor\": 5}")) ≡ Some (bad_cell 0)
unfolding notebooks_on_literals
fault_99 = refl

fault_100 : fault_of (opening (codes "{\"cells\": [{\"cell_type\": \"code\", \"execution_count\": null, \"id\": \"a\", \"metadata\": {}, \"outputs\": [{\"output_type\": \"\"}], \"source\": \"1\"}], \"metadata\": {}, \"nbformat\": 4, \"nbformat_minor\": 5}")) ≡ None
unfolding notebooks_on_literals
fault_100 = refl

fault_101 : fault_of (opening (codes "{\"cells\": [{\"cell_type\": \"code\", \"execution_count\": null, \"id\": \"a\", \"metadata\": {}, \"outputs\": [{\"output_type\": \"x\", \"y\": [null]}, {}], \"source\": \"1\"}], \"metadata\": {}, \"nbformat\": 4, \"nbformat_minor\": 5}")) ≡ Some (bad_cell 0)
unfolding notebooks_on_literals
fault_101 = refl
