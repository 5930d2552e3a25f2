-- Which request a line is, or that it is none: computed on the definition. Made by tools/rows/answer_rows.py.
use Rattle.std.specs.Prelude.{◌≡◌, [], ◌∷◌, ◌++◌, codes, Some, None, refl}
use Rattle.kishu_model.specs.Reading.{reading}
use Rattle.kishu_model.specs.Request.{cell, cells, checkout, branch, log, status, inspect, stored, plan}
use Rattle.kishu_store_rows.proofs.OnLiterals.{lines_on_literals}

line_1 : reading (codes "{\"op\":\"log\"}") ≡ Some (log)
unfolding lines_on_literals
line_1 = refl

line_2 : reading (codes " { \"op\" : \"log\" } ") ≡ Some (log)
unfolding lines_on_literals
line_2 = refl

line_3 : reading ((9 ∷ []) ++ codes "{\"op\":\"status\"}" ++ (13 ∷ [])) ≡ Some (status)
unfolding lines_on_literals
line_3 = refl

line_4 : reading (codes "{\"op\":\"inspect\"}") ≡ Some (inspect)
unfolding lines_on_literals
line_4 = refl

line_5 : reading (codes "{\"op\":\"cell\",\"text\":\"\"}") ≡ Some (cell ([]))
unfolding lines_on_literals
line_5 = refl

line_6 : reading (codes "{\"text\":\"a\\nb\",\"op\":\"cell\"}") ≡ Some (cell (codes "a\nb"))
unfolding lines_on_literals
line_6 = refl

line_7 : reading (codes "{\"op\":\"cell\",\"text\":\"\\u00e9\\ud83d\\ude00\"}") ≡ Some (cell ((195 ∷ 169 ∷ []) ++ (240 ∷ 159 ∷ 152 ∷ 128 ∷ [])))
unfolding lines_on_literals
line_7 = refl

line_8 : reading (codes "{\"op\":\"cell\",\"text\":\"" ++ (195 ∷ 169 ∷ []) ++ codes "\"}") ≡ Some (cell ((195 ∷ 169 ∷ [])))
unfolding lines_on_literals
line_8 = refl

line_9 : reading (codes "{\"op\":\"cells\",\"texts\":[\"a\",\"b\"]}") ≡ Some (cells ((codes "a") ∷ (codes "b") ∷ []))
unfolding lines_on_literals
line_9 = refl

line_10 : reading (codes "{\"op\":\"cells\",\"texts\":[\"\"]}") ≡ Some (cells (([]) ∷ []))
unfolding lines_on_literals
line_10 = refl

line_11 : reading (codes "{\"op\":\"checkout\",\"to\":\"main\"}") ≡ Some (checkout (codes "main"))
unfolding lines_on_literals
line_11 = refl

line_12 : reading (codes "{\"op\":\"checkout\",\"to\":\"\"}") ≡ Some (checkout ([]))
unfolding lines_on_literals
line_12 = refl

line_13 : reading (codes "{\"op\":\"branch\",\"name\":\"a\"}") ≡ Some (branch (codes "a") None)
unfolding lines_on_literals
line_13 = refl

line_14 : reading (codes "{\"op\":\"branch\",\"name\":\"\",\"at\":\"\"}") ≡ Some (branch ([]) (Some ([])))
unfolding lines_on_literals
line_14 = refl

line_15 : reading (codes "{\"at\":\"0\",\"name\":\"x\",\"op\":\"branch\"}") ≡ Some (branch (codes "x") (Some (codes "0")))
unfolding lines_on_literals
line_15 = refl

line_16 : reading (codes "{\"op\":\"stored\",\"of\":\"1\"}") ≡ Some (stored (codes "1"))
unfolding lines_on_literals
line_16 = refl

line_17 : reading (codes "{\"op\":\"plan\",\"to\":\"1\"}") ≡ Some (plan (codes "1"))
unfolding lines_on_literals
line_17 = refl

line_18 : reading ([]) ≡ None
unfolding lines_on_literals
line_18 = refl

line_19 : reading (codes " ") ≡ None
unfolding lines_on_literals
line_19 = refl

line_20 : reading (codes "{}") ≡ None
unfolding lines_on_literals
line_20 = refl

line_21 : reading (codes "[]") ≡ None
unfolding lines_on_literals
line_21 = refl

line_22 : reading (codes "null") ≡ None
unfolding lines_on_literals
line_22 = refl

line_23 : reading (codes "1") ≡ None
unfolding lines_on_literals
line_23 = refl

line_24 : reading (codes "\"log\"") ≡ None
unfolding lines_on_literals
line_24 = refl

line_25 : reading (codes "{\"op\":\"Log\"}") ≡ None
unfolding lines_on_literals
line_25 = refl

line_26 : reading (codes "{\"op\":\"log \"}") ≡ None
unfolding lines_on_literals
line_26 = refl

line_27 : reading (codes "{\"op\":\"fly\"}") ≡ None
unfolding lines_on_literals
line_27 = refl

line_28 : reading (codes "{\"op\":1}") ≡ None
unfolding lines_on_literals
line_28 = refl

line_29 : reading (codes "{\"op\":null}") ≡ None
unfolding lines_on_literals
line_29 = refl

line_30 : reading (codes "{\"op\":[\"log\"]}") ≡ None
unfolding lines_on_literals
line_30 = refl

line_31 : reading (codes "{\"Op\":\"log\"}") ≡ None
unfolding lines_on_literals
line_31 = refl

line_32 : reading (codes "{\"op\":\"log\",\"to\":\"1\"}") ≡ None
unfolding lines_on_literals
line_32 = refl

line_33 : reading (codes "{\"op\":\"status\",\"x\":null}") ≡ None
unfolding lines_on_literals
line_33 = refl

line_34 : reading (codes "{\"op\":\"inspect\",\"of\":\"\"}") ≡ None
unfolding lines_on_literals
line_34 = refl

line_35 : reading (codes "{\"op\":\"cell\"}") ≡ None
unfolding lines_on_literals
line_35 = refl

line_36 : reading (codes "{\"op\":\"cell\",\"text\":null}") ≡ None
unfolding lines_on_literals
line_36 = refl

line_37 : reading (codes "{\"op\":\"cell\",\"text\":1}") ≡ None
unfolding lines_on_literals
line_37 = refl

line_38 : reading (codes "{\"op\":\"cell\",\"texts\":[\"a\"]}") ≡ None
unfolding lines_on_literals
line_38 = refl

line_39 : reading (codes "{\"op\":\"cell\",\"text\":\"a\",\"texts\":[\"a\"]}") ≡ None
unfolding lines_on_literals
line_39 = refl

line_40 : reading (codes "{\"op\":\"cells\",\"text\":\"a\"}") ≡ None
unfolding lines_on_literals
line_40 = refl

line_41 : reading (codes "{\"op\":\"cells\",\"texts\":[]}") ≡ None
unfolding lines_on_literals
line_41 = refl

line_42 : reading (codes "{\"op\":\"cells\",\"texts\":\"a\"}") ≡ None
unfolding lines_on_literals
line_42 = refl

line_43 : reading (codes "{\"op\":\"cells\",\"texts\":[1]}") ≡ None
unfolding lines_on_literals
line_43 = refl

line_44 : reading (codes "{\"op\":\"cells\",\"texts\":[\"a\",[\"b\"]]}") ≡ None
unfolding lines_on_literals
line_44 = refl

line_45 : reading (codes "{\"op\":\"cells\",\"texts\":{\"a\":\"b\"}}") ≡ None
unfolding lines_on_literals
line_45 = refl

line_46 : reading (codes "{\"op\":\"checkout\"}") ≡ None
unfolding lines_on_literals
line_46 = refl

line_47 : reading (codes "{\"op\":\"checkout\",\"to\":1}") ≡ None
unfolding lines_on_literals
line_47 = refl

line_48 : reading (codes "{\"op\":\"checkout\",\"of\":\"1\"}") ≡ None
unfolding lines_on_literals
line_48 = refl

line_49 : reading (codes "{\"op\":\"checkout\",\"to\":\"1\",\"to2\":\"1\"}") ≡ None
unfolding lines_on_literals
line_49 = refl

line_50 : reading (codes "{\"op\":\"branch\"}") ≡ None
unfolding lines_on_literals
line_50 = refl

line_51 : reading (codes "{\"op\":\"branch\",\"at\":\"1\"}") ≡ None
unfolding lines_on_literals
line_51 = refl

line_52 : reading (codes "{\"op\":\"branch\",\"name\":1}") ≡ None
unfolding lines_on_literals
line_52 = refl

line_53 : reading (codes "{\"op\":\"branch\",\"name\":\"a\",\"at\":1}") ≡ None
unfolding lines_on_literals
line_53 = refl

line_54 : reading (codes "{\"op\":\"branch\",\"name\":\"a\",\"at\":null}") ≡ None
unfolding lines_on_literals
line_54 = refl

line_55 : reading (codes "{\"op\":\"branch\",\"name\":\"a\",\"at\":\"1\",\"x\":1}") ≡ None
unfolding lines_on_literals
line_55 = refl

line_56 : reading (codes "{\"op\":\"stored\",\"to\":\"1\"}") ≡ None
unfolding lines_on_literals
line_56 = refl

line_57 : reading (codes "{\"op\":\"stored\"}") ≡ None
unfolding lines_on_literals
line_57 = refl

line_58 : reading (codes "{\"op\":\"plan\",\"of\":\"1\"}") ≡ None
unfolding lines_on_literals
line_58 = refl

line_59 : reading (codes "{\"op\":\"plan\",\"to\":1}") ≡ None
unfolding lines_on_literals
line_59 = refl

line_60 : reading (codes "{\"op\":\"log\"") ≡ None
unfolding lines_on_literals
line_60 = refl

line_61 : reading (codes "\"op\":\"log\"}") ≡ None
unfolding lines_on_literals
line_61 = refl

line_62 : reading (codes "{'op':'log'}") ≡ None
unfolding lines_on_literals
line_62 = refl

line_63 : reading (codes "{\"op\":\"log\",}") ≡ None
unfolding lines_on_literals
line_63 = refl

line_64 : reading (codes "{\"op\":\"log\"}}") ≡ None
unfolding lines_on_literals
line_64 = refl

line_65 : reading (codes "{\"op\":\"log\"} x") ≡ None
unfolding lines_on_literals
line_65 = refl

line_66 : reading (codes "{\"op\" \"log\"}") ≡ None
unfolding lines_on_literals
line_66 = refl

line_67 : reading (codes "{op:\"log\"}") ≡ None
unfolding lines_on_literals
line_67 = refl

line_68 : reading (codes "{\"op\":\"log}") ≡ None
unfolding lines_on_literals
line_68 = refl

line_69 : reading (codes "{\"op\":\"cell\",\"text\":\"a\nb\"}") ≡ None
unfolding lines_on_literals
line_69 = refl

line_70 : reading (codes "{\"op\":\"cell\",\"text\":\"\\x\"}") ≡ None
unfolding lines_on_literals
line_70 = refl

line_71 : reading (codes "{\"op\":\"cell\",\"text\":\"\\ud800\"}") ≡ None
unfolding lines_on_literals
line_71 = refl

line_72 : reading (codes "// x") ≡ None
unfolding lines_on_literals
line_72 = refl

line_73 : reading (codes "{\"op\":\"cell\",\"text\":\"a\"} {\"op\":\"log\"}") ≡ None
unfolding lines_on_literals
line_73 = refl

line_74 : reading ((239 ∷ 187 ∷ 191 ∷ []) ++ codes "{\"op\":\"log\"}") ≡ None
unfolding lines_on_literals
line_74 = refl
