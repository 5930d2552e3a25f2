-- Texts of some values, as CPython tells where the languages agree, with the steps that are left: computed on the definition. Made by tools/rows/values.py.
use Rattle.std.proofs.Common.{◌≡◌, refl, [], ◌∷◌, true, false}
use Rattle.std.specs.Prelude.{pos, negsuc, codes}
use Rattle.std.specs.Fmt.{digits}
use Rattle.std.specs.Str.{chars}
use Rattle.kishu_meaning.specs.values.BuiltinNames.{builtin_names, class_names}
use Rattle.kishu_meaning.specs.values.Keys as p
use Rattle.kishu_meaning.specs.values.Values.{none, bool, integer, text, range, builtin, class, node, list, tuple, dict, object, exception}
use Rattle.kishu_meaning.specs.moments.Counting.{answer, too_deep, spent}
use Rattle.kishu_meaning.specs.comparing.Show.{repr_in, show_in, thrown_in}

show_1 : repr_in [] 0 none 200 ≡ answer (codes "None") 196
unfolding builtin_names class_names chars digits
show_1 = refl

show_2 : repr_in [] 0 (bool true) 200 ≡ answer (codes "True") 196
unfolding builtin_names class_names chars digits
show_2 = refl

show_3 : repr_in [] 0 (bool false) 200 ≡ answer (codes "False") 195
unfolding builtin_names class_names chars digits
show_3 = refl

show_4 : repr_in [] 0 (integer (pos 0)) 200 ≡ answer (codes "0") 199
unfolding builtin_names class_names chars digits
show_4 = refl

show_5 : repr_in [] 0 (integer (negsuc 11)) 200 ≡ answer (codes "-12") 197
unfolding builtin_names class_names chars digits
show_5 = refl

show_6 : repr_in [] 0 (integer (pos 170141183460469231731687303715884105727)) 200 ≡ answer (codes "170141183460469231731687303715884105727") 161
unfolding builtin_names class_names chars digits
show_6 = refl

show_7 : repr_in [] 0 (integer (negsuc 170141183460469231731687303715884105727)) 200 ≡ answer (codes "-170141183460469231731687303715884105728") 160
unfolding builtin_names class_names chars digits
show_7 = refl

show_8 : repr_in [] 0 (text []) 200 ≡ answer (codes "''") 198
unfolding builtin_names class_names chars digits
show_8 = refl

show_9 : repr_in [] 0 (text (codes "it's")) 200 ≡ answer (34 ∷ 105 ∷ 116 ∷ 39 ∷ 115 ∷ 34 ∷ []) 194
unfolding builtin_names class_names chars digits
show_9 = refl

show_10 : repr_in [] 0 (text (97 ∷ 9 ∷ 98 ∷ 10 ∷ 13 ∷ 92 ∷ [])) 200 ≡ answer (39 ∷ 97 ∷ 92 ∷ 116 ∷ 98 ∷ 92 ∷ 110 ∷ 92 ∷ 114 ∷ 92 ∷ 92 ∷ 39 ∷ []) 188
unfolding builtin_names class_names chars digits
show_10 = refl

show_11 : repr_in [] 0 (text (39 ∷ 34 ∷ [])) 200 ≡ answer (39 ∷ 92 ∷ 39 ∷ 34 ∷ 39 ∷ []) 195
unfolding builtin_names class_names chars digits
show_11 = refl

show_12 : repr_in [] 0 (text (0 ∷ 31 ∷ 127 ∷ [])) 200 ≡ answer (39 ∷ 92 ∷ 120 ∷ 48 ∷ 48 ∷ 92 ∷ 120 ∷ 49 ∷ 102 ∷ 92 ∷ 120 ∷ 55 ∷ 102 ∷ 39 ∷ []) 186
unfolding builtin_names class_names chars digits
show_12 = refl

show_13 : repr_in [] 0 (text (32 ∷ 33 ∷ 30 ∷ 126 ∷ [])) 200 ≡ answer (39 ∷ 32 ∷ 33 ∷ 92 ∷ 120 ∷ 49 ∷ 101 ∷ 126 ∷ 39 ∷ []) 191
unfolding builtin_names class_names chars digits
show_13 = refl

show_14 : repr_in [] 0 (text (233 ∷ 128512 ∷ [])) 200 ≡ answer (39 ∷ 233 ∷ 128512 ∷ 39 ∷ []) 196
unfolding builtin_names class_names chars digits
show_14 = refl

show_15 : repr_in [] 0 (text (128 ∷ 159 ∷ 160 ∷ 173 ∷ 8232 ∷ [])) 200 ≡ answer (39 ∷ 128 ∷ 159 ∷ 160 ∷ 173 ∷ 8232 ∷ 39 ∷ []) 193
unfolding builtin_names class_names chars digits
show_15 = refl

show_16 : repr_in [] 0 (range (pos 0) (pos 3) (pos 1)) 200 ≡ answer (codes "range(0, 3)") 189
unfolding builtin_names class_names chars digits
show_16 = refl

show_17 : repr_in [] 0 (range (pos 1) (negsuc 4) (negsuc 1)) 200 ≡ answer (codes "range(1, -5, -2)") 184
unfolding builtin_names class_names chars digits
show_17 = refl

show_18 : repr_in [] 0 (builtin 10) 200 ≡ answer (codes "<built-in function print>") 175
unfolding builtin_names class_names chars digits
show_18 = refl

show_19 : repr_in [] 0 (class 3) 200 ≡ answer (codes "<class 'list'>") 186
unfolding builtin_names class_names chars digits
show_19 = refl

show_20 : repr_in [] 0 (class 24) 200 ≡ answer (codes "<class 'ValueError'>") 180
unfolding builtin_names class_names chars digits
show_20 = refl

show_21 : repr_in [] 0 (class 5) 200 ≡ answer (codes "<class 'SimpleNamespace'>") 175
unfolding builtin_names class_names chars digits
show_21 = refl

show_22 : repr_in ((list []) ∷ []) 0 (node 0) 200 ≡ answer (codes "[]") 198
unfolding builtin_names class_names chars digits
show_22 = refl

show_23 : repr_in ((list ((integer (pos 1)) ∷ [])) ∷ []) 0 (node 0) 200 ≡ answer (codes "[1]") 197
unfolding builtin_names class_names chars digits
show_23 = refl

show_24 : repr_in ((list ((integer (pos 1)) ∷ (text (codes "x")) ∷ none ∷ [])) ∷ []) 0 (node 0) 200 ≡ answer (codes "[1, 'x', None]") 186
unfolding builtin_names class_names chars digits
show_24 = refl

show_25 : repr_in ((tuple []) ∷ []) 0 (node 0) 200 ≡ answer (codes "()") 198
unfolding builtin_names class_names chars digits
show_25 = refl

show_26 : repr_in ((tuple ((integer (pos 1)) ∷ [])) ∷ []) 0 (node 0) 200 ≡ answer (codes "(1,)") 196
unfolding builtin_names class_names chars digits
show_26 = refl

show_27 : repr_in ((tuple ((integer (pos 1)) ∷ (integer (pos 2)) ∷ [])) ∷ []) 0 (node 0) 200 ≡ answer (codes "(1, 2)") 194
unfolding builtin_names class_names chars digits
show_27 = refl

show_28 : repr_in ((tuple ((node 1) ∷ [])) ∷ (tuple []) ∷ []) 0 (node 0) 200 ≡ answer (codes "((),)") 195
unfolding builtin_names class_names chars digits
show_28 = refl

show_29 : repr_in ((dict []) ∷ []) 0 (node 0) 200 ≡ answer (codes "{}") 198
unfolding builtin_names class_names chars digits
show_29 = refl

show_30 : repr_in ((dict (((p.single (p.integer (pos 1))), (text (codes "a"))) ∷ [])) ∷ []) 0 (node 0) 200 ≡ answer (codes "{1: 'a'}") 192
unfolding builtin_names class_names chars digits
show_30 = refl

show_31 : repr_in ((dict (((p.single (p.text (codes "a"))), (integer (pos 1))) ∷ ((p.tuple ((p.integer (pos 1)) ∷ (p.text (codes "b")) ∷ [])), (node 1)) ∷ ((p.tuple (p.none ∷ [])), (node 2)) ∷ ((p.tuple []), (bool true)) ∷ [])) ∷ (list ((integer (pos 2)) ∷ [])) ∷ (tuple []) ∷ []) 0 (node 0) 200 ≡ answer (codes "{'a': 1, (1, 'b'): [2], (None,): (), (): True}") 154
unfolding builtin_names class_names chars digits
show_31 = refl

show_32 : repr_in ((dict (((p.single (p.bool true)), (node 1)) ∷ [])) ∷ (dict []) ∷ []) 0 (node 0) 200 ≡ answer (codes "{True: {}}") 190
unfolding builtin_names class_names chars digits
show_32 = refl

show_33 : repr_in ((object []) ∷ []) 0 (node 0) 200 ≡ answer (codes "namespace()") 189
unfolding builtin_names class_names chars digits
show_33 = refl

show_34 : repr_in ((object (((codes "a"), (integer (pos 1))) ∷ [])) ∷ []) 0 (node 0) 200 ≡ answer (codes "namespace(a=1)") 186
unfolding builtin_names class_names chars digits
show_34 = refl

show_35 : repr_in ((object (((codes "b"), (text (codes "x"))) ∷ ((codes "a"), (node 1)) ∷ [])) ∷ (list []) ∷ []) 0 (node 0) 200 ≡ answer (codes "namespace(b='x', a=[])") 178
unfolding builtin_names class_names chars digits
show_35 = refl

show_36 : repr_in ((exception 24 []) ∷ []) 0 (node 0) 200 ≡ answer (codes "ValueError()") 188
unfolding builtin_names class_names chars digits
show_36 = refl

show_37 : repr_in ((exception 16 ((text (codes "k")) ∷ [])) ∷ []) 0 (node 0) 200 ≡ answer (codes "KeyError('k')") 187
unfolding builtin_names class_names chars digits
show_37 = refl

show_38 : repr_in ((exception 24 ((text (codes "x")) ∷ (integer (pos 1)) ∷ [])) ∷ []) 0 (node 0) 200 ≡ answer (codes "ValueError('x', 1)") 182
unfolding builtin_names class_names chars digits
show_38 = refl

show_39 : repr_in ((exception 24 ((node 1) ∷ [])) ∷ (list ((integer (pos 1)) ∷ [])) ∷ []) 0 (node 0) 200 ≡ answer (codes "ValueError([1])") 185
unfolding builtin_names class_names chars digits
show_39 = refl

show_40 : repr_in ((list ((node 1) ∷ (node 2) ∷ [])) ∷ (exception 16 ((text (codes "k")) ∷ [])) ∷ (exception 24 ((node 3) ∷ [])) ∷ (exception 24 ((text (codes "x")) ∷ [])) ∷ []) 0 (node 0) 200 ≡ answer (codes "[KeyError('k'), ValueError(ValueError('x'))]") 156
unfolding builtin_names class_names chars digits
show_40 = refl

show_41 : repr_in ((list ((node 1) ∷ (node 1) ∷ [])) ∷ (list ((integer (pos 1)) ∷ [])) ∷ []) 0 (node 0) 200 ≡ answer (codes "[[1], [1]]") 190
unfolding builtin_names class_names chars digits
show_41 = refl

show_42 : repr_in ((tuple ((node 1) ∷ (node 2) ∷ [])) ∷ (list ((integer (pos 1)) ∷ [])) ∷ (dict (((p.single (p.integer (pos 1))), (node 1)) ∷ [])) ∷ []) 0 (node 0) 200 ≡ answer (codes "([1], {1: [1]})") 185
unfolding builtin_names class_names chars digits
show_42 = refl

show_43 : repr_in ((list ((node 0) ∷ [])) ∷ []) 0 (node 0) 200 ≡ answer (codes "[[...]]") 193
unfolding builtin_names class_names chars digits
show_43 = refl

show_44 : repr_in ((tuple ((node 1) ∷ [])) ∷ (list ((node 0) ∷ [])) ∷ []) 0 (node 0) 200 ≡ answer (codes "([(...)],)") 190
unfolding builtin_names class_names chars digits
show_44 = refl

show_45 : repr_in ((list ((node 1) ∷ [])) ∷ (tuple ((node 0) ∷ [])) ∷ []) 0 (node 0) 200 ≡ answer (codes "[([...],)]") 190
unfolding builtin_names class_names chars digits
show_45 = refl

show_46 : repr_in ((dict (((p.single (p.text (codes "k"))), (node 0)) ∷ [])) ∷ []) 0 (node 0) 200 ≡ answer (codes "{'k': {...}}") 188
unfolding builtin_names class_names chars digits
show_46 = refl

show_47 : repr_in ((object (((codes "a"), (integer (pos 1))) ∷ ((codes "b"), (node 1)) ∷ [])) ∷ (list ((node 0) ∷ [])) ∷ []) 0 (node 0) 200 ≡ answer (codes "namespace(a=1, b=[namespace(...)])") 166
unfolding builtin_names class_names chars digits
show_47 = refl

show_48 : repr_in ((list ((node 1) ∷ (node 1) ∷ [])) ∷ (list ((node 1) ∷ [])) ∷ []) 0 (node 0) 200 ≡ answer (codes "[[[...]], [[...]]]") 182
unfolding builtin_names class_names chars digits
show_48 = refl

show_49 : repr_in ((list ((node 1) ∷ [])) ∷ (list ((node 0) ∷ [])) ∷ []) 0 (node 0) 200 ≡ answer (codes "[[[...]]]") 191
unfolding builtin_names class_names chars digits
show_49 = refl

show_50 : repr_in ((dict (((p.single (p.integer (pos 1))), (node 1)) ∷ ((p.single (p.integer (pos 2))), (node 2)) ∷ [])) ∷ (list ((node 2) ∷ [])) ∷ (list ((node 1) ∷ [])) ∷ []) 0 (node 0) 200 ≡ answer (codes "{1: [[[...]]], 2: [[[...]]]}") 172
unfolding builtin_names class_names chars digits
show_50 = refl

show_51 : repr_in ((exception 24 ((node 1) ∷ [])) ∷ (list ((node 0) ∷ [])) ∷ []) 0 (node 0) 200 ≡ answer (codes "ValueError([ValueError(...)])") 171
unfolding builtin_names class_names chars digits
show_51 = refl

show_52 : repr_in ((list ((node 1) ∷ [])) ∷ (exception 24 ((node 0) ∷ [])) ∷ []) 0 (node 0) 200 ≡ answer (codes "[ValueError([...])]") 181
unfolding builtin_names class_names chars digits
show_52 = refl

show_53 : repr_in ((exception 16 ((node 1) ∷ (integer (pos 1)) ∷ [])) ∷ (list ((node 0) ∷ [])) ∷ []) 0 (node 0) 200 ≡ answer (codes "KeyError([KeyError(...)], 1)") 172
unfolding builtin_names class_names chars digits
show_53 = refl

show_54 : repr_in ((list ((integer (pos 1)) ∷ (text (codes "ab")) ∷ [])) ∷ []) 0 (node 0) 9 ≡ answer (codes "[1, 'ab']") 0
unfolding builtin_names class_names chars digits
show_54 = refl

show_55 : repr_in ((list ((integer (pos 1)) ∷ (text (codes "ab")) ∷ [])) ∷ []) 0 (node 0) 8 ≡ spent 0
unfolding builtin_names class_names chars digits
show_55 = refl

show_56 : repr_in ((list ((integer (pos 1)) ∷ (text (codes "ab")) ∷ [])) ∷ []) 0 (node 0) 0 ≡ spent 0
unfolding builtin_names class_names chars digits
show_56 = refl

show_57 : repr_in [] 0 (integer (pos 12345)) 4 ≡ spent 0
unfolding builtin_names class_names chars digits
show_57 = refl

show_58 : repr_in ((list ((node 1) ∷ [])) ∷ (list ((node 2) ∷ [])) ∷ (list ((integer (pos 1)) ∷ [])) ∷ []) 998 (node 0) 200 ≡ answer (codes "[[[1]]]") 193
unfolding builtin_names class_names chars digits
show_58 = refl

show_59 : repr_in ((list ((node 1) ∷ [])) ∷ (list ((node 2) ∷ [])) ∷ (list ((node 3) ∷ [])) ∷ (list ((integer (pos 1)) ∷ [])) ∷ []) 998 (node 0) 200 ≡ too_deep 197
unfolding builtin_names class_names chars digits
show_59 = refl

show_60 : repr_in ((list ((integer (pos 1)) ∷ (node 1) ∷ [])) ∷ (list ((integer (pos 2)) ∷ (node 2) ∷ [])) ∷ (list ((integer (pos 3)) ∷ (node 3) ∷ [])) ∷ (list ((integer (pos 4)) ∷ [])) ∷ []) 998 (node 0) 200 ≡ too_deep 188
unfolding builtin_names class_names chars digits
show_60 = refl

show_61 : repr_in ((list ((integer (pos 1)) ∷ [])) ∷ []) 1000 (node 0) 200 ≡ answer (codes "[1]") 197
unfolding builtin_names class_names chars digits
show_61 = refl

show_62 : repr_in ((list ((node 1) ∷ [])) ∷ (list []) ∷ []) 1000 (node 0) 200 ≡ too_deep 199
unfolding builtin_names class_names chars digits
show_62 = refl

show_63 : repr_in ((list ((node 0) ∷ [])) ∷ []) 1000 (node 0) 200 ≡ too_deep 199
unfolding builtin_names class_names chars digits
show_63 = refl

show_64 : repr_in ((list ((node 1) ∷ (node 2) ∷ [])) ∷ (list ((integer (pos 1)) ∷ [])) ∷ (list ((node 3) ∷ [])) ∷ (list ((node 4) ∷ [])) ∷ (list ((integer (pos 1)) ∷ [])) ∷ []) 999 (node 0) 3 ≡ spent 0
unfolding builtin_names class_names chars digits
show_64 = refl

show_65 : repr_in ((dict (((p.single (p.integer (pos 1))), (node 1)) ∷ [])) ∷ (dict (((p.single (p.integer (pos 2))), (node 2)) ∷ [])) ∷ (dict []) ∷ []) 999 (node 0) 200 ≡ too_deep 192
unfolding builtin_names class_names chars digits
show_65 = refl

show_66 : repr_in ((object (((codes "a"), (node 1)) ∷ [])) ∷ (object []) ∷ []) 1000 (node 0) 200 ≡ too_deep 188
unfolding builtin_names class_names chars digits
show_66 = refl

show_67 : repr_in ((exception 24 ((node 1) ∷ [])) ∷ (tuple []) ∷ []) 1000 (node 0) 200 ≡ too_deep 189
unfolding builtin_names class_names chars digits
show_67 = refl

show_68 : show_in [] 0 none 200 ≡ answer (codes "None") 196
unfolding builtin_names class_names chars digits
show_68 = refl

show_69 : show_in [] 0 (text (codes "it's")) 200 ≡ answer (codes "it's") 196
unfolding builtin_names class_names chars digits
show_69 = refl

show_70 : show_in [] 0 (text []) 200 ≡ answer [] 200
unfolding builtin_names class_names chars digits
show_70 = refl

show_71 : show_in [] 0 (integer (pos 7)) 200 ≡ answer (codes "7") 199
unfolding builtin_names class_names chars digits
show_71 = refl

show_72 : show_in ((list ((text (codes "a")) ∷ [])) ∷ []) 0 (node 0) 200 ≡ answer (codes "['a']") 195
unfolding builtin_names class_names chars digits
show_72 = refl

show_73 : show_in [] 0 (text (codes "abc")) 2 ≡ spent 0
unfolding builtin_names class_names chars digits
show_73 = refl

show_74 : show_in [] 0 (range (pos 0) (pos 9) (pos 3)) 200 ≡ answer (codes "range(0, 9, 3)") 186
unfolding builtin_names class_names chars digits
show_74 = refl

show_75 : show_in [] 0 (class 2) 200 ≡ answer (codes "<class 'int'>") 187
unfolding builtin_names class_names chars digits
show_75 = refl

show_76 : show_in ((object (((codes "a"), (integer (pos 1))) ∷ ((codes "b"), (node 1)) ∷ [])) ∷ (list ((node 0) ∷ [])) ∷ []) 0 (node 0) 200 ≡ answer (codes "namespace(a=1, b=[namespace(...)])") 166
unfolding builtin_names class_names chars digits
show_76 = refl

show_77 : show_in ((exception 24 []) ∷ []) 0 (node 0) 200 ≡ answer [] 200
unfolding builtin_names class_names chars digits
show_77 = refl

show_78 : show_in ((exception 24 ((text (codes "x")) ∷ [])) ∷ []) 0 (node 0) 200 ≡ answer (codes "x") 198
unfolding builtin_names class_names chars digits
show_78 = refl

show_79 : show_in ((exception 16 ((text (codes "k")) ∷ [])) ∷ []) 0 (node 0) 200 ≡ answer (codes "'k'") 196
unfolding builtin_names class_names chars digits
show_79 = refl

show_80 : show_in ((exception 16 []) ∷ []) 0 (node 0) 200 ≡ answer [] 200
unfolding builtin_names class_names chars digits
show_80 = refl

show_81 : show_in ((exception 16 ((text (codes "k")) ∷ (integer (pos 1)) ∷ [])) ∷ []) 0 (node 0) 200 ≡ answer (codes "('k', 1)") 192
unfolding builtin_names class_names chars digits
show_81 = refl

show_82 : show_in ((exception 24 ((text (codes "x")) ∷ (integer (pos 1)) ∷ [])) ∷ []) 0 (node 0) 200 ≡ answer (codes "('x', 1)") 192
unfolding builtin_names class_names chars digits
show_82 = refl

show_83 : show_in ((exception 24 ((node 1) ∷ [])) ∷ (tuple ((text (codes "x")) ∷ [])) ∷ []) 0 (node 0) 200 ≡ answer (codes "('x',)") 193
unfolding builtin_names class_names chars digits
show_83 = refl

show_84 : show_in ((exception 16 ((node 1) ∷ [])) ∷ (tuple ((text (codes "x")) ∷ [])) ∷ []) 0 (node 0) 200 ≡ answer (codes "('x',)") 193
unfolding builtin_names class_names chars digits
show_84 = refl

show_85 : show_in ((exception 24 ((node 1) ∷ [])) ∷ (exception 16 ((text (codes "k")) ∷ [])) ∷ []) 0 (node 0) 200 ≡ answer (codes "'k'") 195
unfolding builtin_names class_names chars digits
show_85 = refl

show_86 : show_in ((exception 24 ((node 1) ∷ [])) ∷ (exception 24 ((node 2) ∷ [])) ∷ (exception 24 []) ∷ []) 0 (node 0) 200 ≡ answer [] 198
unfolding builtin_names class_names chars digits
show_86 = refl

show_87 : show_in ((list ((node 1) ∷ [])) ∷ (exception 24 ((text (codes "x")) ∷ [])) ∷ []) 0 (node 0) 200 ≡ answer (codes "[ValueError('x')]") 183
unfolding builtin_names class_names chars digits
show_87 = refl

show_88 : show_in ((exception 24 ((text (codes "x")) ∷ [])) ∷ []) 0 (node 0) 1 ≡ spent 0
unfolding builtin_names class_names chars digits
show_88 = refl

show_89 : show_in ((exception 24 ((text (codes "x")) ∷ [])) ∷ []) 0 (node 0) 0 ≡ spent 0
unfolding builtin_names class_names chars digits
show_89 = refl

show_90 : show_in ((exception 24 ((text []) ∷ [])) ∷ []) 0 (node 0) 0 ≡ spent 0
unfolding builtin_names class_names chars digits
show_90 = refl

show_91 : show_in ((exception 24 ((node 1) ∷ [])) ∷ (list ((node 0) ∷ [])) ∷ []) 0 (node 0) 200 ≡ answer (codes "[ValueError([...])]") 180
unfolding builtin_names class_names chars digits
show_91 = refl

show_92 : show_in ((exception 16 ((node 1) ∷ (integer (pos 1)) ∷ [])) ∷ (list ((node 0) ∷ [])) ∷ []) 0 (node 0) 200 ≡ answer (codes "([KeyError([...], 1)], 1)") 175
unfolding builtin_names class_names chars digits
show_92 = refl

show_93 : show_in ((list ((node 0) ∷ [])) ∷ []) 0 (node 0) 200 ≡ answer (codes "[[...]]") 193
unfolding builtin_names class_names chars digits
show_93 = refl

show_94 : show_in ((tuple ((node 1) ∷ [])) ∷ (list ((node 0) ∷ [])) ∷ []) 0 (node 0) 200 ≡ answer (codes "([(...)],)") 190
unfolding builtin_names class_names chars digits
show_94 = refl

show_95 : show_in ((dict (((p.single (p.text (codes "k"))), (node 0)) ∷ [])) ∷ []) 0 (node 0) 200 ≡ answer (codes "{'k': {...}}") 188
unfolding builtin_names class_names chars digits
show_95 = refl

show_96 : show_in ((list ((integer (pos 1)) ∷ [])) ∷ []) 1000 (node 0) 200 ≡ answer (codes "[1]") 197
unfolding builtin_names class_names chars digits
show_96 = refl

show_97 : show_in ((list ((node 1) ∷ [])) ∷ (list []) ∷ []) 1000 (node 0) 200 ≡ too_deep 199
unfolding builtin_names class_names chars digits
show_97 = refl

show_98 : show_in ((list ((node 1) ∷ [])) ∷ (list []) ∷ []) 999 (node 0) 200 ≡ answer (codes "[[]]") 196
unfolding builtin_names class_names chars digits
show_98 = refl

show_99 : show_in ((exception 24 ((node 1) ∷ [])) ∷ (exception 24 ((node 2) ∷ [])) ∷ (list []) ∷ []) 998 (node 0) 200 ≡ answer (codes "[]") 196
unfolding builtin_names class_names chars digits
show_99 = refl

show_100 : show_in ((exception 24 ((node 1) ∷ [])) ∷ (exception 24 ((node 2) ∷ [])) ∷ (list []) ∷ []) 999 (node 0) 200 ≡ too_deep 198
unfolding builtin_names class_names chars digits
show_100 = refl

show_101 : show_in ((exception 24 ((node 1) ∷ [])) ∷ (exception 24 ((text (codes "x")) ∷ [])) ∷ []) 999 (node 0) 200 ≡ answer (codes "x") 197
unfolding builtin_names class_names chars digits
show_101 = refl

show_102 : show_in ((exception 24 ((node 1) ∷ [])) ∷ (exception 24 ((text (codes "x")) ∷ [])) ∷ []) 1000 (node 0) 200 ≡ too_deep 199
unfolding builtin_names class_names chars digits
show_102 = refl

show_103 : show_in ((exception 24 ((integer (pos 1)) ∷ (node 1) ∷ [])) ∷ (list []) ∷ []) 1000 (node 0) 200 ≡ too_deep 196
unfolding builtin_names class_names chars digits
show_103 = refl

show_104 : show_in ((exception 24 ((node 1) ∷ (integer (pos 1)) ∷ [])) ∷ (list []) ∷ []) 1000 (node 0) 200 ≡ too_deep 199
unfolding builtin_names class_names chars digits
show_104 = refl

show_105 : thrown_in [] 0 24 [] 200 ≡ answer [] 200
unfolding builtin_names class_names chars digits
show_105 = refl

show_106 : thrown_in [] 0 24 ((text (codes "x")) ∷ []) 200 ≡ answer (codes "x") 198
unfolding builtin_names class_names chars digits
show_106 = refl

show_107 : thrown_in [] 0 16 ((text (codes "k")) ∷ []) 200 ≡ answer (codes "'k'") 196
unfolding builtin_names class_names chars digits
show_107 = refl

show_108 : thrown_in [] 0 24 ((text (codes "x")) ∷ (integer (pos 1)) ∷ []) 200 ≡ answer (codes "('x', 1)") 192
unfolding builtin_names class_names chars digits
show_108 = refl

show_109 : thrown_in ((list ((integer (pos 1)) ∷ [])) ∷ []) 0 16 ((node 0) ∷ []) 200 ≡ answer (codes "[1]") 196
unfolding builtin_names class_names chars digits
show_109 = refl

show_110 : thrown_in ((list []) ∷ []) 1000 16 ((node 0) ∷ []) 200 ≡ too_deep 199
unfolding builtin_names class_names chars digits
show_110 = refl

show_111 : thrown_in [] 0 24 ((text (codes "x")) ∷ []) 1 ≡ spent 0
unfolding builtin_names class_names chars digits
show_111 = refl
