-- Which words are names, reserved words, builtin functions and classes, as CPython tells of ASCII words: computed on the definition. Made by tools/rows/text_rows.py.
use Rattle.std.proofs.Common.{◌≡◌, refl, [], ◌∷◌, true, false, ◌++◌, replicate}
use Rattle.std.specs.Prelude.{codes, Some, None}
use Rattle.kishu_language.specs.tokens.Names.{is_name, is_reserved_word, place_among, reserved_words, is_letter, is_digit, is_word_char}
use Rattle.kishu_meaning.specs.values.BuiltinNames.{builtin_names, class_names}

name_1 : is_name (codes "a") ≡ true
unfolding reserved_words builtin_names class_names
name_1 = refl

name_2 : is_name (codes "_") ≡ true
unfolding reserved_words builtin_names class_names
name_2 = refl

name_3 : is_name (codes "__") ≡ true
unfolding reserved_words builtin_names class_names
name_3 = refl

name_4 : is_name (codes "A1") ≡ true
unfolding reserved_words builtin_names class_names
name_4 = refl

name_5 : is_name (codes "_1") ≡ true
unfolding reserved_words builtin_names class_names
name_5 = refl

name_6 : is_name (codes "a_b") ≡ true
unfolding reserved_words builtin_names class_names
name_6 = refl

name_7 : is_name (codes "Zz9") ≡ true
unfolding reserved_words builtin_names class_names
name_7 = refl

name_8 : is_name (codes "print") ≡ true
unfolding reserved_words builtin_names class_names
name_8 = refl

name_9 : is_name (codes "list") ≡ true
unfolding reserved_words builtin_names class_names
name_9 = refl

name_10 : is_name (codes "match") ≡ true
unfolding reserved_words builtin_names class_names
name_10 = refl

name_11 : is_name (codes "case") ≡ true
unfolding reserved_words builtin_names class_names
name_11 = refl

name_12 : is_name (codes "type") ≡ true
unfolding reserved_words builtin_names class_names
name_12 = refl

name_13 : is_name (codes "nonlocals") ≡ true
unfolding reserved_words builtin_names class_names
name_13 = refl

name_14 : is_name (codes "none") ≡ true
unfolding reserved_words builtin_names class_names
name_14 = refl

name_15 : is_name (codes "true") ≡ true
unfolding reserved_words builtin_names class_names
name_15 = refl

name_16 : is_name (codes "IF") ≡ true
unfolding reserved_words builtin_names class_names
name_16 = refl

name_17 : is_name (codes "xxxxxxxxxxxxxxxxxxxx") ≡ true
unfolding reserved_words builtin_names class_names
name_17 = refl

name_18 : is_name [] ≡ false
unfolding reserved_words builtin_names class_names
name_18 = refl

name_19 : is_name (codes "1") ≡ false
unfolding reserved_words builtin_names class_names
name_19 = refl

name_20 : is_name (codes "1a") ≡ false
unfolding reserved_words builtin_names class_names
name_20 = refl

name_21 : is_name (codes "9_") ≡ false
unfolding reserved_words builtin_names class_names
name_21 = refl

name_22 : is_name (codes "a b") ≡ false
unfolding reserved_words builtin_names class_names
name_22 = refl

name_23 : is_name (codes "a-b") ≡ false
unfolding reserved_words builtin_names class_names
name_23 = refl

name_24 : is_name (codes "a.b") ≡ false
unfolding reserved_words builtin_names class_names
name_24 = refl

name_25 : is_name (codes " a") ≡ false
unfolding reserved_words builtin_names class_names
name_25 = refl

name_26 : is_name (codes "a ") ≡ false
unfolding reserved_words builtin_names class_names
name_26 = refl

name_27 : is_name (codes "a\n") ≡ false
unfolding reserved_words builtin_names class_names
name_27 = refl

name_28 : is_name (codes "$") ≡ false
unfolding reserved_words builtin_names class_names
name_28 = refl

name_29 : is_name (codes "a$") ≡ false
unfolding reserved_words builtin_names class_names
name_29 = refl

name_30 : is_name (codes "a@") ≡ false
unfolding reserved_words builtin_names class_names
name_30 = refl

name_31 : is_name (codes "a[") ≡ false
unfolding reserved_words builtin_names class_names
name_31 = refl

name_32 : is_name (codes "`") ≡ false
unfolding reserved_words builtin_names class_names
name_32 = refl

name_33 : is_name (codes "{") ≡ false
unfolding reserved_words builtin_names class_names
name_33 = refl

name_34 : is_name (codes "a/") ≡ false
unfolding reserved_words builtin_names class_names
name_34 = refl

name_35 : is_name (codes "a:") ≡ false
unfolding reserved_words builtin_names class_names
name_35 = refl

name_36 : is_name (233 ∷ []) ≡ false
unfolding reserved_words builtin_names class_names
name_36 = refl

name_37 : is_name (97 ∷ 233 ∷ []) ≡ false
unfolding reserved_words builtin_names class_names
name_37 = refl

name_38 : is_name (170 ∷ []) ≡ false
unfolding reserved_words builtin_names class_names
name_38 = refl

name_39 : is_name (97 ∷ 178 ∷ []) ≡ false
unfolding reserved_words builtin_names class_names
name_39 = refl

name_40 : is_name (937 ∷ []) ≡ false
unfolding reserved_words builtin_names class_names
name_40 = refl

name_41 : is_name (codes "False") ≡ false
unfolding reserved_words builtin_names class_names
name_41 = refl

name_42 : is_name (codes "None") ≡ false
unfolding reserved_words builtin_names class_names
name_42 = refl

name_43 : is_name (codes "True") ≡ false
unfolding reserved_words builtin_names class_names
name_43 = refl

name_44 : is_name (codes "and") ≡ false
unfolding reserved_words builtin_names class_names
name_44 = refl

name_45 : is_name (codes "as") ≡ false
unfolding reserved_words builtin_names class_names
name_45 = refl

name_46 : is_name (codes "assert") ≡ false
unfolding reserved_words builtin_names class_names
name_46 = refl

name_47 : is_name (codes "async") ≡ false
unfolding reserved_words builtin_names class_names
name_47 = refl

name_48 : is_name (codes "await") ≡ false
unfolding reserved_words builtin_names class_names
name_48 = refl

name_49 : is_name (codes "break") ≡ false
unfolding reserved_words builtin_names class_names
name_49 = refl

name_50 : is_name (codes "class") ≡ false
unfolding reserved_words builtin_names class_names
name_50 = refl

name_51 : is_name (codes "continue") ≡ false
unfolding reserved_words builtin_names class_names
name_51 = refl

name_52 : is_name (codes "def") ≡ false
unfolding reserved_words builtin_names class_names
name_52 = refl

name_53 : is_name (codes "del") ≡ false
unfolding reserved_words builtin_names class_names
name_53 = refl

name_54 : is_name (codes "elif") ≡ false
unfolding reserved_words builtin_names class_names
name_54 = refl

name_55 : is_name (codes "else") ≡ false
unfolding reserved_words builtin_names class_names
name_55 = refl

name_56 : is_name (codes "except") ≡ false
unfolding reserved_words builtin_names class_names
name_56 = refl

name_57 : is_name (codes "finally") ≡ false
unfolding reserved_words builtin_names class_names
name_57 = refl

name_58 : is_name (codes "for") ≡ false
unfolding reserved_words builtin_names class_names
name_58 = refl

name_59 : is_name (codes "from") ≡ false
unfolding reserved_words builtin_names class_names
name_59 = refl

name_60 : is_name (codes "global") ≡ false
unfolding reserved_words builtin_names class_names
name_60 = refl

name_61 : is_name (codes "if") ≡ false
unfolding reserved_words builtin_names class_names
name_61 = refl

name_62 : is_name (codes "import") ≡ false
unfolding reserved_words builtin_names class_names
name_62 = refl

name_63 : is_name (codes "in") ≡ false
unfolding reserved_words builtin_names class_names
name_63 = refl

name_64 : is_name (codes "is") ≡ false
unfolding reserved_words builtin_names class_names
name_64 = refl

name_65 : is_name (codes "lambda") ≡ false
unfolding reserved_words builtin_names class_names
name_65 = refl

name_66 : is_name (codes "nonlocal") ≡ false
unfolding reserved_words builtin_names class_names
name_66 = refl

name_67 : is_name (codes "not") ≡ false
unfolding reserved_words builtin_names class_names
name_67 = refl

name_68 : is_name (codes "or") ≡ false
unfolding reserved_words builtin_names class_names
name_68 = refl

name_69 : is_name (codes "pass") ≡ false
unfolding reserved_words builtin_names class_names
name_69 = refl

name_70 : is_name (codes "raise") ≡ false
unfolding reserved_words builtin_names class_names
name_70 = refl

name_71 : is_name (codes "return") ≡ false
unfolding reserved_words builtin_names class_names
name_71 = refl

name_72 : is_name (codes "try") ≡ false
unfolding reserved_words builtin_names class_names
name_72 = refl

name_73 : is_name (codes "while") ≡ false
unfolding reserved_words builtin_names class_names
name_73 = refl

name_74 : is_name (codes "with") ≡ false
unfolding reserved_words builtin_names class_names
name_74 = refl

name_75 : is_name (codes "yield") ≡ false
unfolding reserved_words builtin_names class_names
name_75 = refl

name_76 : is_name (replicate 254 97) ≡ true
unfolding reserved_words builtin_names class_names
name_76 = refl

name_77 : is_name (replicate 255 97) ≡ true
unfolding reserved_words builtin_names class_names
name_77 = refl

name_78 : is_name (replicate 256 97) ≡ false
unfolding reserved_words builtin_names class_names
name_78 = refl

name_79 : is_name (replicate 257 97) ≡ false
unfolding reserved_words builtin_names class_names
name_79 = refl

name_80 : is_name (codes "if" ++ replicate 1 95) ≡ true
unfolding reserved_words builtin_names class_names
name_80 = refl

name_81 : is_name (codes "if" ++ replicate 253 95) ≡ true
unfolding reserved_words builtin_names class_names
name_81 = refl

name_82 : is_name (codes "if" ++ replicate 254 95) ≡ false
unfolding reserved_words builtin_names class_names
name_82 = refl

name_83 : is_reserved_word (codes "if") ≡ true
unfolding reserved_words builtin_names class_names
name_83 = refl

name_84 : is_reserved_word (codes "If") ≡ false
unfolding reserved_words builtin_names class_names
name_84 = refl

name_85 : is_reserved_word (codes "print") ≡ false
unfolding reserved_words builtin_names class_names
name_85 = refl

name_86 : is_reserved_word (codes "match") ≡ false
unfolding reserved_words builtin_names class_names
name_86 = refl

name_87 : is_reserved_word (codes "None") ≡ true
unfolding reserved_words builtin_names class_names
name_87 = refl

name_88 : is_reserved_word (codes "none") ≡ false
unfolding reserved_words builtin_names class_names
name_88 = refl

name_89 : is_reserved_word (codes "async") ≡ true
unfolding reserved_words builtin_names class_names
name_89 = refl

name_90 : is_reserved_word (codes "self") ≡ false
unfolding reserved_words builtin_names class_names
name_90 = refl

name_91 : is_reserved_word (codes "nonlocal") ≡ true
unfolding reserved_words builtin_names class_names
name_91 = refl

name_92 : is_reserved_word (codes "exec") ≡ false
unfolding reserved_words builtin_names class_names
name_92 = refl

name_93 : place_among (codes "abs") builtin_names ≡ Some 0
unfolding reserved_words builtin_names class_names
name_93 = refl

name_94 : place_among (codes "all") builtin_names ≡ Some 1
unfolding reserved_words builtin_names class_names
name_94 = refl

name_95 : place_among (codes "any") builtin_names ≡ Some 2
unfolding reserved_words builtin_names class_names
name_95 = refl

name_96 : place_among (codes "chr") builtin_names ≡ Some 3
unfolding reserved_words builtin_names class_names
name_96 = refl

name_97 : place_among (codes "divmod") builtin_names ≡ Some 4
unfolding reserved_words builtin_names class_names
name_97 = refl

name_98 : place_among (codes "isinstance") builtin_names ≡ Some 5
unfolding reserved_words builtin_names class_names
name_98 = refl

name_99 : place_among (codes "len") builtin_names ≡ Some 6
unfolding reserved_words builtin_names class_names
name_99 = refl

name_100 : place_among (codes "max") builtin_names ≡ Some 7
unfolding reserved_words builtin_names class_names
name_100 = refl

name_101 : place_among (codes "min") builtin_names ≡ Some 8
unfolding reserved_words builtin_names class_names
name_101 = refl

name_102 : place_among (codes "ord") builtin_names ≡ Some 9
unfolding reserved_words builtin_names class_names
name_102 = refl

name_103 : place_among (codes "print") builtin_names ≡ Some 10
unfolding reserved_words builtin_names class_names
name_103 = refl

name_104 : place_among (codes "repr") builtin_names ≡ Some 11
unfolding reserved_words builtin_names class_names
name_104 = refl

name_105 : place_among (codes "sorted") builtin_names ≡ Some 12
unfolding reserved_words builtin_names class_names
name_105 = refl

name_106 : place_among (codes "sum") builtin_names ≡ Some 13
unfolding reserved_words builtin_names class_names
name_106 = refl

name_107 : place_among (codes "open") builtin_names ≡ None
unfolding reserved_words builtin_names class_names
name_107 = refl

name_108 : place_among (codes "input") builtin_names ≡ None
unfolding reserved_words builtin_names class_names
name_108 = refl

name_109 : place_among [] builtin_names ≡ None
unfolding reserved_words builtin_names class_names
name_109 = refl

name_110 : place_among (codes "bool") class_names ≡ Some 0
unfolding reserved_words builtin_names class_names
name_110 = refl

name_111 : place_among (codes "dict") class_names ≡ Some 1
unfolding reserved_words builtin_names class_names
name_111 = refl

name_112 : place_among (codes "int") class_names ≡ Some 2
unfolding reserved_words builtin_names class_names
name_112 = refl

name_113 : place_among (codes "list") class_names ≡ Some 3
unfolding reserved_words builtin_names class_names
name_113 = refl

name_114 : place_among (codes "range") class_names ≡ Some 4
unfolding reserved_words builtin_names class_names
name_114 = refl

name_115 : place_among (codes "SimpleNamespace") class_names ≡ Some 5
unfolding reserved_words builtin_names class_names
name_115 = refl

name_116 : place_among (codes "str") class_names ≡ Some 6
unfolding reserved_words builtin_names class_names
name_116 = refl

name_117 : place_among (codes "tuple") class_names ≡ Some 7
unfolding reserved_words builtin_names class_names
name_117 = refl

name_118 : place_among (codes "Exception") class_names ≡ Some 8
unfolding reserved_words builtin_names class_names
name_118 = refl

name_119 : place_among (codes "ArithmeticError") class_names ≡ Some 9
unfolding reserved_words builtin_names class_names
name_119 = refl

name_120 : place_among (codes "OverflowError") class_names ≡ Some 10
unfolding reserved_words builtin_names class_names
name_120 = refl

name_121 : place_among (codes "ZeroDivisionError") class_names ≡ Some 11
unfolding reserved_words builtin_names class_names
name_121 = refl

name_122 : place_among (codes "AssertionError") class_names ≡ Some 12
unfolding reserved_words builtin_names class_names
name_122 = refl

name_123 : place_among (codes "AttributeError") class_names ≡ Some 13
unfolding reserved_words builtin_names class_names
name_123 = refl

name_124 : place_among (codes "LookupError") class_names ≡ Some 14
unfolding reserved_words builtin_names class_names
name_124 = refl

name_125 : place_among (codes "IndexError") class_names ≡ Some 15
unfolding reserved_words builtin_names class_names
name_125 = refl

name_126 : place_among (codes "KeyError") class_names ≡ Some 16
unfolding reserved_words builtin_names class_names
name_126 = refl

name_127 : place_among (codes "NameError") class_names ≡ Some 17
unfolding reserved_words builtin_names class_names
name_127 = refl

name_128 : place_among (codes "UnboundLocalError") class_names ≡ Some 18
unfolding reserved_words builtin_names class_names
name_128 = refl

name_129 : place_among (codes "RuntimeError") class_names ≡ Some 19
unfolding reserved_words builtin_names class_names
name_129 = refl

name_130 : place_among (codes "NotImplementedError") class_names ≡ Some 20
unfolding reserved_words builtin_names class_names
name_130 = refl

name_131 : place_among (codes "RecursionError") class_names ≡ Some 21
unfolding reserved_words builtin_names class_names
name_131 = refl

name_132 : place_among (codes "SyntaxError") class_names ≡ Some 22
unfolding reserved_words builtin_names class_names
name_132 = refl

name_133 : place_among (codes "TypeError") class_names ≡ Some 23
unfolding reserved_words builtin_names class_names
name_133 = refl

name_134 : place_among (codes "ValueError") class_names ≡ Some 24
unfolding reserved_words builtin_names class_names
name_134 = refl

name_135 : place_among (codes "float") class_names ≡ None
unfolding reserved_words builtin_names class_names
name_135 = refl

name_136 : place_among (codes "BaseException") class_names ≡ None
unfolding reserved_words builtin_names class_names
name_136 = refl

name_137 : place_among (codes "StopIteration") class_names ≡ None
unfolding reserved_words builtin_names class_names
name_137 = refl

name_138 : is_letter 64 ≡ false
unfolding reserved_words builtin_names class_names
name_138 = refl

name_139 : is_letter 65 ≡ true
unfolding reserved_words builtin_names class_names
name_139 = refl

name_140 : is_letter 90 ≡ true
unfolding reserved_words builtin_names class_names
name_140 = refl

name_141 : is_letter 91 ≡ false
unfolding reserved_words builtin_names class_names
name_141 = refl

name_142 : is_letter 94 ≡ false
unfolding reserved_words builtin_names class_names
name_142 = refl

name_143 : is_letter 95 ≡ true
unfolding reserved_words builtin_names class_names
name_143 = refl

name_144 : is_letter 96 ≡ false
unfolding reserved_words builtin_names class_names
name_144 = refl

name_145 : is_letter 97 ≡ true
unfolding reserved_words builtin_names class_names
name_145 = refl

name_146 : is_letter 122 ≡ true
unfolding reserved_words builtin_names class_names
name_146 = refl

name_147 : is_letter 123 ≡ false
unfolding reserved_words builtin_names class_names
name_147 = refl

name_148 : is_letter 47 ≡ false
unfolding reserved_words builtin_names class_names
name_148 = refl

name_149 : is_letter 48 ≡ false
unfolding reserved_words builtin_names class_names
name_149 = refl

name_150 : is_letter 57 ≡ false
unfolding reserved_words builtin_names class_names
name_150 = refl

name_151 : is_letter 58 ≡ false
unfolding reserved_words builtin_names class_names
name_151 = refl

name_152 : is_letter 233 ≡ false
unfolding reserved_words builtin_names class_names
name_152 = refl

name_153 : is_letter 178 ≡ false
unfolding reserved_words builtin_names class_names
name_153 = refl

name_154 : is_digit 64 ≡ false
unfolding reserved_words builtin_names class_names
name_154 = refl

name_155 : is_digit 65 ≡ false
unfolding reserved_words builtin_names class_names
name_155 = refl

name_156 : is_digit 90 ≡ false
unfolding reserved_words builtin_names class_names
name_156 = refl

name_157 : is_digit 91 ≡ false
unfolding reserved_words builtin_names class_names
name_157 = refl

name_158 : is_digit 94 ≡ false
unfolding reserved_words builtin_names class_names
name_158 = refl

name_159 : is_digit 95 ≡ false
unfolding reserved_words builtin_names class_names
name_159 = refl

name_160 : is_digit 96 ≡ false
unfolding reserved_words builtin_names class_names
name_160 = refl

name_161 : is_digit 97 ≡ false
unfolding reserved_words builtin_names class_names
name_161 = refl

name_162 : is_digit 122 ≡ false
unfolding reserved_words builtin_names class_names
name_162 = refl

name_163 : is_digit 123 ≡ false
unfolding reserved_words builtin_names class_names
name_163 = refl

name_164 : is_digit 47 ≡ false
unfolding reserved_words builtin_names class_names
name_164 = refl

name_165 : is_digit 48 ≡ true
unfolding reserved_words builtin_names class_names
name_165 = refl

name_166 : is_digit 57 ≡ true
unfolding reserved_words builtin_names class_names
name_166 = refl

name_167 : is_digit 58 ≡ false
unfolding reserved_words builtin_names class_names
name_167 = refl

name_168 : is_digit 233 ≡ false
unfolding reserved_words builtin_names class_names
name_168 = refl

name_169 : is_digit 178 ≡ false
unfolding reserved_words builtin_names class_names
name_169 = refl

name_170 : is_word_char 64 ≡ false
unfolding reserved_words builtin_names class_names
name_170 = refl

name_171 : is_word_char 65 ≡ true
unfolding reserved_words builtin_names class_names
name_171 = refl

name_172 : is_word_char 90 ≡ true
unfolding reserved_words builtin_names class_names
name_172 = refl

name_173 : is_word_char 91 ≡ false
unfolding reserved_words builtin_names class_names
name_173 = refl

name_174 : is_word_char 94 ≡ false
unfolding reserved_words builtin_names class_names
name_174 = refl

name_175 : is_word_char 95 ≡ true
unfolding reserved_words builtin_names class_names
name_175 = refl

name_176 : is_word_char 96 ≡ false
unfolding reserved_words builtin_names class_names
name_176 = refl

name_177 : is_word_char 97 ≡ true
unfolding reserved_words builtin_names class_names
name_177 = refl

name_178 : is_word_char 122 ≡ true
unfolding reserved_words builtin_names class_names
name_178 = refl

name_179 : is_word_char 123 ≡ false
unfolding reserved_words builtin_names class_names
name_179 = refl

name_180 : is_word_char 47 ≡ false
unfolding reserved_words builtin_names class_names
name_180 = refl

name_181 : is_word_char 48 ≡ true
unfolding reserved_words builtin_names class_names
name_181 = refl

name_182 : is_word_char 57 ≡ true
unfolding reserved_words builtin_names class_names
name_182 = refl

name_183 : is_word_char 58 ≡ false
unfolding reserved_words builtin_names class_names
name_183 = refl

name_184 : is_word_char 233 ≡ false
unfolding reserved_words builtin_names class_names
name_184 = refl

name_185 : is_word_char 178 ≡ false
unfolding reserved_words builtin_names class_names
name_185 = refl
