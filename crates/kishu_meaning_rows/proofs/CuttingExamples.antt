-- Texts that are searched, cut, joined, picked from and put between quotes, as CPython tells where the languages agree: computed on the definition. Made by tools/rows/text_rows.py.
use Rattle.std.proofs.Common.{◌≡◌, refl, [], ◌∷◌, true, false}
use Rattle.std.specs.Prelude.{pos, negsuc, codes, Some, None}
use Rattle.kishu_meaning.specs.values.Texts.{places, picked, begins, first_place, occurrences, pieces, joined, replaced, quoted}

cutting_1 : first_place [] [] ≡ Some 0
cutting_1 = refl

cutting_2 : begins [] [] ≡ true
cutting_2 = refl

cutting_3 : first_place [] (codes "a") ≡ Some 0
cutting_3 = refl

cutting_4 : begins [] (codes "a") ≡ true
cutting_4 = refl

cutting_5 : first_place (codes "a") [] ≡ None
cutting_5 = refl

cutting_6 : begins (codes "a") [] ≡ false
cutting_6 = refl

cutting_7 : occurrences (codes "a") [] ≡ 0
cutting_7 = refl

cutting_8 : pieces (codes "a") [] ≡ ([] ∷ [])
cutting_8 = refl

cutting_9 : replaced [] (codes "a") (codes "bc") ≡ []
cutting_9 = refl

cutting_10 : first_place (codes "a") (codes "a") ≡ Some 0
cutting_10 = refl

cutting_11 : begins (codes "a") (codes "a") ≡ true
cutting_11 = refl

cutting_12 : occurrences (codes "a") (codes "a") ≡ 1
cutting_12 = refl

cutting_13 : pieces (codes "a") (codes "a") ≡ ([] ∷ [] ∷ [])
cutting_13 = refl

cutting_14 : replaced (codes "a") (codes "a") (codes "bc") ≡ (codes "bc")
cutting_14 = refl

cutting_15 : first_place (codes "a") (codes "b") ≡ None
cutting_15 = refl

cutting_16 : begins (codes "a") (codes "b") ≡ false
cutting_16 = refl

cutting_17 : occurrences (codes "a") (codes "b") ≡ 0
cutting_17 = refl

cutting_18 : pieces (codes "a") (codes "b") ≡ ((codes "b") ∷ [])
cutting_18 = refl

cutting_19 : replaced (codes "b") (codes "a") (codes "bc") ≡ (codes "b")
cutting_19 = refl

cutting_20 : first_place (codes "ab") (codes "a") ≡ None
cutting_20 = refl

cutting_21 : begins (codes "ab") (codes "a") ≡ false
cutting_21 = refl

cutting_22 : occurrences (codes "ab") (codes "a") ≡ 0
cutting_22 = refl

cutting_23 : pieces (codes "ab") (codes "a") ≡ ((codes "a") ∷ [])
cutting_23 = refl

cutting_24 : replaced (codes "a") (codes "ab") (codes "abab") ≡ (codes "a")
cutting_24 = refl

cutting_25 : first_place (codes "a") (codes "ba") ≡ Some 1
cutting_25 = refl

cutting_26 : begins (codes "a") (codes "ba") ≡ false
cutting_26 = refl

cutting_27 : occurrences (codes "a") (codes "ba") ≡ 1
cutting_27 = refl

cutting_28 : pieces (codes "a") (codes "ba") ≡ ((codes "b") ∷ [] ∷ [])
cutting_28 = refl

cutting_29 : replaced (codes "ba") (codes "a") (codes "bc") ≡ (codes "bbc")
cutting_29 = refl

cutting_30 : first_place (codes "ab") (codes "aab") ≡ Some 1
cutting_30 = refl

cutting_31 : begins (codes "ab") (codes "aab") ≡ false
cutting_31 = refl

cutting_32 : occurrences (codes "ab") (codes "aab") ≡ 1
cutting_32 = refl

cutting_33 : pieces (codes "ab") (codes "aab") ≡ ((codes "a") ∷ [] ∷ [])
cutting_33 = refl

cutting_34 : replaced (codes "aab") (codes "ab") (codes "abab") ≡ (codes "aabab")
cutting_34 = refl

cutting_35 : first_place (codes "aa") (codes "aaa") ≡ Some 0
cutting_35 = refl

cutting_36 : begins (codes "aa") (codes "aaa") ≡ true
cutting_36 = refl

cutting_37 : occurrences (codes "aa") (codes "aaa") ≡ 1
cutting_37 = refl

cutting_38 : pieces (codes "aa") (codes "aaa") ≡ ([] ∷ (codes "a") ∷ [])
cutting_38 = refl

cutting_39 : replaced (codes "aaa") (codes "aa") [] ≡ (codes "a")
cutting_39 = refl

cutting_40 : first_place (codes "aa") (codes "aaaa") ≡ Some 0
cutting_40 = refl

cutting_41 : begins (codes "aa") (codes "aaaa") ≡ true
cutting_41 = refl

cutting_42 : occurrences (codes "aa") (codes "aaaa") ≡ 2
cutting_42 = refl

cutting_43 : pieces (codes "aa") (codes "aaaa") ≡ ([] ∷ [] ∷ [] ∷ [])
cutting_43 = refl

cutting_44 : replaced (codes "aaaa") (codes "aa") [] ≡ []
cutting_44 = refl

cutting_45 : first_place (codes "aba") (codes "ababa") ≡ Some 0
cutting_45 = refl

cutting_46 : begins (codes "aba") (codes "ababa") ≡ true
cutting_46 = refl

cutting_47 : occurrences (codes "aba") (codes "ababa") ≡ 1
cutting_47 = refl

cutting_48 : pieces (codes "aba") (codes "ababa") ≡ ([] ∷ (codes "ba") ∷ [])
cutting_48 = refl

cutting_49 : replaced (codes "ababa") (codes "aba") (codes "abaaba") ≡ (codes "abaababa")
cutting_49 = refl

cutting_50 : first_place (codes "na") (codes "banana") ≡ Some 2
cutting_50 = refl

cutting_51 : begins (codes "na") (codes "banana") ≡ false
cutting_51 = refl

cutting_52 : occurrences (codes "na") (codes "banana") ≡ 2
cutting_52 = refl

cutting_53 : pieces (codes "na") (codes "banana") ≡ ((codes "ba") ∷ [] ∷ [] ∷ [])
cutting_53 = refl

cutting_54 : replaced (codes "banana") (codes "na") (codes "nana") ≡ (codes "banananana")
cutting_54 = refl

cutting_55 : first_place (codes "ana") (codes "banana") ≡ Some 1
cutting_55 = refl

cutting_56 : begins (codes "ana") (codes "banana") ≡ false
cutting_56 = refl

cutting_57 : occurrences (codes "ana") (codes "banana") ≡ 1
cutting_57 = refl

cutting_58 : pieces (codes "ana") (codes "banana") ≡ ((codes "b") ∷ (codes "na") ∷ [])
cutting_58 = refl

cutting_59 : replaced (codes "banana") (codes "ana") (codes "anaana") ≡ (codes "banaanana")
cutting_59 = refl

cutting_60 : first_place (codes "x") (codes "banana") ≡ None
cutting_60 = refl

cutting_61 : begins (codes "x") (codes "banana") ≡ false
cutting_61 = refl

cutting_62 : occurrences (codes "x") (codes "banana") ≡ 0
cutting_62 = refl

cutting_63 : pieces (codes "x") (codes "banana") ≡ ((codes "banana") ∷ [])
cutting_63 = refl

cutting_64 : replaced (codes "banana") (codes "x") (codes "xx") ≡ (codes "banana")
cutting_64 = refl

cutting_65 : first_place (codes "a") (codes "aaaa") ≡ Some 0
cutting_65 = refl

cutting_66 : begins (codes "a") (codes "aaaa") ≡ true
cutting_66 = refl

cutting_67 : occurrences (codes "a") (codes "aaaa") ≡ 4
cutting_67 = refl

cutting_68 : pieces (codes "a") (codes "aaaa") ≡ ([] ∷ [] ∷ [] ∷ [] ∷ [] ∷ [])
cutting_68 = refl

cutting_69 : replaced (codes "aaaa") (codes "a") (codes "bc") ≡ (codes "bcbcbcbc")
cutting_69 = refl

cutting_70 : first_place (128512 ∷ []) (233 ∷ 128512 ∷ 233 ∷ []) ≡ Some 1
cutting_70 = refl

cutting_71 : begins (128512 ∷ []) (233 ∷ 128512 ∷ 233 ∷ []) ≡ false
cutting_71 = refl

cutting_72 : occurrences (128512 ∷ []) (233 ∷ 128512 ∷ 233 ∷ []) ≡ 1
cutting_72 = refl

cutting_73 : pieces (128512 ∷ []) (233 ∷ 128512 ∷ 233 ∷ []) ≡ ((233 ∷ []) ∷ (233 ∷ []) ∷ [])
cutting_73 = refl

cutting_74 : replaced (233 ∷ 128512 ∷ 233 ∷ []) (128512 ∷ []) (128512 ∷ 128512 ∷ []) ≡ (233 ∷ 128512 ∷ 128512 ∷ 233 ∷ [])
cutting_74 = refl

cutting_75 : first_place (233 ∷ []) (233 ∷ 97 ∷ 233 ∷ 233 ∷ []) ≡ Some 0
cutting_75 = refl

cutting_76 : begins (233 ∷ []) (233 ∷ 97 ∷ 233 ∷ 233 ∷ []) ≡ true
cutting_76 = refl

cutting_77 : occurrences (233 ∷ []) (233 ∷ 97 ∷ 233 ∷ 233 ∷ []) ≡ 3
cutting_77 = refl

cutting_78 : pieces (233 ∷ []) (233 ∷ 97 ∷ 233 ∷ 233 ∷ []) ≡ ([] ∷ (codes "a") ∷ [] ∷ [] ∷ [])
cutting_78 = refl

cutting_79 : replaced (233 ∷ 97 ∷ 233 ∷ 233 ∷ []) (233 ∷ []) (233 ∷ 233 ∷ []) ≡ (233 ∷ 233 ∷ 97 ∷ 233 ∷ 233 ∷ 233 ∷ 233 ∷ [])
cutting_79 = refl

cutting_80 : first_place (codes "\n") (codes "a\nb\n") ≡ Some 1
cutting_80 = refl

cutting_81 : begins (codes "\n") (codes "a\nb\n") ≡ false
cutting_81 = refl

cutting_82 : occurrences (codes "\n") (codes "a\nb\n") ≡ 2
cutting_82 = refl

cutting_83 : pieces (codes "\n") (codes "a\nb\n") ≡ ((codes "a") ∷ (codes "b") ∷ [] ∷ [])
cutting_83 = refl

cutting_84 : replaced (codes "a\nb\n") (codes "\n") (codes "\n\n") ≡ (codes "a\n\nb\n\n")
cutting_84 = refl

cutting_85 : first_place (codes " ") (codes "  a ") ≡ Some 0
cutting_85 = refl

cutting_86 : begins (codes " ") (codes "  a ") ≡ true
cutting_86 = refl

cutting_87 : occurrences (codes " ") (codes "  a ") ≡ 3
cutting_87 = refl

cutting_88 : pieces (codes " ") (codes "  a ") ≡ ([] ∷ [] ∷ (codes "a") ∷ [] ∷ [])
cutting_88 = refl

cutting_89 : replaced (codes "  a ") (codes " ") (codes "  ") ≡ (codes "    a  ")
cutting_89 = refl

cutting_90 : first_place (codes "abc") (codes "abcabcabc") ≡ Some 0
cutting_90 = refl

cutting_91 : begins (codes "abc") (codes "abcabcabc") ≡ true
cutting_91 = refl

cutting_92 : occurrences (codes "abc") (codes "abcabcabc") ≡ 3
cutting_92 = refl

cutting_93 : pieces (codes "abc") (codes "abcabcabc") ≡ ([] ∷ [] ∷ [] ∷ [] ∷ [])
cutting_93 = refl

cutting_94 : replaced (codes "abcabcabc") (codes "abc") (codes "abcabc") ≡ (codes "abcabcabcabcabcabc")
cutting_94 = refl

cutting_95 : first_place (codes "aab") (codes "aaaab") ≡ Some 2
cutting_95 = refl

cutting_96 : begins (codes "aab") (codes "aaaab") ≡ false
cutting_96 = refl

cutting_97 : occurrences (codes "aab") (codes "aaaab") ≡ 1
cutting_97 = refl

cutting_98 : pieces (codes "aab") (codes "aaaab") ≡ ((codes "aa") ∷ [] ∷ [])
cutting_98 = refl

cutting_99 : replaced (codes "aaaab") (codes "aab") (codes "aabaab") ≡ (codes "aaaabaab")
cutting_99 = refl

cutting_100 : first_place (codes "b") (codes "aab") ≡ Some 2
cutting_100 = refl

cutting_101 : begins (codes "b") (codes "aab") ≡ false
cutting_101 = refl

cutting_102 : occurrences (codes "b") (codes "aab") ≡ 1
cutting_102 = refl

cutting_103 : pieces (codes "b") (codes "aab") ≡ ((codes "aa") ∷ [] ∷ [])
cutting_103 = refl

cutting_104 : replaced (codes "aab") (codes "b") (codes "bb") ≡ (codes "aabb")
cutting_104 = refl

cutting_105 : first_place (codes "ba") (codes "abab") ≡ Some 1
cutting_105 = refl

cutting_106 : begins (codes "ba") (codes "abab") ≡ false
cutting_106 = refl

cutting_107 : occurrences (codes "ba") (codes "abab") ≡ 1
cutting_107 = refl

cutting_108 : pieces (codes "ba") (codes "abab") ≡ ((codes "a") ∷ (codes "b") ∷ [])
cutting_108 = refl

cutting_109 : replaced (codes "abab") (codes "ba") (codes "baba") ≡ (codes "ababab")
cutting_109 = refl

cutting_110 : first_place (codes "'") (codes "it's") ≡ Some 2
cutting_110 = refl

cutting_111 : begins (codes "'") (codes "it's") ≡ false
cutting_111 = refl

cutting_112 : occurrences (codes "'") (codes "it's") ≡ 1
cutting_112 = refl

cutting_113 : pieces (codes "'") (codes "it's") ≡ ((codes "it") ∷ (codes "s") ∷ [])
cutting_113 = refl

cutting_114 : replaced (codes "it's") (codes "'") (codes "''") ≡ (codes "it''s")
cutting_114 = refl

cutting_115 : first_place (codes ",") (codes ",a,,b,") ≡ Some 0
cutting_115 = refl

cutting_116 : begins (codes ",") (codes ",a,,b,") ≡ true
cutting_116 = refl

cutting_117 : occurrences (codes ",") (codes ",a,,b,") ≡ 4
cutting_117 = refl

cutting_118 : pieces (codes ",") (codes ",a,,b,") ≡ ([] ∷ (codes "a") ∷ [] ∷ (codes "b") ∷ [] ∷ [])
cutting_118 = refl

cutting_119 : replaced (codes ",a,,b,") (codes ",") (codes "--") ≡ (codes "--a----b--")
cutting_119 = refl

cutting_120 : joined (codes ",") [] ≡ []
cutting_120 = refl

cutting_121 : joined (codes ",") ((codes "a") ∷ []) ≡ (codes "a")
cutting_121 = refl

cutting_122 : joined (codes ",") ((codes "a") ∷ (codes "b") ∷ []) ≡ (codes "a,b")
cutting_122 = refl

cutting_123 : joined [] ((codes "a") ∷ (codes "b") ∷ (codes "c") ∷ []) ≡ (codes "abc")
cutting_123 = refl

cutting_124 : joined (codes "--") ([] ∷ [] ∷ [] ∷ []) ≡ (codes "----")
cutting_124 = refl

cutting_125 : joined (codes "x") ([] ∷ []) ≡ []
cutting_125 = refl

cutting_126 : joined (codes ", ") ((233 ∷ []) ∷ [] ∷ (128512 ∷ []) ∷ []) ≡ (233 ∷ 44 ∷ 32 ∷ 44 ∷ 32 ∷ 128512 ∷ [])
cutting_126 = refl

cutting_127 : quoted [] ≡ (codes "''")
cutting_127 = refl

cutting_128 : quoted (codes "a") ≡ (codes "'a'")
cutting_128 = refl

cutting_129 : quoted (codes "'") ≡ (codes "\"'\"")
cutting_129 = refl

cutting_130 : quoted (codes "\"") ≡ (codes "'\"'")
cutting_130 = refl

cutting_131 : quoted (codes "'\"") ≡ (codes "'\\'\"'")
cutting_131 = refl

cutting_132 : quoted (codes "it's") ≡ (codes "\"it's\"")
cutting_132 = refl

cutting_133 : quoted (codes "say \"a\"") ≡ (codes "'say \"a\"'")
cutting_133 = refl

cutting_134 : quoted (codes "\\") ≡ (codes "'\\\\'")
cutting_134 = refl

cutting_135 : quoted (codes "\\n") ≡ (codes "'\\\\n'")
cutting_135 = refl

cutting_136 : quoted (codes "\n") ≡ (codes "'\\n'")
cutting_136 = refl

cutting_137 : quoted (9 ∷ []) ≡ (codes "'\\t'")
cutting_137 = refl

cutting_138 : quoted (13 ∷ []) ≡ (codes "'\\r'")
cutting_138 = refl

cutting_139 : quoted (0 ∷ []) ≡ (codes "'\\x00'")
cutting_139 = refl

cutting_140 : quoted (27 ∷ []) ≡ (codes "'\\x1b'")
cutting_140 = refl

cutting_141 : quoted (31 ∷ []) ≡ (codes "'\\x1f'")
cutting_141 = refl

cutting_142 : quoted (127 ∷ []) ≡ (codes "'\\x7f'")
cutting_142 = refl

cutting_143 : quoted (codes " ") ≡ (codes "' '")
cutting_143 = refl

cutting_144 : quoted (codes "~") ≡ (codes "'~'")
cutting_144 = refl

cutting_145 : quoted (8 ∷ 11 ∷ 12 ∷ []) ≡ (codes "'\\x08\\x0b\\x0c'")
cutting_145 = refl

cutting_146 : quoted (codes "a\nb") ≡ (codes "'a\\nb'")
cutting_146 = refl

cutting_147 : quoted (codes "'\n") ≡ (codes "\"'\\n\"")
cutting_147 = refl

cutting_148 : quoted (codes "\"\\") ≡ (codes "'\"\\\\'")
cutting_148 = refl

cutting_149 : quoted (codes "''") ≡ (codes "\"''\"")
cutting_149 = refl

cutting_150 : quoted (codes "'\"'") ≡ (codes "'\\'\"\\''")
cutting_150 = refl

cutting_151 : quoted (128 ∷ []) ≡ (39 ∷ 128 ∷ 39 ∷ [])
cutting_151 = refl

cutting_152 : quoted (160 ∷ []) ≡ (39 ∷ 160 ∷ 39 ∷ [])
cutting_152 = refl

cutting_153 : quoted (173 ∷ []) ≡ (39 ∷ 173 ∷ 39 ∷ [])
cutting_153 = refl

cutting_154 : quoted (233 ∷ []) ≡ (39 ∷ 233 ∷ 39 ∷ [])
cutting_154 = refl

cutting_155 : quoted (128512 ∷ []) ≡ (39 ∷ 128512 ∷ 39 ∷ [])
cutting_155 = refl

cutting_156 : quoted (8232 ∷ []) ≡ (39 ∷ 8232 ∷ 39 ∷ [])
cutting_156 = refl

cutting_157 : quoted (55295 ∷ []) ≡ (39 ∷ 55295 ∷ 39 ∷ [])
cutting_157 = refl

cutting_158 : quoted (1114111 ∷ []) ≡ (39 ∷ 1114111 ∷ 39 ∷ [])
cutting_158 = refl

cutting_159 : places (pos 0) (pos 1) 3 ≡ ((pos 0) ∷ (pos 1) ∷ (pos 2) ∷ [])
cutting_159 = refl

cutting_160 : picked (codes "abcde") (places (pos 0) (pos 1) 3) ≡ (codes "abc")
cutting_160 = refl

cutting_161 : places (pos 4) (negsuc 0) 5 ≡ ((pos 4) ∷ (pos 3) ∷ (pos 2) ∷ (pos 1) ∷ (pos 0) ∷ [])
cutting_161 = refl

cutting_162 : picked (codes "abcde") (places (pos 4) (negsuc 0) 5) ≡ (codes "edcba")
cutting_162 = refl

cutting_163 : places (pos 0) (pos 2) 3 ≡ ((pos 0) ∷ (pos 2) ∷ (pos 4) ∷ [])
cutting_163 = refl

cutting_164 : picked (codes "abcde") (places (pos 0) (pos 2) 3) ≡ (codes "ace")
cutting_164 = refl

cutting_165 : places (pos 5) (negsuc 1) 3 ≡ ((pos 5) ∷ (pos 3) ∷ (pos 1) ∷ [])
cutting_165 = refl

cutting_166 : picked (codes "abcdef") (places (pos 5) (negsuc 1) 3) ≡ (codes "fdb")
cutting_166 = refl

cutting_167 : places (pos 2) (pos 7) 1 ≡ ((pos 2) ∷ [])
cutting_167 = refl

cutting_168 : picked (codes "abc") (places (pos 2) (pos 7) 1) ≡ (codes "c")
cutting_168 = refl

cutting_169 : places (pos 3) (pos 1) 0 ≡ []
cutting_169 = refl

cutting_170 : picked (codes "abc") (places (pos 3) (pos 1) 0) ≡ []
cutting_170 = refl

cutting_171 : places (pos 0) (pos 0) 2 ≡ ((pos 0) ∷ (pos 0) ∷ [])
cutting_171 = refl

cutting_172 : picked (codes "a") (places (pos 0) (pos 0) 2) ≡ (codes "aa")
cutting_172 = refl
