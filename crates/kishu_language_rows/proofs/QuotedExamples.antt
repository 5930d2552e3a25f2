-- Which texts stand between quotes, with the characters that they take, as CPython tells where the languages agree: computed on the definition. Made by tools/rows/text_rows.py.
use Rattle.std.proofs.Common.{◌≡◌, refl, [], ◌∷◌, true, false}
use Rattle.std.specs.Prelude.{codes, Some, None}
use Rattle.kishu_language.specs.tokens.Quoted as Q
use Rattle.kishu_language.specs.tokens.Quoted.{escape, item, closes, body}
use Rattle.std.specs.Char.{encode_utf8}

quoted_1 : Q.quoted false (codes "'a'") ≡ Some ((codes "a"), 3)
unfolding escape item closes body Q.quoted encode_utf8
quoted_1 = refl

quoted_2 : Q.quoted false (codes "\"a\"") ≡ Some ((codes "a"), 3)
unfolding escape item closes body Q.quoted encode_utf8
quoted_2 = refl

quoted_3 : Q.quoted false (codes "''") ≡ Some ([], 2)
unfolding escape item closes body Q.quoted encode_utf8
quoted_3 = refl

quoted_4 : Q.quoted false (codes "\"\"") ≡ Some ([], 2)
unfolding escape item closes body Q.quoted encode_utf8
quoted_4 = refl

quoted_5 : Q.quoted false (codes "''''''") ≡ Some ([], 6)
unfolding escape item closes body Q.quoted encode_utf8
quoted_5 = refl

quoted_6 : Q.quoted false (codes "\"\"\"\"\"\"") ≡ Some ([], 6)
unfolding escape item closes body Q.quoted encode_utf8
quoted_6 = refl

quoted_7 : Q.quoted false (codes "'''a'''") ≡ Some ((codes "a"), 7)
unfolding escape item closes body Q.quoted encode_utf8
quoted_7 = refl

quoted_8 : Q.quoted false (codes "\"\"\"a\"\"\"") ≡ Some ((codes "a"), 7)
unfolding escape item closes body Q.quoted encode_utf8
quoted_8 = refl

quoted_9 : Q.quoted false (codes "'a' b'") ≡ Some ((codes "a"), 3)
unfolding escape item closes body Q.quoted encode_utf8
quoted_9 = refl

quoted_10 : Q.quoted false (codes "'a\"b'") ≡ Some ((codes "a\"b"), 5)
unfolding escape item closes body Q.quoted encode_utf8
quoted_10 = refl

quoted_11 : Q.quoted false (codes "\"a'b\"") ≡ Some ((codes "a'b"), 5)
unfolding escape item closes body Q.quoted encode_utf8
quoted_11 = refl

quoted_12 : Q.quoted false (codes "'''a'b''c'''") ≡ Some ((codes "a'b''c"), 12)
unfolding escape item closes body Q.quoted encode_utf8
quoted_12 = refl

quoted_13 : Q.quoted false (codes "''''a'''") ≡ Some ((codes "'a"), 8)
unfolding escape item closes body Q.quoted encode_utf8
quoted_13 = refl

quoted_14 : Q.quoted false (codes "'''\"\"\"'''") ≡ Some ((codes "\"\"\""), 9)
unfolding escape item closes body Q.quoted encode_utf8
quoted_14 = refl

quoted_15 : Q.quoted false (codes "\"\"\"'''\"\"\"") ≡ Some ((codes "'''"), 9)
unfolding escape item closes body Q.quoted encode_utf8
quoted_15 = refl

quoted_16 : Q.quoted false (codes "'''a\nb'''") ≡ Some ((codes "a\nb"), 9)
unfolding escape item closes body Q.quoted encode_utf8
quoted_16 = refl

quoted_17 : Q.quoted false (codes "'''\n'''") ≡ Some ((codes "\n"), 7)
unfolding escape item closes body Q.quoted encode_utf8
quoted_17 = refl

quoted_18 : Q.quoted false (39 ∷ 233 ∷ 39 ∷ []) ≡ Some ((195 ∷ 169 ∷ []), 3)
unfolding escape item closes body Q.quoted encode_utf8
quoted_18 = refl

quoted_19 : Q.quoted false (39 ∷ 128512 ∷ 233 ∷ 39 ∷ []) ≡ Some ((240 ∷ 159 ∷ 152 ∷ 128 ∷ 195 ∷ 169 ∷ []), 4)
unfolding escape item closes body Q.quoted encode_utf8
quoted_19 = refl

quoted_20 : Q.quoted false (codes "'a\\x41'") ≡ Some ((codes "aA"), 7)
unfolding escape item closes body Q.quoted encode_utf8
quoted_20 = refl

quoted_21 : Q.quoted false (codes "'\\n\\t'") ≡ Some ((10 ∷ 9 ∷ []), 6)
unfolding escape item closes body Q.quoted encode_utf8
quoted_21 = refl

quoted_22 : Q.quoted false (codes "'\\\\'") ≡ Some ((codes "\\"), 4)
unfolding escape item closes body Q.quoted encode_utf8
quoted_22 = refl

quoted_23 : Q.quoted false (codes "'\\''") ≡ Some ((codes "'"), 4)
unfolding escape item closes body Q.quoted encode_utf8
quoted_23 = refl

quoted_24 : Q.quoted false (codes "'\\\"'") ≡ Some ((codes "\""), 4)
unfolding escape item closes body Q.quoted encode_utf8
quoted_24 = refl

quoted_25 : Q.quoted false (codes "'\\a\\b\\f\\r\\v'") ≡ Some ((7 ∷ 8 ∷ 12 ∷ 13 ∷ 11 ∷ []), 12)
unfolding escape item closes body Q.quoted encode_utf8
quoted_25 = refl

quoted_26 : Q.quoted false (codes "'\\0'") ≡ Some ((0 ∷ []), 4)
unfolding escape item closes body Q.quoted encode_utf8
quoted_26 = refl

quoted_27 : Q.quoted false (codes "'\\7'") ≡ Some ((7 ∷ []), 4)
unfolding escape item closes body Q.quoted encode_utf8
quoted_27 = refl

quoted_28 : Q.quoted false (codes "'\\12'") ≡ Some ((codes "\n"), 5)
unfolding escape item closes body Q.quoted encode_utf8
quoted_28 = refl

quoted_29 : Q.quoted false (codes "'\\101'") ≡ Some ((codes "A"), 6)
unfolding escape item closes body Q.quoted encode_utf8
quoted_29 = refl

quoted_30 : Q.quoted false (codes "'\\1018'") ≡ Some ((codes "A8"), 7)
unfolding escape item closes body Q.quoted encode_utf8
quoted_30 = refl

quoted_31 : Q.quoted false (codes "'\\400'") ≡ Some ((196 ∷ 128 ∷ []), 6)
unfolding escape item closes body Q.quoted encode_utf8
quoted_31 = refl

quoted_32 : Q.quoted false (codes "'\\777'") ≡ Some ((199 ∷ 191 ∷ []), 6)
unfolding escape item closes body Q.quoted encode_utf8
quoted_32 = refl

quoted_33 : Q.quoted false (codes "'\\8'") ≡ Some ((codes "\\8"), 4)
unfolding escape item closes body Q.quoted encode_utf8
quoted_33 = refl

quoted_34 : Q.quoted false (codes "'\\09'") ≡ Some ((0 ∷ 57 ∷ []), 5)
unfolding escape item closes body Q.quoted encode_utf8
quoted_34 = refl

quoted_35 : Q.quoted false (codes "'\\x7f'") ≡ Some ((127 ∷ []), 6)
unfolding escape item closes body Q.quoted encode_utf8
quoted_35 = refl

quoted_36 : Q.quoted false (codes "'\\xe9'") ≡ Some ((195 ∷ 169 ∷ []), 6)
unfolding escape item closes body Q.quoted encode_utf8
quoted_36 = refl

quoted_37 : Q.quoted false (codes "'\\u00e9'") ≡ Some ((195 ∷ 169 ∷ []), 8)
unfolding escape item closes body Q.quoted encode_utf8
quoted_37 = refl

quoted_38 : Q.quoted false (codes "'\\uD7ff'") ≡ Some ((237 ∷ 159 ∷ 191 ∷ []), 8)
unfolding escape item closes body Q.quoted encode_utf8
quoted_38 = refl

quoted_39 : Q.quoted false (codes "'\\ue000'") ≡ Some ((238 ∷ 128 ∷ 128 ∷ []), 8)
unfolding escape item closes body Q.quoted encode_utf8
quoted_39 = refl

quoted_40 : Q.quoted false (codes "'\\U0001F600'") ≡ Some ((240 ∷ 159 ∷ 152 ∷ 128 ∷ []), 12)
unfolding escape item closes body Q.quoted encode_utf8
quoted_40 = refl

quoted_41 : Q.quoted false (codes "'\\U0010ffff'") ≡ Some ((244 ∷ 143 ∷ 191 ∷ 191 ∷ []), 12)
unfolding escape item closes body Q.quoted encode_utf8
quoted_41 = refl

quoted_42 : Q.quoted false (codes "'\\q'") ≡ Some ((codes "\\q"), 4)
unfolding escape item closes body Q.quoted encode_utf8
quoted_42 = refl

quoted_43 : Q.quoted false (39 ∷ 92 ∷ 233 ∷ 39 ∷ []) ≡ Some ((92 ∷ 195 ∷ 169 ∷ []), 4)
unfolding escape item closes body Q.quoted encode_utf8
quoted_43 = refl

quoted_44 : Q.quoted false (codes "'\\ '") ≡ Some ((codes "\\ "), 4)
unfolding escape item closes body Q.quoted encode_utf8
quoted_44 = refl

quoted_45 : Q.quoted false (codes "'\\\na'") ≡ Some ((codes "a"), 5)
unfolding escape item closes body Q.quoted encode_utf8
quoted_45 = refl

quoted_46 : Q.quoted false (codes "'a\\\n'") ≡ Some ((codes "a"), 5)
unfolding escape item closes body Q.quoted encode_utf8
quoted_46 = refl

quoted_47 : Q.quoted false (codes "'''\\\n'''") ≡ Some ([], 8)
unfolding escape item closes body Q.quoted encode_utf8
quoted_47 = refl

quoted_48 : Q.quoted false (codes "'\\X41'") ≡ Some ((codes "\\X41"), 6)
unfolding escape item closes body Q.quoted encode_utf8
quoted_48 = refl

quoted_49 : Q.quoted false (39 ∷ 97 ∷ 9 ∷ 98 ∷ 39 ∷ []) ≡ Some ((97 ∷ 9 ∷ 98 ∷ []), 5)
unfolding escape item closes body Q.quoted encode_utf8
quoted_49 = refl

quoted_50 : Q.quoted false (39 ∷ 97 ∷ 12 ∷ 98 ∷ 39 ∷ []) ≡ Some ((97 ∷ 12 ∷ 98 ∷ []), 5)
unfolding escape item closes body Q.quoted encode_utf8
quoted_50 = refl

quoted_51 : Q.quoted false (codes "'\\\\n'") ≡ Some ((codes "\\n"), 5)
unfolding escape item closes body Q.quoted encode_utf8
quoted_51 = refl

quoted_52 : Q.quoted false (codes "'''\\''''") ≡ Some ((codes "'"), 8)
unfolding escape item closes body Q.quoted encode_utf8
quoted_52 = refl

quoted_53 : Q.quoted false (codes "'''a\\'''b'''") ≡ Some ((codes "a'''b"), 12)
unfolding escape item closes body Q.quoted encode_utf8
quoted_53 = refl

quoted_54 : Q.quoted true (codes "'a'") ≡ Some ((codes "a"), 3)
unfolding escape item closes body Q.quoted encode_utf8
quoted_54 = refl

quoted_55 : Q.quoted true (codes "'\\n'") ≡ Some ((codes "\\n"), 4)
unfolding escape item closes body Q.quoted encode_utf8
quoted_55 = refl

quoted_56 : Q.quoted true (codes "'\\x'") ≡ Some ((codes "\\x"), 4)
unfolding escape item closes body Q.quoted encode_utf8
quoted_56 = refl

quoted_57 : Q.quoted true (codes "'\\''") ≡ Some ((codes "\\'"), 4)
unfolding escape item closes body Q.quoted encode_utf8
quoted_57 = refl

quoted_58 : Q.quoted true (codes "'\\\\'") ≡ Some ((codes "\\\\"), 4)
unfolding escape item closes body Q.quoted encode_utf8
quoted_58 = refl

quoted_59 : Q.quoted true (codes "'a\\\\b'") ≡ Some ((codes "a\\\\b"), 6)
unfolding escape item closes body Q.quoted encode_utf8
quoted_59 = refl

quoted_60 : Q.quoted true (codes "'\\N'") ≡ Some ((codes "\\N"), 4)
unfolding escape item closes body Q.quoted encode_utf8
quoted_60 = refl

quoted_61 : Q.quoted true (codes "'\\ud800'") ≡ Some ((codes "\\ud800"), 8)
unfolding escape item closes body Q.quoted encode_utf8
quoted_61 = refl

quoted_62 : Q.quoted true (codes "'\\\nb'") ≡ Some ((codes "\\\nb"), 5)
unfolding escape item closes body Q.quoted encode_utf8
quoted_62 = refl

quoted_63 : Q.quoted true (codes "'''\\'''a'''") ≡ Some ((codes "\\'''a"), 11)
unfolding escape item closes body Q.quoted encode_utf8
quoted_63 = refl

quoted_64 : Q.quoted true (codes "\"\\\"'\"") ≡ Some ((codes "\\\"'"), 5)
unfolding escape item closes body Q.quoted encode_utf8
quoted_64 = refl

quoted_65 : Q.quoted true (39 ∷ 92 ∷ 233 ∷ 39 ∷ []) ≡ Some ((92 ∷ 195 ∷ 169 ∷ []), 4)
unfolding escape item closes body Q.quoted encode_utf8
quoted_65 = refl

quoted_66 : Q.quoted false (codes "'") ≡ None
unfolding escape item closes body Q.quoted encode_utf8
quoted_66 = refl

quoted_67 : Q.quoted false (codes "'a") ≡ None
unfolding escape item closes body Q.quoted encode_utf8
quoted_67 = refl

quoted_68 : Q.quoted false (codes "'a\nb'") ≡ None
unfolding escape item closes body Q.quoted encode_utf8
quoted_68 = refl

quoted_69 : Q.quoted false (codes "'''a") ≡ None
unfolding escape item closes body Q.quoted encode_utf8
quoted_69 = refl

quoted_70 : Q.quoted false (codes "'''a''") ≡ None
unfolding escape item closes body Q.quoted encode_utf8
quoted_70 = refl

quoted_71 : Q.quoted false (codes "'''a'") ≡ None
unfolding escape item closes body Q.quoted encode_utf8
quoted_71 = refl

quoted_72 : Q.quoted false (codes "\"a'") ≡ None
unfolding escape item closes body Q.quoted encode_utf8
quoted_72 = refl

quoted_73 : Q.quoted false (codes "'\\'") ≡ None
unfolding escape item closes body Q.quoted encode_utf8
quoted_73 = refl

quoted_74 : Q.quoted false (codes "'a\\") ≡ None
unfolding escape item closes body Q.quoted encode_utf8
quoted_74 = refl

quoted_75 : Q.quoted false (codes "'\\x4'") ≡ None
unfolding escape item closes body Q.quoted encode_utf8
quoted_75 = refl

quoted_76 : Q.quoted false (codes "'\\x'") ≡ None
unfolding escape item closes body Q.quoted encode_utf8
quoted_76 = refl

quoted_77 : Q.quoted false (codes "'\\xg1'") ≡ None
unfolding escape item closes body Q.quoted encode_utf8
quoted_77 = refl

quoted_78 : Q.quoted false (codes "'\\x4g'") ≡ None
unfolding escape item closes body Q.quoted encode_utf8
quoted_78 = refl

quoted_79 : Q.quoted false (codes "'\\u123'") ≡ None
unfolding escape item closes body Q.quoted encode_utf8
quoted_79 = refl

quoted_80 : Q.quoted false (codes "'\\u123g'") ≡ None
unfolding escape item closes body Q.quoted encode_utf8
quoted_80 = refl

quoted_81 : Q.quoted false (codes "'\\U0001234'") ≡ None
unfolding escape item closes body Q.quoted encode_utf8
quoted_81 = refl

quoted_82 : Q.quoted false (codes "'\\U00110000'") ≡ None
unfolding escape item closes body Q.quoted encode_utf8
quoted_82 = refl

quoted_83 : Q.quoted false (codes "'\\Uffffffff'") ≡ None
unfolding escape item closes body Q.quoted encode_utf8
quoted_83 = refl

quoted_84 : Q.quoted false (codes "'''\\'''") ≡ None
unfolding escape item closes body Q.quoted encode_utf8
quoted_84 = refl

quoted_85 : Q.quoted false (codes "'a\\\n") ≡ None
unfolding escape item closes body Q.quoted encode_utf8
quoted_85 = refl

quoted_86 : Q.quoted false (codes "'\\ud800'") ≡ None
unfolding escape item closes body Q.quoted encode_utf8
quoted_86 = refl

quoted_87 : Q.quoted false (codes "'\\udfff'") ≡ None
unfolding escape item closes body Q.quoted encode_utf8
quoted_87 = refl

quoted_88 : Q.quoted false (codes "'\\uDbff'") ≡ None
unfolding escape item closes body Q.quoted encode_utf8
quoted_88 = refl

quoted_89 : Q.quoted false (codes "'\\U0000dc00'") ≡ None
unfolding escape item closes body Q.quoted encode_utf8
quoted_89 = refl

quoted_90 : Q.quoted false (codes "'\\N{DIGIT ONE}'") ≡ None
unfolding escape item closes body Q.quoted encode_utf8
quoted_90 = refl

quoted_91 : Q.quoted false (codes "'\\N'") ≡ None
unfolding escape item closes body Q.quoted encode_utf8
quoted_91 = refl

quoted_92 : Q.quoted true (codes "'\\'") ≡ None
unfolding escape item closes body Q.quoted encode_utf8
quoted_92 = refl

quoted_93 : Q.quoted true (codes "'a") ≡ None
unfolding escape item closes body Q.quoted encode_utf8
quoted_93 = refl

quoted_94 : Q.quoted true (codes "'\\\\\\'") ≡ None
unfolding escape item closes body Q.quoted encode_utf8
quoted_94 = refl

quoted_95 : Q.quoted true (codes "'a\nb'") ≡ None
unfolding escape item closes body Q.quoted encode_utf8
quoted_95 = refl

quoted_96 : Q.quoted true (codes "'''\\'''") ≡ None
unfolding escape item closes body Q.quoted encode_utf8
quoted_96 = refl

quoted_97 : Q.quoted true (codes "'a\\") ≡ None
unfolding escape item closes body Q.quoted encode_utf8
quoted_97 = refl
