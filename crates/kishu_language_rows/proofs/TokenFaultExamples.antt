-- On which line further texts have a fault in their tokens: computed on the definition. Made by tools/rows/text_rows.py.
use Rattle.std.proofs.Common.{◌≡◌, refl, [], ◌∷◌, ◌++◌, replicate}
use Rattle.std.specs.Prelude.{codes, Err}
use Rattle.kishu_language.specs.declared.profile.Profile.TheVariants.{One}
use Rattle.kishu_language.specs.tokens.Marks.{reserved_marks, delimiter, operator}
use Rattle.kishu_language.specs.tokens.Numerals.{numeral}
use Rattle.kishu_language.specs.tokens.Quoted as Q
use Rattle.kishu_language.specs.tokens.Quoted.{escape, item, closes, body}
use Rattle.std.specs.Char.{encode_utf8}
use Rattle.kishu_language.specs.tokens.Lexemes.{token_piece, lexeme}
use Rattle.kishu_language.specs.tokens.Layout.{cut, indented, begin, bracket, step, layout}
use Rattle.kishu_language.specs.tokens.Tokens.{tokens_of_chars}

fault_1 : tokens_of_chars One (codes "?") ≡ Err 1
unfolding reserved_marks delimiter operator numeral escape item closes body Q.quoted token_piece lexeme cut indented begin bracket step layout encode_utf8
fault_1 = refl

fault_2 : tokens_of_chars One (codes "a ! b") ≡ Err 1
unfolding reserved_marks delimiter operator numeral escape item closes body Q.quoted token_piece lexeme cut indented begin bracket step layout encode_utf8
fault_2 = refl

fault_3 : tokens_of_chars One (codes "a /= b") ≡ Err 1
unfolding reserved_marks delimiter operator numeral escape item closes body Q.quoted token_piece lexeme cut indented begin bracket step layout encode_utf8
fault_3 = refl

fault_4 : tokens_of_chars One (codes "a @ b") ≡ Err 1
unfolding reserved_marks delimiter operator numeral escape item closes body Q.quoted token_piece lexeme cut indented begin bracket step layout encode_utf8
fault_4 = refl

fault_5 : tokens_of_chars One (codes "~a") ≡ Err 1
unfolding reserved_marks delimiter operator numeral escape item closes body Q.quoted token_piece lexeme cut indented begin bracket step layout encode_utf8
fault_5 = refl

fault_6 : tokens_of_chars One (97 ∷ 233 ∷ []) ≡ Err 1
unfolding reserved_marks delimiter operator numeral escape item closes body Q.quoted token_piece lexeme cut indented begin bracket step layout encode_utf8
fault_6 = refl

fault_7 : tokens_of_chars One (12 ∷ 97 ∷ []) ≡ Err 1
unfolding reserved_marks delimiter operator numeral escape item closes body Q.quoted token_piece lexeme cut indented begin bracket step layout encode_utf8
fault_7 = refl

fault_8 : tokens_of_chars One (120 ∷ 10 ∷ 32 ∷ 12 ∷ 10 ∷ []) ≡ Err 2
unfolding reserved_marks delimiter operator numeral escape item closes body Q.quoted token_piece lexeme cut indented begin bracket step layout encode_utf8
fault_8 = refl

fault_9 : tokens_of_chars One (97 ∷ 11 ∷ []) ≡ Err 1
unfolding reserved_marks delimiter operator numeral escape item closes body Q.quoted token_piece lexeme cut indented begin bracket step layout encode_utf8
fault_9 = refl

fault_10 : tokens_of_chars One (160 ∷ 97 ∷ []) ≡ Err 1
unfolding reserved_marks delimiter operator numeral escape item closes body Q.quoted token_piece lexeme cut indented begin bracket step layout encode_utf8
fault_10 = refl

fault_11 : tokens_of_chars One (65279 ∷ 97 ∷ []) ≡ Err 1
unfolding reserved_marks delimiter operator numeral escape item closes body Q.quoted token_piece lexeme cut indented begin bracket step layout encode_utf8
fault_11 = refl

fault_12 : tokens_of_chars One (codes "a\n\n(\n\n`") ≡ Err 5
unfolding reserved_marks delimiter operator numeral escape item closes body Q.quoted token_piece lexeme cut indented begin bracket step layout encode_utf8
fault_12 = refl

fault_13 : tokens_of_chars One (97 ∷ 0 ∷ []) ≡ Err 1
unfolding reserved_marks delimiter operator numeral escape item closes body Q.quoted token_piece lexeme cut indented begin bracket step layout encode_utf8
fault_13 = refl

fault_14 : tokens_of_chars One (10 ∷ 0 ∷ 10 ∷ []) ≡ Err 2
unfolding reserved_marks delimiter operator numeral escape item closes body Q.quoted token_piece lexeme cut indented begin bracket step layout encode_utf8
fault_14 = refl

fault_15 : tokens_of_chars One (39 ∷ 0 ∷ 39 ∷ []) ≡ Err 1
unfolding reserved_marks delimiter operator numeral escape item closes body Q.quoted token_piece lexeme cut indented begin bracket step layout encode_utf8
fault_15 = refl

fault_16 : tokens_of_chars One (39 ∷ 39 ∷ 39 ∷ 10 ∷ 0 ∷ []) ≡ Err 1
unfolding reserved_marks delimiter operator numeral escape item closes body Q.quoted token_piece lexeme cut indented begin bracket step layout encode_utf8
fault_16 = refl

fault_17 : tokens_of_chars One (105 ∷ 102 ∷ 32 ∷ 97 ∷ 58 ∷ 10 ∷ 32 ∷ 32 ∷ 98 ∷ 10 ∷ 35 ∷ 0 ∷ 10 ∷ 32 ∷ 99 ∷ []) ≡ Err 3
unfolding reserved_marks delimiter operator numeral escape item closes body Q.quoted token_piece lexeme cut indented begin bracket step layout encode_utf8
fault_17 = refl

fault_18 : tokens_of_chars One (114 ∷ 39 ∷ 92 ∷ 0 ∷ 39 ∷ []) ≡ Err 1
unfolding reserved_marks delimiter operator numeral escape item closes body Q.quoted token_piece lexeme cut indented begin bracket step layout encode_utf8
fault_18 = refl

fault_19 : tokens_of_chars One (97 ∷ 92 ∷ 0 ∷ []) ≡ Err 1
unfolding reserved_marks delimiter operator numeral escape item closes body Q.quoted token_piece lexeme cut indented begin bracket step layout encode_utf8
fault_19 = refl

fault_20 : tokens_of_chars One (49 ∷ 0 ∷ []) ≡ Err 1
unfolding reserved_marks delimiter operator numeral escape item closes body Q.quoted token_piece lexeme cut indented begin bracket step layout encode_utf8
fault_20 = refl

fault_21 : tokens_of_chars One (40 ∷ 10 ∷ 35 ∷ 32 ∷ 0 ∷ 10 ∷ []) ≡ Err 2
unfolding reserved_marks delimiter operator numeral escape item closes body Q.quoted token_piece lexeme cut indented begin bracket step layout encode_utf8
fault_21 = refl

fault_22 : tokens_of_chars One (codes "\\") ≡ Err 1
unfolding reserved_marks delimiter operator numeral escape item closes body Q.quoted token_piece lexeme cut indented begin bracket step layout encode_utf8
fault_22 = refl

fault_23 : tokens_of_chars One (codes "a\\ \nb") ≡ Err 1
unfolding reserved_marks delimiter operator numeral escape item closes body Q.quoted token_piece lexeme cut indented begin bracket step layout encode_utf8
fault_23 = refl

fault_24 : tokens_of_chars One (105 ∷ 102 ∷ 32 ∷ 97 ∷ 58 ∷ 10 ∷ 32 ∷ 32 ∷ 98 ∷ 10 ∷ 9 ∷ 99 ∷ 10 ∷ []) ≡ Err 3
unfolding reserved_marks delimiter operator numeral escape item closes body Q.quoted token_piece lexeme cut indented begin bracket step layout encode_utf8
fault_24 = refl

fault_25 : tokens_of_chars One (codes "if a:\n  if b:\n    c\n   d\n") ≡ Err 4
unfolding reserved_marks delimiter operator numeral escape item closes body Q.quoted token_piece lexeme cut indented begin bracket step layout encode_utf8
fault_25 = refl

fault_26 : tokens_of_chars One (105 ∷ 102 ∷ 32 ∷ 97 ∷ 58 ∷ 10 ∷ 9 ∷ 32 ∷ 98 ∷ 10 ∷ 32 ∷ 9 ∷ 99 ∷ 10 ∷ []) ≡ Err 3
unfolding reserved_marks delimiter operator numeral escape item closes body Q.quoted token_piece lexeme cut indented begin bracket step layout encode_utf8
fault_26 = refl

fault_27 : tokens_of_chars One (codes "if a:\n    b\n  \\\n$") ≡ Err 3
unfolding reserved_marks delimiter operator numeral escape item closes body Q.quoted token_piece lexeme cut indented begin bracket step layout encode_utf8
fault_27 = refl

fault_28 : tokens_of_chars One (codes "if a:\n    b\n  \\\n)") ≡ Err 3
unfolding reserved_marks delimiter operator numeral escape item closes body Q.quoted token_piece lexeme cut indented begin bracket step layout encode_utf8
fault_28 = refl

fault_29 : tokens_of_chars One (codes "if a:\n    b\n\\\n$") ≡ Err 4
unfolding reserved_marks delimiter operator numeral escape item closes body Q.quoted token_piece lexeme cut indented begin bracket step layout encode_utf8
fault_29 = refl

fault_30 : tokens_of_chars One (105 ∷ 102 ∷ 32 ∷ 97 ∷ 58 ∷ 10 ∷ 32 ∷ 32 ∷ 32 ∷ 32 ∷ 98 ∷ 10 ∷ 32 ∷ 32 ∷ 39 ∷ 39 ∷ 39 ∷ 10 ∷ 0 ∷ 39 ∷ 39 ∷ 39 ∷ []) ≡ Err 3
unfolding reserved_marks delimiter operator numeral escape item closes body Q.quoted token_piece lexeme cut indented begin bracket step layout encode_utf8
fault_30 = refl

fault_31 : tokens_of_chars One (105 ∷ 102 ∷ 32 ∷ 97 ∷ 58 ∷ 10 ∷ 32 ∷ 32 ∷ 32 ∷ 32 ∷ 98 ∷ 10 ∷ 32 ∷ 32 ∷ 39 ∷ 99 ∷ 92 ∷ 10 ∷ 0 ∷ 39 ∷ []) ≡ Err 3
unfolding reserved_marks delimiter operator numeral escape item closes body Q.quoted token_piece lexeme cut indented begin bracket step layout encode_utf8
fault_31 = refl

fault_32 : tokens_of_chars One (105 ∷ 102 ∷ 32 ∷ 97 ∷ 58 ∷ 10 ∷ 32 ∷ 32 ∷ 32 ∷ 32 ∷ 98 ∷ 10 ∷ 32 ∷ 32 ∷ 32 ∷ 32 ∷ 39 ∷ 39 ∷ 39 ∷ 10 ∷ 0 ∷ 39 ∷ 39 ∷ 39 ∷ []) ≡ Err 4
unfolding reserved_marks delimiter operator numeral escape item closes body Q.quoted token_piece lexeme cut indented begin bracket step layout encode_utf8
fault_32 = refl

fault_33 : tokens_of_chars One (codes "if a:\n    b\n '''\n\\x1'''") ≡ Err 3
unfolding reserved_marks delimiter operator numeral escape item closes body Q.quoted token_piece lexeme cut indented begin bracket step layout encode_utf8
fault_33 = refl

fault_34 : tokens_of_chars One (codes ")") ≡ Err 1
unfolding reserved_marks delimiter operator numeral escape item closes body Q.quoted token_piece lexeme cut indented begin bracket step layout encode_utf8
fault_34 = refl

fault_35 : tokens_of_chars One (codes "(]") ≡ Err 1
unfolding reserved_marks delimiter operator numeral escape item closes body Q.quoted token_piece lexeme cut indented begin bracket step layout encode_utf8
fault_35 = refl

fault_36 : tokens_of_chars One (codes "[(])") ≡ Err 1
unfolding reserved_marks delimiter operator numeral escape item closes body Q.quoted token_piece lexeme cut indented begin bracket step layout encode_utf8
fault_36 = refl

fault_37 : tokens_of_chars One (codes "{\n)\n") ≡ Err 2
unfolding reserved_marks delimiter operator numeral escape item closes body Q.quoted token_piece lexeme cut indented begin bracket step layout encode_utf8
fault_37 = refl

fault_38 : tokens_of_chars One (codes "(\n") ≡ Err 1
unfolding reserved_marks delimiter operator numeral escape item closes body Q.quoted token_piece lexeme cut indented begin bracket step layout encode_utf8
fault_38 = refl

fault_39 : tokens_of_chars One (codes "(\n[\n]\n") ≡ Err 1
unfolding reserved_marks delimiter operator numeral escape item closes body Q.quoted token_piece lexeme cut indented begin bracket step layout encode_utf8
fault_39 = refl

fault_40 : tokens_of_chars One (codes "(\n'a") ≡ Err 2
unfolding reserved_marks delimiter operator numeral escape item closes body Q.quoted token_piece lexeme cut indented begin bracket step layout encode_utf8
fault_40 = refl

fault_41 : tokens_of_chars One (codes "{a\nb") ≡ Err 1
unfolding reserved_marks delimiter operator numeral escape item closes body Q.quoted token_piece lexeme cut indented begin bracket step layout encode_utf8
fault_41 = refl

fault_42 : tokens_of_chars One (codes "01") ≡ Err 1
unfolding reserved_marks delimiter operator numeral escape item closes body Q.quoted token_piece lexeme cut indented begin bracket step layout encode_utf8
fault_42 = refl

fault_43 : tokens_of_chars One (codes "1_") ≡ Err 1
unfolding reserved_marks delimiter operator numeral escape item closes body Q.quoted token_piece lexeme cut indented begin bracket step layout encode_utf8
fault_43 = refl

fault_44 : tokens_of_chars One (codes "1__0") ≡ Err 1
unfolding reserved_marks delimiter operator numeral escape item closes body Q.quoted token_piece lexeme cut indented begin bracket step layout encode_utf8
fault_44 = refl

fault_45 : tokens_of_chars One (codes "0x") ≡ Err 1
unfolding reserved_marks delimiter operator numeral escape item closes body Q.quoted token_piece lexeme cut indented begin bracket step layout encode_utf8
fault_45 = refl

fault_46 : tokens_of_chars One (codes "0x1_") ≡ Err 1
unfolding reserved_marks delimiter operator numeral escape item closes body Q.quoted token_piece lexeme cut indented begin bracket step layout encode_utf8
fault_46 = refl

fault_47 : tokens_of_chars One (codes "0x__1") ≡ Err 1
unfolding reserved_marks delimiter operator numeral escape item closes body Q.quoted token_piece lexeme cut indented begin bracket step layout encode_utf8
fault_47 = refl

fault_48 : tokens_of_chars One (codes "0xg") ≡ Err 1
unfolding reserved_marks delimiter operator numeral escape item closes body Q.quoted token_piece lexeme cut indented begin bracket step layout encode_utf8
fault_48 = refl

fault_49 : tokens_of_chars One (codes "0b2") ≡ Err 1
unfolding reserved_marks delimiter operator numeral escape item closes body Q.quoted token_piece lexeme cut indented begin bracket step layout encode_utf8
fault_49 = refl

fault_50 : tokens_of_chars One (codes "0o8") ≡ Err 1
unfolding reserved_marks delimiter operator numeral escape item closes body Q.quoted token_piece lexeme cut indented begin bracket step layout encode_utf8
fault_50 = refl

fault_51 : tokens_of_chars One (codes "1a") ≡ Err 1
unfolding reserved_marks delimiter operator numeral escape item closes body Q.quoted token_piece lexeme cut indented begin bracket step layout encode_utf8
fault_51 = refl

fault_52 : tokens_of_chars One (codes "1.5") ≡ Err 1
unfolding reserved_marks delimiter operator numeral escape item closes body Q.quoted token_piece lexeme cut indented begin bracket step layout encode_utf8
fault_52 = refl

fault_53 : tokens_of_chars One (codes "0x1.") ≡ Err 1
unfolding reserved_marks delimiter operator numeral escape item closes body Q.quoted token_piece lexeme cut indented begin bracket step layout encode_utf8
fault_53 = refl

fault_54 : tokens_of_chars One (codes "1_a") ≡ Err 1
unfolding reserved_marks delimiter operator numeral escape item closes body Q.quoted token_piece lexeme cut indented begin bracket step layout encode_utf8
fault_54 = refl

fault_55 : tokens_of_chars One (codes "12e3") ≡ Err 1
unfolding reserved_marks delimiter operator numeral escape item closes body Q.quoted token_piece lexeme cut indented begin bracket step layout encode_utf8
fault_55 = refl

fault_56 : tokens_of_chars One (codes "1if") ≡ Err 1
unfolding reserved_marks delimiter operator numeral escape item closes body Q.quoted token_piece lexeme cut indented begin bracket step layout encode_utf8
fault_56 = refl

fault_57 : tokens_of_chars One (codes "0__0") ≡ Err 1
unfolding reserved_marks delimiter operator numeral escape item closes body Q.quoted token_piece lexeme cut indented begin bracket step layout encode_utf8
fault_57 = refl

fault_58 : tokens_of_chars One (codes "0x80000000000000000000000000000000") ≡ Err 1
unfolding reserved_marks delimiter operator numeral escape item closes body Q.quoted token_piece lexeme cut indented begin bracket step layout encode_utf8
fault_58 = refl

fault_59 : tokens_of_chars One (codes "99999999999999999999999999999999999999999999") ≡ Err 1
unfolding reserved_marks delimiter operator numeral escape item closes body Q.quoted token_piece lexeme cut indented begin bracket step layout encode_utf8
fault_59 = refl

fault_60 : tokens_of_chars One (codes "'a") ≡ Err 1
unfolding reserved_marks delimiter operator numeral escape item closes body Q.quoted token_piece lexeme cut indented begin bracket step layout encode_utf8
fault_60 = refl

fault_61 : tokens_of_chars One (codes "'a\\") ≡ Err 1
unfolding reserved_marks delimiter operator numeral escape item closes body Q.quoted token_piece lexeme cut indented begin bracket step layout encode_utf8
fault_61 = refl

fault_62 : tokens_of_chars One (codes "'''a''") ≡ Err 1
unfolding reserved_marks delimiter operator numeral escape item closes body Q.quoted token_piece lexeme cut indented begin bracket step layout encode_utf8
fault_62 = refl

fault_63 : tokens_of_chars One (codes "\"a'") ≡ Err 1
unfolding reserved_marks delimiter operator numeral escape item closes body Q.quoted token_piece lexeme cut indented begin bracket step layout encode_utf8
fault_63 = refl

fault_64 : tokens_of_chars One (codes "'\\x4'") ≡ Err 1
unfolding reserved_marks delimiter operator numeral escape item closes body Q.quoted token_piece lexeme cut indented begin bracket step layout encode_utf8
fault_64 = refl

fault_65 : tokens_of_chars One (codes "'\\xg1'") ≡ Err 1
unfolding reserved_marks delimiter operator numeral escape item closes body Q.quoted token_piece lexeme cut indented begin bracket step layout encode_utf8
fault_65 = refl

fault_66 : tokens_of_chars One (codes "'\\U0001234'") ≡ Err 1
unfolding reserved_marks delimiter operator numeral escape item closes body Q.quoted token_piece lexeme cut indented begin bracket step layout encode_utf8
fault_66 = refl

fault_67 : tokens_of_chars One (codes "'\\udfff'") ≡ Err 1
unfolding reserved_marks delimiter operator numeral escape item closes body Q.quoted token_piece lexeme cut indented begin bracket step layout encode_utf8
fault_67 = refl

fault_68 : tokens_of_chars One (codes "'\\U00110000'") ≡ Err 1
unfolding reserved_marks delimiter operator numeral escape item closes body Q.quoted token_piece lexeme cut indented begin bracket step layout encode_utf8
fault_68 = refl

fault_69 : tokens_of_chars One (codes "x\n'''a\n\\N'''") ≡ Err 2
unfolding reserved_marks delimiter operator numeral escape item closes body Q.quoted token_piece lexeme cut indented begin bracket step layout encode_utf8
fault_69 = refl

fault_70 : tokens_of_chars One (codes "'\\x") ≡ Err 1
unfolding reserved_marks delimiter operator numeral escape item closes body Q.quoted token_piece lexeme cut indented begin bracket step layout encode_utf8
fault_70 = refl

fault_71 : tokens_of_chars One (codes "u'\\N'") ≡ Err 1
unfolding reserved_marks delimiter operator numeral escape item closes body Q.quoted token_piece lexeme cut indented begin bracket step layout encode_utf8
fault_71 = refl

fault_72 : tokens_of_chars One (codes "'\\UD800DFFF'") ≡ Err 1
unfolding reserved_marks delimiter operator numeral escape item closes body Q.quoted token_piece lexeme cut indented begin bracket step layout encode_utf8
fault_72 = refl

fault_73 : tokens_of_chars One (codes "'\\Uffffffff'") ≡ Err 1
unfolding reserved_marks delimiter operator numeral escape item closes body Q.quoted token_piece lexeme cut indented begin bracket step layout encode_utf8
fault_73 = refl

fault_74 : tokens_of_chars One (codes "\n'''\n\\udc00'''") ≡ Err 2
unfolding reserved_marks delimiter operator numeral escape item closes body Q.quoted token_piece lexeme cut indented begin bracket step layout encode_utf8
fault_74 = refl

fault_75 : tokens_of_chars One (codes "r'''a''") ≡ Err 1
unfolding reserved_marks delimiter operator numeral escape item closes body Q.quoted token_piece lexeme cut indented begin bracket step layout encode_utf8
fault_75 = refl

fault_76 : tokens_of_chars One (codes "r'a\nb'") ≡ Err 1
unfolding reserved_marks delimiter operator numeral escape item closes body Q.quoted token_piece lexeme cut indented begin bracket step layout encode_utf8
fault_76 = refl

fault_77 : tokens_of_chars One (codes "'''\\'''") ≡ Err 1
unfolding reserved_marks delimiter operator numeral escape item closes body Q.quoted token_piece lexeme cut indented begin bracket step layout encode_utf8
fault_77 = refl

fault_78 : tokens_of_chars One (codes "'a\\\nb'\n$") ≡ Err 3
unfolding reserved_marks delimiter operator numeral escape item closes body Q.quoted token_piece lexeme cut indented begin bracket step layout encode_utf8
fault_78 = refl

fault_79 : tokens_of_chars One (codes "'''a\n\n'''$") ≡ Err 3
unfolding reserved_marks delimiter operator numeral escape item closes body Q.quoted token_piece lexeme cut indented begin bracket step layout encode_utf8
fault_79 = refl

fault_80 : tokens_of_chars One (97 ∷ 13 ∷ 10 ∷ 36 ∷ []) ≡ Err 2
unfolding reserved_marks delimiter operator numeral escape item closes body Q.quoted token_piece lexeme cut indented begin bracket step layout encode_utf8
fault_80 = refl

fault_81 : tokens_of_chars One (97 ∷ 13 ∷ 36 ∷ []) ≡ Err 2
unfolding reserved_marks delimiter operator numeral escape item closes body Q.quoted token_piece lexeme cut indented begin bracket step layout encode_utf8
fault_81 = refl

fault_82 : tokens_of_chars One (97 ∷ 13 ∷ 13 ∷ 36 ∷ []) ≡ Err 3
unfolding reserved_marks delimiter operator numeral escape item closes body Q.quoted token_piece lexeme cut indented begin bracket step layout encode_utf8
fault_82 = refl

fault_83 : tokens_of_chars One (0 ∷ []) ≡ Err 1
unfolding reserved_marks delimiter operator numeral escape item closes body Q.quoted token_piece lexeme cut indented begin bracket step layout encode_utf8
fault_83 = refl

fault_84 : tokens_of_chars One (97 ∷ 10 ∷ 10 ∷ 0 ∷ []) ≡ Err 3
unfolding reserved_marks delimiter operator numeral escape item closes body Q.quoted token_piece lexeme cut indented begin bracket step layout encode_utf8
fault_84 = refl

fault_85 : tokens_of_chars One (codes "a\n]") ≡ Err 2
unfolding reserved_marks delimiter operator numeral escape item closes body Q.quoted token_piece lexeme cut indented begin bracket step layout encode_utf8
fault_85 = refl

fault_86 : tokens_of_chars One (codes "}") ≡ Err 1
unfolding reserved_marks delimiter operator numeral escape item closes body Q.quoted token_piece lexeme cut indented begin bracket step layout encode_utf8
fault_86 = refl

fault_87 : tokens_of_chars One (codes "()]") ≡ Err 1
unfolding reserved_marks delimiter operator numeral escape item closes body Q.quoted token_piece lexeme cut indented begin bracket step layout encode_utf8
fault_87 = refl

fault_88 : tokens_of_chars One (codes "{)") ≡ Err 1
unfolding reserved_marks delimiter operator numeral escape item closes body Q.quoted token_piece lexeme cut indented begin bracket step layout encode_utf8
fault_88 = refl

fault_89 : tokens_of_chars One (codes "[\n\n}") ≡ Err 3
unfolding reserved_marks delimiter operator numeral escape item closes body Q.quoted token_piece lexeme cut indented begin bracket step layout encode_utf8
fault_89 = refl

fault_90 : tokens_of_chars One (codes "!") ≡ Err 1
unfolding reserved_marks delimiter operator numeral escape item closes body Q.quoted token_piece lexeme cut indented begin bracket step layout encode_utf8
fault_90 = refl

fault_91 : tokens_of_chars One (codes "a\n!b") ≡ Err 2
unfolding reserved_marks delimiter operator numeral escape item closes body Q.quoted token_piece lexeme cut indented begin bracket step layout encode_utf8
fault_91 = refl

fault_92 : tokens_of_chars One (8232 ∷ []) ≡ Err 1
unfolding reserved_marks delimiter operator numeral escape item closes body Q.quoted token_piece lexeme cut indented begin bracket step layout encode_utf8
fault_92 = refl

fault_93 : tokens_of_chars One (97 ∷ 160 ∷ 98 ∷ []) ≡ Err 1
unfolding reserved_marks delimiter operator numeral escape item closes body Q.quoted token_piece lexeme cut indented begin bracket step layout encode_utf8
fault_93 = refl

fault_94 : tokens_of_chars One (codes "'\\U0000'") ≡ Err 1
unfolding reserved_marks delimiter operator numeral escape item closes body Q.quoted token_piece lexeme cut indented begin bracket step layout encode_utf8
fault_94 = refl

fault_95 : tokens_of_chars One (codes "x\n'\\U0000'") ≡ Err 2
unfolding reserved_marks delimiter operator numeral escape item closes body Q.quoted token_piece lexeme cut indented begin bracket step layout encode_utf8
fault_95 = refl

fault_96 : tokens_of_chars One (codes "0b1_") ≡ Err 1
unfolding reserved_marks delimiter operator numeral escape item closes body Q.quoted token_piece lexeme cut indented begin bracket step layout encode_utf8
fault_96 = refl

fault_97 : tokens_of_chars One (codes "a\n0b") ≡ Err 2
unfolding reserved_marks delimiter operator numeral escape item closes body Q.quoted token_piece lexeme cut indented begin bracket step layout encode_utf8
fault_97 = refl

fault_98 : tokens_of_chars One (codes "0b1a") ≡ Err 1
unfolding reserved_marks delimiter operator numeral escape item closes body Q.quoted token_piece lexeme cut indented begin bracket step layout encode_utf8
fault_98 = refl

fault_99 : tokens_of_chars One (codes "0b1.") ≡ Err 1
unfolding reserved_marks delimiter operator numeral escape item closes body Q.quoted token_piece lexeme cut indented begin bracket step layout encode_utf8
fault_99 = refl

fault_100 : tokens_of_chars One (codes "0b10000000000000000000000000000000000000000000000000000000000000000000000000000000000000000000000000000000000000000000000000000000") ≡ Err 1
unfolding reserved_marks delimiter operator numeral escape item closes body Q.quoted token_piece lexeme cut indented begin bracket step layout encode_utf8
fault_100 = refl

fault_101 : tokens_of_chars One (codes "0o2000000000000000000000000000000000000000000") ≡ Err 1
unfolding reserved_marks delimiter operator numeral escape item closes body Q.quoted token_piece lexeme cut indented begin bracket step layout encode_utf8
fault_101 = refl

fault_102 : tokens_of_chars One (codes "''''") ≡ Err 1
unfolding reserved_marks delimiter operator numeral escape item closes body Q.quoted token_piece lexeme cut indented begin bracket step layout encode_utf8
fault_102 = refl

fault_103 : tokens_of_chars One (codes "'''''") ≡ Err 1
unfolding reserved_marks delimiter operator numeral escape item closes body Q.quoted token_piece lexeme cut indented begin bracket step layout encode_utf8
fault_103 = refl

fault_104 : tokens_of_chars One (codes "x = \\\n'a") ≡ Err 2
unfolding reserved_marks delimiter operator numeral escape item closes body Q.quoted token_piece lexeme cut indented begin bracket step layout encode_utf8
fault_104 = refl

fault_105 : tokens_of_chars One (codes "(\n(\n)") ≡ Err 1
unfolding reserved_marks delimiter operator numeral escape item closes body Q.quoted token_piece lexeme cut indented begin bracket step layout encode_utf8
fault_105 = refl

fault_106 : tokens_of_chars One (codes "[\n(\n)\n") ≡ Err 1
unfolding reserved_marks delimiter operator numeral escape item closes body Q.quoted token_piece lexeme cut indented begin bracket step layout encode_utf8
fault_106 = refl

fault_107 : tokens_of_chars One (codes "{\n[\n(") ≡ Err 3
unfolding reserved_marks delimiter operator numeral escape item closes body Q.quoted token_piece lexeme cut indented begin bracket step layout encode_utf8
fault_107 = refl

fault_108 : tokens_of_chars One (97 ∷ 92 ∷ 13 ∷ 10 ∷ 36 ∷ []) ≡ Err 2
unfolding reserved_marks delimiter operator numeral escape item closes body Q.quoted token_piece lexeme cut indented begin bracket step layout encode_utf8
fault_108 = refl

fault_109 : tokens_of_chars One (35 ∷ 32 ∷ 99 ∷ 13 ∷ 0 ∷ []) ≡ Err 2
unfolding reserved_marks delimiter operator numeral escape item closes body Q.quoted token_piece lexeme cut indented begin bracket step layout encode_utf8
fault_109 = refl

fault_110 : tokens_of_chars One (codes "'\\\n'\n$") ≡ Err 3
unfolding reserved_marks delimiter operator numeral escape item closes body Q.quoted token_piece lexeme cut indented begin bracket step layout encode_utf8
fault_110 = refl

fault_111 : tokens_of_chars One (codes "if a:\n  b\n c\n$") ≡ Err 3
unfolding reserved_marks delimiter operator numeral escape item closes body Q.quoted token_piece lexeme cut indented begin bracket step layout encode_utf8
fault_111 = refl

fault_112 : tokens_of_chars One (codes "$\n  a\n b\n") ≡ Err 1
unfolding reserved_marks delimiter operator numeral escape item closes body Q.quoted token_piece lexeme cut indented begin bracket step layout encode_utf8
fault_112 = refl

fault_113 : tokens_of_chars One (replicate 256 97) ≡ Err 1
unfolding reserved_marks delimiter operator numeral escape item closes body Q.quoted token_piece lexeme cut indented begin bracket step layout encode_utf8
fault_113 = refl

fault_114 : tokens_of_chars One (codes "a\n" ++ replicate 256 97) ≡ Err 2
unfolding reserved_marks delimiter operator numeral escape item closes body Q.quoted token_piece lexeme cut indented begin bracket step layout encode_utf8
fault_114 = refl
