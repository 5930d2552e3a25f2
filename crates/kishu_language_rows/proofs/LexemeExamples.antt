-- The pieces at the front of some texts: computed on the definition. Made by tools/rows/text_rows.py.
use Rattle.std.proofs.Common.{◌≡◌, refl, [], ◌∷◌, ◌++◌, replicate}
use Rattle.std.specs.Prelude.{pos, codes}
use Rattle.kishu_language.specs.declared.token.Mark.TheVariants as m
use Rattle.kishu_language.specs.tokens.Marks.{delimiter, operator}
use Rattle.kishu_language.specs.tokens.Numerals.{numeral}
use Rattle.kishu_language.specs.tokens.Quoted as Q
use Rattle.kishu_language.specs.tokens.Quoted.{escape, item, closes, body}
use Rattle.std.specs.Char.{encode_utf8}
use Rattle.kishu_language.specs.tokens.Lexemes.{blank, comment, bad_comment, joined, feed, word, number, string, sign, bad, token_piece, lexeme}

piece_1 : lexeme (codes " a") ≡ (blank (codes " "), 1)
unfolding delimiter operator numeral escape item closes body Q.quoted token_piece lexeme encode_utf8
piece_1 = refl

piece_2 : lexeme (32 ∷ 9 ∷ 32 ∷ 97 ∷ []) ≡ (blank (32 ∷ 9 ∷ 32 ∷ []), 3)
unfolding delimiter operator numeral escape item closes body Q.quoted token_piece lexeme encode_utf8
piece_2 = refl

piece_3 : lexeme (9 ∷ []) ≡ (blank (9 ∷ []), 1)
unfolding delimiter operator numeral escape item closes body Q.quoted token_piece lexeme encode_utf8
piece_3 = refl

piece_4 : lexeme (codes "\n\n") ≡ (feed, 1)
unfolding delimiter operator numeral escape item closes body Q.quoted token_piece lexeme encode_utf8
piece_4 = refl

piece_5 : lexeme (codes "\\\nx") ≡ (joined, 2)
unfolding delimiter operator numeral escape item closes body Q.quoted token_piece lexeme encode_utf8
piece_5 = refl

piece_6 : lexeme (codes "\\ \n") ≡ (bad 0, 1)
unfolding delimiter operator numeral escape item closes body Q.quoted token_piece lexeme encode_utf8
piece_6 = refl

piece_7 : lexeme (codes "\\") ≡ (bad 0, 1)
unfolding delimiter operator numeral escape item closes body Q.quoted token_piece lexeme encode_utf8
piece_7 = refl

piece_8 : lexeme (codes "\\\\\n") ≡ (bad 0, 1)
unfolding delimiter operator numeral escape item closes body Q.quoted token_piece lexeme encode_utf8
piece_8 = refl

piece_9 : lexeme (codes "# a\\\nb") ≡ (comment, 4)
unfolding delimiter operator numeral escape item closes body Q.quoted token_piece lexeme encode_utf8
piece_9 = refl

piece_10 : lexeme (codes "#") ≡ (comment, 1)
unfolding delimiter operator numeral escape item closes body Q.quoted token_piece lexeme encode_utf8
piece_10 = refl

piece_11 : lexeme (35 ∷ 32 ∷ 233 ∷ 12 ∷ 10 ∷ []) ≡ (comment, 4)
unfolding delimiter operator numeral escape item closes body Q.quoted token_piece lexeme encode_utf8
piece_11 = refl

piece_12 : lexeme (35 ∷ 0 ∷ 10 ∷ []) ≡ (bad_comment, 2)
unfolding delimiter operator numeral escape item closes body Q.quoted token_piece lexeme encode_utf8
piece_12 = refl

piece_13 : lexeme (35 ∷ 32 ∷ 97 ∷ 0 ∷ 98 ∷ []) ≡ (bad_comment, 5)
unfolding delimiter operator numeral escape item closes body Q.quoted token_piece lexeme encode_utf8
piece_13 = refl

piece_14 : lexeme (35 ∷ 10 ∷ 0 ∷ []) ≡ (comment, 1)
unfolding delimiter operator numeral escape item closes body Q.quoted token_piece lexeme encode_utf8
piece_14 = refl

piece_15 : lexeme (codes "abc d") ≡ (word (codes "abc"), 3)
unfolding delimiter operator numeral escape item closes body Q.quoted token_piece lexeme encode_utf8
piece_15 = refl

piece_16 : lexeme (codes "_1+") ≡ (word (codes "_1"), 2)
unfolding delimiter operator numeral escape item closes body Q.quoted token_piece lexeme encode_utf8
piece_16 = refl

piece_17 : lexeme (codes "iff") ≡ (word (codes "iff"), 3)
unfolding delimiter operator numeral escape item closes body Q.quoted token_piece lexeme encode_utf8
piece_17 = refl

piece_18 : lexeme (codes "if a") ≡ (word (codes "if"), 2)
unfolding delimiter operator numeral escape item closes body Q.quoted token_piece lexeme encode_utf8
piece_18 = refl

piece_19 : lexeme (codes "br'x'") ≡ (word (codes "br"), 2)
unfolding delimiter operator numeral escape item closes body Q.quoted token_piece lexeme encode_utf8
piece_19 = refl

piece_20 : lexeme (codes "b'x'") ≡ (word (codes "b"), 1)
unfolding delimiter operator numeral escape item closes body Q.quoted token_piece lexeme encode_utf8
piece_20 = refl

piece_21 : lexeme (codes "f\"x\"") ≡ (word (codes "f"), 1)
unfolding delimiter operator numeral escape item closes body Q.quoted token_piece lexeme encode_utf8
piece_21 = refl

piece_22 : lexeme (codes "r x") ≡ (word (codes "r"), 1)
unfolding delimiter operator numeral escape item closes body Q.quoted token_piece lexeme encode_utf8
piece_22 = refl

piece_23 : lexeme (97 ∷ 233 ∷ []) ≡ (word (codes "a"), 1)
unfolding delimiter operator numeral escape item closes body Q.quoted token_piece lexeme encode_utf8
piece_23 = refl

piece_24 : lexeme (codes "12 ") ≡ (number (pos 12), 2)
unfolding delimiter operator numeral escape item closes body Q.quoted token_piece lexeme encode_utf8
piece_24 = refl

piece_25 : lexeme (codes "0x1F,") ≡ (number (pos 31), 4)
unfolding delimiter operator numeral escape item closes body Q.quoted token_piece lexeme encode_utf8
piece_25 = refl

piece_26 : lexeme (codes "1.") ≡ (bad 0, 1)
unfolding delimiter operator numeral escape item closes body Q.quoted token_piece lexeme encode_utf8
piece_26 = refl

piece_27 : lexeme (codes "1.5") ≡ (bad 0, 1)
unfolding delimiter operator numeral escape item closes body Q.quoted token_piece lexeme encode_utf8
piece_27 = refl

piece_28 : lexeme (codes "0x1.") ≡ (bad 0, 3)
unfolding delimiter operator numeral escape item closes body Q.quoted token_piece lexeme encode_utf8
piece_28 = refl

piece_29 : lexeme (codes "1_.") ≡ (bad 0, 2)
unfolding delimiter operator numeral escape item closes body Q.quoted token_piece lexeme encode_utf8
piece_29 = refl

piece_30 : lexeme (codes "1if") ≡ (bad 0, 3)
unfolding delimiter operator numeral escape item closes body Q.quoted token_piece lexeme encode_utf8
piece_30 = refl

piece_31 : lexeme (codes "1'a'") ≡ (number (pos 1), 1)
unfolding delimiter operator numeral escape item closes body Q.quoted token_piece lexeme encode_utf8
piece_31 = refl

piece_32 : lexeme (codes "1(") ≡ (number (pos 1), 1)
unfolding delimiter operator numeral escape item closes body Q.quoted token_piece lexeme encode_utf8
piece_32 = refl

piece_33 : lexeme (49 ∷ 233 ∷ []) ≡ (number (pos 1), 1)
unfolding delimiter operator numeral escape item closes body Q.quoted token_piece lexeme encode_utf8
piece_33 = refl

piece_34 : lexeme (codes "01") ≡ (bad 0, 2)
unfolding delimiter operator numeral escape item closes body Q.quoted token_piece lexeme encode_utf8
piece_34 = refl

piece_35 : lexeme (codes "r'a'") ≡ (string (codes "a"), 4)
unfolding delimiter operator numeral escape item closes body Q.quoted token_piece lexeme encode_utf8
piece_35 = refl

piece_36 : lexeme (codes "R\"\\n\"") ≡ (string (92 ∷ 110 ∷ []), 5)
unfolding delimiter operator numeral escape item closes body Q.quoted token_piece lexeme encode_utf8
piece_36 = refl

piece_37 : lexeme (codes "u'\\n'") ≡ (string (10 ∷ []), 5)
unfolding delimiter operator numeral escape item closes body Q.quoted token_piece lexeme encode_utf8
piece_37 = refl

piece_38 : lexeme (codes "U''") ≡ (string [], 3)
unfolding delimiter operator numeral escape item closes body Q.quoted token_piece lexeme encode_utf8
piece_38 = refl

piece_39 : lexeme (codes "r'''a'''x") ≡ (string (codes "a"), 8)
unfolding delimiter operator numeral escape item closes body Q.quoted token_piece lexeme encode_utf8
piece_39 = refl

piece_40 : lexeme (codes "'a") ≡ (bad 0, 1)
unfolding delimiter operator numeral escape item closes body Q.quoted token_piece lexeme encode_utf8
piece_40 = refl

piece_41 : lexeme (39 ∷ 97 ∷ 0 ∷ 39 ∷ []) ≡ (bad 0, 4)
unfolding delimiter operator numeral escape item closes body Q.quoted token_piece lexeme encode_utf8
piece_41 = refl

piece_42 : lexeme (39 ∷ 39 ∷ 39 ∷ 10 ∷ 0 ∷ 39 ∷ 39 ∷ 39 ∷ []) ≡ (bad 1, 8)
unfolding delimiter operator numeral escape item closes body Q.quoted token_piece lexeme encode_utf8
piece_42 = refl

piece_43 : lexeme (39 ∷ 39 ∷ 39 ∷ 10 ∷ 10 ∷ 0 ∷ 10 ∷ 0 ∷ 39 ∷ 39 ∷ 39 ∷ []) ≡ (bad 2, 11)
unfolding delimiter operator numeral escape item closes body Q.quoted token_piece lexeme encode_utf8
piece_43 = refl

piece_44 : lexeme (39 ∷ 39 ∷ 39 ∷ 0 ∷ []) ≡ (bad 0, 1)
unfolding delimiter operator numeral escape item closes body Q.quoted token_piece lexeme encode_utf8
piece_44 = refl

piece_45 : lexeme (39 ∷ 92 ∷ 10 ∷ 0 ∷ 39 ∷ []) ≡ (bad 1, 5)
unfolding delimiter operator numeral escape item closes body Q.quoted token_piece lexeme encode_utf8
piece_45 = refl

piece_46 : lexeme (codes "r'\\x\n'") ≡ (bad 0, 1)
unfolding delimiter operator numeral escape item closes body Q.quoted token_piece lexeme encode_utf8
piece_46 = refl

piece_47 : lexeme (codes "**=x") ≡ (sign m.PowerAssign, 3)
unfolding delimiter operator numeral escape item closes body Q.quoted token_piece lexeme encode_utf8
piece_47 = refl

piece_48 : lexeme (codes "** =") ≡ (sign m.Power, 2)
unfolding delimiter operator numeral escape item closes body Q.quoted token_piece lexeme encode_utf8
piece_48 = refl

piece_49 : lexeme (codes "*x") ≡ (sign m.Star, 1)
unfolding delimiter operator numeral escape item closes body Q.quoted token_piece lexeme encode_utf8
piece_49 = refl

piece_50 : lexeme (codes "//=") ≡ (sign m.FloorDivideAssign, 3)
unfolding delimiter operator numeral escape item closes body Q.quoted token_piece lexeme encode_utf8
piece_50 = refl

piece_51 : lexeme (codes "//x") ≡ (sign m.FloorDivide, 2)
unfolding delimiter operator numeral escape item closes body Q.quoted token_piece lexeme encode_utf8
piece_51 = refl

piece_52 : lexeme (codes "/x") ≡ (bad 0, 1)
unfolding delimiter operator numeral escape item closes body Q.quoted token_piece lexeme encode_utf8
piece_52 = refl

piece_53 : lexeme (codes "/=x") ≡ (bad 0, 1)
unfolding delimiter operator numeral escape item closes body Q.quoted token_piece lexeme encode_utf8
piece_53 = refl

piece_54 : lexeme (codes "!=") ≡ (sign m.NotEqual, 2)
unfolding delimiter operator numeral escape item closes body Q.quoted token_piece lexeme encode_utf8
piece_54 = refl

piece_55 : lexeme (codes "!x") ≡ (bad 0, 1)
unfolding delimiter operator numeral escape item closes body Q.quoted token_piece lexeme encode_utf8
piece_55 = refl

piece_56 : lexeme (codes "! =") ≡ (bad 0, 1)
unfolding delimiter operator numeral escape item closes body Q.quoted token_piece lexeme encode_utf8
piece_56 = refl

piece_57 : lexeme (codes "<=") ≡ (sign m.LessEqual, 2)
unfolding delimiter operator numeral escape item closes body Q.quoted token_piece lexeme encode_utf8
piece_57 = refl

piece_58 : lexeme (codes "<>") ≡ (sign m.Less, 1)
unfolding delimiter operator numeral escape item closes body Q.quoted token_piece lexeme encode_utf8
piece_58 = refl

piece_59 : lexeme (codes "<<=") ≡ (sign m.Less, 1)
unfolding delimiter operator numeral escape item closes body Q.quoted token_piece lexeme encode_utf8
piece_59 = refl

piece_60 : lexeme (codes ">>") ≡ (sign m.Greater, 1)
unfolding delimiter operator numeral escape item closes body Q.quoted token_piece lexeme encode_utf8
piece_60 = refl

piece_61 : lexeme (codes "===") ≡ (sign m.Equal, 2)
unfolding delimiter operator numeral escape item closes body Q.quoted token_piece lexeme encode_utf8
piece_61 = refl

piece_62 : lexeme (codes "=>") ≡ (sign m.Assign, 1)
unfolding delimiter operator numeral escape item closes body Q.quoted token_piece lexeme encode_utf8
piece_62 = refl

piece_63 : lexeme (codes "->") ≡ (sign m.Minus, 1)
unfolding delimiter operator numeral escape item closes body Q.quoted token_piece lexeme encode_utf8
piece_63 = refl

piece_64 : lexeme (codes ":=") ≡ (sign m.Colon, 1)
unfolding delimiter operator numeral escape item closes body Q.quoted token_piece lexeme encode_utf8
piece_64 = refl

piece_65 : lexeme (codes "...") ≡ (sign m.Dot, 1)
unfolding delimiter operator numeral escape item closes body Q.quoted token_piece lexeme encode_utf8
piece_65 = refl

piece_66 : lexeme (codes "+=") ≡ (sign m.PlusAssign, 2)
unfolding delimiter operator numeral escape item closes body Q.quoted token_piece lexeme encode_utf8
piece_66 = refl

piece_67 : lexeme (codes "++") ≡ (sign m.Plus, 1)
unfolding delimiter operator numeral escape item closes body Q.quoted token_piece lexeme encode_utf8
piece_67 = refl

piece_68 : lexeme (codes "$") ≡ (bad 0, 1)
unfolding delimiter operator numeral escape item closes body Q.quoted token_piece lexeme encode_utf8
piece_68 = refl

piece_69 : lexeme (codes "?") ≡ (bad 0, 1)
unfolding delimiter operator numeral escape item closes body Q.quoted token_piece lexeme encode_utf8
piece_69 = refl

piece_70 : lexeme (codes "`") ≡ (bad 0, 1)
unfolding delimiter operator numeral escape item closes body Q.quoted token_piece lexeme encode_utf8
piece_70 = refl

piece_71 : lexeme (codes "@") ≡ (bad 0, 1)
unfolding delimiter operator numeral escape item closes body Q.quoted token_piece lexeme encode_utf8
piece_71 = refl

piece_72 : lexeme (codes "~") ≡ (bad 0, 1)
unfolding delimiter operator numeral escape item closes body Q.quoted token_piece lexeme encode_utf8
piece_72 = refl

piece_73 : lexeme (codes "&") ≡ (bad 0, 1)
unfolding delimiter operator numeral escape item closes body Q.quoted token_piece lexeme encode_utf8
piece_73 = refl

piece_74 : lexeme (codes "|") ≡ (bad 0, 1)
unfolding delimiter operator numeral escape item closes body Q.quoted token_piece lexeme encode_utf8
piece_74 = refl

piece_75 : lexeme (codes "^") ≡ (bad 0, 1)
unfolding delimiter operator numeral escape item closes body Q.quoted token_piece lexeme encode_utf8
piece_75 = refl

piece_76 : lexeme (0 ∷ []) ≡ (bad 0, 1)
unfolding delimiter operator numeral escape item closes body Q.quoted token_piece lexeme encode_utf8
piece_76 = refl

piece_77 : lexeme (12 ∷ []) ≡ (bad 0, 1)
unfolding delimiter operator numeral escape item closes body Q.quoted token_piece lexeme encode_utf8
piece_77 = refl

piece_78 : lexeme (11 ∷ []) ≡ (bad 0, 1)
unfolding delimiter operator numeral escape item closes body Q.quoted token_piece lexeme encode_utf8
piece_78 = refl

piece_79 : lexeme (13 ∷ []) ≡ (bad 0, 1)
unfolding delimiter operator numeral escape item closes body Q.quoted token_piece lexeme encode_utf8
piece_79 = refl

piece_80 : lexeme (160 ∷ []) ≡ (bad 0, 1)
unfolding delimiter operator numeral escape item closes body Q.quoted token_piece lexeme encode_utf8
piece_80 = refl

piece_81 : lexeme (65279 ∷ 97 ∷ []) ≡ (bad 0, 1)
unfolding delimiter operator numeral escape item closes body Q.quoted token_piece lexeme encode_utf8
piece_81 = refl

piece_82 : lexeme (233 ∷ []) ≡ (bad 0, 1)
unfolding delimiter operator numeral escape item closes body Q.quoted token_piece lexeme encode_utf8
piece_82 = refl

piece_83 : lexeme (replicate 255 97) ≡ (word (replicate 255 97), 255)
unfolding delimiter operator numeral escape item closes body Q.quoted token_piece lexeme encode_utf8
piece_83 = refl

piece_84 : lexeme (replicate 256 97) ≡ (bad 0, 256)
unfolding delimiter operator numeral escape item closes body Q.quoted token_piece lexeme encode_utf8
piece_84 = refl

piece_85 : lexeme (replicate 255 97 ++ codes "'") ≡ (word (replicate 255 97), 255)
unfolding delimiter operator numeral escape item closes body Q.quoted token_piece lexeme encode_utf8
piece_85 = refl

piece_86 : lexeme (replicate 255 97 ++ codes "1 ") ≡ (bad 0, 256)
unfolding delimiter operator numeral escape item closes body Q.quoted token_piece lexeme encode_utf8
piece_86 = refl
