-- Which tokens some texts have, and where some have a fault: computed on the definition. Made by tools/rows/tokens.py.
use Rattle.std.proofs.Common.{◌≡◌, ◌∷◌, [], refl}
use Rattle.std.specs.Prelude.{pos, codes, Ok, Err}
use Rattle.std.specs.Char.{encode_utf8}
use Rattle.kishu_language.specs.declared.profile.Profile.TheVariants.{One}
use Rattle.kishu_language.specs.declared.token.Mark.TheVariants as m
use Rattle.kishu_language.specs.tokens.Marks.{reserved_marks, delimiter, operator}
use Rattle.kishu_language.specs.tokens.Numerals.{numeral}
use Rattle.kishu_language.specs.tokens.Quoted as Q
use Rattle.kishu_language.specs.tokens.Quoted.{escape, item, closes, body}
use Rattle.kishu_language.specs.tokens.Lexemes.{token_piece, lexeme}
use Rattle.kishu_language.specs.tokens.Layout.{name, integer, quoted, newline, indent, dedent, mark, token, cut, indented, begin, bracket, step, layout}
use Rattle.kishu_language.specs.tokens.Tokens.{tokens_of_chars}

text_1 : tokens_of_chars One (codes "") ≡ Ok ([])
unfolding reserved_marks delimiter operator numeral escape item closes body Q.quoted token_piece lexeme cut indented begin bracket step layout encode_utf8
text_1 = refl

text_2 : tokens_of_chars One (codes "x") ≡ Ok (token (name (codes "x")) 1 0 1 ∷ token newline 1 1 1 ∷ [])
unfolding reserved_marks delimiter operator numeral escape item closes body Q.quoted token_piece lexeme cut indented begin bracket step layout encode_utf8
text_2 = refl

text_3 : tokens_of_chars One (codes "x = 1\n") ≡ Ok (token (name (codes "x")) 1 0 1 ∷ token (mark m.Assign) 1 2 3 ∷ token (integer (pos 1)) 1 4 5 ∷ token newline 1 5 6 ∷ [])
unfolding reserved_marks delimiter operator numeral escape item closes body Q.quoted token_piece lexeme cut indented begin bracket step layout encode_utf8
text_3 = refl

text_4 : tokens_of_chars One (codes "\n\n  \n# c\n") ≡ Ok ([])
unfolding reserved_marks delimiter operator numeral escape item closes body Q.quoted token_piece lexeme cut indented begin bracket step layout encode_utf8
text_4 = refl

text_5 : tokens_of_chars One (codes "x # c \\\ny\n") ≡ Ok (token (name (codes "x")) 1 0 1 ∷ token newline 1 7 8 ∷ token (name (codes "y")) 2 8 9 ∷ token newline 2 9 10 ∷ [])
unfolding reserved_marks delimiter operator numeral escape item closes body Q.quoted token_piece lexeme cut indented begin bracket step layout encode_utf8
text_5 = refl

text_6 : tokens_of_chars One (codes "x = \\\n  1\ny\n") ≡ Ok (token (name (codes "x")) 1 0 1 ∷ token (mark m.Assign) 1 2 3 ∷ token (integer (pos 1)) 2 8 9 ∷ token newline 2 9 10 ∷ token (name (codes "y")) 3 10 11 ∷ token newline 3 11 12 ∷ [])
unfolding reserved_marks delimiter operator numeral escape item closes body Q.quoted token_piece lexeme cut indented begin bracket step layout encode_utf8
text_6 = refl

text_7 : tokens_of_chars One (codes "(a,\n b)\nc\n") ≡ Ok (token (mark m.LeftParenthesis) 1 0 1 ∷ token (name (codes "a")) 1 1 2 ∷ token (mark m.Comma) 1 2 3 ∷ token (name (codes "b")) 2 5 6 ∷ token (mark m.RightParenthesis) 2 6 7 ∷ token newline 2 7 8 ∷ token (name (codes "c")) 3 8 9 ∷ token newline 3 9 10 ∷ [])
unfolding reserved_marks delimiter operator numeral escape item closes body Q.quoted token_piece lexeme cut indented begin bracket step layout encode_utf8
text_7 = refl

text_8 : tokens_of_chars One (codes "if a:\n  b\n\n    # c\n  c\nd\n") ≡ Ok (token (mark m.If) 1 0 2 ∷ token (name (codes "a")) 1 3 4 ∷ token (mark m.Colon) 1 4 5 ∷ token newline 1 5 6 ∷ token indent 2 6 8 ∷ token (name (codes "b")) 2 8 9 ∷ token newline 2 9 10 ∷ token (name (codes "c")) 5 21 22 ∷ token newline 5 22 23 ∷ token dedent 6 23 23 ∷ token (name (codes "d")) 6 23 24 ∷ token newline 6 24 25 ∷ [])
unfolding reserved_marks delimiter operator numeral escape item closes body Q.quoted token_piece lexeme cut indented begin bracket step layout encode_utf8
text_8 = refl

text_9 : tokens_of_chars One (codes "if a:\n  b") ≡ Ok (token (mark m.If) 1 0 2 ∷ token (name (codes "a")) 1 3 4 ∷ token (mark m.Colon) 1 4 5 ∷ token newline 1 5 6 ∷ token indent 2 6 8 ∷ token (name (codes "b")) 2 8 9 ∷ token newline 2 9 9 ∷ token dedent 2 9 9 ∷ [])
unfolding reserved_marks delimiter operator numeral escape item closes body Q.quoted token_piece lexeme cut indented begin bracket step layout encode_utf8
text_9 = refl

text_10 : tokens_of_chars One (codes "if a:\n  if b:\n    c\nd\n") ≡ Ok (token (mark m.If) 1 0 2 ∷ token (name (codes "a")) 1 3 4 ∷ token (mark m.Colon) 1 4 5 ∷ token newline 1 5 6 ∷ token indent 2 6 8 ∷ token (mark m.If) 2 8 10 ∷ token (name (codes "b")) 2 11 12 ∷ token (mark m.Colon) 2 12 13 ∷ token newline 2 13 14 ∷ token indent 3 14 18 ∷ token (name (codes "c")) 3 18 19 ∷ token newline 3 19 20 ∷ token dedent 4 20 20 ∷ token dedent 4 20 20 ∷ token (name (codes "d")) 4 20 21 ∷ token newline 4 21 22 ∷ [])
unfolding reserved_marks delimiter operator numeral escape item closes body Q.quoted token_piece lexeme cut indented begin bracket step layout encode_utf8
text_10 = refl

text_11 : tokens_of_chars One (codes "0 00 0_0 1 12 1_2_3\n") ≡ Ok (token (integer (pos 0)) 1 0 1 ∷ token (integer (pos 0)) 1 2 4 ∷ token (integer (pos 0)) 1 5 8 ∷ token (integer (pos 1)) 1 9 10 ∷ token (integer (pos 12)) 1 11 13 ∷ token (integer (pos 123)) 1 14 19 ∷ token newline 1 19 20 ∷ [])
unfolding reserved_marks delimiter operator numeral escape item closes body Q.quoted token_piece lexeme cut indented begin bracket step layout encode_utf8
text_11 = refl

text_12 : tokens_of_chars One (codes "0x1F 0XaB_c 0o17 0O7 0b101 0B_1 0x_f\n") ≡ Ok (token (integer (pos 31)) 1 0 4 ∷ token (integer (pos 2748)) 1 5 11 ∷ token (integer (pos 15)) 1 12 16 ∷ token (integer (pos 7)) 1 17 20 ∷ token (integer (pos 5)) 1 21 26 ∷ token (integer (pos 1)) 1 27 31 ∷ token (integer (pos 15)) 1 32 36 ∷ token newline 1 36 37 ∷ [])
unfolding reserved_marks delimiter operator numeral escape item closes body Q.quoted token_piece lexeme cut indented begin bracket step layout encode_utf8
text_12 = refl

text_13 : tokens_of_chars One (codes "170141183460469231731687303715884105727\n") ≡ Ok (token (integer (pos 170141183460469231731687303715884105727)) 1 0 39 ∷ token newline 1 39 40 ∷ [])
unfolding reserved_marks delimiter operator numeral escape item closes body Q.quoted token_piece lexeme cut indented begin bracket step layout encode_utf8
text_13 = refl

text_14 : tokens_of_chars One (codes "'a' \"b\" '''c''' \"\"\"d\"\"\"\n") ≡ Ok (token (quoted (codes "a")) 1 0 3 ∷ token (quoted (codes "b")) 1 4 7 ∷ token (quoted (codes "c")) 1 8 15 ∷ token (quoted (codes "d")) 1 16 23 ∷ token newline 1 23 24 ∷ [])
unfolding reserved_marks delimiter operator numeral escape item closes body Q.quoted token_piece lexeme cut indented begin bracket step layout encode_utf8
text_14 = refl

text_15 : tokens_of_chars One (codes "r'a\\'b' R\"\\n\\x\" u'x\\t' U\"y\"\n") ≡ Ok (token (quoted (codes "a\\'b")) 1 0 7 ∷ token (quoted (codes "\\n\\x")) 1 8 15 ∷ token (quoted (120 ∷ 9 ∷ [])) 1 16 22 ∷ token (quoted (codes "y")) 1 23 27 ∷ token newline 1 27 28 ∷ [])
unfolding reserved_marks delimiter operator numeral escape item closes body Q.quoted token_piece lexeme cut indented begin bracket step layout encode_utf8
text_15 = refl

text_16 : tokens_of_chars One (codes "'a\\\nb'\nx\n") ≡ Ok (token (quoted (codes "ab")) 1 0 6 ∷ token newline 2 6 7 ∷ token (name (codes "x")) 3 7 8 ∷ token newline 3 8 9 ∷ [])
unfolding reserved_marks delimiter operator numeral escape item closes body Q.quoted token_piece lexeme cut indented begin bracket step layout encode_utf8
text_16 = refl

text_17 : tokens_of_chars One (codes "'\\\\\\'\\\"\\a\\b\\f\\n\\r\\t\\v'\n") ≡ Ok (token (quoted (92 ∷ 39 ∷ 34 ∷ 7 ∷ 8 ∷ 12 ∷ 10 ∷ 13 ∷ 9 ∷ 11 ∷ [])) 1 0 22 ∷ token newline 1 22 23 ∷ [])
unfolding reserved_marks delimiter operator numeral escape item closes body Q.quoted token_piece lexeme cut indented begin bracket step layout encode_utf8
text_17 = refl

text_18 : tokens_of_chars One (codes "'\\0\\12\\101\\1018\\777\\8'\n") ≡ Ok (token (quoted (0 ∷ 10 ∷ 65 ∷ 65 ∷ 56 ∷ 199 ∷ 191 ∷ 92 ∷ 56 ∷ [])) 1 0 22 ∷ token newline 1 22 23 ∷ [])
unfolding reserved_marks delimiter operator numeral escape item closes body Q.quoted token_piece lexeme cut indented begin bracket step layout encode_utf8
text_18 = refl

text_19 : tokens_of_chars One (39 ∷ 92 ∷ 113 ∷ 92 ∷ 233 ∷ 92 ∷ 95 ∷ 39 ∷ 10 ∷ []) ≡ Ok (token (quoted (92 ∷ 113 ∷ 92 ∷ 195 ∷ 169 ∷ 92 ∷ 95 ∷ [])) 1 0 9 ∷ token newline 1 9 10 ∷ [])
unfolding reserved_marks delimiter operator numeral escape item closes body Q.quoted token_piece lexeme cut indented begin bracket step layout encode_utf8
text_19 = refl

text_20 : tokens_of_chars One (codes "'\\x41\\x7f\\xe9\\u00e9\\U0001F600\\U0010ffff'\n") ≡ Ok (token (quoted (65 ∷ 127 ∷ 195 ∷ 169 ∷ 195 ∷ 169 ∷ 240 ∷ 159 ∷ 152 ∷ 128 ∷ 244 ∷ 143 ∷ 191 ∷ 191 ∷ [])) 1 0 40 ∷ token newline 1 40 41 ∷ [])
unfolding reserved_marks delimiter operator numeral escape item closes body Q.quoted token_piece lexeme cut indented begin bracket step layout encode_utf8
text_20 = refl

text_21 : tokens_of_chars One (codes "+ - * // % ** == != < <= > >= = += -= *= //= %= **= , : . ;\n") ≡ Ok (token (mark m.Plus) 1 0 1 ∷ token (mark m.Minus) 1 2 3 ∷ token (mark m.Star) 1 4 5 ∷ token (mark m.FloorDivide) 1 6 8 ∷ token (mark m.Percent) 1 9 10 ∷ token (mark m.Power) 1 11 13 ∷ token (mark m.Equal) 1 14 16 ∷ token (mark m.NotEqual) 1 17 19 ∷ token (mark m.Less) 1 20 21 ∷ token (mark m.LessEqual) 1 22 24 ∷ token (mark m.Greater) 1 25 26 ∷ token (mark m.GreaterEqual) 1 27 29 ∷ token (mark m.Assign) 1 30 31 ∷ token (mark m.PlusAssign) 1 32 34 ∷ token (mark m.MinusAssign) 1 35 37 ∷ token (mark m.StarAssign) 1 38 40 ∷ token (mark m.FloorDivideAssign) 1 41 44 ∷ token (mark m.PercentAssign) 1 45 47 ∷ token (mark m.PowerAssign) 1 48 51 ∷ token (mark m.Comma) 1 52 53 ∷ token (mark m.Colon) 1 54 55 ∷ token (mark m.Dot) 1 56 57 ∷ token (mark m.Semicolon) 1 58 59 ∷ token newline 1 59 60 ∷ [])
unfolding reserved_marks delimiter operator numeral escape item closes body Q.quoted token_piece lexeme cut indented begin bracket step layout encode_utf8
text_21 = refl

text_22 : tokens_of_chars One (codes "()[]{}\n") ≡ Ok (token (mark m.LeftParenthesis) 1 0 1 ∷ token (mark m.RightParenthesis) 1 1 2 ∷ token (mark m.LeftBracket) 1 2 3 ∷ token (mark m.RightBracket) 1 3 4 ∷ token (mark m.LeftBrace) 1 4 5 ∷ token (mark m.RightBrace) 1 5 6 ∷ token newline 1 6 7 ∷ [])
unfolding reserved_marks delimiter operator numeral escape item closes body Q.quoted token_piece lexeme cut indented begin bracket step layout encode_utf8
text_22 = refl

text_23 : tokens_of_chars One (codes "a**=b**c//=d//e*f\n") ≡ Ok (token (name (codes "a")) 1 0 1 ∷ token (mark m.PowerAssign) 1 1 4 ∷ token (name (codes "b")) 1 4 5 ∷ token (mark m.Power) 1 5 7 ∷ token (name (codes "c")) 1 7 8 ∷ token (mark m.FloorDivideAssign) 1 8 11 ∷ token (name (codes "d")) 1 11 12 ∷ token (mark m.FloorDivide) 1 12 14 ∷ token (name (codes "e")) 1 14 15 ∷ token (mark m.Star) 1 15 16 ∷ token (name (codes "f")) 1 16 17 ∷ token newline 1 17 18 ∷ [])
unfolding reserved_marks delimiter operator numeral escape item closes body Q.quoted token_piece lexeme cut indented begin bracket step layout encode_utf8
text_23 = refl

text_24 : tokens_of_chars One (120 ∷ 13 ∷ 10 ∷ 121 ∷ 13 ∷ 122 ∷ 10 ∷ []) ≡ Ok (token (name (codes "x")) 1 0 1 ∷ token newline 1 1 2 ∷ token (name (codes "y")) 2 2 3 ∷ token newline 2 3 4 ∷ token (name (codes "z")) 3 4 5 ∷ token newline 3 5 6 ∷ [])
unfolding reserved_marks delimiter operator numeral escape item closes body Q.quoted token_piece lexeme cut indented begin bracket step layout encode_utf8
text_24 = refl

text_25 : tokens_of_chars One (39 ∷ 39 ∷ 39 ∷ 97 ∷ 13 ∷ 10 ∷ 98 ∷ 13 ∷ 99 ∷ 39 ∷ 39 ∷ 39 ∷ 32 ∷ 100 ∷ 10 ∷ []) ≡ Ok (token (quoted (codes "a\nb\nc")) 1 0 11 ∷ token (name (codes "d")) 3 12 13 ∷ token newline 3 13 14 ∷ [])
unfolding reserved_marks delimiter operator numeral escape item closes body Q.quoted token_piece lexeme cut indented begin bracket step layout encode_utf8
text_25 = refl

text_26 : tokens_of_chars One (codes "x\\\n") ≡ Ok (token (name (codes "x")) 1 0 1 ∷ token newline 2 3 3 ∷ [])
unfolding reserved_marks delimiter operator numeral escape item closes body Q.quoted token_piece lexeme cut indented begin bracket step layout encode_utf8
text_26 = refl

text_27 : tokens_of_chars One (codes "br'x'\n") ≡ Ok (token (name (codes "br")) 1 0 2 ∷ token (quoted (codes "x")) 1 2 5 ∷ token newline 1 5 6 ∷ [])
unfolding reserved_marks delimiter operator numeral escape item closes body Q.quoted token_piece lexeme cut indented begin bracket step layout encode_utf8
text_27 = refl

text_28 : tokens_of_chars One (codes "ur'x' Rr'y'") ≡ Ok (token (name (codes "ur")) 1 0 2 ∷ token (quoted (codes "x")) 1 2 5 ∷ token (name (codes "Rr")) 1 6 8 ∷ token (quoted (codes "y")) 1 8 11 ∷ token newline 1 11 11 ∷ [])
unfolding reserved_marks delimiter operator numeral escape item closes body Q.quoted token_piece lexeme cut indented begin bracket step layout encode_utf8
text_28 = refl

text_29 : tokens_of_chars One (codes ".5\n") ≡ Ok (token (mark m.Dot) 1 0 1 ∷ token (integer (pos 5)) 1 1 2 ∷ token newline 1 2 3 ∷ [])
unfolding reserved_marks delimiter operator numeral escape item closes body Q.quoted token_piece lexeme cut indented begin bracket step layout encode_utf8
text_29 = refl

text_30 : tokens_of_chars One (codes "  \\\n a") ≡ Ok (token indent 1 0 2 ∷ token (name (codes "a")) 2 5 6 ∷ token newline 2 6 6 ∷ token dedent 2 6 6 ∷ [])
unfolding reserved_marks delimiter operator numeral escape item closes body Q.quoted token_piece lexeme cut indented begin bracket step layout encode_utf8
text_30 = refl

text_31 : tokens_of_chars One (codes "\\\n  x\n") ≡ Ok (token (name (codes "x")) 2 4 5 ∷ token newline 2 5 6 ∷ [])
unfolding reserved_marks delimiter operator numeral escape item closes body Q.quoted token_piece lexeme cut indented begin bracket step layout encode_utf8
text_31 = refl

text_32 : tokens_of_chars One (codes "if a:\n    b\n\\\nc\n") ≡ Ok (token (mark m.If) 1 0 2 ∷ token (name (codes "a")) 1 3 4 ∷ token (mark m.Colon) 1 4 5 ∷ token newline 1 5 6 ∷ token indent 2 6 10 ∷ token (name (codes "b")) 2 10 11 ∷ token newline 2 11 12 ∷ token dedent 3 12 12 ∷ token (name (codes "c")) 4 14 15 ∷ token newline 4 15 16 ∷ [])
unfolding reserved_marks delimiter operator numeral escape item closes body Q.quoted token_piece lexeme cut indented begin bracket step layout encode_utf8
text_32 = refl

text_33 : tokens_of_chars One (codes "\\\n") ≡ Ok ([])
unfolding reserved_marks delimiter operator numeral escape item closes body Q.quoted token_piece lexeme cut indented begin bracket step layout encode_utf8
text_33 = refl

text_34 : tokens_of_chars One (codes "a\n$\n") ≡ Err 2
unfolding reserved_marks delimiter operator numeral escape item closes body Q.quoted token_piece lexeme cut indented begin bracket step layout encode_utf8
text_34 = refl

text_35 : tokens_of_chars One (codes "a / b") ≡ Err 1
unfolding reserved_marks delimiter operator numeral escape item closes body Q.quoted token_piece lexeme cut indented begin bracket step layout encode_utf8
text_35 = refl

text_36 : tokens_of_chars One (233 ∷ []) ≡ Err 1
unfolding reserved_marks delimiter operator numeral escape item closes body Q.quoted token_piece lexeme cut indented begin bracket step layout encode_utf8
text_36 = refl

text_37 : tokens_of_chars One (97 ∷ 12 ∷ 98 ∷ []) ≡ Err 1
unfolding reserved_marks delimiter operator numeral escape item closes body Q.quoted token_piece lexeme cut indented begin bracket step layout encode_utf8
text_37 = refl

text_38 : tokens_of_chars One (97 ∷ 10 ∷ 35 ∷ 32 ∷ 0 ∷ 10 ∷ []) ≡ Err 2
unfolding reserved_marks delimiter operator numeral escape item closes body Q.quoted token_piece lexeme cut indented begin bracket step layout encode_utf8
text_38 = refl

text_39 : tokens_of_chars One (39 ∷ 39 ∷ 39 ∷ 10 ∷ 10 ∷ 0 ∷ 39 ∷ 39 ∷ 39 ∷ []) ≡ Err 3
unfolding reserved_marks delimiter operator numeral escape item closes body Q.quoted token_piece lexeme cut indented begin bracket step layout encode_utf8
text_39 = refl

text_40 : tokens_of_chars One (39 ∷ 39 ∷ 39 ∷ 10 ∷ 0 ∷ 10 ∷ 92 ∷ 120 ∷ 49 ∷ 39 ∷ 39 ∷ 39 ∷ []) ≡ Err 1
unfolding reserved_marks delimiter operator numeral escape item closes body Q.quoted token_piece lexeme cut indented begin bracket step layout encode_utf8
text_40 = refl

text_41 : tokens_of_chars One (codes "a \\ b") ≡ Err 1
unfolding reserved_marks delimiter operator numeral escape item closes body Q.quoted token_piece lexeme cut indented begin bracket step layout encode_utf8
text_41 = refl

text_42 : tokens_of_chars One (codes "a\\") ≡ Err 1
unfolding reserved_marks delimiter operator numeral escape item closes body Q.quoted token_piece lexeme cut indented begin bracket step layout encode_utf8
text_42 = refl

text_43 : tokens_of_chars One (codes "if a:\n    b\n  c\n") ≡ Err 3
unfolding reserved_marks delimiter operator numeral escape item closes body Q.quoted token_piece lexeme cut indented begin bracket step layout encode_utf8
text_43 = refl

text_44 : tokens_of_chars One (105 ∷ 102 ∷ 32 ∷ 97 ∷ 58 ∷ 10 ∷ 9 ∷ 98 ∷ 10 ∷ 32 ∷ 32 ∷ 32 ∷ 32 ∷ 32 ∷ 32 ∷ 32 ∷ 32 ∷ 99 ∷ 10 ∷ []) ≡ Err 3
unfolding reserved_marks delimiter operator numeral escape item closes body Q.quoted token_piece lexeme cut indented begin bracket step layout encode_utf8
text_44 = refl

text_45 : tokens_of_chars One (codes "if a:\n    b\n  \\\nc\n") ≡ Err 3
unfolding reserved_marks delimiter operator numeral escape item closes body Q.quoted token_piece lexeme cut indented begin bracket step layout encode_utf8
text_45 = refl

text_46 : tokens_of_chars One (105 ∷ 102 ∷ 32 ∷ 97 ∷ 58 ∷ 10 ∷ 32 ∷ 32 ∷ 32 ∷ 32 ∷ 98 ∷ 10 ∷ 32 ∷ 32 ∷ 39 ∷ 39 ∷ 39 ∷ 10 ∷ 0 ∷ []) ≡ Err 3
unfolding reserved_marks delimiter operator numeral escape item closes body Q.quoted token_piece lexeme cut indented begin bracket step layout encode_utf8
text_46 = refl

text_47 : tokens_of_chars One (105 ∷ 102 ∷ 32 ∷ 97 ∷ 58 ∷ 10 ∷ 32 ∷ 32 ∷ 32 ∷ 32 ∷ 98 ∷ 10 ∷ 32 ∷ 32 ∷ 92 ∷ 10 ∷ 35 ∷ 32 ∷ 0 ∷ []) ≡ Err 4
unfolding reserved_marks delimiter operator numeral escape item closes body Q.quoted token_piece lexeme cut indented begin bracket step layout encode_utf8
text_47 = refl

text_48 : tokens_of_chars One (codes "(\n]") ≡ Err 2
unfolding reserved_marks delimiter operator numeral escape item closes body Q.quoted token_piece lexeme cut indented begin bracket step layout encode_utf8
text_48 = refl

text_49 : tokens_of_chars One (codes "(\n[\n") ≡ Err 2
unfolding reserved_marks delimiter operator numeral escape item closes body Q.quoted token_piece lexeme cut indented begin bracket step layout encode_utf8
text_49 = refl

text_50 : tokens_of_chars One (codes "(\n\n$") ≡ Err 3
unfolding reserved_marks delimiter operator numeral escape item closes body Q.quoted token_piece lexeme cut indented begin bracket step layout encode_utf8
text_50 = refl

text_51 : tokens_of_chars One (codes "0_1") ≡ Err 1
unfolding reserved_marks delimiter operator numeral escape item closes body Q.quoted token_piece lexeme cut indented begin bracket step layout encode_utf8
text_51 = refl

text_52 : tokens_of_chars One (codes "0x_") ≡ Err 1
unfolding reserved_marks delimiter operator numeral escape item closes body Q.quoted token_piece lexeme cut indented begin bracket step layout encode_utf8
text_52 = refl

text_53 : tokens_of_chars One (codes "1.") ≡ Err 1
unfolding reserved_marks delimiter operator numeral escape item closes body Q.quoted token_piece lexeme cut indented begin bracket step layout encode_utf8
text_53 = refl

text_54 : tokens_of_chars One (codes "170141183460469231731687303715884105728") ≡ Err 1
unfolding reserved_marks delimiter operator numeral escape item closes body Q.quoted token_piece lexeme cut indented begin bracket step layout encode_utf8
text_54 = refl

text_55 : tokens_of_chars One (codes "'a\nb'") ≡ Err 1
unfolding reserved_marks delimiter operator numeral escape item closes body Q.quoted token_piece lexeme cut indented begin bracket step layout encode_utf8
text_55 = refl

text_56 : tokens_of_chars One (codes "x\n'''a\n") ≡ Err 2
unfolding reserved_marks delimiter operator numeral escape item closes body Q.quoted token_piece lexeme cut indented begin bracket step layout encode_utf8
text_56 = refl

text_57 : tokens_of_chars One (codes "r'\\'") ≡ Err 1
unfolding reserved_marks delimiter operator numeral escape item closes body Q.quoted token_piece lexeme cut indented begin bracket step layout encode_utf8
text_57 = refl

text_58 : tokens_of_chars One (codes "'\\u123'") ≡ Err 1
unfolding reserved_marks delimiter operator numeral escape item closes body Q.quoted token_piece lexeme cut indented begin bracket step layout encode_utf8
text_58 = refl

text_59 : tokens_of_chars One (codes "'\\ud800'") ≡ Err 1
unfolding reserved_marks delimiter operator numeral escape item closes body Q.quoted token_piece lexeme cut indented begin bracket step layout encode_utf8
text_59 = refl

text_60 : tokens_of_chars One (codes "'\\N{DIGIT ONE}'") ≡ Err 1
unfolding reserved_marks delimiter operator numeral escape item closes body Q.quoted token_piece lexeme cut indented begin bracket step layout encode_utf8
text_60 = refl

text_61 : tokens_of_chars One (codes "x = \\\n\n$") ≡ Err 3
unfolding reserved_marks delimiter operator numeral escape item closes body Q.quoted token_piece lexeme cut indented begin bracket step layout encode_utf8
text_61 = refl
