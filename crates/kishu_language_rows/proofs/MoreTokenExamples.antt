-- Which tokens further texts have, from CPython where the languages agree: computed on the definition. Made by tools/rows/text_rows.py.
use Rattle.std.proofs.Common.{◌≡◌, refl, [], ◌∷◌, replicate}
use Rattle.std.specs.Prelude.{pos, codes, Ok}
use Rattle.kishu_language.specs.declared.profile.Profile.TheVariants.{One}
use Rattle.kishu_language.specs.declared.token.Mark.TheVariants as m
use Rattle.kishu_language.specs.tokens.Marks.{reserved_marks, delimiter, operator}
use Rattle.kishu_language.specs.tokens.Numerals.{numeral}
use Rattle.kishu_language.specs.tokens.Quoted as Q
use Rattle.kishu_language.specs.tokens.Quoted.{escape, item, closes, body}
use Rattle.std.specs.Char.{encode_utf8}
use Rattle.kishu_language.specs.tokens.Lexemes.{token_piece, lexeme}
use Rattle.kishu_language.specs.tokens.Layout.{name, integer, quoted, newline, indent, dedent, mark, token, cut, indented, begin, bracket, step, layout}
use Rattle.kishu_language.specs.tokens.Tokens.{tokens_of_chars}

text_1 : tokens_of_chars One (codes "x\n") ≡ Ok (token (name (codes "x")) 1 0 1 ∷ token newline 1 1 2 ∷ [])
unfolding reserved_marks delimiter operator numeral escape item closes body Q.quoted token_piece lexeme cut indented begin bracket step layout encode_utf8
text_1 = refl

text_2 : tokens_of_chars One (codes "[\n# c\n\n  {\n}\n]\n") ≡ Ok (token (mark m.LeftBracket) 1 0 1 ∷ token (mark m.LeftBrace) 4 9 10 ∷ token (mark m.RightBrace) 5 11 12 ∷ token (mark m.RightBracket) 6 13 14 ∷ token newline 6 14 15 ∷ [])
unfolding reserved_marks delimiter operator numeral escape item closes body Q.quoted token_piece lexeme cut indented begin bracket step layout encode_utf8
text_2 = refl

text_3 : tokens_of_chars One (105 ∷ 102 ∷ 32 ∷ 97 ∷ 58 ∷ 10 ∷ 9 ∷ 105 ∷ 102 ∷ 32 ∷ 98 ∷ 58 ∷ 10 ∷ 9 ∷ 32 ∷ 32 ∷ 99 ∷ 10 ∷ 100 ∷ 10 ∷ []) ≡ Ok (token (mark m.If) 1 0 2 ∷ token (name (codes "a")) 1 3 4 ∷ token (mark m.Colon) 1 4 5 ∷ token newline 1 5 6 ∷ token indent 2 6 7 ∷ token (mark m.If) 2 7 9 ∷ token (name (codes "b")) 2 10 11 ∷ token (mark m.Colon) 2 11 12 ∷ token newline 2 12 13 ∷ token indent 3 13 16 ∷ token (name (codes "c")) 3 16 17 ∷ token newline 3 17 18 ∷ token dedent 4 18 18 ∷ token dedent 4 18 18 ∷ token (name (codes "d")) 4 18 19 ∷ token newline 4 19 20 ∷ [])
unfolding reserved_marks delimiter operator numeral escape item closes body Q.quoted token_piece lexeme cut indented begin bracket step layout encode_utf8
text_3 = refl

text_4 : tokens_of_chars One (codes "if a:\n  if b:\n    c\n") ≡ Ok (token (mark m.If) 1 0 2 ∷ token (name (codes "a")) 1 3 4 ∷ token (mark m.Colon) 1 4 5 ∷ token newline 1 5 6 ∷ token indent 2 6 8 ∷ token (mark m.If) 2 8 10 ∷ token (name (codes "b")) 2 11 12 ∷ token (mark m.Colon) 2 12 13 ∷ token newline 2 13 14 ∷ token indent 3 14 18 ∷ token (name (codes "c")) 3 18 19 ∷ token newline 3 19 20 ∷ token dedent 4 20 20 ∷ token dedent 4 20 20 ∷ [])
unfolding reserved_marks delimiter operator numeral escape item closes body Q.quoted token_piece lexeme cut indented begin bracket step layout encode_utf8
text_4 = refl

text_5 : tokens_of_chars One (105 ∷ 102 ∷ 32 ∷ 97 ∷ 58 ∷ 10 ∷ 32 ∷ 9 ∷ 98 ∷ 10 ∷ 32 ∷ 9 ∷ 105 ∷ 102 ∷ 32 ∷ 99 ∷ 58 ∷ 10 ∷ 32 ∷ 9 ∷ 9 ∷ 100 ∷ 10 ∷ 32 ∷ 9 ∷ 101 ∷ 10 ∷ []) ≡ Ok (token (mark m.If) 1 0 2 ∷ token (name (codes "a")) 1 3 4 ∷ token (mark m.Colon) 1 4 5 ∷ token newline 1 5 6 ∷ token indent 2 6 8 ∷ token (name (codes "b")) 2 8 9 ∷ token newline 2 9 10 ∷ token (mark m.If) 3 12 14 ∷ token (name (codes "c")) 3 15 16 ∷ token (mark m.Colon) 3 16 17 ∷ token newline 3 17 18 ∷ token indent 4 18 21 ∷ token (name (codes "d")) 4 21 22 ∷ token newline 4 22 23 ∷ token dedent 5 25 25 ∷ token (name (codes "e")) 5 25 26 ∷ token newline 5 26 27 ∷ token dedent 6 27 27 ∷ [])
unfolding reserved_marks delimiter operator numeral escape item closes body Q.quoted token_piece lexeme cut indented begin bracket step layout encode_utf8
text_5 = refl

text_6 : tokens_of_chars One (codes "if a:\n  b\n # c\nd\n") ≡ Ok (token (mark m.If) 1 0 2 ∷ token (name (codes "a")) 1 3 4 ∷ token (mark m.Colon) 1 4 5 ∷ token newline 1 5 6 ∷ token indent 2 6 8 ∷ token (name (codes "b")) 2 8 9 ∷ token newline 2 9 10 ∷ token dedent 4 15 15 ∷ token (name (codes "d")) 4 15 16 ∷ token newline 4 16 17 ∷ [])
unfolding reserved_marks delimiter operator numeral escape item closes body Q.quoted token_piece lexeme cut indented begin bracket step layout encode_utf8
text_6 = refl

text_7 : tokens_of_chars One (codes "if a: b\n") ≡ Ok (token (mark m.If) 1 0 2 ∷ token (name (codes "a")) 1 3 4 ∷ token (mark m.Colon) 1 4 5 ∷ token (name (codes "b")) 1 6 7 ∷ token newline 1 7 8 ∷ [])
unfolding reserved_marks delimiter operator numeral escape item closes body Q.quoted token_piece lexeme cut indented begin bracket step layout encode_utf8
text_7 = refl

text_8 : tokens_of_chars One (codes "_a1 Zz __\n") ≡ Ok (token (name (codes "_a1")) 1 0 3 ∷ token (name (codes "Zz")) 1 4 6 ∷ token (name (codes "__")) 1 7 9 ∷ token newline 1 9 10 ∷ [])
unfolding reserved_marks delimiter operator numeral escape item closes body Q.quoted token_piece lexeme cut indented begin bracket step layout encode_utf8
text_8 = refl

text_9 : tokens_of_chars One (codes "False None True and as assert async await break class continue def del elif else except finally for from global if import in is lambda nonlocal not or pass raise return try while with yield\n") ≡ Ok (token (mark m.False) 1 0 5 ∷ token (mark m.None) 1 6 10 ∷ token (mark m.True) 1 11 15 ∷ token (mark m.And) 1 16 19 ∷ token (mark m.As) 1 20 22 ∷ token (mark m.Assert) 1 23 29 ∷ token (mark m.Async) 1 30 35 ∷ token (mark m.Await) 1 36 41 ∷ token (mark m.Break) 1 42 47 ∷ token (mark m.Class) 1 48 53 ∷ token (mark m.Continue) 1 54 62 ∷ token (mark m.Def) 1 63 66 ∷ token (mark m.Del) 1 67 70 ∷ token (mark m.Elif) 1 71 75 ∷ token (mark m.Else) 1 76 80 ∷ token (mark m.Except) 1 81 87 ∷ token (mark m.Finally) 1 88 95 ∷ token (mark m.For) 1 96 99 ∷ token (mark m.From) 1 100 104 ∷ token (mark m.Global) 1 105 111 ∷ token (mark m.If) 1 112 114 ∷ token (mark m.Import) 1 115 121 ∷ token (mark m.In) 1 122 124 ∷ token (mark m.Is) 1 125 127 ∷ token (mark m.Lambda) 1 128 134 ∷ token (mark m.Nonlocal) 1 135 143 ∷ token (mark m.Not) 1 144 147 ∷ token (mark m.Or) 1 148 150 ∷ token (mark m.Pass) 1 151 155 ∷ token (mark m.Raise) 1 156 161 ∷ token (mark m.Return) 1 162 168 ∷ token (mark m.Try) 1 169 172 ∷ token (mark m.While) 1 173 178 ∷ token (mark m.With) 1 179 183 ∷ token (mark m.Yield) 1 184 189 ∷ token newline 1 189 190 ∷ [])
unfolding reserved_marks delimiter operator numeral escape item closes body Q.quoted token_piece lexeme cut indented begin bracket step layout encode_utf8
text_9 = refl

text_10 : tokens_of_chars One (codes "iff nota NONE\n") ≡ Ok (token (name (codes "iff")) 1 0 3 ∷ token (name (codes "nota")) 1 4 8 ∷ token (name (codes "NONE")) 1 9 13 ∷ token newline 1 13 14 ∷ [])
unfolding reserved_marks delimiter operator numeral escape item closes body Q.quoted token_piece lexeme cut indented begin bracket step layout encode_utf8
text_10 = refl

text_11 : tokens_of_chars One (codes "1'a' 1(2)x\n") ≡ Ok (token (integer (pos 1)) 1 0 1 ∷ token (quoted (codes "a")) 1 1 4 ∷ token (integer (pos 1)) 1 5 6 ∷ token (mark m.LeftParenthesis) 1 6 7 ∷ token (integer (pos 2)) 1 7 8 ∷ token (mark m.RightParenthesis) 1 8 9 ∷ token (name (codes "x")) 1 9 10 ∷ token newline 1 10 11 ∷ [])
unfolding reserved_marks delimiter operator numeral escape item closes body Q.quoted token_piece lexeme cut indented begin bracket step layout encode_utf8
text_11 = refl

text_12 : tokens_of_chars One (codes "0x7fffffffffffffffffffffffffffffff\n") ≡ Ok (token (integer (pos 170141183460469231731687303715884105727)) 1 0 34 ∷ token newline 1 34 35 ∷ [])
unfolding reserved_marks delimiter operator numeral escape item closes body Q.quoted token_piece lexeme cut indented begin bracket step layout encode_utf8
text_12 = refl

text_13 : tokens_of_chars One (codes "'' \"\" '''''' r''\n") ≡ Ok (token (quoted (codes "")) 1 0 2 ∷ token (quoted (codes "")) 1 3 5 ∷ token (quoted (codes "")) 1 6 12 ∷ token (quoted (codes "")) 1 13 16 ∷ token newline 1 16 17 ∷ [])
unfolding reserved_marks delimiter operator numeral escape item closes body Q.quoted token_piece lexeme cut indented begin bracket step layout encode_utf8
text_13 = refl

text_14 : tokens_of_chars One (codes "'a\"b' \"a'b\" '''a'b''c'''\n") ≡ Ok (token (quoted (codes "a\"b")) 1 0 5 ∷ token (quoted (codes "a'b")) 1 6 11 ∷ token (quoted (codes "a'b''c")) 1 12 24 ∷ token newline 1 24 25 ∷ [])
unfolding reserved_marks delimiter operator numeral escape item closes body Q.quoted token_piece lexeme cut indented begin bracket step layout encode_utf8
text_14 = refl

text_15 : tokens_of_chars One (codes "r x\n") ≡ Ok (token (name (codes "r")) 1 0 1 ∷ token (name (codes "x")) 1 2 3 ∷ token newline 1 3 4 ∷ [])
unfolding reserved_marks delimiter operator numeral escape item closes body Q.quoted token_piece lexeme cut indented begin bracket step layout encode_utf8
text_15 = refl

text_16 : tokens_of_chars One (codes "\"\"\"a\n'b\"c\n\"\"\"\nx\n") ≡ Ok (token (quoted (codes "a\n'b\"c\n")) 1 0 13 ∷ token newline 3 13 14 ∷ token (name (codes "x")) 4 14 15 ∷ token newline 4 15 16 ∷ [])
unfolding reserved_marks delimiter operator numeral escape item closes body Q.quoted token_piece lexeme cut indented begin bracket step layout encode_utf8
text_16 = refl

text_17 : tokens_of_chars One (codes "r'a\\\nb'\nx\n") ≡ Ok (token (quoted (codes "a\\\nb")) 1 0 7 ∷ token newline 2 7 8 ∷ token (name (codes "x")) 3 8 9 ∷ token newline 3 9 10 ∷ [])
unfolding reserved_marks delimiter operator numeral escape item closes body Q.quoted token_piece lexeme cut indented begin bracket step layout encode_utf8
text_17 = refl

text_18 : tokens_of_chars One (codes "r'\\N\\ud800\\\\' R'\\'' r\"\"\"a\n\\\"\"\"\"\n") ≡ Ok (token (quoted (codes "\\N\\ud800\\\\")) 1 0 13 ∷ token (quoted (codes "\\'")) 1 14 19 ∷ token (quoted (codes "a\n\\\"")) 1 20 31 ∷ token newline 2 31 32 ∷ [])
unfolding reserved_marks delimiter operator numeral escape item closes body Q.quoted token_piece lexeme cut indented begin bracket step layout encode_utf8
text_18 = refl

text_19 : tokens_of_chars One (codes "'''\\\na\\n'''\n") ≡ Ok (token (quoted (codes "a\n")) 1 0 11 ∷ token newline 2 11 12 ∷ [])
unfolding reserved_marks delimiter operator numeral escape item closes body Q.quoted token_piece lexeme cut indented begin bracket step layout encode_utf8
text_19 = refl

text_20 : tokens_of_chars One (39 ∷ 233 ∷ 128512 ∷ 39 ∷ 32 ∷ 120 ∷ 10 ∷ []) ≡ Ok (token (quoted (195 ∷ 169 ∷ 240 ∷ 159 ∷ 152 ∷ 128 ∷ [])) 1 0 8 ∷ token (name (codes "x")) 1 9 10 ∷ token newline 1 10 11 ∷ [])
unfolding reserved_marks delimiter operator numeral escape item closes body Q.quoted token_piece lexeme cut indented begin bracket step layout encode_utf8
text_20 = refl

text_21 : tokens_of_chars One (codes "'a' 'b'\n") ≡ Ok (token (quoted (codes "a")) 1 0 3 ∷ token (quoted (codes "b")) 1 4 7 ∷ token newline 1 7 8 ∷ [])
unfolding reserved_marks delimiter operator numeral escape item closes body Q.quoted token_piece lexeme cut indented begin bracket step layout encode_utf8
text_21 = refl

text_22 : tokens_of_chars One (35 ∷ 32 ∷ 233 ∷ 10 ∷ 120 ∷ 10 ∷ []) ≡ Ok (token (name (codes "x")) 2 5 6 ∷ token newline 2 6 7 ∷ [])
unfolding reserved_marks delimiter operator numeral escape item closes body Q.quoted token_piece lexeme cut indented begin bracket step layout encode_utf8
text_22 = refl

text_23 : tokens_of_chars One (39 ∷ 97 ∷ 12 ∷ 98 ∷ 39 ∷ 32 ∷ 35 ∷ 32 ∷ 12 ∷ 10 ∷ 120 ∷ 10 ∷ []) ≡ Ok (token (quoted (97 ∷ 12 ∷ 98 ∷ [])) 1 0 5 ∷ token newline 1 9 10 ∷ token (name (codes "x")) 2 10 11 ∷ token newline 2 11 12 ∷ [])
unfolding reserved_marks delimiter operator numeral escape item closes body Q.quoted token_piece lexeme cut indented begin bracket step layout encode_utf8
text_23 = refl

text_24 : tokens_of_chars One (codes "a<=b<c==d!=e>=f>g=h\n") ≡ Ok (token (name (codes "a")) 1 0 1 ∷ token (mark m.LessEqual) 1 1 3 ∷ token (name (codes "b")) 1 3 4 ∷ token (mark m.Less) 1 4 5 ∷ token (name (codes "c")) 1 5 6 ∷ token (mark m.Equal) 1 6 8 ∷ token (name (codes "d")) 1 8 9 ∷ token (mark m.NotEqual) 1 9 11 ∷ token (name (codes "e")) 1 11 12 ∷ token (mark m.GreaterEqual) 1 12 14 ∷ token (name (codes "f")) 1 14 15 ∷ token (mark m.Greater) 1 15 16 ∷ token (name (codes "g")) 1 16 17 ∷ token (mark m.Assign) 1 17 18 ∷ token (name (codes "h")) 1 18 19 ∷ token newline 1 19 20 ∷ [])
unfolding reserved_marks delimiter operator numeral escape item closes body Q.quoted token_piece lexeme cut indented begin bracket step layout encode_utf8
text_24 = refl

text_25 : tokens_of_chars One (codes "a-=1-b+=2+c*=3*d%=4%e\n") ≡ Ok (token (name (codes "a")) 1 0 1 ∷ token (mark m.MinusAssign) 1 1 3 ∷ token (integer (pos 1)) 1 3 4 ∷ token (mark m.Minus) 1 4 5 ∷ token (name (codes "b")) 1 5 6 ∷ token (mark m.PlusAssign) 1 6 8 ∷ token (integer (pos 2)) 1 8 9 ∷ token (mark m.Plus) 1 9 10 ∷ token (name (codes "c")) 1 10 11 ∷ token (mark m.StarAssign) 1 11 13 ∷ token (integer (pos 3)) 1 13 14 ∷ token (mark m.Star) 1 14 15 ∷ token (name (codes "d")) 1 15 16 ∷ token (mark m.PercentAssign) 1 16 18 ∷ token (integer (pos 4)) 1 18 19 ∷ token (mark m.Percent) 1 19 20 ∷ token (name (codes "e")) 1 20 21 ∷ token newline 1 21 22 ∷ [])
unfolding reserved_marks delimiter operator numeral escape item closes body Q.quoted token_piece lexeme cut indented begin bracket step layout encode_utf8
text_25 = refl

text_26 : tokens_of_chars One (codes "a.b;c:d\n") ≡ Ok (token (name (codes "a")) 1 0 1 ∷ token (mark m.Dot) 1 1 2 ∷ token (name (codes "b")) 1 2 3 ∷ token (mark m.Semicolon) 1 3 4 ∷ token (name (codes "c")) 1 4 5 ∷ token (mark m.Colon) 1 5 6 ∷ token (name (codes "d")) 1 6 7 ∷ token newline 1 7 8 ∷ [])
unfolding reserved_marks delimiter operator numeral escape item closes body Q.quoted token_piece lexeme cut indented begin bracket step layout encode_utf8
text_26 = refl

text_27 : tokens_of_chars One (codes "a--b\n") ≡ Ok (token (name (codes "a")) 1 0 1 ∷ token (mark m.Minus) 1 1 2 ∷ token (mark m.Minus) 1 2 3 ∷ token (name (codes "b")) 1 3 4 ∷ token newline 1 4 5 ∷ [])
unfolding reserved_marks delimiter operator numeral escape item closes body Q.quoted token_piece lexeme cut indented begin bracket step layout encode_utf8
text_27 = refl

text_28 : tokens_of_chars One (120 ∷ 13 ∷ 13 ∷ 10 ∷ 121 ∷ 10 ∷ []) ≡ Ok (token (name (codes "x")) 1 0 1 ∷ token newline 1 1 2 ∷ token (name (codes "y")) 3 3 4 ∷ token newline 3 4 5 ∷ [])
unfolding reserved_marks delimiter operator numeral escape item closes body Q.quoted token_piece lexeme cut indented begin bracket step layout encode_utf8
text_28 = refl

text_29 : tokens_of_chars One (35 ∷ 32 ∷ 97 ∷ 13 ∷ 120 ∷ 10 ∷ []) ≡ Ok (token (name (codes "x")) 2 4 5 ∷ token newline 2 5 6 ∷ [])
unfolding reserved_marks delimiter operator numeral escape item closes body Q.quoted token_piece lexeme cut indented begin bracket step layout encode_utf8
text_29 = refl

text_30 : tokens_of_chars One (codes "x\n\n\n  # end") ≡ Ok (token (name (codes "x")) 1 0 1 ∷ token newline 1 1 2 ∷ [])
unfolding reserved_marks delimiter operator numeral escape item closes body Q.quoted token_piece lexeme cut indented begin bracket step layout encode_utf8
text_30 = refl

text_31 : tokens_of_chars One (120 ∷ 9 ∷ 61 ∷ 9 ∷ 49 ∷ 10 ∷ []) ≡ Ok (token (name (codes "x")) 1 0 1 ∷ token (mark m.Assign) 1 2 3 ∷ token (integer (pos 1)) 1 4 5 ∷ token newline 1 5 6 ∷ [])
unfolding reserved_marks delimiter operator numeral escape item closes body Q.quoted token_piece lexeme cut indented begin bracket step layout encode_utf8
text_31 = refl

text_32 : tokens_of_chars One (codes "\\\nx\n") ≡ Ok (token (name (codes "x")) 2 2 3 ∷ token newline 2 3 4 ∷ [])
unfolding reserved_marks delimiter operator numeral escape item closes body Q.quoted token_piece lexeme cut indented begin bracket step layout encode_utf8
text_32 = refl

text_33 : tokens_of_chars One (codes "  \\\n\\\n x\ny\n") ≡ Ok (token indent 1 0 2 ∷ token (name (codes "x")) 3 7 8 ∷ token newline 3 8 9 ∷ token dedent 4 9 9 ∷ token (name (codes "y")) 4 9 10 ∷ token newline 4 10 11 ∷ [])
unfolding reserved_marks delimiter operator numeral escape item closes body Q.quoted token_piece lexeme cut indented begin bracket step layout encode_utf8
text_33 = refl

text_34 : tokens_of_chars One (codes "if a:\n  \\\n b\n") ≡ Ok (token (mark m.If) 1 0 2 ∷ token (name (codes "a")) 1 3 4 ∷ token (mark m.Colon) 1 4 5 ∷ token newline 1 5 6 ∷ token indent 2 6 8 ∷ token (name (codes "b")) 3 11 12 ∷ token newline 3 12 13 ∷ token dedent 4 13 13 ∷ [])
unfolding reserved_marks delimiter operator numeral escape item closes body Q.quoted token_piece lexeme cut indented begin bracket step layout encode_utf8
text_34 = refl

text_35 : tokens_of_chars One (codes "if a:\n  if b:\n    c\n  \\\nd\n") ≡ Ok (token (mark m.If) 1 0 2 ∷ token (name (codes "a")) 1 3 4 ∷ token (mark m.Colon) 1 4 5 ∷ token newline 1 5 6 ∷ token indent 2 6 8 ∷ token (mark m.If) 2 8 10 ∷ token (name (codes "b")) 2 11 12 ∷ token (mark m.Colon) 2 12 13 ∷ token newline 2 13 14 ∷ token indent 3 14 18 ∷ token (name (codes "c")) 3 18 19 ∷ token newline 3 19 20 ∷ token dedent 4 22 22 ∷ token (name (codes "d")) 5 24 25 ∷ token newline 5 25 26 ∷ token dedent 6 26 26 ∷ [])
unfolding reserved_marks delimiter operator numeral escape item closes body Q.quoted token_piece lexeme cut indented begin bracket step layout encode_utf8
text_35 = refl

text_36 : tokens_of_chars One (codes "x\n  \\\n\n\\\n # c\ny\n") ≡ Ok (token (name (codes "x")) 1 0 1 ∷ token newline 1 1 2 ∷ token (name (codes "y")) 6 14 15 ∷ token newline 6 15 16 ∷ [])
unfolding reserved_marks delimiter operator numeral escape item closes body Q.quoted token_piece lexeme cut indented begin bracket step layout encode_utf8
text_36 = refl

text_37 : tokens_of_chars One (codes "rr'x'\n") ≡ Ok (token (name (codes "rr")) 1 0 2 ∷ token (quoted (codes "x")) 1 2 5 ∷ token newline 1 5 6 ∷ [])
unfolding reserved_marks delimiter operator numeral escape item closes body Q.quoted token_piece lexeme cut indented begin bracket step layout encode_utf8
text_37 = refl

text_38 : tokens_of_chars One (codes "a<>b:=c->d...\n") ≡ Ok (token (name (codes "a")) 1 0 1 ∷ token (mark m.Less) 1 1 2 ∷ token (mark m.Greater) 1 2 3 ∷ token (name (codes "b")) 1 3 4 ∷ token (mark m.Colon) 1 4 5 ∷ token (mark m.Assign) 1 5 6 ∷ token (name (codes "c")) 1 6 7 ∷ token (mark m.Minus) 1 7 8 ∷ token (mark m.Greater) 1 8 9 ∷ token (name (codes "d")) 1 9 10 ∷ token (mark m.Dot) 1 10 11 ∷ token (mark m.Dot) 1 11 12 ∷ token (mark m.Dot) 1 12 13 ∷ token newline 1 13 14 ∷ [])
unfolding reserved_marks delimiter operator numeral escape item closes body Q.quoted token_piece lexeme cut indented begin bracket step layout encode_utf8
text_38 = refl

text_39 : tokens_of_chars One (codes "1 if x\n") ≡ Ok (token (integer (pos 1)) 1 0 1 ∷ token (mark m.If) 1 2 4 ∷ token (name (codes "x")) 1 5 6 ∷ token newline 1 6 7 ∷ [])
unfolding reserved_marks delimiter operator numeral escape item closes body Q.quoted token_piece lexeme cut indented begin bracket step layout encode_utf8
text_39 = refl

text_40 : tokens_of_chars One (codes "print\n") ≡ Ok (token (name (codes "print")) 1 0 5 ∷ token newline 1 5 6 ∷ [])
unfolding reserved_marks delimiter operator numeral escape item closes body Q.quoted token_piece lexeme cut indented begin bracket step layout encode_utf8
text_40 = refl

text_41 : tokens_of_chars One (codes "''''a'''\n") ≡ Ok (token (quoted (codes "'a")) 1 0 8 ∷ token newline 1 8 9 ∷ [])
unfolding reserved_marks delimiter operator numeral escape item closes body Q.quoted token_piece lexeme cut indented begin bracket step layout encode_utf8
text_41 = refl

text_42 : tokens_of_chars One (codes "'''a\"\"\"b'''\n") ≡ Ok (token (quoted (codes "a\"\"\"b")) 1 0 11 ∷ token newline 1 11 12 ∷ [])
unfolding reserved_marks delimiter operator numeral escape item closes body Q.quoted token_piece lexeme cut indented begin bracket step layout encode_utf8
text_42 = refl

text_43 : tokens_of_chars One (codes "x = 1 # end") ≡ Ok (token (name (codes "x")) 1 0 1 ∷ token (mark m.Assign) 1 2 3 ∷ token (integer (pos 1)) 1 4 5 ∷ token newline 1 11 11 ∷ [])
unfolding reserved_marks delimiter operator numeral escape item closes body Q.quoted token_piece lexeme cut indented begin bracket step layout encode_utf8
text_43 = refl

text_44 : tokens_of_chars One (codes "x\n  # c") ≡ Ok (token (name (codes "x")) 1 0 1 ∷ token newline 1 1 2 ∷ [])
unfolding reserved_marks delimiter operator numeral escape item closes body Q.quoted token_piece lexeme cut indented begin bracket step layout encode_utf8
text_44 = refl

text_45 : tokens_of_chars One (40 ∷ 10 ∷ 10 ∷ 35 ∷ 32 ∷ 99 ∷ 10 ∷ 32 ∷ 32 ∷ 97 ∷ 44 ∷ 10 ∷ 9 ∷ 98 ∷ 10 ∷ 41 ∷ 10 ∷ []) ≡ Ok (token (mark m.LeftParenthesis) 1 0 1 ∷ token (name (codes "a")) 4 9 10 ∷ token (mark m.Comma) 4 10 11 ∷ token (name (codes "b")) 5 13 14 ∷ token (mark m.RightParenthesis) 6 15 16 ∷ token newline 6 16 17 ∷ [])
unfolding reserved_marks delimiter operator numeral escape item closes body Q.quoted token_piece lexeme cut indented begin bracket step layout encode_utf8
text_45 = refl

text_46 : tokens_of_chars One (codes "if a:\n  b\n  # c\n# d\n") ≡ Ok (token (mark m.If) 1 0 2 ∷ token (name (codes "a")) 1 3 4 ∷ token (mark m.Colon) 1 4 5 ∷ token newline 1 5 6 ∷ token indent 2 6 8 ∷ token (name (codes "b")) 2 8 9 ∷ token newline 2 9 10 ∷ token dedent 5 20 20 ∷ [])
unfolding reserved_marks delimiter operator numeral escape item closes body Q.quoted token_piece lexeme cut indented begin bracket step layout encode_utf8
text_46 = refl

text_47 : tokens_of_chars One (97 ∷ 9 ∷ 98 ∷ 9 ∷ 10 ∷ []) ≡ Ok (token (name (codes "a")) 1 0 1 ∷ token (name (codes "b")) 1 2 3 ∷ token newline 1 4 5 ∷ [])
unfolding reserved_marks delimiter operator numeral escape item closes body Q.quoted token_piece lexeme cut indented begin bracket step layout encode_utf8
text_47 = refl

text_48 : tokens_of_chars One (120 ∷ 32 ∷ 61 ∷ 32 ∷ 92 ∷ 13 ∷ 10 ∷ 49 ∷ 10 ∷ []) ≡ Ok (token (name (codes "x")) 1 0 1 ∷ token (mark m.Assign) 1 2 3 ∷ token (integer (pos 1)) 2 6 7 ∷ token newline 2 7 8 ∷ [])
unfolding reserved_marks delimiter operator numeral escape item closes body Q.quoted token_piece lexeme cut indented begin bracket step layout encode_utf8
text_48 = refl

text_49 : tokens_of_chars One (35 ∷ 32 ∷ 97 ∷ 13 ∷ 10 ∷ 120 ∷ 13 ∷ 10 ∷ []) ≡ Ok (token (name (codes "x")) 2 4 5 ∷ token newline 2 5 6 ∷ [])
unfolding reserved_marks delimiter operator numeral escape item closes body Q.quoted token_piece lexeme cut indented begin bracket step layout encode_utf8
text_49 = refl

text_50 : tokens_of_chars One (codes "{a:\n[b,\n(c)\n]}\nd\n") ≡ Ok (token (mark m.LeftBrace) 1 0 1 ∷ token (name (codes "a")) 1 1 2 ∷ token (mark m.Colon) 1 2 3 ∷ token (mark m.LeftBracket) 2 4 5 ∷ token (name (codes "b")) 2 5 6 ∷ token (mark m.Comma) 2 6 7 ∷ token (mark m.LeftParenthesis) 3 8 9 ∷ token (name (codes "c")) 3 9 10 ∷ token (mark m.RightParenthesis) 3 10 11 ∷ token (mark m.RightBracket) 4 12 13 ∷ token (mark m.RightBrace) 4 13 14 ∷ token newline 4 14 15 ∷ token (name (codes "d")) 5 15 16 ∷ token newline 5 16 17 ∷ [])
unfolding reserved_marks delimiter operator numeral escape item closes body Q.quoted token_piece lexeme cut indented begin bracket step layout encode_utf8
text_50 = refl

text_51 : tokens_of_chars One (105 ∷ 102 ∷ 32 ∷ 97 ∷ 58 ∷ 10 ∷ 9 ∷ 98 ∷ 10 ∷ 99 ∷ []) ≡ Ok (token (mark m.If) 1 0 2 ∷ token (name (codes "a")) 1 3 4 ∷ token (mark m.Colon) 1 4 5 ∷ token newline 1 5 6 ∷ token indent 2 6 7 ∷ token (name (codes "b")) 2 7 8 ∷ token newline 2 8 9 ∷ token dedent 3 9 9 ∷ token (name (codes "c")) 3 9 10 ∷ token newline 3 10 10 ∷ [])
unfolding reserved_marks delimiter operator numeral escape item closes body Q.quoted token_piece lexeme cut indented begin bracket step layout encode_utf8
text_51 = refl

text_52 : tokens_of_chars One (codes "a;b\n") ≡ Ok (token (name (codes "a")) 1 0 1 ∷ token (mark m.Semicolon) 1 1 2 ∷ token (name (codes "b")) 1 2 3 ∷ token newline 1 3 4 ∷ [])
unfolding reserved_marks delimiter operator numeral escape item closes body Q.quoted token_piece lexeme cut indented begin bracket step layout encode_utf8
text_52 = refl

text_53 : tokens_of_chars One (codes "x = (1 +\n    2)\n") ≡ Ok (token (name (codes "x")) 1 0 1 ∷ token (mark m.Assign) 1 2 3 ∷ token (mark m.LeftParenthesis) 1 4 5 ∷ token (integer (pos 1)) 1 5 6 ∷ token (mark m.Plus) 1 7 8 ∷ token (integer (pos 2)) 2 13 14 ∷ token (mark m.RightParenthesis) 2 14 15 ∷ token newline 2 15 16 ∷ [])
unfolding reserved_marks delimiter operator numeral escape item closes body Q.quoted token_piece lexeme cut indented begin bracket step layout encode_utf8
text_53 = refl

text_54 : tokens_of_chars One (codes "if a:\n  (b,\nc)\nd\n") ≡ Ok (token (mark m.If) 1 0 2 ∷ token (name (codes "a")) 1 3 4 ∷ token (mark m.Colon) 1 4 5 ∷ token newline 1 5 6 ∷ token indent 2 6 8 ∷ token (mark m.LeftParenthesis) 2 8 9 ∷ token (name (codes "b")) 2 9 10 ∷ token (mark m.Comma) 2 10 11 ∷ token (name (codes "c")) 3 12 13 ∷ token (mark m.RightParenthesis) 3 13 14 ∷ token newline 3 14 15 ∷ token dedent 4 15 15 ∷ token (name (codes "d")) 4 15 16 ∷ token newline 4 16 17 ∷ [])
unfolding reserved_marks delimiter operator numeral escape item closes body Q.quoted token_piece lexeme cut indented begin bracket step layout encode_utf8
text_54 = refl

text_55 : tokens_of_chars One (codes "'a' # 'b'\n") ≡ Ok (token (quoted (codes "a")) 1 0 3 ∷ token newline 1 9 10 ∷ [])
unfolding reserved_marks delimiter operator numeral escape item closes body Q.quoted token_piece lexeme cut indented begin bracket step layout encode_utf8
text_55 = refl

text_56 : tokens_of_chars One (codes "x = '''a\n\n  b'''; y\n") ≡ Ok (token (name (codes "x")) 1 0 1 ∷ token (mark m.Assign) 1 2 3 ∷ token (quoted (codes "a\n\n  b")) 1 4 16 ∷ token (mark m.Semicolon) 3 16 17 ∷ token (name (codes "y")) 3 18 19 ∷ token newline 3 19 20 ∷ [])
unfolding reserved_marks delimiter operator numeral escape item closes body Q.quoted token_piece lexeme cut indented begin bracket step layout encode_utf8
text_56 = refl

text_57 : tokens_of_chars One (codes "if a:\n  if b:\n    if c:\n      d\n\ne\n") ≡ Ok (token (mark m.If) 1 0 2 ∷ token (name (codes "a")) 1 3 4 ∷ token (mark m.Colon) 1 4 5 ∷ token newline 1 5 6 ∷ token indent 2 6 8 ∷ token (mark m.If) 2 8 10 ∷ token (name (codes "b")) 2 11 12 ∷ token (mark m.Colon) 2 12 13 ∷ token newline 2 13 14 ∷ token indent 3 14 18 ∷ token (mark m.If) 3 18 20 ∷ token (name (codes "c")) 3 21 22 ∷ token (mark m.Colon) 3 22 23 ∷ token newline 3 23 24 ∷ token indent 4 24 30 ∷ token (name (codes "d")) 4 30 31 ∷ token newline 4 31 32 ∷ token dedent 6 33 33 ∷ token dedent 6 33 33 ∷ token dedent 6 33 33 ∷ token (name (codes "e")) 6 33 34 ∷ token newline 6 34 35 ∷ [])
unfolding reserved_marks delimiter operator numeral escape item closes body Q.quoted token_piece lexeme cut indented begin bracket step layout encode_utf8
text_57 = refl

text_58 : tokens_of_chars One (codes "a \\\n  \\\n b\n") ≡ Ok (token (name (codes "a")) 1 0 1 ∷ token (name (codes "b")) 3 9 10 ∷ token newline 3 10 11 ∷ [])
unfolding reserved_marks delimiter operator numeral escape item closes body Q.quoted token_piece lexeme cut indented begin bracket step layout encode_utf8
text_58 = refl

text_59 : tokens_of_chars One (codes "not a\n") ≡ Ok (token (mark m.Not) 1 0 3 ∷ token (name (codes "a")) 1 4 5 ∷ token newline 1 5 6 ∷ [])
unfolding reserved_marks delimiter operator numeral escape item closes body Q.quoted token_piece lexeme cut indented begin bracket step layout encode_utf8
text_59 = refl

text_60 : tokens_of_chars One (codes "x = 0xff_ff + 0b1\n") ≡ Ok (token (name (codes "x")) 1 0 1 ∷ token (mark m.Assign) 1 2 3 ∷ token (integer (pos 65535)) 1 4 11 ∷ token (mark m.Plus) 1 12 13 ∷ token (integer (pos 1)) 1 14 17 ∷ token newline 1 17 18 ∷ [])
unfolding reserved_marks delimiter operator numeral escape item closes body Q.quoted token_piece lexeme cut indented begin bracket step layout encode_utf8
text_60 = refl

text_61 : tokens_of_chars One (codes "if a:\n  b\n\\\n c\n") ≡ Ok (token (mark m.If) 1 0 2 ∷ token (name (codes "a")) 1 3 4 ∷ token (mark m.Colon) 1 4 5 ∷ token newline 1 5 6 ∷ token indent 2 6 8 ∷ token (name (codes "b")) 2 8 9 ∷ token newline 2 9 10 ∷ token dedent 3 10 10 ∷ token (name (codes "c")) 4 13 14 ∷ token newline 4 14 15 ∷ [])
unfolding reserved_marks delimiter operator numeral escape item closes body Q.quoted token_piece lexeme cut indented begin bracket step layout encode_utf8
text_61 = refl

text_62 : tokens_of_chars One (codes "a.b.c") ≡ Ok (token (name (codes "a")) 1 0 1 ∷ token (mark m.Dot) 1 1 2 ∷ token (name (codes "b")) 1 2 3 ∷ token (mark m.Dot) 1 3 4 ∷ token (name (codes "c")) 1 4 5 ∷ token newline 1 5 5 ∷ [])
unfolding reserved_marks delimiter operator numeral escape item closes body Q.quoted token_piece lexeme cut indented begin bracket step layout encode_utf8
text_62 = refl

text_63 : tokens_of_chars One (codes "!=a") ≡ Ok (token (mark m.NotEqual) 1 0 2 ∷ token (name (codes "a")) 1 2 3 ∷ token newline 1 3 3 ∷ [])
unfolding reserved_marks delimiter operator numeral escape item closes body Q.quoted token_piece lexeme cut indented begin bracket step layout encode_utf8
text_63 = refl

text_64 : tokens_of_chars One (97 ∷ 10 ∷ 32 ∷ 10 ∷ 9 ∷ 10 ∷ []) ≡ Ok (token (name (codes "a")) 1 0 1 ∷ token newline 1 1 2 ∷ [])
unfolding reserved_marks delimiter operator numeral escape item closes body Q.quoted token_piece lexeme cut indented begin bracket step layout encode_utf8
text_64 = refl

text_65 : tokens_of_chars One (codes "\\\n\nx = 1\n") ≡ Ok (token (name (codes "x")) 3 3 4 ∷ token (mark m.Assign) 3 5 6 ∷ token (integer (pos 1)) 3 7 8 ∷ token newline 3 8 9 ∷ [])
unfolding reserved_marks delimiter operator numeral escape item closes body Q.quoted token_piece lexeme cut indented begin bracket step layout encode_utf8
text_65 = refl

text_66 : tokens_of_chars One (replicate 255 97) ≡ Ok (token (name (replicate 255 97)) 1 0 255 ∷ token newline 1 255 255 ∷ [])
unfolding reserved_marks delimiter operator numeral escape item closes body Q.quoted token_piece lexeme cut indented begin bracket step layout encode_utf8
text_66 = refl
