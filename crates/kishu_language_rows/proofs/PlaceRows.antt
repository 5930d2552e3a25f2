-- Tokens whose places lie in order within a text, and some whose places don't. Made by tools/rows/text_rows.py.
use Rattle.std.proofs.Common.{◌≤◌, [], ◌∷◌, arith, codes}
use Rattle.std.specs.Prelude.{pos}
use Rattle.kishu_language.specs.declared.token.Mark.TheVariants as m
use Rattle.kishu_language.specs.tokens.Layout.{name, integer, quoted, newline, mark, token}
use Rattle.kishu_language.specs.tokens.Places.{InOrder}

places_1 : InOrder 0 ([]) 0
places_1 = omega arith

places_2 : InOrder 0 (token (name (codes "x")) 1 0 1 ∷ token newline 1 1 1 ∷ []) 1
places_2 = (omega arith, (omega arith, (omega arith, (omega arith, omega arith))))

places_3 : InOrder 0 (token (name (codes "x")) 1 0 1 ∷ token newline 1 1 2 ∷ []) 2
places_3 = (omega arith, (omega arith, (omega arith, (omega arith, omega arith))))

places_4 : InOrder 0 (token (name (codes "x")) 1 0 1 ∷ token (mark m.Assign) 1 2 3 ∷ token (integer (pos 1)) 1 4 5 ∷ token newline 1 5 6 ∷ []) 6
places_4 = (omega arith, (omega arith, (omega arith, (omega arith, (omega arith, (omega arith, (omega arith, (omega arith, omega arith))))))))

places_5 : InOrder 0 ([]) 9
places_5 = omega arith

places_6 : InOrder 0 (token (name (codes "x")) 1 0 1 ∷ token newline 1 7 8 ∷ token (name (codes "y")) 2 8 9 ∷ token newline 2 9 10 ∷ []) 10
places_6 = (omega arith, (omega arith, (omega arith, (omega arith, (omega arith, (omega arith, (omega arith, (omega arith, omega arith))))))))

places_7 : InOrder 0 (token (name (codes "x")) 1 0 1 ∷ token (mark m.Assign) 1 2 3 ∷ token (integer (pos 1)) 2 8 9 ∷ token newline 2 9 10 ∷ token (name (codes "y")) 3 10 11 ∷ token newline 3 11 12 ∷ []) 12
places_7 = (omega arith, (omega arith, (omega arith, (omega arith, (omega arith, (omega arith, (omega arith, (omega arith, (omega arith, (omega arith, (omega arith, (omega arith, omega arith))))))))))))

places_8 : InOrder 0 (token (mark m.LeftBracket) 1 0 1 ∷ token (mark m.LeftBrace) 4 9 10 ∷ token (mark m.RightBrace) 5 11 12 ∷ token (mark m.RightBracket) 6 13 14 ∷ token newline 6 14 15 ∷ []) 15
places_8 = (omega arith, (omega arith, (omega arith, (omega arith, (omega arith, (omega arith, (omega arith, (omega arith, (omega arith, (omega arith, omega arith))))))))))

places_9 : InOrder 0 (token (mark m.If) 1 0 2 ∷ token (name (codes "a")) 1 3 4 ∷ token (mark m.Colon) 1 4 5 ∷ token (name (codes "b")) 1 6 7 ∷ token newline 1 7 8 ∷ []) 8
places_9 = (omega arith, (omega arith, (omega arith, (omega arith, (omega arith, (omega arith, (omega arith, (omega arith, (omega arith, (omega arith, omega arith))))))))))

places_10 : InOrder 0 (token (name (codes "_a1")) 1 0 3 ∷ token (name (codes "Zz")) 1 4 6 ∷ token (name (codes "__")) 1 7 9 ∷ token newline 1 9 10 ∷ []) 10
places_10 = (omega arith, (omega arith, (omega arith, (omega arith, (omega arith, (omega arith, (omega arith, (omega arith, omega arith))))))))

places_11 : InOrder 0 (token (name (codes "iff")) 1 0 3 ∷ token (name (codes "nota")) 1 4 8 ∷ token (name (codes "NONE")) 1 9 13 ∷ token newline 1 13 14 ∷ []) 14
places_11 = (omega arith, (omega arith, (omega arith, (omega arith, (omega arith, (omega arith, (omega arith, (omega arith, omega arith))))))))

places_12 : InOrder 0 (token (integer (pos 0)) 1 0 1 ∷ token (integer (pos 0)) 1 2 4 ∷ token (integer (pos 0)) 1 5 8 ∷ token (integer (pos 1)) 1 9 10 ∷ token (integer (pos 12)) 1 11 13 ∷ token (integer (pos 123)) 1 14 19 ∷ token newline 1 19 20 ∷ []) 20
places_12 = (omega arith, (omega arith, (omega arith, (omega arith, (omega arith, (omega arith, (omega arith, (omega arith, (omega arith, (omega arith, (omega arith, (omega arith, (omega arith, (omega arith, omega arith))))))))))))))

places_13 : InOrder 0 (token (integer (pos 170141183460469231731687303715884105727)) 1 0 39 ∷ token newline 1 39 40 ∷ []) 40
places_13 = (omega arith, (omega arith, (omega arith, (omega arith, omega arith))))

places_14 : InOrder 0 (token (integer (pos 170141183460469231731687303715884105727)) 1 0 34 ∷ token newline 1 34 35 ∷ []) 35
places_14 = (omega arith, (omega arith, (omega arith, (omega arith, omega arith))))

places_15 : InOrder 0 (token (quoted (codes "a")) 1 0 3 ∷ token (quoted (codes "b")) 1 4 7 ∷ token (quoted (codes "c")) 1 8 15 ∷ token (quoted (codes "d")) 1 16 23 ∷ token newline 1 23 24 ∷ []) 24
places_15 = (omega arith, (omega arith, (omega arith, (omega arith, (omega arith, (omega arith, (omega arith, (omega arith, (omega arith, (omega arith, omega arith))))))))))

places_16 : InOrder 0 (token (quoted (codes "")) 1 0 2 ∷ token (quoted (codes "")) 1 3 5 ∷ token (quoted (codes "")) 1 6 12 ∷ token (quoted (codes "")) 1 13 16 ∷ token newline 1 16 17 ∷ []) 17
places_16 = (omega arith, (omega arith, (omega arith, (omega arith, (omega arith, (omega arith, (omega arith, (omega arith, (omega arith, (omega arith, omega arith))))))))))

places_17 : InOrder 0 (token (quoted (codes "a\"b")) 1 0 5 ∷ token (quoted (codes "a'b")) 1 6 11 ∷ token (quoted (codes "a'b''c")) 1 12 24 ∷ token newline 1 24 25 ∷ []) 25
places_17 = (omega arith, (omega arith, (omega arith, (omega arith, (omega arith, (omega arith, (omega arith, (omega arith, omega arith))))))))

places_18 : InOrder 0 (token (quoted (codes "a\\'b")) 1 0 7 ∷ token (quoted (codes "\\n\\x")) 1 8 15 ∷ token (quoted (120 ∷ 9 ∷ [])) 1 16 22 ∷ token (quoted (codes "y")) 1 23 27 ∷ token newline 1 27 28 ∷ []) 28
places_18 = (omega arith, (omega arith, (omega arith, (omega arith, (omega arith, (omega arith, (omega arith, (omega arith, (omega arith, (omega arith, omega arith))))))))))

places_19 : InOrder 0 (token (name (codes "r")) 1 0 1 ∷ token (name (codes "x")) 1 2 3 ∷ token newline 1 3 4 ∷ []) 4
places_19 = (omega arith, (omega arith, (omega arith, (omega arith, (omega arith, (omega arith, omega arith))))))

places_20 : InOrder 0 (token (quoted (codes "a\n'b\"c\n")) 1 0 13 ∷ token newline 3 13 14 ∷ token (name (codes "x")) 4 14 15 ∷ token newline 4 15 16 ∷ []) 16
places_20 = (omega arith, (omega arith, (omega arith, (omega arith, (omega arith, (omega arith, (omega arith, (omega arith, omega arith))))))))

places_21 : InOrder 0 (token (quoted (codes "ab")) 1 0 6 ∷ token newline 2 6 7 ∷ token (name (codes "x")) 3 7 8 ∷ token newline 3 8 9 ∷ []) 9
places_21 = (omega arith, (omega arith, (omega arith, (omega arith, (omega arith, (omega arith, (omega arith, (omega arith, omega arith))))))))

places_22 : InOrder 0 (token (quoted (codes "a\\\nb")) 1 0 7 ∷ token newline 2 7 8 ∷ token (name (codes "x")) 3 8 9 ∷ token newline 3 9 10 ∷ []) 10
places_22 = (omega arith, (omega arith, (omega arith, (omega arith, (omega arith, (omega arith, (omega arith, (omega arith, omega arith))))))))

places_23 : InOrder 0 (token (quoted (codes "\\N\\ud800\\\\")) 1 0 13 ∷ token (quoted (codes "\\'")) 1 14 19 ∷ token (quoted (codes "a\n\\\"")) 1 20 31 ∷ token newline 2 31 32 ∷ []) 32
places_23 = (omega arith, (omega arith, (omega arith, (omega arith, (omega arith, (omega arith, (omega arith, (omega arith, omega arith))))))))

places_24 : InOrder 0 (token (quoted (codes "a\n")) 1 0 11 ∷ token newline 2 11 12 ∷ []) 12
places_24 = (omega arith, (omega arith, (omega arith, (omega arith, omega arith))))

places_25 : InOrder 0 (token (quoted (92 ∷ 39 ∷ 34 ∷ 7 ∷ 8 ∷ 12 ∷ 10 ∷ 13 ∷ 9 ∷ 11 ∷ [])) 1 0 22 ∷ token newline 1 22 23 ∷ []) 23
places_25 = (omega arith, (omega arith, (omega arith, (omega arith, omega arith))))

places_26 : InOrder 0 (token (quoted (0 ∷ 10 ∷ 65 ∷ 65 ∷ 56 ∷ 199 ∷ 191 ∷ 92 ∷ 56 ∷ [])) 1 0 22 ∷ token newline 1 22 23 ∷ []) 23
places_26 = (omega arith, (omega arith, (omega arith, (omega arith, omega arith))))

places_27 : InOrder 0 (token (quoted (65 ∷ 127 ∷ 195 ∷ 169 ∷ 195 ∷ 169 ∷ 240 ∷ 159 ∷ 152 ∷ 128 ∷ 244 ∷ 143 ∷ 191 ∷ 191 ∷ [])) 1 0 40 ∷ token newline 1 40 41 ∷ []) 41
places_27 = (omega arith, (omega arith, (omega arith, (omega arith, omega arith))))

places_28 : InOrder 0 (token (quoted (92 ∷ 113 ∷ 92 ∷ 195 ∷ 169 ∷ 92 ∷ 95 ∷ [])) 1 0 9 ∷ token newline 1 9 10 ∷ []) 10
places_28 = (omega arith, (omega arith, (omega arith, (omega arith, omega arith))))

places_29 : InOrder 0 (token (quoted (195 ∷ 169 ∷ 240 ∷ 159 ∷ 152 ∷ 128 ∷ [])) 1 0 8 ∷ token (name (codes "x")) 1 9 10 ∷ token newline 1 10 11 ∷ []) 11
places_29 = (omega arith, (omega arith, (omega arith, (omega arith, (omega arith, (omega arith, omega arith))))))

places_30 : InOrder 0 (token (quoted (codes "a")) 1 0 3 ∷ token (quoted (codes "b")) 1 4 7 ∷ token newline 1 7 8 ∷ []) 8
places_30 = (omega arith, (omega arith, (omega arith, (omega arith, (omega arith, (omega arith, omega arith))))))

places_31 : InOrder 1 (token newline 1 0 2 ∷ []) 5 → ⊥
places_31 = λ h. let far : 1 ≤ 0 = h.0 in absurd (omega arith)

places_32 : InOrder 3 (token newline 1 2 4 ∷ []) 9 → ⊥
places_32 = λ h. let far : 3 ≤ 2 = h.0 in absurd (omega arith)

places_33 : InOrder 9 (token newline 1 8 9 ∷ []) 9 → ⊥
places_33 = λ h. let far : 9 ≤ 8 = h.0 in absurd (omega arith)

places_34 : InOrder 0 (token newline 1 2 1 ∷ []) 5 → ⊥
places_34 = λ h. let far : 2 ≤ 1 = h.1.0 in absurd (omega arith)

places_35 : InOrder 0 (token newline 1 5 0 ∷ []) 9 → ⊥
places_35 = λ h. let far : 5 ≤ 0 = h.1.0 in absurd (omega arith)

places_36 : InOrder 1 (token newline 1 3 2 ∷ []) 4 → ⊥
places_36 = λ h. let far : 3 ≤ 2 = h.1.0 in absurd (omega arith)

places_37 : InOrder 0 (token newline 1 1 2 ∷ []) 1 → ⊥
places_37 = λ h. let far : 2 ≤ 1 = h.1.1 in absurd (omega arith)

places_38 : InOrder 0 (token newline 1 4 9 ∷ []) 8 → ⊥
places_38 = λ h. let far : 9 ≤ 8 = h.1.1 in absurd (omega arith)

places_39 : InOrder 2 (token newline 1 2 3 ∷ []) 2 → ⊥
places_39 = λ h. let far : 3 ≤ 2 = h.1.1 in absurd (omega arith)

places_40 : InOrder 0 (token newline 1 0 1 ∷ []) 0 → ⊥
places_40 = λ h. let far : 1 ≤ 0 = h.1.1 in absurd (omega arith)
