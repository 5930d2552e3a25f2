-- Texts with plain line ends, as CPython reads a text: computed on the definition. Made by tools/rows/text_rows.py.
use Rattle.std.proofs.Common.{◌≡◌, refl, [], ◌∷◌}
use Rattle.std.specs.Prelude.{codes}
use Rattle.kishu_language.specs.tokens.PlainLines.{plain_lines}

plain_1 : plain_lines [] ≡ []
plain_1 = refl

plain_2 : plain_lines (codes "a") ≡ (codes "a")
plain_2 = refl

plain_3 : plain_lines (codes "\n") ≡ (codes "\n")
plain_3 = refl

plain_4 : plain_lines (13 ∷ []) ≡ (codes "\n")
plain_4 = refl

plain_5 : plain_lines (13 ∷ 10 ∷ []) ≡ (codes "\n")
plain_5 = refl

plain_6 : plain_lines (10 ∷ 13 ∷ []) ≡ (codes "\n\n")
plain_6 = refl

plain_7 : plain_lines (13 ∷ 13 ∷ []) ≡ (codes "\n\n")
plain_7 = refl

plain_8 : plain_lines (codes "\n\n") ≡ (codes "\n\n")
plain_8 = refl

plain_9 : plain_lines (13 ∷ 13 ∷ 10 ∷ []) ≡ (codes "\n\n")
plain_9 = refl

plain_10 : plain_lines (13 ∷ 10 ∷ 13 ∷ []) ≡ (codes "\n\n")
plain_10 = refl

plain_11 : plain_lines (13 ∷ 10 ∷ 10 ∷ []) ≡ (codes "\n\n")
plain_11 = refl

plain_12 : plain_lines (10 ∷ 13 ∷ 10 ∷ []) ≡ (codes "\n\n")
plain_12 = refl

plain_13 : plain_lines (13 ∷ 10 ∷ 13 ∷ 10 ∷ []) ≡ (codes "\n\n")
plain_13 = refl

plain_14 : plain_lines (13 ∷ 13 ∷ 13 ∷ []) ≡ (codes "\n\n\n")
plain_14 = refl

plain_15 : plain_lines (97 ∷ 13 ∷ []) ≡ (codes "a\n")
plain_15 = refl

plain_16 : plain_lines (97 ∷ 13 ∷ 10 ∷ []) ≡ (codes "a\n")
plain_16 = refl

plain_17 : plain_lines (97 ∷ 13 ∷ 98 ∷ []) ≡ (codes "a\nb")
plain_17 = refl

plain_18 : plain_lines (97 ∷ 13 ∷ 10 ∷ 98 ∷ []) ≡ (codes "a\nb")
plain_18 = refl

plain_19 : plain_lines (97 ∷ 10 ∷ 13 ∷ 98 ∷ []) ≡ (codes "a\n\nb")
plain_19 = refl

plain_20 : plain_lines (13 ∷ 97 ∷ []) ≡ (codes "\na")
plain_20 = refl

plain_21 : plain_lines (13 ∷ 10 ∷ 97 ∷ []) ≡ (codes "\na")
plain_21 = refl

plain_22 : plain_lines (97 ∷ 13 ∷ 13 ∷ 98 ∷ []) ≡ (codes "a\n\nb")
plain_22 = refl

plain_23 : plain_lines (97 ∷ 13 ∷ 10 ∷ 13 ∷ 10 ∷ 98 ∷ []) ≡ (codes "a\n\nb")
plain_23 = refl

plain_24 : plain_lines (97 ∷ 13 ∷ 13 ∷ 10 ∷ 98 ∷ []) ≡ (codes "a\n\nb")
plain_24 = refl

plain_25 : plain_lines (97 ∷ 13 ∷ 98 ∷ 10 ∷ 99 ∷ 13 ∷ 10 ∷ 100 ∷ []) ≡ (codes "a\nb\nc\nd")
plain_25 = refl

plain_26 : plain_lines (11 ∷ []) ≡ (11 ∷ [])
plain_26 = refl

plain_27 : plain_lines (12 ∷ []) ≡ (12 ∷ [])
plain_27 = refl

plain_28 : plain_lines (28 ∷ []) ≡ (28 ∷ [])
plain_28 = refl

plain_29 : plain_lines (133 ∷ []) ≡ (133 ∷ [])
plain_29 = refl

plain_30 : plain_lines (8232 ∷ []) ≡ (8232 ∷ [])
plain_30 = refl

plain_31 : plain_lines (97 ∷ 12 ∷ 98 ∷ 13 ∷ []) ≡ (97 ∷ 12 ∷ 98 ∷ 10 ∷ [])
plain_31 = refl

plain_32 : plain_lines (39 ∷ 13 ∷ 39 ∷ []) ≡ (codes "'\n'")
plain_32 = refl

plain_33 : plain_lines (39 ∷ 39 ∷ 39 ∷ 97 ∷ 13 ∷ 10 ∷ 98 ∷ 39 ∷ 39 ∷ 39 ∷ []) ≡ (codes "'''a\nb'''")
plain_33 = refl

plain_34 : plain_lines (35 ∷ 32 ∷ 99 ∷ 13 ∷ []) ≡ (codes "# c\n")
plain_34 = refl

plain_35 : plain_lines (92 ∷ 13 ∷ 10 ∷ 120 ∷ []) ≡ (codes "\\\nx")
plain_35 = refl

plain_36 : plain_lines (92 ∷ 13 ∷ 120 ∷ []) ≡ (codes "\\\nx")
plain_36 = refl

plain_37 : plain_lines (32 ∷ 13 ∷ 32 ∷ []) ≡ (codes " \n ")
plain_37 = refl

plain_38 : plain_lines (9 ∷ 13 ∷ 10 ∷ 9 ∷ []) ≡ (9 ∷ 10 ∷ 9 ∷ [])
plain_38 = refl

plain_39 : plain_lines (233 ∷ 13 ∷ 233 ∷ []) ≡ (233 ∷ 10 ∷ 233 ∷ [])
plain_39 = refl

plain_40 : plain_lines (0 ∷ 13 ∷ []) ≡ (0 ∷ 10 ∷ [])
plain_40 = refl

plain_41 : plain_lines (97 ∷ 98 ∷ 13 ∷ 99 ∷ 100 ∷ 13 ∷ 101 ∷ 102 ∷ []) ≡ (codes "ab\ncd\nef")
plain_41 = refl
