-- Texts without the white space round them, and their words, as CPython tells of ASCII texts: computed on the definition. Made by tools/rows/text_rows.py.
use Rattle.std.proofs.Common.{◌≡◌, refl, [], ◌∷◌, true, false}
use Rattle.std.specs.Prelude.{codes}
use Rattle.kishu_meaning.specs.values.White.{is_white, stripped}
use Rattle.kishu_meaning.specs.values.Texts.{words}

white_1 : is_white 32 ≡ true
white_1 = refl

white_2 : is_white 9 ≡ true
white_2 = refl

white_3 : is_white 10 ≡ true
white_3 = refl

white_4 : is_white 13 ≡ true
white_4 = refl

white_5 : is_white 11 ≡ true
white_5 = refl

white_6 : is_white 12 ≡ true
white_6 = refl

white_7 : is_white 8 ≡ false
white_7 = refl

white_8 : is_white 14 ≡ false
white_8 = refl

white_9 : is_white 27 ≡ false
white_9 = refl

white_10 : is_white 33 ≡ false
white_10 = refl

white_11 : is_white 97 ≡ false
white_11 = refl

white_12 : is_white 48 ≡ false
white_12 = refl

white_13 : is_white 95 ≡ false
white_13 = refl

white_14 : is_white 0 ≡ false
white_14 = refl

white_15 : is_white 28 ≡ false
white_15 = refl

white_16 : is_white 29 ≡ false
white_16 = refl

white_17 : is_white 30 ≡ false
white_17 = refl

white_18 : is_white 31 ≡ false
white_18 = refl

white_19 : is_white 133 ≡ false
white_19 = refl

white_20 : is_white 160 ≡ false
white_20 = refl

white_21 : is_white 8192 ≡ false
white_21 = refl

white_22 : is_white 8195 ≡ false
white_22 = refl

white_23 : is_white 8232 ≡ false
white_23 = refl

white_24 : is_white 12288 ≡ false
white_24 = refl

white_25 : stripped [] ≡ []
white_25 = refl

white_26 : stripped (codes " ") ≡ []
white_26 = refl

white_27 : stripped (codes "a") ≡ (codes "a")
white_27 = refl

white_28 : stripped (codes " a") ≡ (codes "a")
white_28 = refl

white_29 : stripped (codes "a ") ≡ (codes "a")
white_29 = refl

white_30 : stripped (codes " a ") ≡ (codes "a")
white_30 = refl

white_31 : stripped (codes "a b") ≡ (codes "a b")
white_31 = refl

white_32 : stripped (9 ∷ 97 ∷ 9 ∷ []) ≡ (codes "a")
white_32 = refl

white_33 : stripped (codes "\na\n") ≡ (codes "a")
white_33 = refl

white_34 : stripped (13 ∷ 97 ∷ 13 ∷ []) ≡ (codes "a")
white_34 = refl

white_35 : stripped (11 ∷ 97 ∷ 11 ∷ []) ≡ (codes "a")
white_35 = refl

white_36 : stripped (12 ∷ 97 ∷ 12 ∷ []) ≡ (codes "a")
white_36 = refl

white_37 : stripped (32 ∷ 9 ∷ 10 ∷ 13 ∷ 11 ∷ 12 ∷ []) ≡ []
white_37 = refl

white_38 : stripped (32 ∷ 9 ∷ 10 ∷ 13 ∷ 11 ∷ 12 ∷ 97 ∷ 32 ∷ 9 ∷ 10 ∷ 13 ∷ 11 ∷ 12 ∷ []) ≡ (codes "a")
white_38 = refl

white_39 : stripped (97 ∷ 32 ∷ 9 ∷ 10 ∷ 13 ∷ 11 ∷ 12 ∷ 98 ∷ []) ≡ (97 ∷ 32 ∷ 9 ∷ 10 ∷ 13 ∷ 11 ∷ 12 ∷ 98 ∷ [])
white_39 = refl

white_40 : stripped (codes " a b ") ≡ (codes "a b")
white_40 = refl

white_41 : stripped (28 ∷ 97 ∷ []) ≡ (28 ∷ 97 ∷ [])
white_41 = refl

white_42 : stripped (97 ∷ 31 ∷ []) ≡ (97 ∷ 31 ∷ [])
white_42 = refl

white_43 : stripped (133 ∷ 97 ∷ []) ≡ (133 ∷ 97 ∷ [])
white_43 = refl

white_44 : stripped (160 ∷ 97 ∷ 160 ∷ []) ≡ (160 ∷ 97 ∷ 160 ∷ [])
white_44 = refl

white_45 : stripped (8195 ∷ 97 ∷ []) ≡ (8195 ∷ 97 ∷ [])
white_45 = refl

white_46 : stripped (8 ∷ 97 ∷ []) ≡ (8 ∷ 97 ∷ [])
white_46 = refl

white_47 : stripped (14 ∷ 97 ∷ []) ≡ (14 ∷ 97 ∷ [])
white_47 = refl

white_48 : stripped (0 ∷ 97 ∷ []) ≡ (0 ∷ 97 ∷ [])
white_48 = refl

white_49 : stripped (codes "'") ≡ (codes "'")
white_49 = refl

white_50 : stripped (32 ∷ 32 ∷ 233 ∷ 32 ∷ 32 ∷ []) ≡ (233 ∷ [])
white_50 = refl

white_51 : stripped (codes "\n\n") ≡ []
white_51 = refl

white_52 : words [] ≡ []
white_52 = refl

white_53 : words (codes " ") ≡ []
white_53 = refl

white_54 : words (codes "a") ≡ ((codes "a") ∷ [])
white_54 = refl

white_55 : words (codes " a") ≡ ((codes "a") ∷ [])
white_55 = refl

white_56 : words (codes "a ") ≡ ((codes "a") ∷ [])
white_56 = refl

white_57 : words (codes "a b") ≡ ((codes "a") ∷ (codes "b") ∷ [])
white_57 = refl

white_58 : words (codes "a  b") ≡ ((codes "a") ∷ (codes "b") ∷ [])
white_58 = refl

white_59 : words (32 ∷ 97 ∷ 32 ∷ 10 ∷ 32 ∷ 98 ∷ 9 ∷ []) ≡ ((codes "a") ∷ (codes "b") ∷ [])
white_59 = refl

white_60 : words (97 ∷ 11 ∷ 98 ∷ 12 ∷ 99 ∷ 13 ∷ 100 ∷ []) ≡ ((codes "a") ∷ (codes "b") ∷ (codes "c") ∷ (codes "d") ∷ [])
white_60 = refl

white_61 : words (97 ∷ 31 ∷ 98 ∷ []) ≡ ((97 ∷ 31 ∷ 98 ∷ []) ∷ [])
white_61 = refl

white_62 : words (97 ∷ 160 ∷ 98 ∷ []) ≡ ((97 ∷ 160 ∷ 98 ∷ []) ∷ [])
white_62 = refl

white_63 : words (233 ∷ 32 ∷ 128512 ∷ []) ≡ ((233 ∷ []) ∷ (128512 ∷ []) ∷ [])
white_63 = refl

white_64 : words (codes "\n\n") ≡ []
white_64 = refl

white_65 : words (codes "ab cd ef") ≡ ((codes "ab") ∷ (codes "cd") ∷ (codes "ef") ∷ [])
white_65 = refl

white_66 : words (97 ∷ 32 ∷ 9 ∷ 10 ∷ 13 ∷ 11 ∷ 12 ∷ 98 ∷ []) ≡ ((codes "a") ∷ (codes "b") ∷ [])
white_66 = refl
