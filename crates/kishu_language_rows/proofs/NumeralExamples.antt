-- Which numbers some words are, as CPython's `int` tells, and which are none: computed on the definition. Made by tools/rows/text_rows.py.
use Rattle.std.proofs.Common.{◌≡◌, refl}
use Rattle.std.specs.Prelude.{pos, codes, Some, None}
use Rattle.kishu_language.specs.tokens.Numerals.{numeral}

numeral_1 : numeral (codes "0") ≡ Some (pos 0)
unfolding numeral
numeral_1 = refl

numeral_2 : numeral (codes "00") ≡ Some (pos 0)
unfolding numeral
numeral_2 = refl

numeral_3 : numeral (codes "000") ≡ Some (pos 0)
unfolding numeral
numeral_3 = refl

numeral_4 : numeral (codes "0_0") ≡ Some (pos 0)
unfolding numeral
numeral_4 = refl

numeral_5 : numeral (codes "0_0_0") ≡ Some (pos 0)
unfolding numeral
numeral_5 = refl

numeral_6 : numeral (codes "1") ≡ Some (pos 1)
unfolding numeral
numeral_6 = refl

numeral_7 : numeral (codes "9") ≡ Some (pos 9)
unfolding numeral
numeral_7 = refl

numeral_8 : numeral (codes "10") ≡ Some (pos 10)
unfolding numeral
numeral_8 = refl

numeral_9 : numeral (codes "12") ≡ Some (pos 12)
unfolding numeral
numeral_9 = refl

numeral_10 : numeral (codes "1_2_3") ≡ Some (pos 123)
unfolding numeral
numeral_10 = refl

numeral_11 : numeral (codes "1_000_000") ≡ Some (pos 1000000)
unfolding numeral
numeral_11 = refl

numeral_12 : numeral (codes "9_9") ≡ Some (pos 99)
unfolding numeral
numeral_12 = refl

numeral_13 : numeral (codes "007") ≡ None
unfolding numeral
numeral_13 = refl

numeral_14 : numeral (codes "01") ≡ None
unfolding numeral
numeral_14 = refl

numeral_15 : numeral (codes "0_1") ≡ None
unfolding numeral
numeral_15 = refl

numeral_16 : numeral (codes "00_1") ≡ None
unfolding numeral
numeral_16 = refl

numeral_17 : numeral (codes "1_") ≡ None
unfolding numeral
numeral_17 = refl

numeral_18 : numeral (codes "1__0") ≡ None
unfolding numeral
numeral_18 = refl

numeral_19 : numeral (codes "0_") ≡ None
unfolding numeral
numeral_19 = refl

numeral_20 : numeral (codes "0__0") ≡ None
unfolding numeral
numeral_20 = refl

numeral_21 : numeral (codes "1_0_") ≡ None
unfolding numeral
numeral_21 = refl

numeral_22 : numeral (codes "0x0") ≡ Some (pos 0)
unfolding numeral
numeral_22 = refl

numeral_23 : numeral (codes "0X1") ≡ Some (pos 1)
unfolding numeral
numeral_23 = refl

numeral_24 : numeral (codes "0x1F") ≡ Some (pos 31)
unfolding numeral
numeral_24 = refl

numeral_25 : numeral (codes "0xaF") ≡ Some (pos 175)
unfolding numeral
numeral_25 = refl

numeral_26 : numeral (codes "0XaB_c") ≡ Some (pos 2748)
unfolding numeral
numeral_26 = refl

numeral_27 : numeral (codes "0x_f") ≡ Some (pos 15)
unfolding numeral
numeral_27 = refl

numeral_28 : numeral (codes "0x__f") ≡ None
unfolding numeral
numeral_28 = refl

numeral_29 : numeral (codes "0x") ≡ None
unfolding numeral
numeral_29 = refl

numeral_30 : numeral (codes "0X") ≡ None
unfolding numeral
numeral_30 = refl

numeral_31 : numeral (codes "0x_") ≡ None
unfolding numeral
numeral_31 = refl

numeral_32 : numeral (codes "0xf_") ≡ None
unfolding numeral
numeral_32 = refl

numeral_33 : numeral (codes "0xg") ≡ None
unfolding numeral
numeral_33 = refl

numeral_34 : numeral (codes "0x1g") ≡ None
unfolding numeral
numeral_34 = refl

numeral_35 : numeral (codes "0xb") ≡ Some (pos 11)
unfolding numeral
numeral_35 = refl

numeral_36 : numeral (codes "0x0b1") ≡ Some (pos 177)
unfolding numeral
numeral_36 = refl

numeral_37 : numeral (codes "0x00ff") ≡ Some (pos 255)
unfolding numeral
numeral_37 = refl

numeral_38 : numeral (codes "0xf__f") ≡ None
unfolding numeral
numeral_38 = refl

numeral_39 : numeral (codes "0o17") ≡ Some (pos 15)
unfolding numeral
numeral_39 = refl

numeral_40 : numeral (codes "0O7") ≡ Some (pos 7)
unfolding numeral
numeral_40 = refl

numeral_41 : numeral (codes "0o_7") ≡ Some (pos 7)
unfolding numeral
numeral_41 = refl

numeral_42 : numeral (codes "0o777") ≡ Some (pos 511)
unfolding numeral
numeral_42 = refl

numeral_43 : numeral (codes "0o8") ≡ None
unfolding numeral
numeral_43 = refl

numeral_44 : numeral (codes "0o18") ≡ None
unfolding numeral
numeral_44 = refl

numeral_45 : numeral (codes "0o") ≡ None
unfolding numeral
numeral_45 = refl

numeral_46 : numeral (codes "0o_") ≡ None
unfolding numeral
numeral_46 = refl

numeral_47 : numeral (codes "0o7_") ≡ None
unfolding numeral
numeral_47 = refl

numeral_48 : numeral (codes "0o7__7") ≡ None
unfolding numeral
numeral_48 = refl

numeral_49 : numeral (codes "0oa") ≡ None
unfolding numeral
numeral_49 = refl

numeral_50 : numeral (codes "0b101") ≡ Some (pos 5)
unfolding numeral
numeral_50 = refl

numeral_51 : numeral (codes "0B_1") ≡ Some (pos 1)
unfolding numeral
numeral_51 = refl

numeral_52 : numeral (codes "0b2") ≡ None
unfolding numeral
numeral_52 = refl

numeral_53 : numeral (codes "0b12") ≡ None
unfolding numeral
numeral_53 = refl

numeral_54 : numeral (codes "0b") ≡ None
unfolding numeral
numeral_54 = refl

numeral_55 : numeral (codes "0b_") ≡ None
unfolding numeral
numeral_55 = refl

numeral_56 : numeral (codes "0b1_0_1") ≡ Some (pos 5)
unfolding numeral
numeral_56 = refl

numeral_57 : numeral (codes "0b1__0") ≡ None
unfolding numeral
numeral_57 = refl

numeral_58 : numeral (codes "0b1_") ≡ None
unfolding numeral
numeral_58 = refl

numeral_59 : numeral (codes "0b000") ≡ Some (pos 0)
unfolding numeral
numeral_59 = refl

numeral_60 : numeral (codes "12e3") ≡ None
unfolding numeral
numeral_60 = refl

numeral_61 : numeral (codes "1a") ≡ None
unfolding numeral
numeral_61 = refl

numeral_62 : numeral (codes "0d1") ≡ None
unfolding numeral
numeral_62 = refl

numeral_63 : numeral (codes "0_x1") ≡ None
unfolding numeral
numeral_63 = refl

numeral_64 : numeral (codes "00x1") ≡ None
unfolding numeral
numeral_64 = refl

numeral_65 : numeral (codes "1x1") ≡ None
unfolding numeral
numeral_65 = refl

numeral_66 : numeral (codes "1L") ≡ None
unfolding numeral
numeral_66 = refl

numeral_67 : numeral (codes "0a") ≡ None
unfolding numeral
numeral_67 = refl

numeral_68 : numeral (codes "170141183460469231731687303715884105727") ≡ Some (pos 170141183460469231731687303715884105727)
unfolding numeral
numeral_68 = refl

numeral_69 : numeral (codes "0x7fffffffffffffffffffffffffffffff") ≡ Some (pos 170141183460469231731687303715884105727)
unfolding numeral
numeral_69 = refl

numeral_70 : numeral (codes "0o1777777777777777777777777777777777777777777") ≡ Some (pos 170141183460469231731687303715884105727)
unfolding numeral
numeral_70 = refl

numeral_71 : numeral (codes "0b1111111111111111111111111111111111111111111111111111111111111111111111111111111111111111111111111111111111111111111111111111111") ≡ Some (pos 170141183460469231731687303715884105727)
unfolding numeral
numeral_71 = refl

numeral_72 : numeral (codes "170141183460469231731687303715884105728") ≡ None
unfolding numeral
numeral_72 = refl

numeral_73 : numeral (codes "0x80000000000000000000000000000000") ≡ None
unfolding numeral
numeral_73 = refl

numeral_74 : numeral (codes "0o2000000000000000000000000000000000000000000") ≡ None
unfolding numeral
numeral_74 = refl

numeral_75 : numeral (codes "0b10000000000000000000000000000000000000000000000000000000000000000000000000000000000000000000000000000000000000000000000000000000") ≡ None
unfolding numeral
numeral_75 = refl

numeral_76 : numeral (codes "1000000000000000000000000000000000000000000000000000000000000") ≡ None
unfolding numeral
numeral_76 = refl

numeral_77 : numeral (codes "0x00000000000000000000000000000000000000001") ≡ Some (pos 1)
unfolding numeral
numeral_77 = refl

numeral_78 : numeral (codes "000000000000000000000000000000000000000000000000000000000000") ≡ Some (pos 0)
unfolding numeral
numeral_78 = refl
