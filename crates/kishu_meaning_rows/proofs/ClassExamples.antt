-- Which class of exceptions is which or lies below it, as CPython tells: computed on the definition. Made by tools/rows/state_rows.py.
use Rattle.std.proofs.Common.{◌≡◌, refl, true, false}
use Rattle.kishu_meaning.specs.values.Classes.{is_within}

class_1 : is_within 8 8 ≡ true
class_1 = refl

class_2 : is_within 9 8 ≡ true
class_2 = refl

class_3 : is_within 10 8 ≡ true
class_3 = refl

class_4 : is_within 11 8 ≡ true
class_4 = refl

class_5 : is_within 12 8 ≡ true
class_5 = refl

class_6 : is_within 13 8 ≡ true
class_6 = refl

class_7 : is_within 14 8 ≡ true
class_7 = refl

class_8 : is_within 15 8 ≡ true
class_8 = refl

class_9 : is_within 16 8 ≡ true
class_9 = refl

class_10 : is_within 17 8 ≡ true
class_10 = refl

class_11 : is_within 18 8 ≡ true
class_11 = refl

class_12 : is_within 19 8 ≡ true
class_12 = refl

class_13 : is_within 20 8 ≡ true
class_13 = refl

class_14 : is_within 21 8 ≡ true
class_14 = refl

class_15 : is_within 22 8 ≡ true
class_15 = refl

class_16 : is_within 23 8 ≡ true
class_16 = refl

class_17 : is_within 24 8 ≡ true
class_17 = refl

class_18 : is_within 9 9 ≡ true
class_18 = refl

class_19 : is_within 9 14 ≡ false
class_19 = refl

class_20 : is_within 9 17 ≡ false
class_20 = refl

class_21 : is_within 9 19 ≡ false
class_21 = refl

class_22 : is_within 9 24 ≡ false
class_22 = refl

class_23 : is_within 10 9 ≡ true
class_23 = refl

class_24 : is_within 10 14 ≡ false
class_24 = refl

class_25 : is_within 10 17 ≡ false
class_25 = refl

class_26 : is_within 10 19 ≡ false
class_26 = refl

class_27 : is_within 10 10 ≡ true
class_27 = refl

class_28 : is_within 10 24 ≡ false
class_28 = refl

class_29 : is_within 11 9 ≡ true
class_29 = refl

class_30 : is_within 11 14 ≡ false
class_30 = refl

class_31 : is_within 11 17 ≡ false
class_31 = refl

class_32 : is_within 11 19 ≡ false
class_32 = refl

class_33 : is_within 11 11 ≡ true
class_33 = refl

class_34 : is_within 11 24 ≡ false
class_34 = refl

class_35 : is_within 14 9 ≡ false
class_35 = refl

class_36 : is_within 14 14 ≡ true
class_36 = refl

class_37 : is_within 14 17 ≡ false
class_37 = refl

class_38 : is_within 14 19 ≡ false
class_38 = refl

class_39 : is_within 14 24 ≡ false
class_39 = refl

class_40 : is_within 15 9 ≡ false
class_40 = refl

class_41 : is_within 15 14 ≡ true
class_41 = refl

class_42 : is_within 15 17 ≡ false
class_42 = refl

class_43 : is_within 15 19 ≡ false
class_43 = refl

class_44 : is_within 15 15 ≡ true
class_44 = refl

class_45 : is_within 15 24 ≡ false
class_45 = refl

class_46 : is_within 16 9 ≡ false
class_46 = refl

class_47 : is_within 16 14 ≡ true
class_47 = refl

class_48 : is_within 16 17 ≡ false
class_48 = refl

class_49 : is_within 16 19 ≡ false
class_49 = refl

class_50 : is_within 16 16 ≡ true
class_50 = refl

class_51 : is_within 16 24 ≡ false
class_51 = refl

class_52 : is_within 17 9 ≡ false
class_52 = refl

class_53 : is_within 17 14 ≡ false
class_53 = refl

class_54 : is_within 17 17 ≡ true
class_54 = refl

class_55 : is_within 17 19 ≡ false
class_55 = refl

class_56 : is_within 17 24 ≡ false
class_56 = refl

class_57 : is_within 18 9 ≡ false
class_57 = refl

class_58 : is_within 18 14 ≡ false
class_58 = refl

class_59 : is_within 18 17 ≡ true
class_59 = refl

class_60 : is_within 18 19 ≡ false
class_60 = refl

class_61 : is_within 18 18 ≡ true
class_61 = refl

class_62 : is_within 18 24 ≡ false
class_62 = refl

class_63 : is_within 19 9 ≡ false
class_63 = refl

class_64 : is_within 19 14 ≡ false
class_64 = refl

class_65 : is_within 19 17 ≡ false
class_65 = refl

class_66 : is_within 19 19 ≡ true
class_66 = refl

class_67 : is_within 19 24 ≡ false
class_67 = refl

class_68 : is_within 20 9 ≡ false
class_68 = refl

class_69 : is_within 20 14 ≡ false
class_69 = refl

class_70 : is_within 20 17 ≡ false
class_70 = refl

class_71 : is_within 20 19 ≡ true
class_71 = refl

class_72 : is_within 20 20 ≡ true
class_72 = refl

class_73 : is_within 20 24 ≡ false
class_73 = refl

class_74 : is_within 21 9 ≡ false
class_74 = refl

class_75 : is_within 21 14 ≡ false
class_75 = refl

class_76 : is_within 21 17 ≡ false
class_76 = refl

class_77 : is_within 21 19 ≡ true
class_77 = refl

class_78 : is_within 21 21 ≡ true
class_78 = refl

class_79 : is_within 21 24 ≡ false
class_79 = refl

class_80 : is_within 22 9 ≡ false
class_80 = refl

class_81 : is_within 22 14 ≡ false
class_81 = refl

class_82 : is_within 22 17 ≡ false
class_82 = refl

class_83 : is_within 22 19 ≡ false
class_83 = refl

class_84 : is_within 22 22 ≡ true
class_84 = refl

class_85 : is_within 22 24 ≡ false
class_85 = refl

class_86 : is_within 24 9 ≡ false
class_86 = refl

class_87 : is_within 24 14 ≡ false
class_87 = refl

class_88 : is_within 24 17 ≡ false
class_88 = refl

class_89 : is_within 24 19 ≡ false
class_89 = refl

class_90 : is_within 24 24 ≡ true
class_90 = refl
