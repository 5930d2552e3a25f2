-- Numbers that texts write, and floors and powers, as CPython tells: computed on the definition. Made by tools/rows/text_rows.py.
use Rattle.std.proofs.Common.{◌≡◌, refl, [], ◌∷◌, true, false}
use Rattle.std.specs.Prelude.{pos, negsuc, codes, Some, None}
use Rattle.kishu_meaning.specs.values.Numbers.{is_whole, number_read, floor_quotient, floor_remainder, power}

reading_1 : is_whole (pos 0) ≡ true
unfolding power
reading_1 = refl

reading_2 : is_whole (pos 170141183460469231731687303715884105727) ≡ true
unfolding power
reading_2 = refl

reading_3 : is_whole (pos 170141183460469231731687303715884105728) ≡ false
unfolding power
reading_3 = refl

reading_4 : is_whole (negsuc 170141183460469231731687303715884105727) ≡ true
unfolding power
reading_4 = refl

reading_5 : is_whole (negsuc 170141183460469231731687303715884105728) ≡ false
unfolding power
reading_5 = refl

reading_6 : is_whole (pos 1000000000000000000000000000000000000000000000000000000000000) ≡ false
unfolding power
reading_6 = refl

reading_7 : is_whole (negsuc 999999999999999999999999999999999999999999999999999999999999) ≡ false
unfolding power
reading_7 = refl

reading_8 : number_read (codes "0") ≡ Some (pos 0)
unfolding power
reading_8 = refl

reading_9 : number_read (codes "7") ≡ Some (pos 7)
unfolding power
reading_9 = refl

reading_10 : number_read (codes "42") ≡ Some (pos 42)
unfolding power
reading_10 = refl

reading_11 : number_read (codes "007") ≡ Some (pos 7)
unfolding power
reading_11 = refl

reading_12 : number_read (codes "+5") ≡ Some (pos 5)
unfolding power
reading_12 = refl

reading_13 : number_read (codes "-5") ≡ Some (negsuc 4)
unfolding power
reading_13 = refl

reading_14 : number_read (codes "-0") ≡ Some (pos 0)
unfolding power
reading_14 = refl

reading_15 : number_read (codes "+0") ≡ Some (pos 0)
unfolding power
reading_15 = refl

reading_16 : number_read (codes " 42 ") ≡ Some (pos 42)
unfolding power
reading_16 = refl

reading_17 : number_read (9 ∷ 10 ∷ 43 ∷ 48 ∷ 48 ∷ 55 ∷ 13 ∷ []) ≡ Some (pos 7)
unfolding power
reading_17 = refl

reading_18 : number_read (11 ∷ 49 ∷ 12 ∷ []) ≡ Some (pos 1)
unfolding power
reading_18 = refl

reading_19 : number_read (codes "170141183460469231731687303715884105727") ≡ Some (pos 170141183460469231731687303715884105727)
unfolding power
reading_19 = refl

reading_20 : number_read (codes "170141183460469231731687303715884105728") ≡ None
unfolding power
reading_20 = refl

reading_21 : number_read (codes "-170141183460469231731687303715884105728") ≡ Some (negsuc 170141183460469231731687303715884105727)
unfolding power
reading_21 = refl

reading_22 : number_read (codes "-170141183460469231731687303715884105729") ≡ None
unfolding power
reading_22 = refl

reading_23 : number_read (codes "000000000000000000000000000000000000000000000000001") ≡ Some (pos 1)
unfolding power
reading_23 = refl

reading_24 : number_read (codes "-00000000000000000000000000000000000000000000000000") ≡ Some (pos 0)
unfolding power
reading_24 = refl

reading_25 : number_read [] ≡ None
unfolding power
reading_25 = refl

reading_26 : number_read (codes " ") ≡ None
unfolding power
reading_26 = refl

reading_27 : number_read (codes "+") ≡ None
unfolding power
reading_27 = refl

reading_28 : number_read (codes "-") ≡ None
unfolding power
reading_28 = refl

reading_29 : number_read (codes "+-1") ≡ None
unfolding power
reading_29 = refl

reading_30 : number_read (codes "--1") ≡ None
unfolding power
reading_30 = refl

reading_31 : number_read (codes "- 1") ≡ None
unfolding power
reading_31 = refl

reading_32 : number_read (codes "+ 1") ≡ None
unfolding power
reading_32 = refl

reading_33 : number_read (codes "1 2") ≡ None
unfolding power
reading_33 = refl

reading_34 : number_read (codes "1.0") ≡ None
unfolding power
reading_34 = refl

reading_35 : number_read (codes "1e3") ≡ None
unfolding power
reading_35 = refl

reading_36 : number_read (codes "0x1") ≡ None
unfolding power
reading_36 = refl

reading_37 : number_read (codes "a") ≡ None
unfolding power
reading_37 = refl

reading_38 : number_read (codes "1a") ≡ None
unfolding power
reading_38 = refl

reading_39 : number_read (codes "a1") ≡ None
unfolding power
reading_39 = refl

reading_40 : number_read (codes "1-") ≡ None
unfolding power
reading_40 = refl

reading_41 : number_read (codes "1+") ≡ None
unfolding power
reading_41 = refl

reading_42 : number_read (codes "1_0") ≡ None
unfolding power
reading_42 = refl

reading_43 : number_read (1633 ∷ []) ≡ None
unfolding power
reading_43 = refl

reading_44 : number_read (160 ∷ 49 ∷ []) ≡ None
unfolding power
reading_44 = refl

reading_45 : number_read (31 ∷ 49 ∷ []) ≡ None
unfolding power
reading_45 = refl

reading_46 : number_read (178 ∷ []) ≡ None
unfolding power
reading_46 = refl

reading_47 : floor_quotient (pos 7) (pos 2) ≡ (pos 3)
unfolding power
reading_47 = refl

reading_48 : floor_remainder (pos 7) (pos 2) ≡ (pos 1)
unfolding power
reading_48 = refl

reading_49 : floor_quotient (negsuc 6) (pos 2) ≡ (negsuc 3)
unfolding power
reading_49 = refl

reading_50 : floor_remainder (negsuc 6) (pos 2) ≡ (pos 1)
unfolding power
reading_50 = refl

reading_51 : floor_quotient (pos 7) (negsuc 1) ≡ (negsuc 3)
unfolding power
reading_51 = refl

reading_52 : floor_remainder (pos 7) (negsuc 1) ≡ (negsuc 0)
unfolding power
reading_52 = refl

reading_53 : floor_quotient (negsuc 6) (negsuc 1) ≡ (pos 3)
unfolding power
reading_53 = refl

reading_54 : floor_remainder (negsuc 6) (negsuc 1) ≡ (negsuc 0)
unfolding power
reading_54 = refl

reading_55 : floor_quotient (pos 6) (pos 3) ≡ (pos 2)
unfolding power
reading_55 = refl

reading_56 : floor_remainder (pos 6) (pos 3) ≡ (pos 0)
unfolding power
reading_56 = refl

reading_57 : floor_quotient (negsuc 5) (pos 3) ≡ (negsuc 1)
unfolding power
reading_57 = refl

reading_58 : floor_remainder (negsuc 5) (pos 3) ≡ (pos 0)
unfolding power
reading_58 = refl

reading_59 : floor_quotient (pos 6) (negsuc 2) ≡ (negsuc 1)
unfolding power
reading_59 = refl

reading_60 : floor_remainder (pos 6) (negsuc 2) ≡ (pos 0)
unfolding power
reading_60 = refl

reading_61 : floor_quotient (negsuc 5) (negsuc 2) ≡ (pos 2)
unfolding power
reading_61 = refl

reading_62 : floor_remainder (negsuc 5) (negsuc 2) ≡ (pos 0)
unfolding power
reading_62 = refl

reading_63 : floor_quotient (pos 0) (pos 5) ≡ (pos 0)
unfolding power
reading_63 = refl

reading_64 : floor_remainder (pos 0) (pos 5) ≡ (pos 0)
unfolding power
reading_64 = refl

reading_65 : floor_quotient (pos 0) (negsuc 4) ≡ (pos 0)
unfolding power
reading_65 = refl

reading_66 : floor_remainder (pos 0) (negsuc 4) ≡ (pos 0)
unfolding power
reading_66 = refl

reading_67 : floor_quotient (pos 1) (pos 170141183460469231731687303715884105727) ≡ (pos 0)
unfolding power
reading_67 = refl

reading_68 : floor_remainder (pos 1) (pos 170141183460469231731687303715884105727) ≡ (pos 1)
unfolding power
reading_68 = refl

reading_69 : floor_quotient (negsuc 0) (pos 170141183460469231731687303715884105727) ≡ (negsuc 0)
unfolding power
reading_69 = refl

reading_70 : floor_remainder (negsuc 0) (pos 170141183460469231731687303715884105727) ≡ (pos 170141183460469231731687303715884105726)
unfolding power
reading_70 = refl

reading_71 : floor_quotient (pos 1) (negsuc 170141183460469231731687303715884105727) ≡ (negsuc 0)
unfolding power
reading_71 = refl

reading_72 : floor_remainder (pos 1) (negsuc 170141183460469231731687303715884105727) ≡ (negsuc 170141183460469231731687303715884105726)
unfolding power
reading_72 = refl

reading_73 : floor_quotient (negsuc 0) (negsuc 170141183460469231731687303715884105727) ≡ (pos 0)
unfolding power
reading_73 = refl

reading_74 : floor_remainder (negsuc 0) (negsuc 170141183460469231731687303715884105727) ≡ (negsuc 0)
unfolding power
reading_74 = refl

reading_75 : floor_quotient (pos 170141183460469231731687303715884105727) (pos 170141183460469231731687303715884105727) ≡ (pos 1)
unfolding power
reading_75 = refl

reading_76 : floor_remainder (pos 170141183460469231731687303715884105727) (pos 170141183460469231731687303715884105727) ≡ (pos 0)
unfolding power
reading_76 = refl

reading_77 : floor_quotient (pos 170141183460469231731687303715884105727) (negsuc 170141183460469231731687303715884105727) ≡ (negsuc 0)
unfolding power
reading_77 = refl

reading_78 : floor_remainder (pos 170141183460469231731687303715884105727) (negsuc 170141183460469231731687303715884105727) ≡ (negsuc 0)
unfolding power
reading_78 = refl

reading_79 : floor_quotient (negsuc 170141183460469231731687303715884105727) (pos 170141183460469231731687303715884105727) ≡ (negsuc 1)
unfolding power
reading_79 = refl

reading_80 : floor_remainder (negsuc 170141183460469231731687303715884105727) (pos 170141183460469231731687303715884105727) ≡ (pos 170141183460469231731687303715884105726)
unfolding power
reading_80 = refl

reading_81 : floor_quotient (negsuc 170141183460469231731687303715884105727) (negsuc 170141183460469231731687303715884105727) ≡ (pos 1)
unfolding power
reading_81 = refl

reading_82 : floor_remainder (negsuc 170141183460469231731687303715884105727) (negsuc 170141183460469231731687303715884105727) ≡ (pos 0)
unfolding power
reading_82 = refl

reading_83 : floor_quotient (negsuc 170141183460469231731687303715884105727) (pos 1) ≡ (negsuc 170141183460469231731687303715884105727)
unfolding power
reading_83 = refl

reading_84 : floor_remainder (negsuc 170141183460469231731687303715884105727) (pos 1) ≡ (pos 0)
unfolding power
reading_84 = refl

reading_85 : floor_quotient (negsuc 170141183460469231731687303715884105727) (negsuc 0) ≡ (pos 170141183460469231731687303715884105728)
unfolding power
reading_85 = refl

reading_86 : floor_remainder (negsuc 170141183460469231731687303715884105727) (negsuc 0) ≡ (pos 0)
unfolding power
reading_86 = refl

reading_87 : floor_quotient (pos 170141183460469231731687303715884105727) (negsuc 0) ≡ (negsuc 170141183460469231731687303715884105726)
unfolding power
reading_87 = refl

reading_88 : floor_remainder (pos 170141183460469231731687303715884105727) (negsuc 0) ≡ (pos 0)
unfolding power
reading_88 = refl

reading_89 : floor_quotient (pos 170141183460469231731687303715884105727) (pos 2) ≡ (pos 85070591730234615865843651857942052863)
unfolding power
reading_89 = refl

reading_90 : floor_remainder (pos 170141183460469231731687303715884105727) (pos 2) ≡ (pos 1)
unfolding power
reading_90 = refl

reading_91 : floor_quotient (negsuc 170141183460469231731687303715884105727) (pos 2) ≡ (negsuc 85070591730234615865843651857942052863)
unfolding power
reading_91 = refl

reading_92 : floor_remainder (negsuc 170141183460469231731687303715884105727) (pos 2) ≡ (pos 0)
unfolding power
reading_92 = refl

reading_93 : floor_quotient (negsuc 170141183460469231731687303715884105727) (pos 3) ≡ (negsuc 56713727820156410577229101238628035242)
unfolding power
reading_93 = refl

reading_94 : floor_remainder (negsuc 170141183460469231731687303715884105727) (pos 3) ≡ (pos 1)
unfolding power
reading_94 = refl

reading_95 : floor_quotient (pos 170141183460469231731687303715884105727) (pos 10) ≡ (pos 17014118346046923173168730371588410572)
unfolding power
reading_95 = refl

reading_96 : floor_remainder (pos 170141183460469231731687303715884105727) (pos 10) ≡ (pos 7)
unfolding power
reading_96 = refl

reading_97 : power (pos 0) 0 ≡ (pos 1)
unfolding power
reading_97 = refl

reading_98 : power (pos 0) 1 ≡ (pos 0)
unfolding power
reading_98 = refl

reading_99 : power (pos 0) 5 ≡ (pos 0)
unfolding power
reading_99 = refl

reading_100 : power (negsuc 0) 3 ≡ (negsuc 0)
unfolding power
reading_100 = refl

reading_101 : power (negsuc 0) 4 ≡ (pos 1)
unfolding power
reading_101 = refl

reading_102 : power (pos 2) 10 ≡ (pos 1024)
unfolding power
reading_102 = refl

reading_103 : power (pos 2) 126 ≡ (pos 85070591730234615865843651857942052864)
unfolding power
reading_103 = refl

reading_104 : power (pos 2) 127 ≡ (pos 170141183460469231731687303715884105728)
unfolding power
reading_104 = refl

reading_105 : power (negsuc 1) 127 ≡ (negsuc 170141183460469231731687303715884105727)
unfolding power
reading_105 = refl

reading_106 : power (negsuc 1) 128 ≡ (pos 340282366920938463463374607431768211456)
unfolding power
reading_106 = refl

reading_107 : power (negsuc 1) 3 ≡ (negsuc 7)
unfolding power
reading_107 = refl

reading_108 : power (pos 3) 80 ≡ (pos 147808829414345923316083210206383297601)
unfolding power
reading_108 = refl

reading_109 : power (pos 3) 81 ≡ (pos 443426488243037769948249630619149892803)
unfolding power
reading_109 = refl

reading_110 : power (pos 170141183460469231731687303715884105727) 1 ≡ (pos 170141183460469231731687303715884105727)
unfolding power
reading_110 = refl

reading_111 : power (pos 170141183460469231731687303715884105727) 2 ≡ (pos 28948022309329048855892746252171976962977213799489202546401021394546514198529)
unfolding power
reading_111 = refl

reading_112 : power (negsuc 170141183460469231731687303715884105727) 1 ≡ (negsuc 170141183460469231731687303715884105727)
unfolding power
reading_112 = refl

reading_113 : power (negsuc 170141183460469231731687303715884105727) 0 ≡ (pos 1)
unfolding power
reading_113 = refl

reading_114 : power (pos 7) 45 ≡ (pos 107006904423598033356356300384937784807)
unfolding power
reading_114 = refl

reading_115 : power (pos 7) 46 ≡ (pos 749048330965186233494494102694564493649)
unfolding power
reading_115 = refl

reading_116 : power (negsuc 6) 45 ≡ (negsuc 107006904423598033356356300384937784806)
unfolding power
reading_116 = refl

reading_117 : power (pos 10) 38 ≡ (pos 100000000000000000000000000000000000000)
unfolding power
reading_117 = refl

reading_118 : power (pos 10) 39 ≡ (pos 1000000000000000000000000000000000000000)
unfolding power
reading_118 = refl
