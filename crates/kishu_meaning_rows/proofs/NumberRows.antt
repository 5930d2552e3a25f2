-- What the operators answer on whole numbers at the edges of their range, as CPython's numbers tell: computed on the definition. Made by tools/rows/text_rows.py.
use Rattle.std.proofs.Common.{◌≡◌, refl, [], ◌∷◌}
use Rattle.std.specs.Prelude.{pos, negsuc, codes}
use Rattle.kishu_language.specs.declared.tree.Operator.TheVariants as operators
use Rattle.kishu_meaning.specs.values.Numbers.{power}
use Rattle.kishu_meaning.specs.values.Values.{integer, text}
use Rattle.kishu_meaning.specs.moments.Moment.{Moment, fresh, fine, raised}
use Rattle.kishu_meaning.specs.calls.Operators.{arithmetic}
use Rattle.kishu_meaning_laws.specs.Bare.{bare}

abbrev now : Moment
now = bare [] 100 0

number_1 : arithmetic operators.Add (pos 170141183460469231731687303715884105727) (pos 0) now ≡ fine (integer (pos 170141183460469231731687303715884105727)) now
unfolding power
number_1 = refl

number_2 : arithmetic operators.Add (pos 170141183460469231731687303715884105727) (pos 1) now ≡ raised (fresh 10 (text (codes "whole number too large") ∷ [])) now
unfolding power
number_2 = refl

number_3 : arithmetic operators.Add (pos 170141183460469231731687303715884105727) (negsuc 0) now ≡ fine (integer (pos 170141183460469231731687303715884105726)) now
unfolding power
number_3 = refl

number_4 : arithmetic operators.Add (pos 170141183460469231731687303715884105727) (pos 170141183460469231731687303715884105727) now ≡ raised (fresh 10 (text (codes "whole number too large") ∷ [])) now
unfolding power
number_4 = refl

number_5 : arithmetic operators.Add (pos 170141183460469231731687303715884105727) (negsuc 170141183460469231731687303715884105727) now ≡ fine (integer (negsuc 0)) now
unfolding power
number_5 = refl

number_6 : arithmetic operators.Add (negsuc 170141183460469231731687303715884105727) (negsuc 0) now ≡ raised (fresh 10 (text (codes "whole number too large") ∷ [])) now
unfolding power
number_6 = refl

number_7 : arithmetic operators.Add (negsuc 170141183460469231731687303715884105727) (pos 1) now ≡ fine (integer (negsuc 170141183460469231731687303715884105726)) now
unfolding power
number_7 = refl

number_8 : arithmetic operators.Add (negsuc 170141183460469231731687303715884105727) (negsuc 170141183460469231731687303715884105727) now ≡ raised (fresh 10 (text (codes "whole number too large") ∷ [])) now
unfolding power
number_8 = refl

number_9 : arithmetic operators.Add (negsuc 170141183460469231731687303715884105727) (pos 170141183460469231731687303715884105727) now ≡ fine (integer (negsuc 0)) now
unfolding power
number_9 = refl

number_10 : arithmetic operators.Add (pos 0) (negsuc 170141183460469231731687303715884105727) now ≡ fine (integer (negsuc 170141183460469231731687303715884105727)) now
unfolding power
number_10 = refl

number_11 : arithmetic operators.Add (pos 0) (pos 0) now ≡ fine (integer (pos 0)) now
unfolding power
number_11 = refl

number_12 : arithmetic operators.Add (pos 1) (negsuc 0) now ≡ fine (integer (pos 0)) now
unfolding power
number_12 = refl

number_13 : arithmetic operators.Add (pos 85070591730234615865843651857942052864) (pos 85070591730234615865843651857942052864) now ≡ raised (fresh 10 (text (codes "whole number too large") ∷ [])) now
unfolding power
number_13 = refl

number_14 : arithmetic operators.Add (pos 85070591730234615865843651857942052864) (pos 85070591730234615865843651857942052863) now ≡ fine (integer (pos 170141183460469231731687303715884105727)) now
unfolding power
number_14 = refl

number_15 : arithmetic operators.Add (negsuc 85070591730234615865843651857942052863) (negsuc 85070591730234615865843651857942052863) now ≡ fine (integer (negsuc 170141183460469231731687303715884105727)) now
unfolding power
number_15 = refl

number_16 : arithmetic operators.Add (negsuc 85070591730234615865843651857942052863) (negsuc 85070591730234615865843651857942052864) now ≡ raised (fresh 10 (text (codes "whole number too large") ∷ [])) now
unfolding power
number_16 = refl

number_17 : arithmetic operators.Subtract (pos 0) (negsuc 170141183460469231731687303715884105727) now ≡ raised (fresh 10 (text (codes "whole number too large") ∷ [])) now
unfolding power
number_17 = refl

number_18 : arithmetic operators.Subtract (pos 0) (pos 170141183460469231731687303715884105727) now ≡ fine (integer (negsuc 170141183460469231731687303715884105726)) now
unfolding power
number_18 = refl

number_19 : arithmetic operators.Subtract (negsuc 0) (pos 170141183460469231731687303715884105727) now ≡ fine (integer (negsuc 170141183460469231731687303715884105727)) now
unfolding power
number_19 = refl

number_20 : arithmetic operators.Subtract (negsuc 1) (pos 170141183460469231731687303715884105727) now ≡ raised (fresh 10 (text (codes "whole number too large") ∷ [])) now
unfolding power
number_20 = refl

number_21 : arithmetic operators.Subtract (negsuc 0) (negsuc 170141183460469231731687303715884105727) now ≡ fine (integer (pos 170141183460469231731687303715884105727)) now
unfolding power
number_21 = refl

number_22 : arithmetic operators.Subtract (pos 1) (negsuc 170141183460469231731687303715884105727) now ≡ raised (fresh 10 (text (codes "whole number too large") ∷ [])) now
unfolding power
number_22 = refl

number_23 : arithmetic operators.Subtract (pos 170141183460469231731687303715884105727) (negsuc 0) now ≡ raised (fresh 10 (text (codes "whole number too large") ∷ [])) now
unfolding power
number_23 = refl

number_24 : arithmetic operators.Subtract (negsuc 170141183460469231731687303715884105727) (pos 1) now ≡ raised (fresh 10 (text (codes "whole number too large") ∷ [])) now
unfolding power
number_24 = refl

number_25 : arithmetic operators.Subtract (negsuc 170141183460469231731687303715884105727) (negsuc 170141183460469231731687303715884105727) now ≡ fine (integer (pos 0)) now
unfolding power
number_25 = refl

number_26 : arithmetic operators.Subtract (pos 170141183460469231731687303715884105727) (pos 170141183460469231731687303715884105727) now ≡ fine (integer (pos 0)) now
unfolding power
number_26 = refl

number_27 : arithmetic operators.Subtract (pos 5) (pos 7) now ≡ fine (integer (negsuc 1)) now
unfolding power
number_27 = refl

number_28 : arithmetic operators.Multiply (pos 170141183460469231731687303715884105727) (pos 1) now ≡ fine (integer (pos 170141183460469231731687303715884105727)) now
unfolding power
number_28 = refl

number_29 : arithmetic operators.Multiply (pos 170141183460469231731687303715884105727) (negsuc 0) now ≡ fine (integer (negsuc 170141183460469231731687303715884105726)) now
unfolding power
number_29 = refl

number_30 : arithmetic operators.Multiply (pos 170141183460469231731687303715884105727) (pos 2) now ≡ raised (fresh 10 (text (codes "whole number too large") ∷ [])) now
unfolding power
number_30 = refl

number_31 : arithmetic operators.Multiply (negsuc 170141183460469231731687303715884105727) (pos 1) now ≡ fine (integer (negsuc 170141183460469231731687303715884105727)) now
unfolding power
number_31 = refl

number_32 : arithmetic operators.Multiply (negsuc 170141183460469231731687303715884105727) (negsuc 0) now ≡ raised (fresh 10 (text (codes "whole number too large") ∷ [])) now
unfolding power
number_32 = refl

number_33 : arithmetic operators.Multiply (negsuc 170141183460469231731687303715884105727) (pos 0) now ≡ fine (integer (pos 0)) now
unfolding power
number_33 = refl

number_34 : arithmetic operators.Multiply (pos 9223372036854775808) (pos 18446744073709551616) now ≡ raised (fresh 10 (text (codes "whole number too large") ∷ [])) now
unfolding power
number_34 = refl

number_35 : arithmetic operators.Multiply (pos 9223372036854775808) (negsuc 18446744073709551615) now ≡ fine (integer (negsuc 170141183460469231731687303715884105727)) now
unfolding power
number_35 = refl

number_36 : arithmetic operators.Multiply (negsuc 9223372036854775807) (negsuc 18446744073709551615) now ≡ raised (fresh 10 (text (codes "whole number too large") ∷ [])) now
unfolding power
number_36 = refl

number_37 : arithmetic operators.Multiply (pos 18446744073709551615) (pos 9223372036854775808) now ≡ fine (integer (pos 170141183460469231722463931679029329920)) now
unfolding power
number_37 = refl

number_38 : arithmetic operators.Multiply (pos 13) (pos 13087783343113017825514438799031192748) now ≡ raised (fresh 10 (text (codes "whole number too large") ∷ [])) now
unfolding power
number_38 = refl

number_39 : arithmetic operators.Multiply (negsuc 2) (pos 7) now ≡ fine (integer (negsuc 20)) now
unfolding power
number_39 = refl

number_40 : arithmetic operators.Multiply (pos 0) (pos 0) now ≡ fine (integer (pos 0)) now
unfolding power
number_40 = refl

number_41 : arithmetic operators.Multiply (pos 85070591730234615865843651857942052864) (pos 2) now ≡ raised (fresh 10 (text (codes "whole number too large") ∷ [])) now
unfolding power
number_41 = refl

number_42 : arithmetic operators.Multiply (pos 85070591730234615865843651857942052864) (negsuc 1) now ≡ fine (integer (negsuc 170141183460469231731687303715884105727)) now
unfolding power
number_42 = refl

number_43 : arithmetic operators.FloorDivide (pos 7) (pos 2) now ≡ fine (integer (pos 3)) now
unfolding power
number_43 = refl

number_44 : arithmetic operators.FloorDivide (negsuc 6) (pos 2) now ≡ fine (integer (negsuc 3)) now
unfolding power
number_44 = refl

number_45 : arithmetic operators.FloorDivide (pos 7) (negsuc 1) now ≡ fine (integer (negsuc 3)) now
unfolding power
number_45 = refl

number_46 : arithmetic operators.FloorDivide (negsuc 6) (negsuc 1) now ≡ fine (integer (pos 3)) now
unfolding power
number_46 = refl

number_47 : arithmetic operators.FloorDivide (pos 6) (pos 3) now ≡ fine (integer (pos 2)) now
unfolding power
number_47 = refl

number_48 : arithmetic operators.FloorDivide (negsuc 5) (pos 3) now ≡ fine (integer (negsuc 1)) now
unfolding power
number_48 = refl

number_49 : arithmetic operators.FloorDivide (pos 6) (negsuc 2) now ≡ fine (integer (negsuc 1)) now
unfolding power
number_49 = refl

number_50 : arithmetic operators.FloorDivide (negsuc 5) (negsuc 2) now ≡ fine (integer (pos 2)) now
unfolding power
number_50 = refl

number_51 : arithmetic operators.FloorDivide (pos 0) (pos 5) now ≡ fine (integer (pos 0)) now
unfolding power
number_51 = refl

number_52 : arithmetic operators.FloorDivide (pos 0) (negsuc 4) now ≡ fine (integer (pos 0)) now
unfolding power
number_52 = refl

number_53 : arithmetic operators.FloorDivide (pos 1) (pos 170141183460469231731687303715884105727) now ≡ fine (integer (pos 0)) now
unfolding power
number_53 = refl

number_54 : arithmetic operators.FloorDivide (negsuc 0) (pos 170141183460469231731687303715884105727) now ≡ fine (integer (negsuc 0)) now
unfolding power
number_54 = refl

number_55 : arithmetic operators.FloorDivide (pos 1) (negsuc 170141183460469231731687303715884105727) now ≡ fine (integer (negsuc 0)) now
unfolding power
number_55 = refl

number_56 : arithmetic operators.FloorDivide (negsuc 0) (negsuc 170141183460469231731687303715884105727) now ≡ fine (integer (pos 0)) now
unfolding power
number_56 = refl

number_57 : arithmetic operators.FloorDivide (pos 170141183460469231731687303715884105727) (pos 170141183460469231731687303715884105727) now ≡ fine (integer (pos 1)) now
unfolding power
number_57 = refl

number_58 : arithmetic operators.FloorDivide (pos 170141183460469231731687303715884105727) (negsuc 170141183460469231731687303715884105727) now ≡ fine (integer (negsuc 0)) now
unfolding power
number_58 = refl

number_59 : arithmetic operators.FloorDivide (negsuc 170141183460469231731687303715884105727) (pos 170141183460469231731687303715884105727) now ≡ fine (integer (negsuc 1)) now
unfolding power
number_59 = refl

number_60 : arithmetic operators.FloorDivide (negsuc 170141183460469231731687303715884105727) (negsuc 170141183460469231731687303715884105727) now ≡ fine (integer (pos 1)) now
unfolding power
number_60 = refl

number_61 : arithmetic operators.FloorDivide (negsuc 170141183460469231731687303715884105727) (pos 1) now ≡ fine (integer (negsuc 170141183460469231731687303715884105727)) now
unfolding power
number_61 = refl

number_62 : arithmetic operators.FloorDivide (negsuc 170141183460469231731687303715884105727) (negsuc 0) now ≡ raised (fresh 10 (text (codes "whole number too large") ∷ [])) now
unfolding power
number_62 = refl

number_63 : arithmetic operators.FloorDivide (pos 170141183460469231731687303715884105727) (negsuc 0) now ≡ fine (integer (negsuc 170141183460469231731687303715884105726)) now
unfolding power
number_63 = refl

number_64 : arithmetic operators.FloorDivide (pos 170141183460469231731687303715884105727) (pos 2) now ≡ fine (integer (pos 85070591730234615865843651857942052863)) now
unfolding power
number_64 = refl

number_65 : arithmetic operators.FloorDivide (negsuc 170141183460469231731687303715884105727) (pos 2) now ≡ fine (integer (negsuc 85070591730234615865843651857942052863)) now
unfolding power
number_65 = refl

number_66 : arithmetic operators.FloorDivide (negsuc 170141183460469231731687303715884105727) (pos 3) now ≡ fine (integer (negsuc 56713727820156410577229101238628035242)) now
unfolding power
number_66 = refl

number_67 : arithmetic operators.FloorDivide (pos 170141183460469231731687303715884105727) (pos 10) now ≡ fine (integer (pos 17014118346046923173168730371588410572)) now
unfolding power
number_67 = refl

number_68 : arithmetic operators.FloorDivide (pos 5) (pos 0) now ≡ raised (fresh 11 (text (codes "division by zero") ∷ [])) now
unfolding power
number_68 = refl

number_69 : arithmetic operators.FloorDivide (pos 0) (pos 0) now ≡ raised (fresh 11 (text (codes "division by zero") ∷ [])) now
unfolding power
number_69 = refl

number_70 : arithmetic operators.FloorDivide (negsuc 170141183460469231731687303715884105727) (pos 0) now ≡ raised (fresh 11 (text (codes "division by zero") ∷ [])) now
unfolding power
number_70 = refl

number_71 : arithmetic operators.Modulo (pos 7) (pos 2) now ≡ fine (integer (pos 1)) now
unfolding power
number_71 = refl

number_72 : arithmetic operators.Modulo (negsuc 6) (pos 2) now ≡ fine (integer (pos 1)) now
unfolding power
number_72 = refl

number_73 : arithmetic operators.Modulo (pos 7) (negsuc 1) now ≡ fine (integer (negsuc 0)) now
unfolding power
number_73 = refl

number_74 : arithmetic operators.Modulo (negsuc 6) (negsuc 1) now ≡ fine (integer (negsuc 0)) now
unfolding power
number_74 = refl

number_75 : arithmetic operators.Modulo (pos 6) (pos 3) now ≡ fine (integer (pos 0)) now
unfolding power
number_75 = refl

number_76 : arithmetic operators.Modulo (negsuc 5) (pos 3) now ≡ fine (integer (pos 0)) now
unfolding power
number_76 = refl

number_77 : arithmetic operators.Modulo (pos 6) (negsuc 2) now ≡ fine (integer (pos 0)) now
unfolding power
number_77 = refl

number_78 : arithmetic operators.Modulo (negsuc 5) (negsuc 2) now ≡ fine (integer (pos 0)) now
unfolding power
number_78 = refl

number_79 : arithmetic operators.Modulo (pos 0) (pos 5) now ≡ fine (integer (pos 0)) now
unfolding power
number_79 = refl

number_80 : arithmetic operators.Modulo (pos 0) (negsuc 4) now ≡ fine (integer (pos 0)) now
unfolding power
number_80 = refl

number_81 : arithmetic operators.Modulo (pos 1) (pos 170141183460469231731687303715884105727) now ≡ fine (integer (pos 1)) now
unfolding power
number_81 = refl

number_82 : arithmetic operators.Modulo (negsuc 0) (pos 170141183460469231731687303715884105727) now ≡ fine (integer (pos 170141183460469231731687303715884105726)) now
unfolding power
number_82 = refl

number_83 : arithmetic operators.Modulo (pos 1) (negsuc 170141183460469231731687303715884105727) now ≡ fine (integer (negsuc 170141183460469231731687303715884105726)) now
unfolding power
number_83 = refl

number_84 : arithmetic operators.Modulo (negsuc 0) (negsuc 170141183460469231731687303715884105727) now ≡ fine (integer (negsuc 0)) now
unfolding power
number_84 = refl

number_85 : arithmetic operators.Modulo (pos 170141183460469231731687303715884105727) (pos 170141183460469231731687303715884105727) now ≡ fine (integer (pos 0)) now
unfolding power
number_85 = refl

number_86 : arithmetic operators.Modulo (pos 170141183460469231731687303715884105727) (negsuc 170141183460469231731687303715884105727) now ≡ fine (integer (negsuc 0)) now
unfolding power
number_86 = refl

number_87 : arithmetic operators.Modulo (negsuc 170141183460469231731687303715884105727) (pos 170141183460469231731687303715884105727) now ≡ fine (integer (pos 170141183460469231731687303715884105726)) now
unfolding power
number_87 = refl

number_88 : arithmetic operators.Modulo (negsuc 170141183460469231731687303715884105727) (negsuc 170141183460469231731687303715884105727) now ≡ fine (integer (pos 0)) now
unfolding power
number_88 = refl

number_89 : arithmetic operators.Modulo (negsuc 170141183460469231731687303715884105727) (pos 1) now ≡ fine (integer (pos 0)) now
unfolding power
number_89 = refl

number_90 : arithmetic operators.Modulo (negsuc 170141183460469231731687303715884105727) (negsuc 0) now ≡ fine (integer (pos 0)) now
unfolding power
number_90 = refl

number_91 : arithmetic operators.Modulo (pos 170141183460469231731687303715884105727) (negsuc 0) now ≡ fine (integer (pos 0)) now
unfolding power
number_91 = refl

number_92 : arithmetic operators.Modulo (pos 170141183460469231731687303715884105727) (pos 2) now ≡ fine (integer (pos 1)) now
unfolding power
number_92 = refl

number_93 : arithmetic operators.Modulo (negsuc 170141183460469231731687303715884105727) (pos 2) now ≡ fine (integer (pos 0)) now
unfolding power
number_93 = refl

number_94 : arithmetic operators.Modulo (negsuc 170141183460469231731687303715884105727) (pos 3) now ≡ fine (integer (pos 1)) now
unfolding power
number_94 = refl

number_95 : arithmetic operators.Modulo (pos 170141183460469231731687303715884105727) (pos 10) now ≡ fine (integer (pos 7)) now
unfolding power
number_95 = refl

number_96 : arithmetic operators.Modulo (pos 5) (pos 0) now ≡ raised (fresh 11 (text (codes "division by zero") ∷ [])) now
unfolding power
number_96 = refl

number_97 : arithmetic operators.Modulo (pos 0) (pos 0) now ≡ raised (fresh 11 (text (codes "division by zero") ∷ [])) now
unfolding power
number_97 = refl

number_98 : arithmetic operators.Modulo (negsuc 170141183460469231731687303715884105727) (pos 0) now ≡ raised (fresh 11 (text (codes "division by zero") ∷ [])) now
unfolding power
number_98 = refl

number_99 : arithmetic operators.Power (pos 0) (pos 0) now ≡ fine (integer (pos 1)) now
unfolding power
number_99 = refl

number_100 : arithmetic operators.Power (pos 0) (pos 1) now ≡ fine (integer (pos 0)) now
unfolding power
number_100 = refl

number_101 : arithmetic operators.Power (pos 0) (pos 5) now ≡ fine (integer (pos 0)) now
unfolding power
number_101 = refl

number_102 : arithmetic operators.Power (pos 1) (pos 1000) now ≡ fine (integer (pos 1)) now
unfolding power
number_102 = refl

number_103 : arithmetic operators.Power (negsuc 0) (pos 3) now ≡ fine (integer (negsuc 0)) now
unfolding power
number_103 = refl

number_104 : arithmetic operators.Power (negsuc 0) (pos 4) now ≡ fine (integer (pos 1)) now
unfolding power
number_104 = refl

number_105 : arithmetic operators.Power (pos 2) (pos 10) now ≡ fine (integer (pos 1024)) now
unfolding power
number_105 = refl

number_106 : arithmetic operators.Power (pos 2) (pos 126) now ≡ fine (integer (pos 85070591730234615865843651857942052864)) now
unfolding power
number_106 = refl

number_107 : arithmetic operators.Power (pos 2) (pos 127) now ≡ raised (fresh 10 (text (codes "whole number too large") ∷ [])) now
unfolding power
number_107 = refl

number_108 : arithmetic operators.Power (negsuc 1) (pos 127) now ≡ fine (integer (negsuc 170141183460469231731687303715884105727)) now
unfolding power
number_108 = refl

number_109 : arithmetic operators.Power (negsuc 1) (pos 128) now ≡ raised (fresh 10 (text (codes "whole number too large") ∷ [])) now
unfolding power
number_109 = refl

number_110 : arithmetic operators.Power (negsuc 1) (pos 3) now ≡ fine (integer (negsuc 7)) now
unfolding power
number_110 = refl

number_111 : arithmetic operators.Power (pos 3) (pos 80) now ≡ fine (integer (pos 147808829414345923316083210206383297601)) now
unfolding power
number_111 = refl

number_112 : arithmetic operators.Power (pos 3) (pos 81) now ≡ raised (fresh 10 (text (codes "whole number too large") ∷ [])) now
unfolding power
number_112 = refl

number_113 : arithmetic operators.Power (pos 170141183460469231731687303715884105727) (pos 1) now ≡ fine (integer (pos 170141183460469231731687303715884105727)) now
unfolding power
number_113 = refl

number_114 : arithmetic operators.Power (pos 170141183460469231731687303715884105727) (pos 2) now ≡ raised (fresh 10 (text (codes "whole number too large") ∷ [])) now
unfolding power
number_114 = refl

number_115 : arithmetic operators.Power (negsuc 170141183460469231731687303715884105727) (pos 1) now ≡ fine (integer (negsuc 170141183460469231731687303715884105727)) now
unfolding power
number_115 = refl

number_116 : arithmetic operators.Power (negsuc 170141183460469231731687303715884105727) (pos 0) now ≡ fine (integer (pos 1)) now
unfolding power
number_116 = refl

number_117 : arithmetic operators.Power (pos 7) (pos 45) now ≡ fine (integer (pos 107006904423598033356356300384937784807)) now
unfolding power
number_117 = refl

number_118 : arithmetic operators.Power (pos 7) (pos 46) now ≡ raised (fresh 10 (text (codes "whole number too large") ∷ [])) now
unfolding power
number_118 = refl

number_119 : arithmetic operators.Power (negsuc 6) (pos 45) now ≡ fine (integer (negsuc 107006904423598033356356300384937784806)) now
unfolding power
number_119 = refl

number_120 : arithmetic operators.Power (pos 10) (pos 38) now ≡ fine (integer (pos 100000000000000000000000000000000000000)) now
unfolding power
number_120 = refl

number_121 : arithmetic operators.Power (pos 10) (pos 39) now ≡ raised (fresh 10 (text (codes "whole number too large") ∷ [])) now
unfolding power
number_121 = refl

number_122 : arithmetic operators.Power (pos 2) (negsuc 0) now ≡ raised (fresh 24 (text (codes "negative power") ∷ [])) now
unfolding power
number_122 = refl

number_123 : arithmetic operators.Power (pos 0) (negsuc 0) now ≡ raised (fresh 24 (text (codes "negative power") ∷ [])) now
unfolding power
number_123 = refl

number_124 : arithmetic operators.Power (pos 1) (negsuc 0) now ≡ raised (fresh 24 (text (codes "negative power") ∷ [])) now
unfolding power
number_124 = refl

number_125 : arithmetic operators.Power (negsuc 0) (negsuc 1) now ≡ raised (fresh 24 (text (codes "negative power") ∷ [])) now
unfolding power
number_125 = refl

number_126 : arithmetic operators.Power (pos 5) (negsuc 170141183460469231731687303715884105727) now ≡ raised (fresh 24 (text (codes "negative power") ∷ [])) now
unfolding power
number_126 = refl
