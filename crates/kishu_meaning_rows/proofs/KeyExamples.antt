-- Which keys are one, as CPython's dicts tell: computed on the definition. Made by tools/rows/nodes.py.
use Rattle.std.proofs.Common.{◌≡◌, refl, [], ◌∷◌, true, false}
use Rattle.std.specs.Prelude.{pos, negsuc, codes}
use Rattle.kishu_meaning.specs.values.Keys as p
use Rattle.kishu_meaning.specs.values.Keys.{is_one}

key_1 : is_one (p.single p.none) (p.single p.none) ≡ true
key_1 = refl

key_2 : is_one (p.single (p.bool true)) (p.single (p.bool true)) ≡ true
key_2 = refl

key_3 : is_one (p.single (p.bool true)) (p.single (p.integer (pos 1))) ≡ true
key_3 = refl

key_4 : is_one (p.single (p.bool false)) (p.single (p.bool false)) ≡ true
key_4 = refl

key_5 : is_one (p.single (p.bool false)) (p.single (p.integer (pos 0))) ≡ true
key_5 = refl

key_6 : is_one (p.single (p.integer (pos 1))) (p.single (p.integer (pos 1))) ≡ true
key_6 = refl

key_7 : is_one (p.single (p.integer (pos 0))) (p.single (p.integer (pos 0))) ≡ true
key_7 = refl

key_8 : is_one (p.single (p.integer (pos 2))) (p.single (p.integer (pos 2))) ≡ true
key_8 = refl

key_9 : is_one (p.single (p.integer (negsuc 0))) (p.single (p.integer (negsuc 0))) ≡ true
key_9 = refl

key_10 : is_one (p.single (p.text (codes "a"))) (p.single (p.text (codes "a"))) ≡ true
key_10 = refl

key_11 : is_one (p.single (p.text (codes "b"))) (p.single (p.text (codes "b"))) ≡ true
key_11 = refl

key_12 : is_one (p.single (p.text [])) (p.single (p.text [])) ≡ true
key_12 = refl

key_13 : is_one (p.single (p.text (codes "1"))) (p.single (p.text (codes "1"))) ≡ true
key_13 = refl

key_14 : is_one (p.tuple []) (p.tuple []) ≡ true
key_14 = refl

key_15 : is_one (p.tuple ((p.integer (pos 1)) ∷ [])) (p.tuple ((p.integer (pos 1)) ∷ [])) ≡ true
key_15 = refl

key_16 : is_one (p.tuple ((p.integer (pos 1)) ∷ [])) (p.tuple ((p.bool true) ∷ [])) ≡ true
key_16 = refl

key_17 : is_one (p.tuple ((p.bool true) ∷ [])) (p.tuple ((p.bool true) ∷ [])) ≡ true
key_17 = refl

key_18 : is_one (p.tuple ((p.integer (pos 0)) ∷ [])) (p.tuple ((p.integer (pos 0)) ∷ [])) ≡ true
key_18 = refl

key_19 : is_one (p.tuple ((p.text (codes "a")) ∷ [])) (p.tuple ((p.text (codes "a")) ∷ [])) ≡ true
key_19 = refl

key_20 : is_one (p.tuple (p.none ∷ [])) (p.tuple (p.none ∷ [])) ≡ true
key_20 = refl

key_21 : is_one (p.tuple ((p.integer (pos 1)) ∷ (p.text (codes "a")) ∷ [])) (p.tuple ((p.integer (pos 1)) ∷ (p.text (codes "a")) ∷ [])) ≡ true
key_21 = refl

key_22 : is_one (p.tuple ((p.integer (pos 1)) ∷ (p.text (codes "a")) ∷ [])) (p.tuple ((p.bool true) ∷ (p.text (codes "a")) ∷ [])) ≡ true
key_22 = refl

key_23 : is_one (p.tuple ((p.bool true) ∷ (p.text (codes "a")) ∷ [])) (p.tuple ((p.bool true) ∷ (p.text (codes "a")) ∷ [])) ≡ true
key_23 = refl

key_24 : is_one (p.tuple ((p.integer (pos 1)) ∷ (p.integer (pos 2)) ∷ [])) (p.tuple ((p.integer (pos 1)) ∷ (p.integer (pos 2)) ∷ [])) ≡ true
key_24 = refl

key_25 : is_one (p.tuple ((p.integer (pos 1)) ∷ (p.integer (pos 2)) ∷ [])) (p.tuple ((p.bool true) ∷ (p.integer (pos 2)) ∷ [])) ≡ true
key_25 = refl

key_26 : is_one (p.tuple ((p.bool true) ∷ (p.integer (pos 2)) ∷ [])) (p.tuple ((p.bool true) ∷ (p.integer (pos 2)) ∷ [])) ≡ true
key_26 = refl

key_27 : is_one (p.single p.none) (p.single (p.text (codes "a"))) ≡ false
key_27 = refl

key_28 : is_one (p.single p.none) (p.tuple ((p.integer (pos 0)) ∷ [])) ≡ false
key_28 = refl

key_29 : is_one (p.single (p.bool true)) (p.single (p.text (codes "b"))) ≡ false
key_29 = refl

key_30 : is_one (p.single (p.bool true)) (p.tuple ((p.text (codes "a")) ∷ [])) ≡ false
key_30 = refl

key_31 : is_one (p.single (p.bool false)) (p.single (p.integer (pos 1))) ≡ false
key_31 = refl

key_32 : is_one (p.single (p.bool false)) (p.single (p.text (codes "1"))) ≡ false
key_32 = refl

key_33 : is_one (p.single (p.bool false)) (p.tuple ((p.integer (pos 1)) ∷ (p.text (codes "a")) ∷ [])) ≡ false
key_33 = refl

key_34 : is_one (p.single (p.integer (pos 1))) (p.single (p.integer (negsuc 0))) ≡ false
key_34 = refl

key_35 : is_one (p.single (p.integer (pos 1))) (p.tuple ((p.bool true) ∷ [])) ≡ false
key_35 = refl

key_36 : is_one (p.single (p.integer (pos 1))) (p.tuple ((p.bool true) ∷ (p.integer (pos 2)) ∷ [])) ≡ false
key_36 = refl

key_37 : is_one (p.single (p.integer (pos 0))) (p.single (p.text (codes "1"))) ≡ false
key_37 = refl

key_38 : is_one (p.single (p.integer (pos 0))) (p.tuple ((p.integer (pos 1)) ∷ (p.text (codes "a")) ∷ [])) ≡ false
key_38 = refl

key_39 : is_one (p.single (p.integer (pos 2))) (p.single (p.text (codes "b"))) ≡ false
key_39 = refl

key_40 : is_one (p.single (p.integer (pos 2))) (p.tuple ((p.text (codes "a")) ∷ [])) ≡ false
key_40 = refl

key_41 : is_one (p.single (p.integer (negsuc 0))) (p.single (p.text (codes "a"))) ≡ false
key_41 = refl

key_42 : is_one (p.single (p.integer (negsuc 0))) (p.tuple ((p.integer (pos 0)) ∷ [])) ≡ false
key_42 = refl

key_43 : is_one (p.single (p.text (codes "a"))) (p.tuple ((p.integer (pos 0)) ∷ [])) ≡ false
key_43 = refl

key_44 : is_one (p.single (p.text (codes "b"))) (p.tuple ((p.text (codes "a")) ∷ [])) ≡ false
key_44 = refl

key_45 : is_one (p.single (p.text [])) (p.single (p.text (codes "1"))) ≡ false
key_45 = refl

key_46 : is_one (p.single (p.text [])) (p.tuple ((p.integer (pos 1)) ∷ (p.text (codes "a")) ∷ [])) ≡ false
key_46 = refl

key_47 : is_one (p.single (p.text (codes "1"))) (p.tuple ((p.bool true) ∷ [])) ≡ false
key_47 = refl

key_48 : is_one (p.single (p.text (codes "1"))) (p.tuple ((p.bool true) ∷ (p.integer (pos 2)) ∷ [])) ≡ false
key_48 = refl

key_49 : is_one (p.tuple []) (p.tuple ((p.integer (pos 1)) ∷ (p.text (codes "a")) ∷ [])) ≡ false
key_49 = refl

key_50 : is_one (p.tuple ((p.integer (pos 1)) ∷ [])) (p.tuple ((p.text (codes "a")) ∷ [])) ≡ false
key_50 = refl

key_51 : is_one (p.tuple ((p.bool true) ∷ [])) (p.tuple ((p.integer (pos 0)) ∷ [])) ≡ false
key_51 = refl

key_52 : is_one (p.tuple (p.none ∷ [])) (p.tuple ((p.integer (pos 1)) ∷ (p.text (codes "a")) ∷ [])) ≡ false
key_52 = refl

key_53 : is_one (p.tuple ((p.integer (pos 1)) ∷ (p.text (codes "a")) ∷ [])) (p.tuple ((p.bool true) ∷ (p.integer (pos 2)) ∷ [])) ≡ false
key_53 = refl
