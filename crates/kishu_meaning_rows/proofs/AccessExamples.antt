-- Names that are found, bound, unbound and recorded, in byte order: computed on the definition. Made by tools/rows/state_rows.py.
use Rattle.std.proofs.Common.{◌≡◌, refl, [], ◌∷◌}
use Rattle.std.specs.Prelude.{pos, codes, Some, None}
use Rattle.kishu_meaning.specs.values.Values.{none, integer, find, bind}
use Rattle.kishu_meaning.specs.moments.Accesses.{unbind, with_access, with_accesses}

access_1 : with_access (codes "b") ((codes "B") ∷ (codes "_") ∷ (codes "b") ∷ (codes "bb") ∷ []) ≡ ((codes "B") ∷ (codes "_") ∷ (codes "b") ∷ (codes "bb") ∷ [])
access_1 = refl

access_2 : find (codes "b") (((codes "B"), (integer (pos 0))) ∷ ((codes "_"), (integer (pos 1))) ∷ ((codes "b"), (integer (pos 2))) ∷ ((codes "bb"), (integer (pos 3))) ∷ []) ≡ Some (integer (pos 2))
access_2 = refl

access_3 : bind (codes "b") none (((codes "B"), (integer (pos 0))) ∷ ((codes "_"), (integer (pos 1))) ∷ ((codes "b"), (integer (pos 2))) ∷ ((codes "bb"), (integer (pos 3))) ∷ []) ≡ (((codes "B"), (integer (pos 0))) ∷ ((codes "_"), (integer (pos 1))) ∷ ((codes "b"), none) ∷ ((codes "bb"), (integer (pos 3))) ∷ [])
access_3 = refl

access_4 : unbind (codes "b") (((codes "B"), (integer (pos 0))) ∷ ((codes "_"), (integer (pos 1))) ∷ ((codes "b"), (integer (pos 2))) ∷ ((codes "bb"), (integer (pos 3))) ∷ []) ≡ (((codes "B"), (integer (pos 0))) ∷ ((codes "_"), (integer (pos 1))) ∷ ((codes "bb"), (integer (pos 3))) ∷ [])
access_4 = refl

access_5 : with_access (codes "B") ((codes "B") ∷ (codes "_") ∷ (codes "b") ∷ (codes "bb") ∷ []) ≡ ((codes "B") ∷ (codes "_") ∷ (codes "b") ∷ (codes "bb") ∷ [])
access_5 = refl

access_6 : find (codes "B") (((codes "B"), (integer (pos 0))) ∷ ((codes "_"), (integer (pos 1))) ∷ ((codes "b"), (integer (pos 2))) ∷ ((codes "bb"), (integer (pos 3))) ∷ []) ≡ Some (integer (pos 0))
access_6 = refl

access_7 : bind (codes "B") none (((codes "B"), (integer (pos 0))) ∷ ((codes "_"), (integer (pos 1))) ∷ ((codes "b"), (integer (pos 2))) ∷ ((codes "bb"), (integer (pos 3))) ∷ []) ≡ (((codes "B"), none) ∷ ((codes "_"), (integer (pos 1))) ∷ ((codes "b"), (integer (pos 2))) ∷ ((codes "bb"), (integer (pos 3))) ∷ [])
access_7 = refl

access_8 : unbind (codes "B") (((codes "B"), (integer (pos 0))) ∷ ((codes "_"), (integer (pos 1))) ∷ ((codes "b"), (integer (pos 2))) ∷ ((codes "bb"), (integer (pos 3))) ∷ []) ≡ (((codes "_"), (integer (pos 1))) ∷ ((codes "b"), (integer (pos 2))) ∷ ((codes "bb"), (integer (pos 3))) ∷ [])
access_8 = refl

access_9 : with_access (codes "a") ((codes "B") ∷ (codes "_") ∷ (codes "b") ∷ (codes "bb") ∷ []) ≡ ((codes "B") ∷ (codes "_") ∷ (codes "a") ∷ (codes "b") ∷ (codes "bb") ∷ [])
access_9 = refl

access_10 : find (codes "a") (((codes "B"), (integer (pos 0))) ∷ ((codes "_"), (integer (pos 1))) ∷ ((codes "b"), (integer (pos 2))) ∷ ((codes "bb"), (integer (pos 3))) ∷ []) ≡ None
access_10 = refl

access_11 : bind (codes "a") none (((codes "B"), (integer (pos 0))) ∷ ((codes "_"), (integer (pos 1))) ∷ ((codes "b"), (integer (pos 2))) ∷ ((codes "bb"), (integer (pos 3))) ∷ []) ≡ (((codes "B"), (integer (pos 0))) ∷ ((codes "_"), (integer (pos 1))) ∷ ((codes "a"), none) ∷ ((codes "b"), (integer (pos 2))) ∷ ((codes "bb"), (integer (pos 3))) ∷ [])
access_11 = refl

access_12 : unbind (codes "a") (((codes "B"), (integer (pos 0))) ∷ ((codes "_"), (integer (pos 1))) ∷ ((codes "b"), (integer (pos 2))) ∷ ((codes "bb"), (integer (pos 3))) ∷ []) ≡ (((codes "B"), (integer (pos 0))) ∷ ((codes "_"), (integer (pos 1))) ∷ ((codes "b"), (integer (pos 2))) ∷ ((codes "bb"), (integer (pos 3))) ∷ [])
access_12 = refl

access_13 : with_access (codes "_") ((codes "B") ∷ (codes "_") ∷ (codes "b") ∷ (codes "bb") ∷ []) ≡ ((codes "B") ∷ (codes "_") ∷ (codes "b") ∷ (codes "bb") ∷ [])
access_13 = refl

access_14 : find (codes "_") (((codes "B"), (integer (pos 0))) ∷ ((codes "_"), (integer (pos 1))) ∷ ((codes "b"), (integer (pos 2))) ∷ ((codes "bb"), (integer (pos 3))) ∷ []) ≡ Some (integer (pos 1))
access_14 = refl

access_15 : bind (codes "_") none (((codes "B"), (integer (pos 0))) ∷ ((codes "_"), (integer (pos 1))) ∷ ((codes "b"), (integer (pos 2))) ∷ ((codes "bb"), (integer (pos 3))) ∷ []) ≡ (((codes "B"), (integer (pos 0))) ∷ ((codes "_"), none) ∷ ((codes "b"), (integer (pos 2))) ∷ ((codes "bb"), (integer (pos 3))) ∷ [])
access_15 = refl

access_16 : unbind (codes "_") (((codes "B"), (integer (pos 0))) ∷ ((codes "_"), (integer (pos 1))) ∷ ((codes "b"), (integer (pos 2))) ∷ ((codes "bb"), (integer (pos 3))) ∷ []) ≡ (((codes "B"), (integer (pos 0))) ∷ ((codes "b"), (integer (pos 2))) ∷ ((codes "bb"), (integer (pos 3))) ∷ [])
access_16 = refl

access_17 : with_access (codes "ab") ((codes "B") ∷ (codes "_") ∷ (codes "b") ∷ (codes "bb") ∷ []) ≡ ((codes "B") ∷ (codes "_") ∷ (codes "ab") ∷ (codes "b") ∷ (codes "bb") ∷ [])
access_17 = refl

access_18 : find (codes "ab") (((codes "B"), (integer (pos 0))) ∷ ((codes "_"), (integer (pos 1))) ∷ ((codes "b"), (integer (pos 2))) ∷ ((codes "bb"), (integer (pos 3))) ∷ []) ≡ None
access_18 = refl

access_19 : bind (codes "ab") none (((codes "B"), (integer (pos 0))) ∷ ((codes "_"), (integer (pos 1))) ∷ ((codes "b"), (integer (pos 2))) ∷ ((codes "bb"), (integer (pos 3))) ∷ []) ≡ (((codes "B"), (integer (pos 0))) ∷ ((codes "_"), (integer (pos 1))) ∷ ((codes "ab"), none) ∷ ((codes "b"), (integer (pos 2))) ∷ ((codes "bb"), (integer (pos 3))) ∷ [])
access_19 = refl

access_20 : unbind (codes "ab") (((codes "B"), (integer (pos 0))) ∷ ((codes "_"), (integer (pos 1))) ∷ ((codes "b"), (integer (pos 2))) ∷ ((codes "bb"), (integer (pos 3))) ∷ []) ≡ (((codes "B"), (integer (pos 0))) ∷ ((codes "_"), (integer (pos 1))) ∷ ((codes "b"), (integer (pos 2))) ∷ ((codes "bb"), (integer (pos 3))) ∷ [])
access_20 = refl

access_21 : with_access (codes "b1") ((codes "B") ∷ (codes "_") ∷ (codes "b") ∷ (codes "bb") ∷ []) ≡ ((codes "B") ∷ (codes "_") ∷ (codes "b") ∷ (codes "b1") ∷ (codes "bb") ∷ [])
access_21 = refl

access_22 : find (codes "b1") (((codes "B"), (integer (pos 0))) ∷ ((codes "_"), (integer (pos 1))) ∷ ((codes "b"), (integer (pos 2))) ∷ ((codes "bb"), (integer (pos 3))) ∷ []) ≡ None
access_22 = refl

access_23 : bind (codes "b1") none (((codes "B"), (integer (pos 0))) ∷ ((codes "_"), (integer (pos 1))) ∷ ((codes "b"), (integer (pos 2))) ∷ ((codes "bb"), (integer (pos 3))) ∷ []) ≡ (((codes "B"), (integer (pos 0))) ∷ ((codes "_"), (integer (pos 1))) ∷ ((codes "b"), (integer (pos 2))) ∷ ((codes "b1"), none) ∷ ((codes "bb"), (integer (pos 3))) ∷ [])
access_23 = refl

access_24 : unbind (codes "b1") (((codes "B"), (integer (pos 0))) ∷ ((codes "_"), (integer (pos 1))) ∷ ((codes "b"), (integer (pos 2))) ∷ ((codes "bb"), (integer (pos 3))) ∷ []) ≡ (((codes "B"), (integer (pos 0))) ∷ ((codes "_"), (integer (pos 1))) ∷ ((codes "b"), (integer (pos 2))) ∷ ((codes "bb"), (integer (pos 3))) ∷ [])
access_24 = refl

access_25 : with_access (codes "c") ((codes "B") ∷ (codes "_") ∷ (codes "b") ∷ (codes "bb") ∷ []) ≡ ((codes "B") ∷ (codes "_") ∷ (codes "b") ∷ (codes "bb") ∷ (codes "c") ∷ [])
access_25 = refl

access_26 : find (codes "c") (((codes "B"), (integer (pos 0))) ∷ ((codes "_"), (integer (pos 1))) ∷ ((codes "b"), (integer (pos 2))) ∷ ((codes "bb"), (integer (pos 3))) ∷ []) ≡ None
access_26 = refl

access_27 : bind (codes "c") none (((codes "B"), (integer (pos 0))) ∷ ((codes "_"), (integer (pos 1))) ∷ ((codes "b"), (integer (pos 2))) ∷ ((codes "bb"), (integer (pos 3))) ∷ []) ≡ (((codes "B"), (integer (pos 0))) ∷ ((codes "_"), (integer (pos 1))) ∷ ((codes "b"), (integer (pos 2))) ∷ ((codes "bb"), (integer (pos 3))) ∷ ((codes "c"), none) ∷ [])
access_27 = refl

access_28 : unbind (codes "c") (((codes "B"), (integer (pos 0))) ∷ ((codes "_"), (integer (pos 1))) ∷ ((codes "b"), (integer (pos 2))) ∷ ((codes "bb"), (integer (pos 3))) ∷ []) ≡ (((codes "B"), (integer (pos 0))) ∷ ((codes "_"), (integer (pos 1))) ∷ ((codes "b"), (integer (pos 2))) ∷ ((codes "bb"), (integer (pos 3))) ∷ [])
access_28 = refl

access_29 : with_access (codes "Z") ((codes "B") ∷ (codes "_") ∷ (codes "b") ∷ (codes "bb") ∷ []) ≡ ((codes "B") ∷ (codes "Z") ∷ (codes "_") ∷ (codes "b") ∷ (codes "bb") ∷ [])
access_29 = refl

access_30 : find (codes "Z") (((codes "B"), (integer (pos 0))) ∷ ((codes "_"), (integer (pos 1))) ∷ ((codes "b"), (integer (pos 2))) ∷ ((codes "bb"), (integer (pos 3))) ∷ []) ≡ None
access_30 = refl

access_31 : bind (codes "Z") none (((codes "B"), (integer (pos 0))) ∷ ((codes "_"), (integer (pos 1))) ∷ ((codes "b"), (integer (pos 2))) ∷ ((codes "bb"), (integer (pos 3))) ∷ []) ≡ (((codes "B"), (integer (pos 0))) ∷ ((codes "Z"), none) ∷ ((codes "_"), (integer (pos 1))) ∷ ((codes "b"), (integer (pos 2))) ∷ ((codes "bb"), (integer (pos 3))) ∷ [])
access_31 = refl

access_32 : unbind (codes "Z") (((codes "B"), (integer (pos 0))) ∷ ((codes "_"), (integer (pos 1))) ∷ ((codes "b"), (integer (pos 2))) ∷ ((codes "bb"), (integer (pos 3))) ∷ []) ≡ (((codes "B"), (integer (pos 0))) ∷ ((codes "_"), (integer (pos 1))) ∷ ((codes "b"), (integer (pos 2))) ∷ ((codes "bb"), (integer (pos 3))) ∷ [])
access_32 = refl

access_33 : with_access (codes "bb") ((codes "B") ∷ (codes "_") ∷ (codes "b") ∷ (codes "bb") ∷ []) ≡ ((codes "B") ∷ (codes "_") ∷ (codes "b") ∷ (codes "bb") ∷ [])
access_33 = refl

access_34 : find (codes "bb") (((codes "B"), (integer (pos 0))) ∷ ((codes "_"), (integer (pos 1))) ∷ ((codes "b"), (integer (pos 2))) ∷ ((codes "bb"), (integer (pos 3))) ∷ []) ≡ Some (integer (pos 3))
access_34 = refl

access_35 : bind (codes "bb") none (((codes "B"), (integer (pos 0))) ∷ ((codes "_"), (integer (pos 1))) ∷ ((codes "b"), (integer (pos 2))) ∷ ((codes "bb"), (integer (pos 3))) ∷ []) ≡ (((codes "B"), (integer (pos 0))) ∷ ((codes "_"), (integer (pos 1))) ∷ ((codes "b"), (integer (pos 2))) ∷ ((codes "bb"), none) ∷ [])
access_35 = refl

access_36 : unbind (codes "bb") (((codes "B"), (integer (pos 0))) ∷ ((codes "_"), (integer (pos 1))) ∷ ((codes "b"), (integer (pos 2))) ∷ ((codes "bb"), (integer (pos 3))) ∷ []) ≡ (((codes "B"), (integer (pos 0))) ∷ ((codes "_"), (integer (pos 1))) ∷ ((codes "b"), (integer (pos 2))) ∷ [])
access_36 = refl

access_37 : with_access (codes "aa") ((codes "B") ∷ (codes "_") ∷ (codes "b") ∷ (codes "bb") ∷ []) ≡ ((codes "B") ∷ (codes "_") ∷ (codes "aa") ∷ (codes "b") ∷ (codes "bb") ∷ [])
access_37 = refl

access_38 : find (codes "aa") (((codes "B"), (integer (pos 0))) ∷ ((codes "_"), (integer (pos 1))) ∷ ((codes "b"), (integer (pos 2))) ∷ ((codes "bb"), (integer (pos 3))) ∷ []) ≡ None
access_38 = refl

access_39 : bind (codes "aa") none (((codes "B"), (integer (pos 0))) ∷ ((codes "_"), (integer (pos 1))) ∷ ((codes "b"), (integer (pos 2))) ∷ ((codes "bb"), (integer (pos 3))) ∷ []) ≡ (((codes "B"), (integer (pos 0))) ∷ ((codes "_"), (integer (pos 1))) ∷ ((codes "aa"), none) ∷ ((codes "b"), (integer (pos 2))) ∷ ((codes "bb"), (integer (pos 3))) ∷ [])
access_39 = refl

access_40 : unbind (codes "aa") (((codes "B"), (integer (pos 0))) ∷ ((codes "_"), (integer (pos 1))) ∷ ((codes "b"), (integer (pos 2))) ∷ ((codes "bb"), (integer (pos 3))) ∷ []) ≡ (((codes "B"), (integer (pos 0))) ∷ ((codes "_"), (integer (pos 1))) ∷ ((codes "b"), (integer (pos 2))) ∷ ((codes "bb"), (integer (pos 3))) ∷ [])
access_40 = refl

access_41 : with_access (codes "b") ((codes "a") ∷ (codes "aa") ∷ (codes "c") ∷ []) ≡ ((codes "a") ∷ (codes "aa") ∷ (codes "b") ∷ (codes "c") ∷ [])
access_41 = refl

access_42 : bind (codes "b") none (((codes "a"), (integer (pos 1))) ∷ ((codes "aa"), (integer (pos 2))) ∷ ((codes "c"), (integer (pos 3))) ∷ []) ≡ (((codes "a"), (integer (pos 1))) ∷ ((codes "aa"), (integer (pos 2))) ∷ ((codes "b"), none) ∷ ((codes "c"), (integer (pos 3))) ∷ [])
access_42 = refl

access_43 : unbind (codes "b") (((codes "a"), (integer (pos 1))) ∷ ((codes "aa"), (integer (pos 2))) ∷ ((codes "c"), (integer (pos 3))) ∷ []) ≡ (((codes "a"), (integer (pos 1))) ∷ ((codes "aa"), (integer (pos 2))) ∷ ((codes "c"), (integer (pos 3))) ∷ [])
access_43 = refl

access_44 : find (codes "b") (((codes "a"), (integer (pos 1))) ∷ ((codes "aa"), (integer (pos 2))) ∷ ((codes "c"), (integer (pos 3))) ∷ []) ≡ None
access_44 = refl

access_45 : with_access (codes "B") ((codes "a") ∷ (codes "aa") ∷ (codes "c") ∷ []) ≡ ((codes "B") ∷ (codes "a") ∷ (codes "aa") ∷ (codes "c") ∷ [])
access_45 = refl

access_46 : bind (codes "B") none (((codes "a"), (integer (pos 1))) ∷ ((codes "aa"), (integer (pos 2))) ∷ ((codes "c"), (integer (pos 3))) ∷ []) ≡ (((codes "B"), none) ∷ ((codes "a"), (integer (pos 1))) ∷ ((codes "aa"), (integer (pos 2))) ∷ ((codes "c"), (integer (pos 3))) ∷ [])
access_46 = refl

access_47 : unbind (codes "B") (((codes "a"), (integer (pos 1))) ∷ ((codes "aa"), (integer (pos 2))) ∷ ((codes "c"), (integer (pos 3))) ∷ []) ≡ (((codes "a"), (integer (pos 1))) ∷ ((codes "aa"), (integer (pos 2))) ∷ ((codes "c"), (integer (pos 3))) ∷ [])
access_47 = refl

access_48 : find (codes "B") (((codes "a"), (integer (pos 1))) ∷ ((codes "aa"), (integer (pos 2))) ∷ ((codes "c"), (integer (pos 3))) ∷ []) ≡ None
access_48 = refl

access_49 : with_access (codes "a") ((codes "a") ∷ (codes "aa") ∷ (codes "c") ∷ []) ≡ ((codes "a") ∷ (codes "aa") ∷ (codes "c") ∷ [])
access_49 = refl

access_50 : bind (codes "a") none (((codes "a"), (integer (pos 1))) ∷ ((codes "aa"), (integer (pos 2))) ∷ ((codes "c"), (integer (pos 3))) ∷ []) ≡ (((codes "a"), none) ∷ ((codes "aa"), (integer (pos 2))) ∷ ((codes "c"), (integer (pos 3))) ∷ [])
access_50 = refl

access_51 : unbind (codes "a") (((codes "a"), (integer (pos 1))) ∷ ((codes "aa"), (integer (pos 2))) ∷ ((codes "c"), (integer (pos 3))) ∷ []) ≡ (((codes "aa"), (integer (pos 2))) ∷ ((codes "c"), (integer (pos 3))) ∷ [])
access_51 = refl

access_52 : find (codes "a") (((codes "a"), (integer (pos 1))) ∷ ((codes "aa"), (integer (pos 2))) ∷ ((codes "c"), (integer (pos 3))) ∷ []) ≡ Some (integer (pos 1))
access_52 = refl

access_53 : with_access (codes "_") ((codes "a") ∷ (codes "aa") ∷ (codes "c") ∷ []) ≡ ((codes "_") ∷ (codes "a") ∷ (codes "aa") ∷ (codes "c") ∷ [])
access_53 = refl

access_54 : bind (codes "_") none (((codes "a"), (integer (pos 1))) ∷ ((codes "aa"), (integer (pos 2))) ∷ ((codes "c"), (integer (pos 3))) ∷ []) ≡ (((codes "_"), none) ∷ ((codes "a"), (integer (pos 1))) ∷ ((codes "aa"), (integer (pos 2))) ∷ ((codes "c"), (integer (pos 3))) ∷ [])
access_54 = refl

access_55 : unbind (codes "_") (((codes "a"), (integer (pos 1))) ∷ ((codes "aa"), (integer (pos 2))) ∷ ((codes "c"), (integer (pos 3))) ∷ []) ≡ (((codes "a"), (integer (pos 1))) ∷ ((codes "aa"), (integer (pos 2))) ∷ ((codes "c"), (integer (pos 3))) ∷ [])
access_55 = refl

access_56 : find (codes "_") (((codes "a"), (integer (pos 1))) ∷ ((codes "aa"), (integer (pos 2))) ∷ ((codes "c"), (integer (pos 3))) ∷ []) ≡ None
access_56 = refl

access_57 : with_access (codes "ab") ((codes "a") ∷ (codes "aa") ∷ (codes "c") ∷ []) ≡ ((codes "a") ∷ (codes "aa") ∷ (codes "ab") ∷ (codes "c") ∷ [])
access_57 = refl

access_58 : bind (codes "ab") none (((codes "a"), (integer (pos 1))) ∷ ((codes "aa"), (integer (pos 2))) ∷ ((codes "c"), (integer (pos 3))) ∷ []) ≡ (((codes "a"), (integer (pos 1))) ∷ ((codes "aa"), (integer (pos 2))) ∷ ((codes "ab"), none) ∷ ((codes "c"), (integer (pos 3))) ∷ [])
access_58 = refl

access_59 : unbind (codes "ab") (((codes "a"), (integer (pos 1))) ∷ ((codes "aa"), (integer (pos 2))) ∷ ((codes "c"), (integer (pos 3))) ∷ []) ≡ (((codes "a"), (integer (pos 1))) ∷ ((codes "aa"), (integer (pos 2))) ∷ ((codes "c"), (integer (pos 3))) ∷ [])
access_59 = refl

access_60 : find (codes "ab") (((codes "a"), (integer (pos 1))) ∷ ((codes "aa"), (integer (pos 2))) ∷ ((codes "c"), (integer (pos 3))) ∷ []) ≡ None
access_60 = refl

access_61 : with_access (codes "b1") ((codes "a") ∷ (codes "aa") ∷ (codes "c") ∷ []) ≡ ((codes "a") ∷ (codes "aa") ∷ (codes "b1") ∷ (codes "c") ∷ [])
access_61 = refl

access_62 : bind (codes "b1") none (((codes "a"), (integer (pos 1))) ∷ ((codes "aa"), (integer (pos 2))) ∷ ((codes "c"), (integer (pos 3))) ∷ []) ≡ (((codes "a"), (integer (pos 1))) ∷ ((codes "aa"), (integer (pos 2))) ∷ ((codes "b1"), none) ∷ ((codes "c"), (integer (pos 3))) ∷ [])
access_62 = refl

access_63 : unbind (codes "b1") (((codes "a"), (integer (pos 1))) ∷ ((codes "aa"), (integer (pos 2))) ∷ ((codes "c"), (integer (pos 3))) ∷ []) ≡ (((codes "a"), (integer (pos 1))) ∷ ((codes "aa"), (integer (pos 2))) ∷ ((codes "c"), (integer (pos 3))) ∷ [])
access_63 = refl

access_64 : find (codes "b1") (((codes "a"), (integer (pos 1))) ∷ ((codes "aa"), (integer (pos 2))) ∷ ((codes "c"), (integer (pos 3))) ∷ []) ≡ None
access_64 = refl

access_65 : with_access (codes "c") ((codes "a") ∷ (codes "aa") ∷ (codes "c") ∷ []) ≡ ((codes "a") ∷ (codes "aa") ∷ (codes "c") ∷ [])
access_65 = refl

access_66 : bind (codes "c") none (((codes "a"), (integer (pos 1))) ∷ ((codes "aa"), (integer (pos 2))) ∷ ((codes "c"), (integer (pos 3))) ∷ []) ≡ (((codes "a"), (integer (pos 1))) ∷ ((codes "aa"), (integer (pos 2))) ∷ ((codes "c"), none) ∷ [])
access_66 = refl

access_67 : unbind (codes "c") (((codes "a"), (integer (pos 1))) ∷ ((codes "aa"), (integer (pos 2))) ∷ ((codes "c"), (integer (pos 3))) ∷ []) ≡ (((codes "a"), (integer (pos 1))) ∷ ((codes "aa"), (integer (pos 2))) ∷ [])
access_67 = refl

access_68 : find (codes "c") (((codes "a"), (integer (pos 1))) ∷ ((codes "aa"), (integer (pos 2))) ∷ ((codes "c"), (integer (pos 3))) ∷ []) ≡ Some (integer (pos 3))
access_68 = refl

access_69 : with_access (codes "Z") ((codes "a") ∷ (codes "aa") ∷ (codes "c") ∷ []) ≡ ((codes "Z") ∷ (codes "a") ∷ (codes "aa") ∷ (codes "c") ∷ [])
access_69 = refl

access_70 : bind (codes "Z") none (((codes "a"), (integer (pos 1))) ∷ ((codes "aa"), (integer (pos 2))) ∷ ((codes "c"), (integer (pos 3))) ∷ []) ≡ (((codes "Z"), none) ∷ ((codes "a"), (integer (pos 1))) ∷ ((codes "aa"), (integer (pos 2))) ∷ ((codes "c"), (integer (pos 3))) ∷ [])
access_70 = refl

access_71 : unbind (codes "Z") (((codes "a"), (integer (pos 1))) ∷ ((codes "aa"), (integer (pos 2))) ∷ ((codes "c"), (integer (pos 3))) ∷ []) ≡ (((codes "a"), (integer (pos 1))) ∷ ((codes "aa"), (integer (pos 2))) ∷ ((codes "c"), (integer (pos 3))) ∷ [])
access_71 = refl

access_72 : find (codes "Z") (((codes "a"), (integer (pos 1))) ∷ ((codes "aa"), (integer (pos 2))) ∷ ((codes "c"), (integer (pos 3))) ∷ []) ≡ None
access_72 = refl

access_73 : with_access (codes "bb") ((codes "a") ∷ (codes "aa") ∷ (codes "c") ∷ []) ≡ ((codes "a") ∷ (codes "aa") ∷ (codes "bb") ∷ (codes "c") ∷ [])
access_73 = refl

access_74 : bind (codes "bb") none (((codes "a"), (integer (pos 1))) ∷ ((codes "aa"), (integer (pos 2))) ∷ ((codes "c"), (integer (pos 3))) ∷ []) ≡ (((codes "a"), (integer (pos 1))) ∷ ((codes "aa"), (integer (pos 2))) ∷ ((codes "bb"), none) ∷ ((codes "c"), (integer (pos 3))) ∷ [])
access_74 = refl

access_75 : unbind (codes "bb") (((codes "a"), (integer (pos 1))) ∷ ((codes "aa"), (integer (pos 2))) ∷ ((codes "c"), (integer (pos 3))) ∷ []) ≡ (((codes "a"), (integer (pos 1))) ∷ ((codes "aa"), (integer (pos 2))) ∷ ((codes "c"), (integer (pos 3))) ∷ [])
access_75 = refl

access_76 : find (codes "bb") (((codes "a"), (integer (pos 1))) ∷ ((codes "aa"), (integer (pos 2))) ∷ ((codes "c"), (integer (pos 3))) ∷ []) ≡ None
access_76 = refl

access_77 : with_access (codes "aa") ((codes "a") ∷ (codes "aa") ∷ (codes "c") ∷ []) ≡ ((codes "a") ∷ (codes "aa") ∷ (codes "c") ∷ [])
access_77 = refl

access_78 : bind (codes "aa") none (((codes "a"), (integer (pos 1))) ∷ ((codes "aa"), (integer (pos 2))) ∷ ((codes "c"), (integer (pos 3))) ∷ []) ≡ (((codes "a"), (integer (pos 1))) ∷ ((codes "aa"), none) ∷ ((codes "c"), (integer (pos 3))) ∷ [])
access_78 = refl

access_79 : unbind (codes "aa") (((codes "a"), (integer (pos 1))) ∷ ((codes "aa"), (integer (pos 2))) ∷ ((codes "c"), (integer (pos 3))) ∷ []) ≡ (((codes "a"), (integer (pos 1))) ∷ ((codes "c"), (integer (pos 3))) ∷ [])
access_79 = refl

access_80 : find (codes "aa") (((codes "a"), (integer (pos 1))) ∷ ((codes "aa"), (integer (pos 2))) ∷ ((codes "c"), (integer (pos 3))) ∷ []) ≡ Some (integer (pos 2))
access_80 = refl

access_81 : with_access (codes "a") [] ≡ ((codes "a") ∷ [])
access_81 = refl

access_82 : find (codes "a") [] ≡ None
access_82 = refl

access_83 : bind (codes "a") none [] ≡ (((codes "a"), none) ∷ [])
access_83 = refl

access_84 : unbind (codes "a") [] ≡ []
access_84 = refl

access_85 : with_accesses [] [] ≡ []
access_85 = refl

access_86 : with_accesses [] ((codes "a") ∷ []) ≡ ((codes "a") ∷ [])
access_86 = refl

access_87 : with_accesses ((codes "a") ∷ []) [] ≡ ((codes "a") ∷ [])
access_87 = refl

access_88 : with_accesses ((codes "b") ∷ (codes "a") ∷ []) [] ≡ ((codes "a") ∷ (codes "b") ∷ [])
access_88 = refl

access_89 : with_accesses ((codes "a") ∷ (codes "a") ∷ []) [] ≡ ((codes "a") ∷ [])
access_89 = refl

access_90 : with_accesses ((codes "c") ∷ (codes "a") ∷ []) ((codes "b") ∷ []) ≡ ((codes "a") ∷ (codes "b") ∷ (codes "c") ∷ [])
access_90 = refl

access_91 : with_accesses ((codes "a") ∷ (codes "b") ∷ []) ((codes "a") ∷ (codes "b") ∷ []) ≡ ((codes "a") ∷ (codes "b") ∷ [])
access_91 = refl

access_92 : with_accesses ((codes "Z") ∷ (codes "_") ∷ (codes "a") ∷ []) ((codes "A") ∷ (codes "z") ∷ []) ≡ ((codes "A") ∷ (codes "Z") ∷ (codes "_") ∷ (codes "a") ∷ (codes "z") ∷ [])
access_92 = refl

access_93 : with_accesses ((codes "ab") ∷ (codes "a") ∷ (codes "abc") ∷ []) ((codes "ab") ∷ []) ≡ ((codes "a") ∷ (codes "ab") ∷ (codes "abc") ∷ [])
access_93 = refl
