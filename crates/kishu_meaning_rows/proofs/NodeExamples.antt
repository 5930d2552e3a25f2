-- What some changes make of nodes, as CPython's lists, dicts and objects tell: computed on the definition. Made by tools/rows/nodes.py.
use Rattle.std.proofs.Common.{◌≡◌, refl, [], ◌∷◌, true}
use Rattle.std.specs.Prelude.{pos, codes, Some, None}
use Rattle.kishu_meaning.specs.values.Keys as p
use Rattle.kishu_meaning.specs.values.Keys.{is_one}
use Rattle.kishu_meaning.specs.values.Values.{Value, none, bool, integer, text, list, tuple, dict, object}
use Rattle.kishu_meaning.specs.values.Nodes.{value_at, with_entry, without_entry, last_of, changed, set_item, push, pop, replace_list, insert, remove, set_attr, remove_attr}

node_1 : with_entry is_one (p.single (p.integer (pos 1))) (integer (pos 7)) [] ≡ (((p.single (p.integer (pos 1))), (integer (pos 7))) ∷ [])
node_1 = refl

node_2 : value_at is_one (p.single (p.integer (pos 1))) [] ≡ None
node_2 = refl

node_3 : without_entry is_one (p.single (p.integer (pos 1))) [] ≡ []
node_3 = refl

node_4 : with_entry is_one (p.single (p.bool true)) (integer (pos 7)) [] ≡ (((p.single (p.bool true)), (integer (pos 7))) ∷ [])
node_4 = refl

node_5 : value_at is_one (p.single (p.bool true)) [] ≡ None
node_5 = refl

node_6 : without_entry is_one (p.single (p.bool true)) [] ≡ []
node_6 = refl

node_7 : with_entry is_one (p.single (p.text (codes "b"))) (integer (pos 7)) [] ≡ (((p.single (p.text (codes "b"))), (integer (pos 7))) ∷ [])
node_7 = refl

node_8 : value_at is_one (p.single (p.text (codes "b"))) [] ≡ None
node_8 = refl

node_9 : without_entry is_one (p.single (p.text (codes "b"))) [] ≡ []
node_9 = refl

node_10 : with_entry is_one (p.single (p.integer (pos 1))) (integer (pos 7)) (((p.single (p.integer (pos 1))), (integer (pos 10))) ∷ []) ≡ (((p.single (p.integer (pos 1))), (integer (pos 7))) ∷ [])
node_10 = refl

node_11 : value_at is_one (p.single (p.integer (pos 1))) (((p.single (p.integer (pos 1))), (integer (pos 10))) ∷ []) ≡ Some (integer (pos 10))
node_11 = refl

node_12 : without_entry is_one (p.single (p.integer (pos 1))) (((p.single (p.integer (pos 1))), (integer (pos 10))) ∷ []) ≡ []
node_12 = refl

node_13 : with_entry is_one (p.single (p.bool true)) (integer (pos 7)) (((p.single (p.integer (pos 1))), (integer (pos 10))) ∷ []) ≡ (((p.single (p.integer (pos 1))), (integer (pos 7))) ∷ [])
node_13 = refl

node_14 : value_at is_one (p.single (p.bool true)) (((p.single (p.integer (pos 1))), (integer (pos 10))) ∷ []) ≡ Some (integer (pos 10))
node_14 = refl

node_15 : without_entry is_one (p.single (p.bool true)) (((p.single (p.integer (pos 1))), (integer (pos 10))) ∷ []) ≡ []
node_15 = refl

node_16 : with_entry is_one (p.single (p.text (codes "b"))) (integer (pos 7)) (((p.single (p.integer (pos 1))), (integer (pos 10))) ∷ []) ≡ (((p.single (p.integer (pos 1))), (integer (pos 10))) ∷ ((p.single (p.text (codes "b"))), (integer (pos 7))) ∷ [])
node_16 = refl

node_17 : value_at is_one (p.single (p.text (codes "b"))) (((p.single (p.integer (pos 1))), (integer (pos 10))) ∷ []) ≡ None
node_17 = refl

node_18 : without_entry is_one (p.single (p.text (codes "b"))) (((p.single (p.integer (pos 1))), (integer (pos 10))) ∷ []) ≡ (((p.single (p.integer (pos 1))), (integer (pos 10))) ∷ [])
node_18 = refl

node_19 : with_entry is_one (p.single (p.integer (pos 1))) (integer (pos 7)) (((p.single (p.bool true)), (integer (pos 10))) ∷ ((p.single (p.text (codes "a"))), (integer (pos 11))) ∷ []) ≡ (((p.single (p.bool true)), (integer (pos 7))) ∷ ((p.single (p.text (codes "a"))), (integer (pos 11))) ∷ [])
node_19 = refl

node_20 : value_at is_one (p.single (p.integer (pos 1))) (((p.single (p.bool true)), (integer (pos 10))) ∷ ((p.single (p.text (codes "a"))), (integer (pos 11))) ∷ []) ≡ Some (integer (pos 10))
node_20 = refl

node_21 : without_entry is_one (p.single (p.integer (pos 1))) (((p.single (p.bool true)), (integer (pos 10))) ∷ ((p.single (p.text (codes "a"))), (integer (pos 11))) ∷ []) ≡ (((p.single (p.text (codes "a"))), (integer (pos 11))) ∷ [])
node_21 = refl

node_22 : with_entry is_one (p.single (p.bool true)) (integer (pos 7)) (((p.single (p.bool true)), (integer (pos 10))) ∷ ((p.single (p.text (codes "a"))), (integer (pos 11))) ∷ []) ≡ (((p.single (p.bool true)), (integer (pos 7))) ∷ ((p.single (p.text (codes "a"))), (integer (pos 11))) ∷ [])
node_22 = refl

node_23 : value_at is_one (p.single (p.bool true)) (((p.single (p.bool true)), (integer (pos 10))) ∷ ((p.single (p.text (codes "a"))), (integer (pos 11))) ∷ []) ≡ Some (integer (pos 10))
node_23 = refl

node_24 : without_entry is_one (p.single (p.bool true)) (((p.single (p.bool true)), (integer (pos 10))) ∷ ((p.single (p.text (codes "a"))), (integer (pos 11))) ∷ []) ≡ (((p.single (p.text (codes "a"))), (integer (pos 11))) ∷ [])
node_24 = refl

node_25 : with_entry is_one (p.single (p.text (codes "b"))) (integer (pos 7)) (((p.single (p.bool true)), (integer (pos 10))) ∷ ((p.single (p.text (codes "a"))), (integer (pos 11))) ∷ []) ≡ (((p.single (p.bool true)), (integer (pos 10))) ∷ ((p.single (p.text (codes "a"))), (integer (pos 11))) ∷ ((p.single (p.text (codes "b"))), (integer (pos 7))) ∷ [])
node_25 = refl

node_26 : value_at is_one (p.single (p.text (codes "b"))) (((p.single (p.bool true)), (integer (pos 10))) ∷ ((p.single (p.text (codes "a"))), (integer (pos 11))) ∷ []) ≡ None
node_26 = refl

node_27 : without_entry is_one (p.single (p.text (codes "b"))) (((p.single (p.bool true)), (integer (pos 10))) ∷ ((p.single (p.text (codes "a"))), (integer (pos 11))) ∷ []) ≡ (((p.single (p.bool true)), (integer (pos 10))) ∷ ((p.single (p.text (codes "a"))), (integer (pos 11))) ∷ [])
node_27 = refl

node_28 : with_entry is_one (p.single (p.integer (pos 1))) (integer (pos 7)) (((p.single (p.text (codes "a"))), (integer (pos 10))) ∷ ((p.single (p.text (codes "b"))), (integer (pos 11))) ∷ ((p.single (p.text (codes "c"))), (integer (pos 12))) ∷ []) ≡ (((p.single (p.text (codes "a"))), (integer (pos 10))) ∷ ((p.single (p.text (codes "b"))), (integer (pos 11))) ∷ ((p.single (p.text (codes "c"))), (integer (pos 12))) ∷ ((p.single (p.integer (pos 1))), (integer (pos 7))) ∷ [])
node_28 = refl

node_29 : value_at is_one (p.single (p.integer (pos 1))) (((p.single (p.text (codes "a"))), (integer (pos 10))) ∷ ((p.single (p.text (codes "b"))), (integer (pos 11))) ∷ ((p.single (p.text (codes "c"))), (integer (pos 12))) ∷ []) ≡ None
node_29 = refl

node_30 : without_entry is_one (p.single (p.integer (pos 1))) (((p.single (p.text (codes "a"))), (integer (pos 10))) ∷ ((p.single (p.text (codes "b"))), (integer (pos 11))) ∷ ((p.single (p.text (codes "c"))), (integer (pos 12))) ∷ []) ≡ (((p.single (p.text (codes "a"))), (integer (pos 10))) ∷ ((p.single (p.text (codes "b"))), (integer (pos 11))) ∷ ((p.single (p.text (codes "c"))), (integer (pos 12))) ∷ [])
node_30 = refl

node_31 : with_entry is_one (p.single (p.bool true)) (integer (pos 7)) (((p.single (p.text (codes "a"))), (integer (pos 10))) ∷ ((p.single (p.text (codes "b"))), (integer (pos 11))) ∷ ((p.single (p.text (codes "c"))), (integer (pos 12))) ∷ []) ≡ (((p.single (p.text (codes "a"))), (integer (pos 10))) ∷ ((p.single (p.text (codes "b"))), (integer (pos 11))) ∷ ((p.single (p.text (codes "c"))), (integer (pos 12))) ∷ ((p.single (p.bool true)), (integer (pos 7))) ∷ [])
node_31 = refl

node_32 : value_at is_one (p.single (p.bool true)) (((p.single (p.text (codes "a"))), (integer (pos 10))) ∷ ((p.single (p.text (codes "b"))), (integer (pos 11))) ∷ ((p.single (p.text (codes "c"))), (integer (pos 12))) ∷ []) ≡ None
node_32 = refl

node_33 : without_entry is_one (p.single (p.bool true)) (((p.single (p.text (codes "a"))), (integer (pos 10))) ∷ ((p.single (p.text (codes "b"))), (integer (pos 11))) ∷ ((p.single (p.text (codes "c"))), (integer (pos 12))) ∷ []) ≡ (((p.single (p.text (codes "a"))), (integer (pos 10))) ∷ ((p.single (p.text (codes "b"))), (integer (pos 11))) ∷ ((p.single (p.text (codes "c"))), (integer (pos 12))) ∷ [])
node_33 = refl

node_34 : with_entry is_one (p.single (p.text (codes "b"))) (integer (pos 7)) (((p.single (p.text (codes "a"))), (integer (pos 10))) ∷ ((p.single (p.text (codes "b"))), (integer (pos 11))) ∷ ((p.single (p.text (codes "c"))), (integer (pos 12))) ∷ []) ≡ (((p.single (p.text (codes "a"))), (integer (pos 10))) ∷ ((p.single (p.text (codes "b"))), (integer (pos 7))) ∷ ((p.single (p.text (codes "c"))), (integer (pos 12))) ∷ [])
node_34 = refl

node_35 : value_at is_one (p.single (p.text (codes "b"))) (((p.single (p.text (codes "a"))), (integer (pos 10))) ∷ ((p.single (p.text (codes "b"))), (integer (pos 11))) ∷ ((p.single (p.text (codes "c"))), (integer (pos 12))) ∷ []) ≡ Some (integer (pos 11))
node_35 = refl

node_36 : without_entry is_one (p.single (p.text (codes "b"))) (((p.single (p.text (codes "a"))), (integer (pos 10))) ∷ ((p.single (p.text (codes "b"))), (integer (pos 11))) ∷ ((p.single (p.text (codes "c"))), (integer (pos 12))) ∷ []) ≡ (((p.single (p.text (codes "a"))), (integer (pos 10))) ∷ ((p.single (p.text (codes "c"))), (integer (pos 12))) ∷ [])
node_36 = refl

node_37 : with_entry is_one (p.tuple ((p.bool true) ∷ [])) (integer (pos 7)) (((p.single (p.text (codes "a"))), (integer (pos 10))) ∷ ((p.single (p.text (codes "b"))), (integer (pos 11))) ∷ ((p.single (p.text (codes "c"))), (integer (pos 12))) ∷ []) ≡ (((p.single (p.text (codes "a"))), (integer (pos 10))) ∷ ((p.single (p.text (codes "b"))), (integer (pos 11))) ∷ ((p.single (p.text (codes "c"))), (integer (pos 12))) ∷ ((p.tuple ((p.bool true) ∷ [])), (integer (pos 7))) ∷ [])
node_37 = refl

node_38 : value_at is_one (p.tuple ((p.bool true) ∷ [])) (((p.single (p.text (codes "a"))), (integer (pos 10))) ∷ ((p.single (p.text (codes "b"))), (integer (pos 11))) ∷ ((p.single (p.text (codes "c"))), (integer (pos 12))) ∷ []) ≡ None
node_38 = refl

node_39 : without_entry is_one (p.tuple ((p.bool true) ∷ [])) (((p.single (p.text (codes "a"))), (integer (pos 10))) ∷ ((p.single (p.text (codes "b"))), (integer (pos 11))) ∷ ((p.single (p.text (codes "c"))), (integer (pos 12))) ∷ []) ≡ (((p.single (p.text (codes "a"))), (integer (pos 10))) ∷ ((p.single (p.text (codes "b"))), (integer (pos 11))) ∷ ((p.single (p.text (codes "c"))), (integer (pos 12))) ∷ [])
node_39 = refl

node_40 : with_entry is_one (p.single p.none) (integer (pos 7)) (((p.single (p.text (codes "a"))), (integer (pos 10))) ∷ ((p.single (p.text (codes "b"))), (integer (pos 11))) ∷ ((p.single (p.text (codes "c"))), (integer (pos 12))) ∷ []) ≡ (((p.single (p.text (codes "a"))), (integer (pos 10))) ∷ ((p.single (p.text (codes "b"))), (integer (pos 11))) ∷ ((p.single (p.text (codes "c"))), (integer (pos 12))) ∷ ((p.single p.none), (integer (pos 7))) ∷ [])
node_40 = refl

node_41 : value_at is_one (p.single p.none) (((p.single (p.text (codes "a"))), (integer (pos 10))) ∷ ((p.single (p.text (codes "b"))), (integer (pos 11))) ∷ ((p.single (p.text (codes "c"))), (integer (pos 12))) ∷ []) ≡ None
node_41 = refl

node_42 : without_entry is_one (p.single p.none) (((p.single (p.text (codes "a"))), (integer (pos 10))) ∷ ((p.single (p.text (codes "b"))), (integer (pos 11))) ∷ ((p.single (p.text (codes "c"))), (integer (pos 12))) ∷ []) ≡ (((p.single (p.text (codes "a"))), (integer (pos 10))) ∷ ((p.single (p.text (codes "b"))), (integer (pos 11))) ∷ ((p.single (p.text (codes "c"))), (integer (pos 12))) ∷ [])
node_42 = refl

node_43 : with_entry is_one (p.single (p.integer (pos 0))) (integer (pos 7)) (((p.single (p.text (codes "a"))), (integer (pos 10))) ∷ ((p.single (p.text (codes "b"))), (integer (pos 11))) ∷ ((p.single (p.text (codes "c"))), (integer (pos 12))) ∷ []) ≡ (((p.single (p.text (codes "a"))), (integer (pos 10))) ∷ ((p.single (p.text (codes "b"))), (integer (pos 11))) ∷ ((p.single (p.text (codes "c"))), (integer (pos 12))) ∷ ((p.single (p.integer (pos 0))), (integer (pos 7))) ∷ [])
node_43 = refl

node_44 : value_at is_one (p.single (p.integer (pos 0))) (((p.single (p.text (codes "a"))), (integer (pos 10))) ∷ ((p.single (p.text (codes "b"))), (integer (pos 11))) ∷ ((p.single (p.text (codes "c"))), (integer (pos 12))) ∷ []) ≡ None
node_44 = refl

node_45 : without_entry is_one (p.single (p.integer (pos 0))) (((p.single (p.text (codes "a"))), (integer (pos 10))) ∷ ((p.single (p.text (codes "b"))), (integer (pos 11))) ∷ ((p.single (p.text (codes "c"))), (integer (pos 12))) ∷ []) ≡ (((p.single (p.text (codes "a"))), (integer (pos 10))) ∷ ((p.single (p.text (codes "b"))), (integer (pos 11))) ∷ ((p.single (p.text (codes "c"))), (integer (pos 12))) ∷ [])
node_45 = refl

node_46 : with_entry is_one (p.single (p.integer (pos 1))) (integer (pos 7)) (((p.tuple ((p.integer (pos 1)) ∷ [])), (integer (pos 10))) ∷ ((p.single p.none), (integer (pos 11))) ∷ []) ≡ (((p.tuple ((p.integer (pos 1)) ∷ [])), (integer (pos 10))) ∷ ((p.single p.none), (integer (pos 11))) ∷ ((p.single (p.integer (pos 1))), (integer (pos 7))) ∷ [])
node_46 = refl

node_47 : value_at is_one (p.single (p.integer (pos 1))) (((p.tuple ((p.integer (pos 1)) ∷ [])), (integer (pos 10))) ∷ ((p.single p.none), (integer (pos 11))) ∷ []) ≡ None
node_47 = refl

node_48 : without_entry is_one (p.single (p.integer (pos 1))) (((p.tuple ((p.integer (pos 1)) ∷ [])), (integer (pos 10))) ∷ ((p.single p.none), (integer (pos 11))) ∷ []) ≡ (((p.tuple ((p.integer (pos 1)) ∷ [])), (integer (pos 10))) ∷ ((p.single p.none), (integer (pos 11))) ∷ [])
node_48 = refl

node_49 : with_entry is_one (p.single (p.bool true)) (integer (pos 7)) (((p.tuple ((p.integer (pos 1)) ∷ [])), (integer (pos 10))) ∷ ((p.single p.none), (integer (pos 11))) ∷ []) ≡ (((p.tuple ((p.integer (pos 1)) ∷ [])), (integer (pos 10))) ∷ ((p.single p.none), (integer (pos 11))) ∷ ((p.single (p.bool true)), (integer (pos 7))) ∷ [])
node_49 = refl

node_50 : value_at is_one (p.single (p.bool true)) (((p.tuple ((p.integer (pos 1)) ∷ [])), (integer (pos 10))) ∷ ((p.single p.none), (integer (pos 11))) ∷ []) ≡ None
node_50 = refl

node_51 : without_entry is_one (p.single (p.bool true)) (((p.tuple ((p.integer (pos 1)) ∷ [])), (integer (pos 10))) ∷ ((p.single p.none), (integer (pos 11))) ∷ []) ≡ (((p.tuple ((p.integer (pos 1)) ∷ [])), (integer (pos 10))) ∷ ((p.single p.none), (integer (pos 11))) ∷ [])
node_51 = refl

node_52 : with_entry is_one (p.single (p.text (codes "b"))) (integer (pos 7)) (((p.tuple ((p.integer (pos 1)) ∷ [])), (integer (pos 10))) ∷ ((p.single p.none), (integer (pos 11))) ∷ []) ≡ (((p.tuple ((p.integer (pos 1)) ∷ [])), (integer (pos 10))) ∷ ((p.single p.none), (integer (pos 11))) ∷ ((p.single (p.text (codes "b"))), (integer (pos 7))) ∷ [])
node_52 = refl

node_53 : value_at is_one (p.single (p.text (codes "b"))) (((p.tuple ((p.integer (pos 1)) ∷ [])), (integer (pos 10))) ∷ ((p.single p.none), (integer (pos 11))) ∷ []) ≡ None
node_53 = refl

node_54 : without_entry is_one (p.single (p.text (codes "b"))) (((p.tuple ((p.integer (pos 1)) ∷ [])), (integer (pos 10))) ∷ ((p.single p.none), (integer (pos 11))) ∷ []) ≡ (((p.tuple ((p.integer (pos 1)) ∷ [])), (integer (pos 10))) ∷ ((p.single p.none), (integer (pos 11))) ∷ [])
node_54 = refl

node_55 : with_entry is_one (p.single (p.integer (pos 1))) (integer (pos 7)) (((p.single (p.integer (pos 0))), (integer (pos 10))) ∷ ((p.single (p.integer (pos 1))), (integer (pos 11))) ∷ ((p.single (p.text [])), (integer (pos 12))) ∷ []) ≡ (((p.single (p.integer (pos 0))), (integer (pos 10))) ∷ ((p.single (p.integer (pos 1))), (integer (pos 7))) ∷ ((p.single (p.text [])), (integer (pos 12))) ∷ [])
node_55 = refl

node_56 : value_at is_one (p.single (p.integer (pos 1))) (((p.single (p.integer (pos 0))), (integer (pos 10))) ∷ ((p.single (p.integer (pos 1))), (integer (pos 11))) ∷ ((p.single (p.text [])), (integer (pos 12))) ∷ []) ≡ Some (integer (pos 11))
node_56 = refl

node_57 : without_entry is_one (p.single (p.integer (pos 1))) (((p.single (p.integer (pos 0))), (integer (pos 10))) ∷ ((p.single (p.integer (pos 1))), (integer (pos 11))) ∷ ((p.single (p.text [])), (integer (pos 12))) ∷ []) ≡ (((p.single (p.integer (pos 0))), (integer (pos 10))) ∷ ((p.single (p.text [])), (integer (pos 12))) ∷ [])
node_57 = refl

node_58 : with_entry is_one (p.single (p.bool true)) (integer (pos 7)) (((p.single (p.integer (pos 0))), (integer (pos 10))) ∷ ((p.single (p.integer (pos 1))), (integer (pos 11))) ∷ ((p.single (p.text [])), (integer (pos 12))) ∷ []) ≡ (((p.single (p.integer (pos 0))), (integer (pos 10))) ∷ ((p.single (p.integer (pos 1))), (integer (pos 7))) ∷ ((p.single (p.text [])), (integer (pos 12))) ∷ [])
node_58 = refl

node_59 : value_at is_one (p.single (p.bool true)) (((p.single (p.integer (pos 0))), (integer (pos 10))) ∷ ((p.single (p.integer (pos 1))), (integer (pos 11))) ∷ ((p.single (p.text [])), (integer (pos 12))) ∷ []) ≡ Some (integer (pos 11))
node_59 = refl

node_60 : without_entry is_one (p.single (p.bool true)) (((p.single (p.integer (pos 0))), (integer (pos 10))) ∷ ((p.single (p.integer (pos 1))), (integer (pos 11))) ∷ ((p.single (p.text [])), (integer (pos 12))) ∷ []) ≡ (((p.single (p.integer (pos 0))), (integer (pos 10))) ∷ ((p.single (p.text [])), (integer (pos 12))) ∷ [])
node_60 = refl

node_61 : with_entry is_one (p.single (p.text (codes "b"))) (integer (pos 7)) (((p.single (p.integer (pos 0))), (integer (pos 10))) ∷ ((p.single (p.integer (pos 1))), (integer (pos 11))) ∷ ((p.single (p.text [])), (integer (pos 12))) ∷ []) ≡ (((p.single (p.integer (pos 0))), (integer (pos 10))) ∷ ((p.single (p.integer (pos 1))), (integer (pos 11))) ∷ ((p.single (p.text [])), (integer (pos 12))) ∷ ((p.single (p.text (codes "b"))), (integer (pos 7))) ∷ [])
node_61 = refl

node_62 : value_at is_one (p.single (p.text (codes "b"))) (((p.single (p.integer (pos 0))), (integer (pos 10))) ∷ ((p.single (p.integer (pos 1))), (integer (pos 11))) ∷ ((p.single (p.text [])), (integer (pos 12))) ∷ []) ≡ None
node_62 = refl

node_63 : without_entry is_one (p.single (p.text (codes "b"))) (((p.single (p.integer (pos 0))), (integer (pos 10))) ∷ ((p.single (p.integer (pos 1))), (integer (pos 11))) ∷ ((p.single (p.text [])), (integer (pos 12))) ∷ []) ≡ (((p.single (p.integer (pos 0))), (integer (pos 10))) ∷ ((p.single (p.integer (pos 1))), (integer (pos 11))) ∷ ((p.single (p.text [])), (integer (pos 12))) ∷ [])
node_63 = refl

node_64 : with_entry is_one (p.tuple ((p.bool true) ∷ [])) (integer (pos 7)) (((p.single (p.integer (pos 0))), (integer (pos 10))) ∷ ((p.single (p.integer (pos 1))), (integer (pos 11))) ∷ ((p.single (p.text [])), (integer (pos 12))) ∷ []) ≡ (((p.single (p.integer (pos 0))), (integer (pos 10))) ∷ ((p.single (p.integer (pos 1))), (integer (pos 11))) ∷ ((p.single (p.text [])), (integer (pos 12))) ∷ ((p.tuple ((p.bool true) ∷ [])), (integer (pos 7))) ∷ [])
node_64 = refl

node_65 : value_at is_one (p.tuple ((p.bool true) ∷ [])) (((p.single (p.integer (pos 0))), (integer (pos 10))) ∷ ((p.single (p.integer (pos 1))), (integer (pos 11))) ∷ ((p.single (p.text [])), (integer (pos 12))) ∷ []) ≡ None
node_65 = refl

node_66 : without_entry is_one (p.tuple ((p.bool true) ∷ [])) (((p.single (p.integer (pos 0))), (integer (pos 10))) ∷ ((p.single (p.integer (pos 1))), (integer (pos 11))) ∷ ((p.single (p.text [])), (integer (pos 12))) ∷ []) ≡ (((p.single (p.integer (pos 0))), (integer (pos 10))) ∷ ((p.single (p.integer (pos 1))), (integer (pos 11))) ∷ ((p.single (p.text [])), (integer (pos 12))) ∷ [])
node_66 = refl

node_67 : with_entry is_one (p.single p.none) (integer (pos 7)) (((p.single (p.integer (pos 0))), (integer (pos 10))) ∷ ((p.single (p.integer (pos 1))), (integer (pos 11))) ∷ ((p.single (p.text [])), (integer (pos 12))) ∷ []) ≡ (((p.single (p.integer (pos 0))), (integer (pos 10))) ∷ ((p.single (p.integer (pos 1))), (integer (pos 11))) ∷ ((p.single (p.text [])), (integer (pos 12))) ∷ ((p.single p.none), (integer (pos 7))) ∷ [])
node_67 = refl

node_68 : value_at is_one (p.single p.none) (((p.single (p.integer (pos 0))), (integer (pos 10))) ∷ ((p.single (p.integer (pos 1))), (integer (pos 11))) ∷ ((p.single (p.text [])), (integer (pos 12))) ∷ []) ≡ None
node_68 = refl

node_69 : without_entry is_one (p.single p.none) (((p.single (p.integer (pos 0))), (integer (pos 10))) ∷ ((p.single (p.integer (pos 1))), (integer (pos 11))) ∷ ((p.single (p.text [])), (integer (pos 12))) ∷ []) ≡ (((p.single (p.integer (pos 0))), (integer (pos 10))) ∷ ((p.single (p.integer (pos 1))), (integer (pos 11))) ∷ ((p.single (p.text [])), (integer (pos 12))) ∷ [])
node_69 = refl

node_70 : with_entry is_one (p.single (p.integer (pos 0))) (integer (pos 7)) (((p.single (p.integer (pos 0))), (integer (pos 10))) ∷ ((p.single (p.integer (pos 1))), (integer (pos 11))) ∷ ((p.single (p.text [])), (integer (pos 12))) ∷ []) ≡ (((p.single (p.integer (pos 0))), (integer (pos 7))) ∷ ((p.single (p.integer (pos 1))), (integer (pos 11))) ∷ ((p.single (p.text [])), (integer (pos 12))) ∷ [])
node_70 = refl

node_71 : value_at is_one (p.single (p.integer (pos 0))) (((p.single (p.integer (pos 0))), (integer (pos 10))) ∷ ((p.single (p.integer (pos 1))), (integer (pos 11))) ∷ ((p.single (p.text [])), (integer (pos 12))) ∷ []) ≡ Some (integer (pos 10))
node_71 = refl

node_72 : without_entry is_one (p.single (p.integer (pos 0))) (((p.single (p.integer (pos 0))), (integer (pos 10))) ∷ ((p.single (p.integer (pos 1))), (integer (pos 11))) ∷ ((p.single (p.text [])), (integer (pos 12))) ∷ []) ≡ (((p.single (p.integer (pos 1))), (integer (pos 11))) ∷ ((p.single (p.text [])), (integer (pos 12))) ∷ [])
node_72 = refl

node_73 : changed (set_item 0 (integer (pos 7))) 1 ((list []) ∷ (list ((integer (pos 1)) ∷ [])) ∷ []) ≡ (list []) ∷ (list ((integer (pos 7)) ∷ [])) ∷ []
node_73 = refl

node_74 : changed (set_item 1 (integer (pos 7))) 1 ((list []) ∷ (list ((integer (pos 1)) ∷ (integer (pos 2)) ∷ (integer (pos 3)) ∷ [])) ∷ []) ≡ (list []) ∷ (list ((integer (pos 1)) ∷ (integer (pos 7)) ∷ (integer (pos 3)) ∷ [])) ∷ []
node_74 = refl

node_75 : changed (set_item 2 (integer (pos 7))) 1 ((list []) ∷ (list ((text (codes "a")) ∷ (text (codes "b")) ∷ none ∷ [])) ∷ []) ≡ (list []) ∷ (list ((text (codes "a")) ∷ (text (codes "b")) ∷ (integer (pos 7)) ∷ [])) ∷ []
node_75 = refl

node_76 : changed (push none) 0 ((list []) ∷ (list ((integer (pos 5)) ∷ [])) ∷ []) ≡ (list (none ∷ [])) ∷ (list ((integer (pos 5)) ∷ [])) ∷ []
node_76 = refl

node_77 : changed (push none) 0 ((list ((integer (pos 1)) ∷ [])) ∷ (list ((integer (pos 5)) ∷ [])) ∷ []) ≡ (list ((integer (pos 1)) ∷ none ∷ [])) ∷ (list ((integer (pos 5)) ∷ [])) ∷ []
node_77 = refl

node_78 : changed (push none) 0 ((list ((text (codes "a")) ∷ (integer (pos 2)) ∷ [])) ∷ (list ((integer (pos 5)) ∷ [])) ∷ []) ≡ (list ((text (codes "a")) ∷ (integer (pos 2)) ∷ none ∷ [])) ∷ (list ((integer (pos 5)) ∷ [])) ∷ []
node_78 = refl

node_79 : pop (list []) ≡ (list [])
node_79 = refl

node_80 : last_of {A = Value} [] ≡ None
node_80 = refl

node_81 : pop (list ((integer (pos 1)) ∷ [])) ≡ (list [])
node_81 = refl

node_82 : last_of {A = Value} ((integer (pos 1)) ∷ []) ≡ Some (integer (pos 1))
node_82 = refl

node_83 : pop (list ((text (codes "a")) ∷ (integer (pos 2)) ∷ (bool true) ∷ [])) ≡ (list ((text (codes "a")) ∷ (integer (pos 2)) ∷ []))
node_83 = refl

node_84 : last_of {A = Value} ((text (codes "a")) ∷ (integer (pos 2)) ∷ (bool true) ∷ []) ≡ Some (bool true)
node_84 = refl

node_85 : changed (replace_list ((integer (pos 3)) ∷ (integer (pos 4)) ∷ [])) 0 ((list ((integer (pos 1)) ∷ [])) ∷ []) ≡ (list ((integer (pos 3)) ∷ (integer (pos 4)) ∷ [])) ∷ []
node_85 = refl

node_86 : push none (tuple ((integer (pos 1)) ∷ (integer (pos 2)) ∷ [])) ≡ tuple ((integer (pos 1)) ∷ (integer (pos 2)) ∷ [])
node_86 = refl

node_87 : changed (push none) 3 ((list ((integer (pos 1)) ∷ [])) ∷ []) ≡ (list ((integer (pos 1)) ∷ [])) ∷ []
node_87 = refl

node_88 : set_attr (codes "a") (integer (pos 7)) (object (((codes "a"), (integer (pos 1))) ∷ ((codes "b"), (integer (pos 2))) ∷ [])) ≡ object (((codes "a"), (integer (pos 7))) ∷ ((codes "b"), (integer (pos 2))) ∷ [])
node_88 = refl

node_89 : set_attr (codes "c") (integer (pos 7)) (object (((codes "a"), (integer (pos 1))) ∷ ((codes "b"), (integer (pos 2))) ∷ [])) ≡ object (((codes "a"), (integer (pos 1))) ∷ ((codes "b"), (integer (pos 2))) ∷ ((codes "c"), (integer (pos 7))) ∷ [])
node_89 = refl

node_90 : remove_attr (codes "a") (object (((codes "a"), (integer (pos 1))) ∷ ((codes "b"), (integer (pos 2))) ∷ [])) ≡ object (((codes "b"), (integer (pos 2))) ∷ [])
node_90 = refl

node_91 : insert (p.single (p.bool true)) none (dict (((p.single (p.integer (pos 1))), (integer (pos 2))) ∷ [])) ≡ dict (((p.single (p.integer (pos 1))), none) ∷ [])
node_91 = refl

node_92 : remove (p.tuple ((p.bool true) ∷ [])) (dict (((p.tuple ((p.integer (pos 1)) ∷ [])), (integer (pos 2))) ∷ ((p.single (p.text (codes "a"))), (integer (pos 3))) ∷ [])) ≡ dict (((p.single (p.text (codes "a"))), (integer (pos 3))) ∷ [])
node_92 = refl
