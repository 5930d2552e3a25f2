-- The kinds of values, and the exceptions that tell them: computed on the definition. Made by tools/rows/state_rows.py.
use Rattle.std.proofs.Common.{◌≡◌, refl, [], ◌∷◌, true}
use Rattle.std.specs.Prelude.{pos, codes, ℕ}
use Rattle.kishu_language.specs.declared.profile.Profile.TheVariants.{One}
use Rattle.kishu_meaning.specs.values.Values.{none, bool, integer, text, range, builtin, class, node, list, tuple, dict, object, function, exception}
use Rattle.kishu_meaning_laws.specs.Bare.{bare}
use Rattle.kishu_meaning.specs.moments.Moment.{fresh, raised}
use Rattle.kishu_meaning.specs.values.BuiltinNames.{class_names}
use Rattle.std.specs.Str.{chars}
use Rattle.kishu_meaning.specs.values.Kinds.{kind_in, not_iterable, bad_index, unhashable, no_attribute}
use Rattle.kishu_meaning.specs.items.Subscripts.{not_subscriptable}
use Rattle.kishu_meaning.specs.calls.Callees.{not_callable}

kind_1 : kind_in [] none ≡ (codes "NoneType")
unfolding class_names chars
kind_1 = refl

kind_2 : kind_in [] (bool true) ≡ (codes "bool")
unfolding class_names chars
kind_2 = refl

kind_3 : kind_in [] (integer (pos 7)) ≡ (codes "int")
unfolding class_names chars
kind_3 = refl

kind_4 : kind_in [] (text (codes "a")) ≡ (codes "str")
unfolding class_names chars
kind_4 = refl

kind_5 : kind_in [] (range (pos 0) (pos 2) (pos 1)) ≡ (codes "range")
unfolding class_names chars
kind_5 = refl

kind_6 : kind_in [] (builtin 10) ≡ (codes "builtin")
unfolding class_names chars
kind_6 = refl

kind_7 : kind_in [] (class 3) ≡ (codes "class")
unfolding class_names chars
kind_7 = refl

kind_8 : kind_in ((list []) ∷ []) (node 0) ≡ (codes "list")
unfolding class_names chars
kind_8 = refl

kind_9 : kind_in ((tuple []) ∷ []) (node 0) ≡ (codes "tuple")
unfolding class_names chars
kind_9 = refl

kind_10 : kind_in ((dict []) ∷ []) (node 0) ≡ (codes "dict")
unfolding class_names chars
kind_10 = refl

kind_11 : kind_in ((object []) ∷ []) (node 0) ≡ (codes "SimpleNamespace")
unfolding class_names chars
kind_11 = refl

kind_12 : kind_in ((function One (codes "def f(): pass") []) ∷ []) (node 0) ≡ (codes "function")
unfolding class_names chars
kind_12 = refl

kind_13 : kind_in ((exception 24 []) ∷ []) (node 0) ≡ (codes "ValueError")
unfolding class_names chars
kind_13 = refl

kind_14 : kind_in ((exception 16 ((text (codes "k")) ∷ [])) ∷ []) (node 0) ≡ (codes "KeyError")
unfolding class_names chars
kind_14 = refl

kind_15 : kind_in ((exception 8 []) ∷ []) (node 0) ≡ (codes "Exception")
unfolding class_names chars
kind_15 = refl

kind_16 : not_iterable {A = ℕ} none (bare [] 9 0) ≡ raised (fresh 23 (text (codes "'NoneType' object is not iterable") ∷ [])) (bare [] 9 0)
unfolding class_names chars
kind_16 = refl

kind_17 : bad_index {A = ℕ} none (bare [] 9 0) ≡ raised (fresh 23 (text (codes "bad index type: 'NoneType'") ∷ [])) (bare [] 9 0)
unfolding class_names chars
kind_17 = refl

kind_18 : unhashable {A = ℕ} none (bare [] 9 0) ≡ raised (fresh 23 (text (codes "unhashable key: 'NoneType'") ∷ [])) (bare [] 9 0)
unfolding class_names chars
kind_18 = refl

kind_19 : not_subscriptable {A = ℕ} none (bare [] 9 0) ≡ raised (fresh 23 (text (codes "'NoneType' object is not subscriptable") ∷ [])) (bare [] 9 0)
unfolding class_names chars
kind_19 = refl

kind_20 : not_callable {A = ℕ} none (bare [] 9 0) ≡ raised (fresh 23 (text (codes "'NoneType' object is not callable") ∷ [])) (bare [] 9 0)
unfolding class_names chars
kind_20 = refl

kind_21 : not_iterable {A = ℕ} (bool true) (bare [] 9 0) ≡ raised (fresh 23 (text (codes "'bool' object is not iterable") ∷ [])) (bare [] 9 0)
unfolding class_names chars
kind_21 = refl

kind_22 : bad_index {A = ℕ} (bool true) (bare [] 9 0) ≡ raised (fresh 23 (text (codes "bad index type: 'bool'") ∷ [])) (bare [] 9 0)
unfolding class_names chars
kind_22 = refl

kind_23 : unhashable {A = ℕ} (bool true) (bare [] 9 0) ≡ raised (fresh 23 (text (codes "unhashable key: 'bool'") ∷ [])) (bare [] 9 0)
unfolding class_names chars
kind_23 = refl

kind_24 : not_subscriptable {A = ℕ} (bool true) (bare [] 9 0) ≡ raised (fresh 23 (text (codes "'bool' object is not subscriptable") ∷ [])) (bare [] 9 0)
unfolding class_names chars
kind_24 = refl

kind_25 : not_callable {A = ℕ} (bool true) (bare [] 9 0) ≡ raised (fresh 23 (text (codes "'bool' object is not callable") ∷ [])) (bare [] 9 0)
unfolding class_names chars
kind_25 = refl

kind_26 : not_iterable {A = ℕ} (integer (pos 7)) (bare [] 9 0) ≡ raised (fresh 23 (text (codes "'int' object is not iterable") ∷ [])) (bare [] 9 0)
unfolding class_names chars
kind_26 = refl

kind_27 : bad_index {A = ℕ} (integer (pos 7)) (bare [] 9 0) ≡ raised (fresh 23 (text (codes "bad index type: 'int'") ∷ [])) (bare [] 9 0)
unfolding class_names chars
kind_27 = refl

kind_28 : unhashable {A = ℕ} (integer (pos 7)) (bare [] 9 0) ≡ raised (fresh 23 (text (codes "unhashable key: 'int'") ∷ [])) (bare [] 9 0)
unfolding class_names chars
kind_28 = refl

kind_29 : not_subscriptable {A = ℕ} (integer (pos 7)) (bare [] 9 0) ≡ raised (fresh 23 (text (codes "'int' object is not subscriptable") ∷ [])) (bare [] 9 0)
unfolding class_names chars
kind_29 = refl

kind_30 : not_callable {A = ℕ} (integer (pos 7)) (bare [] 9 0) ≡ raised (fresh 23 (text (codes "'int' object is not callable") ∷ [])) (bare [] 9 0)
unfolding class_names chars
kind_30 = refl

kind_31 : not_iterable {A = ℕ} (text (codes "a")) (bare [] 9 0) ≡ raised (fresh 23 (text (codes "'str' object is not iterable") ∷ [])) (bare [] 9 0)
unfolding class_names chars
kind_31 = refl

kind_32 : bad_index {A = ℕ} (text (codes "a")) (bare [] 9 0) ≡ raised (fresh 23 (text (codes "bad index type: 'str'") ∷ [])) (bare [] 9 0)
unfolding class_names chars
kind_32 = refl

kind_33 : unhashable {A = ℕ} (text (codes "a")) (bare [] 9 0) ≡ raised (fresh 23 (text (codes "unhashable key: 'str'") ∷ [])) (bare [] 9 0)
unfolding class_names chars
kind_33 = refl

kind_34 : not_subscriptable {A = ℕ} (text (codes "a")) (bare [] 9 0) ≡ raised (fresh 23 (text (codes "'str' object is not subscriptable") ∷ [])) (bare [] 9 0)
unfolding class_names chars
kind_34 = refl

kind_35 : not_callable {A = ℕ} (text (codes "a")) (bare [] 9 0) ≡ raised (fresh 23 (text (codes "'str' object is not callable") ∷ [])) (bare [] 9 0)
unfolding class_names chars
kind_35 = refl

kind_36 : not_iterable {A = ℕ} (range (pos 0) (pos 2) (pos 1)) (bare [] 9 0) ≡ raised (fresh 23 (text (codes "'range' object is not iterable") ∷ [])) (bare [] 9 0)
unfolding class_names chars
kind_36 = refl

kind_37 : bad_index {A = ℕ} (range (pos 0) (pos 2) (pos 1)) (bare [] 9 0) ≡ raised (fresh 23 (text (codes "bad index type: 'range'") ∷ [])) (bare [] 9 0)
unfolding class_names chars
kind_37 = refl

kind_38 : unhashable {A = ℕ} (range (pos 0) (pos 2) (pos 1)) (bare [] 9 0) ≡ raised (fresh 23 (text (codes "unhashable key: 'range'") ∷ [])) (bare [] 9 0)
unfolding class_names chars
kind_38 = refl

kind_39 : not_subscriptable {A = ℕ} (range (pos 0) (pos 2) (pos 1)) (bare [] 9 0) ≡ raised (fresh 23 (text (codes "'range' object is not subscriptable") ∷ [])) (bare [] 9 0)
unfolding class_names chars
kind_39 = refl

kind_40 : not_callable {A = ℕ} (range (pos 0) (pos 2) (pos 1)) (bare [] 9 0) ≡ raised (fresh 23 (text (codes "'range' object is not callable") ∷ [])) (bare [] 9 0)
unfolding class_names chars
kind_40 = refl

kind_41 : not_iterable {A = ℕ} (builtin 10) (bare [] 9 0) ≡ raised (fresh 23 (text (codes "'builtin' object is not iterable") ∷ [])) (bare [] 9 0)
unfolding class_names chars
kind_41 = refl

kind_42 : bad_index {A = ℕ} (builtin 10) (bare [] 9 0) ≡ raised (fresh 23 (text (codes "bad index type: 'builtin'") ∷ [])) (bare [] 9 0)
unfolding class_names chars
kind_42 = refl

kind_43 : unhashable {A = ℕ} (builtin 10) (bare [] 9 0) ≡ raised (fresh 23 (text (codes "unhashable key: 'builtin'") ∷ [])) (bare [] 9 0)
unfolding class_names chars
kind_43 = refl

kind_44 : not_subscriptable {A = ℕ} (builtin 10) (bare [] 9 0) ≡ raised (fresh 23 (text (codes "'builtin' object is not subscriptable") ∷ [])) (bare [] 9 0)
unfolding class_names chars
kind_44 = refl

kind_45 : not_callable {A = ℕ} (builtin 10) (bare [] 9 0) ≡ raised (fresh 23 (text (codes "'builtin' object is not callable") ∷ [])) (bare [] 9 0)
unfolding class_names chars
kind_45 = refl

kind_46 : not_iterable {A = ℕ} (class 3) (bare [] 9 0) ≡ raised (fresh 23 (text (codes "'class' object is not iterable") ∷ [])) (bare [] 9 0)
unfolding class_names chars
kind_46 = refl

kind_47 : bad_index {A = ℕ} (class 3) (bare [] 9 0) ≡ raised (fresh 23 (text (codes "bad index type: 'class'") ∷ [])) (bare [] 9 0)
unfolding class_names chars
kind_47 = refl

kind_48 : unhashable {A = ℕ} (class 3) (bare [] 9 0) ≡ raised (fresh 23 (text (codes "unhashable key: 'class'") ∷ [])) (bare [] 9 0)
unfolding class_names chars
kind_48 = refl

kind_49 : not_subscriptable {A = ℕ} (class 3) (bare [] 9 0) ≡ raised (fresh 23 (text (codes "'class' object is not subscriptable") ∷ [])) (bare [] 9 0)
unfolding class_names chars
kind_49 = refl

kind_50 : not_callable {A = ℕ} (class 3) (bare [] 9 0) ≡ raised (fresh 23 (text (codes "'class' object is not callable") ∷ [])) (bare [] 9 0)
unfolding class_names chars
kind_50 = refl

kind_51 : not_iterable {A = ℕ} (node 0) (bare ((list []) ∷ []) 9 0) ≡ raised (fresh 23 (text (codes "'list' object is not iterable") ∷ [])) (bare ((list []) ∷ []) 9 0)
unfolding class_names chars
kind_51 = refl

kind_52 : bad_index {A = ℕ} (node 0) (bare ((list []) ∷ []) 9 0) ≡ raised (fresh 23 (text (codes "bad index type: 'list'") ∷ [])) (bare ((list []) ∷ []) 9 0)
unfolding class_names chars
kind_52 = refl

kind_53 : unhashable {A = ℕ} (node 0) (bare ((list []) ∷ []) 9 0) ≡ raised (fresh 23 (text (codes "unhashable key: 'list'") ∷ [])) (bare ((list []) ∷ []) 9 0)
unfolding class_names chars
kind_53 = refl

kind_54 : not_subscriptable {A = ℕ} (node 0) (bare ((list []) ∷ []) 9 0) ≡ raised (fresh 23 (text (codes "'list' object is not subscriptable") ∷ [])) (bare ((list []) ∷ []) 9 0)
unfolding class_names chars
kind_54 = refl

kind_55 : not_callable {A = ℕ} (node 0) (bare ((list []) ∷ []) 9 0) ≡ raised (fresh 23 (text (codes "'list' object is not callable") ∷ [])) (bare ((list []) ∷ []) 9 0)
unfolding class_names chars
kind_55 = refl

kind_56 : not_iterable {A = ℕ} (node 0) (bare ((tuple []) ∷ []) 9 0) ≡ raised (fresh 23 (text (codes "'tuple' object is not iterable") ∷ [])) (bare ((tuple []) ∷ []) 9 0)
unfolding class_names chars
kind_56 = refl

kind_57 : bad_index {A = ℕ} (node 0) (bare ((tuple []) ∷ []) 9 0) ≡ raised (fresh 23 (text (codes "bad index type: 'tuple'") ∷ [])) (bare ((tuple []) ∷ []) 9 0)
unfolding class_names chars
kind_57 = refl

kind_58 : unhashable {A = ℕ} (node 0) (bare ((tuple []) ∷ []) 9 0) ≡ raised (fresh 23 (text (codes "unhashable key: 'tuple'") ∷ [])) (bare ((tuple []) ∷ []) 9 0)
unfolding class_names chars
kind_58 = refl

kind_59 : not_subscriptable {A = ℕ} (node 0) (bare ((tuple []) ∷ []) 9 0) ≡ raised (fresh 23 (text (codes "'tuple' object is not subscriptable") ∷ [])) (bare ((tuple []) ∷ []) 9 0)
unfolding class_names chars
kind_59 = refl

kind_60 : not_callable {A = ℕ} (node 0) (bare ((tuple []) ∷ []) 9 0) ≡ raised (fresh 23 (text (codes "'tuple' object is not callable") ∷ [])) (bare ((tuple []) ∷ []) 9 0)
unfolding class_names chars
kind_60 = refl

kind_61 : not_iterable {A = ℕ} (node 0) (bare ((dict []) ∷ []) 9 0) ≡ raised (fresh 23 (text (codes "'dict' object is not iterable") ∷ [])) (bare ((dict []) ∷ []) 9 0)
unfolding class_names chars
kind_61 = refl

kind_62 : bad_index {A = ℕ} (node 0) (bare ((dict []) ∷ []) 9 0) ≡ raised (fresh 23 (text (codes "bad index type: 'dict'") ∷ [])) (bare ((dict []) ∷ []) 9 0)
unfolding class_names chars
kind_62 = refl

kind_63 : unhashable {A = ℕ} (node 0) (bare ((dict []) ∷ []) 9 0) ≡ raised (fresh 23 (text (codes "unhashable key: 'dict'") ∷ [])) (bare ((dict []) ∷ []) 9 0)
unfolding class_names chars
kind_63 = refl

kind_64 : not_subscriptable {A = ℕ} (node 0) (bare ((dict []) ∷ []) 9 0) ≡ raised (fresh 23 (text (codes "'dict' object is not subscriptable") ∷ [])) (bare ((dict []) ∷ []) 9 0)
unfolding class_names chars
kind_64 = refl

kind_65 : not_callable {A = ℕ} (node 0) (bare ((dict []) ∷ []) 9 0) ≡ raised (fresh 23 (text (codes "'dict' object is not callable") ∷ [])) (bare ((dict []) ∷ []) 9 0)
unfolding class_names chars
kind_65 = refl

kind_66 : not_iterable {A = ℕ} (node 0) (bare ((object []) ∷ []) 9 0) ≡ raised (fresh 23 (text (codes "'SimpleNamespace' object is not iterable") ∷ [])) (bare ((object []) ∷ []) 9 0)
unfolding class_names chars
kind_66 = refl

kind_67 : bad_index {A = ℕ} (node 0) (bare ((object []) ∷ []) 9 0) ≡ raised (fresh 23 (text (codes "bad index type: 'SimpleNamespace'") ∷ [])) (bare ((object []) ∷ []) 9 0)
unfolding class_names chars
kind_67 = refl

kind_68 : unhashable {A = ℕ} (node 0) (bare ((object []) ∷ []) 9 0) ≡ raised (fresh 23 (text (codes "unhashable key: 'SimpleNamespace'") ∷ [])) (bare ((object []) ∷ []) 9 0)
unfolding class_names chars
kind_68 = refl

kind_69 : not_subscriptable {A = ℕ} (node 0) (bare ((object []) ∷ []) 9 0) ≡ raised (fresh 23 (text (codes "'SimpleNamespace' object is not subscriptable") ∷ [])) (bare ((object []) ∷ []) 9 0)
unfolding class_names chars
kind_69 = refl

kind_70 : not_callable {A = ℕ} (node 0) (bare ((object []) ∷ []) 9 0) ≡ raised (fresh 23 (text (codes "'SimpleNamespace' object is not callable") ∷ [])) (bare ((object []) ∷ []) 9 0)
unfolding class_names chars
kind_70 = refl

kind_71 : not_iterable {A = ℕ} (node 0) (bare ((function One (codes "def f(): pass") []) ∷ []) 9 0) ≡ raised (fresh 23 (text (codes "'function' object is not iterable") ∷ [])) (bare ((function One (codes "def f(): pass") []) ∷ []) 9 0)
unfolding class_names chars
kind_71 = refl

kind_72 : bad_index {A = ℕ} (node 0) (bare ((function One (codes "def f(): pass") []) ∷ []) 9 0) ≡ raised (fresh 23 (text (codes "bad index type: 'function'") ∷ [])) (bare ((function One (codes "def f(): pass") []) ∷ []) 9 0)
unfolding class_names chars
kind_72 = refl

kind_73 : unhashable {A = ℕ} (node 0) (bare ((function One (codes "def f(): pass") []) ∷ []) 9 0) ≡ raised (fresh 23 (text (codes "unhashable key: 'function'") ∷ [])) (bare ((function One (codes "def f(): pass") []) ∷ []) 9 0)
unfolding class_names chars
kind_73 = refl

kind_74 : not_subscriptable {A = ℕ} (node 0) (bare ((function One (codes "def f(): pass") []) ∷ []) 9 0) ≡ raised (fresh 23 (text (codes "'function' object is not subscriptable") ∷ [])) (bare ((function One (codes "def f(): pass") []) ∷ []) 9 0)
unfolding class_names chars
kind_74 = refl

kind_75 : not_callable {A = ℕ} (node 0) (bare ((function One (codes "def f(): pass") []) ∷ []) 9 0) ≡ raised (fresh 23 (text (codes "'function' object is not callable") ∷ [])) (bare ((function One (codes "def f(): pass") []) ∷ []) 9 0)
unfolding class_names chars
kind_75 = refl

kind_76 : not_iterable {A = ℕ} (node 0) (bare ((exception 24 []) ∷ []) 9 0) ≡ raised (fresh 23 (text (codes "'ValueError' object is not iterable") ∷ [])) (bare ((exception 24 []) ∷ []) 9 0)
unfolding class_names chars
kind_76 = refl

kind_77 : bad_index {A = ℕ} (node 0) (bare ((exception 24 []) ∷ []) 9 0) ≡ raised (fresh 23 (text (codes "bad index type: 'ValueError'") ∷ [])) (bare ((exception 24 []) ∷ []) 9 0)
unfolding class_names chars
kind_77 = refl

kind_78 : unhashable {A = ℕ} (node 0) (bare ((exception 24 []) ∷ []) 9 0) ≡ raised (fresh 23 (text (codes "unhashable key: 'ValueError'") ∷ [])) (bare ((exception 24 []) ∷ []) 9 0)
unfolding class_names chars
kind_78 = refl

kind_79 : not_subscriptable {A = ℕ} (node 0) (bare ((exception 24 []) ∷ []) 9 0) ≡ raised (fresh 23 (text (codes "'ValueError' object is not subscriptable") ∷ [])) (bare ((exception 24 []) ∷ []) 9 0)
unfolding class_names chars
kind_79 = refl

kind_80 : not_callable {A = ℕ} (node 0) (bare ((exception 24 []) ∷ []) 9 0) ≡ raised (fresh 23 (text (codes "'ValueError' object is not callable") ∷ [])) (bare ((exception 24 []) ∷ []) 9 0)
unfolding class_names chars
kind_80 = refl

kind_81 : not_iterable {A = ℕ} (node 0) (bare ((exception 16 ((text (codes "k")) ∷ [])) ∷ []) 9 0) ≡ raised (fresh 23 (text (codes "'KeyError' object is not iterable") ∷ [])) (bare ((exception 16 ((text (codes "k")) ∷ [])) ∷ []) 9 0)
unfolding class_names chars
kind_81 = refl

kind_82 : bad_index {A = ℕ} (node 0) (bare ((exception 16 ((text (codes "k")) ∷ [])) ∷ []) 9 0) ≡ raised (fresh 23 (text (codes "bad index type: 'KeyError'") ∷ [])) (bare ((exception 16 ((text (codes "k")) ∷ [])) ∷ []) 9 0)
unfolding class_names chars
kind_82 = refl

kind_83 : unhashable {A = ℕ} (node 0) (bare ((exception 16 ((text (codes "k")) ∷ [])) ∷ []) 9 0) ≡ raised (fresh 23 (text (codes "unhashable key: 'KeyError'") ∷ [])) (bare ((exception 16 ((text (codes "k")) ∷ [])) ∷ []) 9 0)
unfolding class_names chars
kind_83 = refl

kind_84 : not_subscriptable {A = ℕ} (node 0) (bare ((exception 16 ((text (codes "k")) ∷ [])) ∷ []) 9 0) ≡ raised (fresh 23 (text (codes "'KeyError' object is not subscriptable") ∷ [])) (bare ((exception 16 ((text (codes "k")) ∷ [])) ∷ []) 9 0)
unfolding class_names chars
kind_84 = refl

kind_85 : not_callable {A = ℕ} (node 0) (bare ((exception 16 ((text (codes "k")) ∷ [])) ∷ []) 9 0) ≡ raised (fresh 23 (text (codes "'KeyError' object is not callable") ∷ [])) (bare ((exception 16 ((text (codes "k")) ∷ [])) ∷ []) 9 0)
unfolding class_names chars
kind_85 = refl

kind_86 : not_iterable {A = ℕ} (node 0) (bare ((exception 8 []) ∷ []) 9 0) ≡ raised (fresh 23 (text (codes "'Exception' object is not iterable") ∷ [])) (bare ((exception 8 []) ∷ []) 9 0)
unfolding class_names chars
kind_86 = refl

kind_87 : bad_index {A = ℕ} (node 0) (bare ((exception 8 []) ∷ []) 9 0) ≡ raised (fresh 23 (text (codes "bad index type: 'Exception'") ∷ [])) (bare ((exception 8 []) ∷ []) 9 0)
unfolding class_names chars
kind_87 = refl

kind_88 : unhashable {A = ℕ} (node 0) (bare ((exception 8 []) ∷ []) 9 0) ≡ raised (fresh 23 (text (codes "unhashable key: 'Exception'") ∷ [])) (bare ((exception 8 []) ∷ []) 9 0)
unfolding class_names chars
kind_88 = refl

kind_89 : not_subscriptable {A = ℕ} (node 0) (bare ((exception 8 []) ∷ []) 9 0) ≡ raised (fresh 23 (text (codes "'Exception' object is not subscriptable") ∷ [])) (bare ((exception 8 []) ∷ []) 9 0)
unfolding class_names chars
kind_89 = refl

kind_90 : not_callable {A = ℕ} (node 0) (bare ((exception 8 []) ∷ []) 9 0) ≡ raised (fresh 23 (text (codes "'Exception' object is not callable") ∷ [])) (bare ((exception 8 []) ∷ []) 9 0)
unfolding class_names chars
kind_90 = refl

kind_91 : no_attribute {A = ℕ} none (codes "a") (bare [] 9 0) ≡ raised (fresh 13 (text (codes "'NoneType' object has no attribute 'a'") ∷ [])) (bare [] 9 0)
unfolding class_names chars
kind_91 = refl

kind_92 : no_attribute {A = ℕ} (node 0) (codes "pop") (bare ((list []) ∷ []) 9 0) ≡ raised (fresh 13 (text (codes "'list' object has no attribute 'pop'") ∷ [])) (bare ((list []) ∷ []) 9 0)
unfolding class_names chars
kind_92 = refl

kind_93 : no_attribute {A = ℕ} (node 0) (codes "b") (bare ((object []) ∷ []) 9 0) ≡ raised (fresh 13 (text (codes "'SimpleNamespace' object has no attribute 'b'") ∷ [])) (bare ((object []) ∷ []) 9 0)
unfolding class_names chars
kind_93 = refl

kind_94 : no_attribute {A = ℕ} (node 0) (codes "arg") (bare ((exception 24 []) ∷ []) 9 0) ≡ raised (fresh 13 (text (codes "'ValueError' object has no attribute 'arg'") ∷ [])) (bare ((exception 24 []) ∷ []) 9 0)
unfolding class_names chars
kind_94 = refl
