-- What is a value, a key, a node and a state, and what isn't: computed on the definitions. Made by tools/rows/rule_rows.py.
use Rattle.std.specs.Prelude.{◌≡◌, ℕ, pos, negsuc, true, false, List, [], ◌∷◌, codes, refl}
use Rattle.std.specs.Prelude.{◌^◌, ◌-◌}
use Rattle.std.proofs.Common.{arith, sym}
use Rattle.std.proofs.lemmas.Bool.{false≢true}
use Rattle.std.specs.List.Sorted.{IsStrictlySortedBy}
use Rattle.kishu_language.specs.tokens.Names.{reserved_words}
use Rattle.kishu_meaning.specs.values.Keys as k
use Rattle.kishu_meaning.specs.values.Values.{Value, none, bool, integer, text, range, builtin, class, node, Node, list, tuple, dict, object, exception}
use Rattle.kishu_objects.specs.State.{IsValue, IsKey, IsNode, AreNames, IsState, Stays, Grown, the_same, lists, dicts, objects}

-- ---- values, among two nodes

value_1 : IsValue 2 none
value_1 = tt

value_2 : IsValue 2 (bool true)
value_2 = tt

value_3 : IsValue 2 (integer (pos 0))
value_3 = refl

value_4 : IsValue 2 (integer (negsuc 0))
value_4 = refl

value_5 : IsValue 2 (integer (pos (2 ^ 127 - 1)))
value_5 = refl

no_value_1 : IsValue 2 (integer (pos (2 ^ 127))) → ⊥
no_value_1 = λ h. absurd (false≢true h)

value_6 : IsValue 2 (integer (negsuc (2 ^ 127 - 1)))
value_6 = refl

no_value_2 : IsValue 2 (integer (negsuc (2 ^ 127))) → ⊥
no_value_2 = λ h. absurd (false≢true h)

value_7 : IsValue 2 (text [])
value_7 = refl

value_8 : IsValue 2 (text (0 ∷ 127 ∷ 128 ∷ []))
value_8 = refl

value_9 : IsValue 2 (text (55295 ∷ []))
value_9 = refl

no_value_3 : IsValue 2 (text (55296 ∷ [])) → ⊥
no_value_3 = λ h. absurd (false≢true h)

no_value_4 : IsValue 2 (text (57343 ∷ [])) → ⊥
no_value_4 = λ h. absurd (false≢true h)

value_10 : IsValue 2 (text (57344 ∷ []))
value_10 = refl

value_11 : IsValue 2 (text (1114111 ∷ []))
value_11 = refl

no_value_5 : IsValue 2 (text (1114112 ∷ [])) → ⊥
no_value_5 = λ h. absurd (false≢true h)

no_value_6 : IsValue 2 (text (97 ∷ 56320 ∷ [])) → ⊥
no_value_6 = λ h. absurd (false≢true h)

value_12 : IsValue 2 (range (pos 0) (pos 0) (pos 1))
value_12 = (refl, refl, refl, refl)

value_13 : IsValue 2 (range (pos 5) (pos 0) (negsuc 0))
value_13 = (refl, refl, refl, refl)

no_value_7 : IsValue 2 (range (pos 0) (pos 5) (pos 0)) → ⊥
no_value_7 = λ h. absurd (false≢true (sym h.3))

no_value_8 : IsValue 2 (range (pos (2 ^ 127)) (pos 0) (pos 1)) → ⊥
no_value_8 = λ h. absurd (false≢true h.0)

no_value_9 : IsValue 2 (range (pos 0) (negsuc (2 ^ 127)) (pos 1)) → ⊥
no_value_9 = λ h. absurd (false≢true h.1)

no_value_10 : IsValue 2 (range (pos 0) (pos 0) (pos (2 ^ 127))) → ⊥
no_value_10 = λ h. absurd (false≢true h.2)

value_14 : IsValue 2 (range (negsuc (2 ^ 127 - 1)) (pos (2 ^ 127 - 1)) (negsuc (2 ^ 127 - 1)))
value_14 = (refl, refl, refl, refl)

value_15 : IsValue 2 (builtin 0)
value_15 = omega arith

value_16 : IsValue 2 (builtin 13)
value_16 = omega arith

no_value_11 : IsValue 2 (builtin 14) → ⊥
no_value_11 = λ h. absurd (omega (arith, h))

value_17 : IsValue 2 (class 0)
value_17 = omega arith

value_18 : IsValue 2 (class 24)
value_18 = omega arith

no_value_12 : IsValue 2 (class 25) → ⊥
no_value_12 = λ h. absurd (omega (arith, h))

value_19 : IsValue 2 (node 0)
value_19 = omega arith

value_20 : IsValue 2 (node 1)
value_20 = omega arith

no_value_13 : IsValue 2 (node 2) → ⊥
no_value_13 = λ h. absurd (omega (arith, h))

-- ---- keys

key_1 : IsKey (k.single k.none)
key_1 = tt

key_2 : IsKey (k.single (k.integer (pos (2 ^ 127 - 1))))
key_2 = refl

no_key_1 : IsKey (k.single (k.integer (pos (2 ^ 127)))) → ⊥
no_key_1 = λ h. absurd (false≢true h)

key_3 : IsKey (k.single (k.text (55295 ∷ [])))
key_3 = refl

no_key_2 : IsKey (k.single (k.text (57343 ∷ []))) → ⊥
no_key_2 = λ h. absurd (false≢true h)

key_4 : IsKey (k.tuple [])
key_4 = tt

key_5 : IsKey (k.tuple (k.none ∷ (k.bool true) ∷ (k.text (97 ∷ [])) ∷ []))
key_5 = (tt, (tt, (refl, tt)))

no_key_3 : IsKey (k.tuple ((k.text (97 ∷ [])) ∷ (k.text (56320 ∷ [])) ∷ [])) → ⊥
no_key_3 = λ h. absurd (false≢true h.1.0)

no_key_4 : IsKey (k.tuple ((k.integer (negsuc (2 ^ 127))) ∷ (k.integer (pos 0)) ∷ [])) → ⊥
no_key_4 = λ h. absurd (false≢true h.0)

-- ---- nodes, among two

node_1 : IsNode 2 (list [])
unfolding reserved_words
node_1 = tt

node_2 : IsNode 2 (list (none ∷ (node 1) ∷ []))
unfolding reserved_words
node_2 = (tt, (omega arith, tt))

no_node_1 : IsNode 2 (list (none ∷ (node 2) ∷ [])) → ⊥
unfolding reserved_words
no_node_1 = λ h. absurd (omega (arith, h.1.0))

no_node_2 : IsNode 2 (tuple ((integer (pos (2 ^ 127))) ∷ [])) → ⊥
unfolding reserved_words
no_node_2 = λ h. absurd (false≢true h.0)

node_3 : IsNode 2 (tuple ((text (97 ∷ [])) ∷ []))
unfolding reserved_words
node_3 = (refl, tt)

node_4 : IsNode 2 (dict [])
unfolding reserved_words
node_4 = (tt, tt, tt)

node_5 : IsNode 2 (dict (((k.single (k.integer (pos 1))), none) ∷ ((k.single (k.text (49 ∷ []))), none) ∷ ((k.tuple ((k.integer (pos 1)) ∷ [])), (node 0)) ∷ []))
unfolding reserved_words
node_5 = ((refl, (refl, ((refl, tt), tt))), (refl, (refl, (refl, tt))), (tt, (tt, (omega arith, tt))))

no_node_3 : IsNode 2 (dict (((k.single (k.integer (pos 1))), none) ∷ ((k.single (k.bool true)), none) ∷ [])) → ⊥
unfolding reserved_words
no_node_3 = λ h. absurd (false≢true (sym h.1.0))

no_node_4 : IsNode 2 (dict (((k.tuple ((k.integer (pos 1)) ∷ (k.integer (pos 0)) ∷ [])), none) ∷ ((k.tuple ((k.bool true) ∷ (k.bool false) ∷ [])), (bool true)) ∷ [])) → ⊥
unfolding reserved_words
no_node_4 = λ h. absurd (false≢true (sym h.1.0))

node_6 : IsNode 2 (dict (((k.tuple []), none) ∷ ((k.single k.none), (bool true)) ∷ []))
unfolding reserved_words
node_6 = ((tt, (tt, tt)), (refl, (refl, tt)), (tt, (tt, tt)))

no_node_5 : IsNode 2 (dict (((k.single (k.text (55296 ∷ []))), none) ∷ [])) → ⊥
unfolding reserved_words
no_node_5 = λ h. absurd (false≢true h.0.0)

no_node_6 : IsNode 2 (dict (((k.tuple ((k.integer (pos 1)) ∷ (k.integer (pos (2 ^ 127))) ∷ [])), none) ∷ [])) → ⊥
unfolding reserved_words
no_node_6 = λ h. absurd (false≢true h.0.0.1.0)

no_node_7 : IsNode 2 (dict (((k.single (k.text (97 ∷ []))), none) ∷ ((k.single (k.text (98 ∷ []))), none) ∷ ((k.single (k.text (97 ∷ []))), none) ∷ [])) → ⊥
unfolding reserved_words
no_node_7 = λ h. absurd (false≢true (sym h.1.0))

no_node_8 : IsNode 2 (dict (((k.single (k.text (97 ∷ []))), (node 2)) ∷ [])) → ⊥
unfolding reserved_words
no_node_8 = λ h. absurd (omega (arith, h.2.0))

node_7 : IsNode 2 (object [])
unfolding reserved_words
node_7 = (tt, tt, tt)

node_8 : IsNode 2 (object (((codes "b"), none) ∷ ((codes "a"), (bool true)) ∷ []))
unfolding reserved_words
node_8 = ((refl, (refl, tt)), (refl, (refl, tt)), (tt, (tt, tt)))

no_node_9 : IsNode 2 (object (((codes "a"), none) ∷ ((codes "a"), none) ∷ [])) → ⊥
unfolding reserved_words
no_node_9 = λ h. absurd (false≢true (sym h.1.0))

no_node_10 : IsNode 2 (object (((codes "if"), none) ∷ [])) → ⊥
unfolding reserved_words
no_node_10 = λ h. absurd (false≢true h.0.0)

no_node_11 : IsNode 2 (object (([], none) ∷ [])) → ⊥
unfolding reserved_words
no_node_11 = λ h. absurd (false≢true h.0.0)

no_node_12 : IsNode 2 (object (((codes "1"), none) ∷ [])) → ⊥
unfolding reserved_words
no_node_12 = λ h. absurd (false≢true h.0.0)

no_node_13 : IsNode 2 (object (((codes "a"), (text (55296 ∷ []))) ∷ [])) → ⊥
unfolding reserved_words
no_node_13 = λ h. absurd (false≢true h.2.0)

node_9 : IsNode 2 (exception 8 [])
unfolding reserved_words
node_9 = (refl, tt)

node_10 : IsNode 2 (exception 24 (none ∷ (node 1) ∷ []))
unfolding reserved_words
node_10 = (refl, (tt, (omega arith, tt)))

no_node_14 : IsNode 2 (exception 7 []) → ⊥
unfolding reserved_words
no_node_14 = λ h. absurd (false≢true h.0)

no_node_15 : IsNode 2 (exception 25 []) → ⊥
unfolding reserved_words
no_node_15 = λ h. absurd (false≢true h.0)

no_node_16 : IsNode 2 (exception 16 ((node 2) ∷ [])) → ⊥
unfolding reserved_words
no_node_16 = λ h. absurd (omega (arith, h.1.0))

-- ---- names

names_1 : AreNames 1 []
unfolding reserved_words IsStrictlySortedBy
names_1 = record { titles = tt; rise = tt; values = tt }

names_2 : AreNames 1 (((codes "a"), none) ∷ [])
unfolding reserved_words IsStrictlySortedBy
names_2 = record { titles = (refl, tt); rise = (tt, tt); values = (tt, tt) }

names_3 : AreNames 1 (((codes "Z"), none) ∷ ((codes "_"), (node 0)) ∷ ((codes "a"), none) ∷ [])
unfolding reserved_words IsStrictlySortedBy
names_3 = record { titles = (refl, (refl, (refl, tt))); rise = ((refl, (refl, tt)), ((refl, tt), (tt, tt))); values = (tt, (omega arith, (tt, tt))) }

no_names_1 : AreNames 1 (((codes "b"), none) ∷ ((codes "a"), none) ∷ []) → ⊥
unfolding reserved_words IsStrictlySortedBy
no_names_1 = λ h. (let p = h.rise.0.0 in cc)

no_names_2 : AreNames 1 (((codes "a"), none) ∷ ((codes "a"), none) ∷ []) → ⊥
unfolding reserved_words IsStrictlySortedBy
no_names_2 = λ h. (let p = h.rise.0.0 in cc)

no_names_3 : AreNames 1 (((codes "if"), none) ∷ []) → ⊥
unfolding reserved_words IsStrictlySortedBy
no_names_3 = λ h. absurd (false≢true h.titles.0)

no_names_4 : AreNames 1 (((codes "a"), (node 1)) ∷ []) → ⊥
unfolding reserved_words IsStrictlySortedBy
no_names_4 = λ h. absurd (omega (arith, h.values.0))

no_names_5 : AreNames 1 (((codes "a"), none) ∷ ((codes "b"), (integer (pos (2 ^ 127)))) ∷ []) → ⊥
unfolding reserved_words IsStrictlySortedBy
no_names_5 = λ h. absurd (false≢true h.values.1.0)

names_4 : AreNames 1 (((codes "a"), none) ∷ ((codes "aa"), none) ∷ ((codes "ab"), none) ∷ [])
unfolding reserved_words IsStrictlySortedBy
names_4 = record { titles = (refl, (refl, (refl, tt))); rise = ((refl, (refl, tt)), ((refl, tt), (tt, tt))); values = (tt, (tt, (tt, tt))) }

-- ---- what a node may become, and that old nodes keep their numbers

stays_1 : Stays (list []) (list [])
stays_1 = lists [] []

stays_2 : Stays (dict []) (dict [])
stays_2 = dicts [] []

stays_3 : Stays (object []) (object [])
stays_3 = objects [] []

stays_4 : Stays (list (none ∷ [])) (list [])
stays_4 = lists (none ∷ []) []

stays_5 : Stays (tuple (none ∷ [])) (tuple (none ∷ []))
stays_5 = the_same (tuple (none ∷ []))

tuple_stays : (vs : List Value) (m : Node) → Stays (tuple vs) m → m ≡ tuple vs
tuple_stays vs m (the_same n) = refl

exception_stays : (kind : ℕ) (vs : List Value) (m : Node) → Stays (exception kind vs) m → m ≡ exception kind vs
exception_stays kind vs m (the_same n) = refl

stays_not_1 : Stays (tuple (none ∷ [])) (tuple []) → ⊥
stays_not_1 = λ h. let e = tuple_stays (none ∷ []) (tuple []) h in cc

stays_not_2 : Stays (tuple []) (list []) → ⊥
stays_not_2 = λ h. let e = tuple_stays [] (list []) h in cc

stays_not_3 : Stays (exception 8 []) (exception 8 (none ∷ [])) → ⊥
stays_not_3 = λ h. let e = exception_stays 8 [] (exception 8 (none ∷ [])) h in cc

grown_1 : Grown [] (list [] ∷ [])
grown_1 = tt

grown_2 : Grown (list [] ∷ tuple [] ∷ []) (list (none ∷ []) ∷ tuple [] ∷ dict [] ∷ [])
grown_2 = (lists [] (none ∷ []), (the_same (tuple []), tt))

grown_not_1 : Grown (list [] ∷ []) [] → ⊥
grown_not_1 = λ h. h

grown_not_2 : Grown (tuple [] ∷ []) (list [] ∷ tuple [] ∷ []) → ⊥
grown_not_2 = λ h. let e = tuple_stays [] (list []) h.0 in cc

-- ---- states

state_1 : IsState (record { names = []; nodes = [] })
unfolding reserved_words IsStrictlySortedBy
state_1 = record { names = record { titles = tt; rise = tt; values = tt }; nodes = tt }

state_2 : IsState (record { names = (((codes "a"), (node 0)) ∷ []); nodes = ((list ((node 0) ∷ [])) ∷ []) })
unfolding reserved_words IsStrictlySortedBy
state_2 = record { names = record { titles = (refl, tt); rise = (tt, tt); values = (omega arith, tt) }; nodes = ((omega arith, tt), tt) }

state_3 : IsState (record { names = []; nodes = ((tuple []) ∷ (exception 9 []) ∷ []) })
unfolding reserved_words IsStrictlySortedBy
state_3 = record { names = record { titles = tt; rise = tt; values = tt }; nodes = (tt, ((refl, tt), tt)) }

no_state_1 : IsState (record { names = (((codes "a"), (node 1)) ∷ []); nodes = ((list []) ∷ []) }) → ⊥
unfolding reserved_words IsStrictlySortedBy
no_state_1 = λ h. absurd (omega (arith, h.names.values.0))

no_state_2 : IsState (record { names = (((codes "a"), (node 0)) ∷ []); nodes = [] }) → ⊥
unfolding reserved_words IsStrictlySortedBy
no_state_2 = λ h. absurd (omega (arith, h.names.values.0))

no_state_3 : IsState (record { names = []; nodes = ((list ((node 1) ∷ [])) ∷ []) }) → ⊥
unfolding reserved_words IsStrictlySortedBy
no_state_3 = λ h. absurd (omega (arith, h.nodes.0.0))

no_state_4 : IsState (record { names = (((codes "a"), none) ∷ []); nodes = ((exception 7 []) ∷ []) }) → ⊥
unfolding reserved_words IsStrictlySortedBy
no_state_4 = λ h. absurd (false≢true h.nodes.0.0)
