-- What can be written as bytes, and what can't: computed on the definitions. Made by tools/rows/rule_rows.py.
use Rattle.std.specs.Prelude.{pos, negsuc, true, false, [], ◌∷◌, codes, refl}
use Rattle.std.specs.Prelude.{◌^◌, ◌-◌}
use Rattle.std.proofs.Common.{arith}
use Rattle.std.proofs.lemmas.Bool.{false≢true}
use Rattle.std.specs.Char.{encode_utf8}
use Rattle.kishu_language.specs.declared.profile.Profile.TheVariants.{One}
use Rattle.kishu_meaning.specs.values.Keys as k
use Rattle.kishu_meaning.specs.values.Values.{none, bool, integer, text, range, builtin, class, node, list, tuple, dict, object, function, exception}
use Rattle.kishu_objects.specs.Fits.{ValueFits, PartFits, KeyFits, NodeFits, StateFits}

-- ---- values and parts of keys

value_1 : ValueFits (integer (pos 0))
value_1 = record { sfits = omega arith }

part_1 : PartFits (k.integer (pos 0))
part_1 = record { sfits = omega arith }

value_2 : ValueFits (integer (pos (2 ^ 127 - 1)))
value_2 = record { sfits = omega arith }

part_2 : PartFits (k.integer (pos (2 ^ 127 - 1)))
part_2 = record { sfits = omega arith }

no_value_1 : ValueFits (integer (pos (2 ^ 127))) → ⊥
no_value_1 = λ h. absurd (omega (arith, h.sfits))

no_part_1 : PartFits (k.integer (pos (2 ^ 127))) → ⊥
no_part_1 = λ h. absurd (omega (arith, h.sfits))

value_3 : ValueFits (integer (negsuc (2 ^ 127 - 1)))
value_3 = record { sfits = omega arith }

part_3 : PartFits (k.integer (negsuc (2 ^ 127 - 1)))
part_3 = record { sfits = omega arith }

no_value_2 : ValueFits (integer (negsuc (2 ^ 127))) → ⊥
no_value_2 = λ h. absurd (omega (arith, h.sfits))

no_part_2 : PartFits (k.integer (negsuc (2 ^ 127))) → ⊥
no_part_2 = λ h. absurd (omega (arith, h.sfits))

value_4 : ValueFits (text [])
unfolding encode_utf8
value_4 = (refl, omega arith)

part_4 : PartFits (k.text [])
unfolding encode_utf8
part_4 = (refl, omega arith)

value_5 : ValueFits (text (97 ∷ 233 ∷ 8364 ∷ 128512 ∷ []))
unfolding encode_utf8
value_5 = (refl, omega arith)

part_5 : PartFits (k.text (97 ∷ 233 ∷ 8364 ∷ 128512 ∷ []))
unfolding encode_utf8
part_5 = (refl, omega arith)

value_6 : ValueFits (text (55295 ∷ 57344 ∷ 1114111 ∷ []))
unfolding encode_utf8
value_6 = (refl, omega arith)

part_6 : PartFits (k.text (55295 ∷ 57344 ∷ 1114111 ∷ []))
unfolding encode_utf8
part_6 = (refl, omega arith)

no_value_3 : ValueFits (text (55296 ∷ [])) → ⊥
unfolding encode_utf8
no_value_3 = λ h. absurd (false≢true h.0)

no_part_3 : PartFits (k.text (55296 ∷ [])) → ⊥
unfolding encode_utf8
no_part_3 = λ h. absurd (false≢true h.0)

no_value_4 : ValueFits (text (97 ∷ 57343 ∷ [])) → ⊥
unfolding encode_utf8
no_value_4 = λ h. absurd (false≢true h.0)

no_part_4 : PartFits (k.text (97 ∷ 57343 ∷ [])) → ⊥
unfolding encode_utf8
no_part_4 = λ h. absurd (false≢true h.0)

no_value_5 : ValueFits (text (1114112 ∷ [])) → ⊥
unfolding encode_utf8
no_value_5 = λ h. absurd (false≢true h.0)

no_part_5 : PartFits (k.text (1114112 ∷ [])) → ⊥
unfolding encode_utf8
no_part_5 = λ h. absurd (false≢true h.0)

value_7 : ValueFits (range (pos 0) (pos 0) (pos 0))
value_7 = (record { sfits = omega arith }, record { sfits = omega arith }, record { sfits = omega arith })

value_8 : ValueFits (range (pos (2 ^ 127 - 1)) (negsuc (2 ^ 127 - 1)) (pos 1))
value_8 = (record { sfits = omega arith }, record { sfits = omega arith }, record { sfits = omega arith })

no_value_6 : ValueFits (range (pos (2 ^ 127)) (pos 0) (pos 1)) → ⊥
no_value_6 = λ h. absurd (omega (arith, h.0.sfits))

no_value_7 : ValueFits (range (pos 0) (negsuc (2 ^ 127)) (pos 1)) → ⊥
no_value_7 = λ h. absurd (omega (arith, h.1.sfits))

no_value_8 : ValueFits (range (pos 0) (pos 0) (pos (2 ^ 127))) → ⊥
no_value_8 = λ h. absurd (omega (arith, h.2.sfits))

value_9 : ValueFits (node 0)
value_9 = omega arith

value_10 : ValueFits (node 4294967295)
value_10 = omega arith

no_value_9 : ValueFits (node 4294967296) → ⊥
no_value_9 = λ h. absurd (omega (arith, h))

value_11 : ValueFits none
value_11 = tt

value_12 : ValueFits (bool false)
value_12 = tt

value_13 : ValueFits (builtin 99)
value_13 = tt

value_14 : ValueFits (class 99)
value_14 = tt

part_7 : PartFits k.none
part_7 = tt

part_8 : PartFits (k.bool true)
part_8 = tt

-- ---- keys, nodes and states

key_1 : KeyFits (k.tuple [])
key_1 = (omega arith, tt)

key_2 : KeyFits (k.tuple ((k.integer (pos 1)) ∷ []))
key_2 = (omega arith, (record { sfits = omega arith }, tt))

no_key_1 : KeyFits (k.tuple ((k.integer (pos 1)) ∷ (k.integer (pos (2 ^ 127))) ∷ [])) → ⊥
no_key_1 = λ h. absurd (omega (arith, h.1.1.0.sfits))

no_key_2 : KeyFits (k.single (k.integer (pos (2 ^ 127)))) → ⊥
no_key_2 = λ h. absurd (omega (arith, h.sfits))

node_1 : NodeFits (list [])
node_1 = (omega arith, tt)

node_2 : NodeFits (list ((integer (pos 1)) ∷ none ∷ []))
node_2 = (omega arith, (record { sfits = omega arith }, (tt, tt)))

no_node_1 : NodeFits (list (none ∷ (integer (pos (2 ^ 127))) ∷ [])) → ⊥
no_node_1 = λ h. absurd (omega (arith, h.1.1.0.sfits))

node_3 : NodeFits (tuple [])
node_3 = (omega arith, tt)

node_4 : NodeFits (tuple ((integer (pos 1)) ∷ none ∷ []))
node_4 = (omega arith, (record { sfits = omega arith }, (tt, tt)))

no_node_2 : NodeFits (tuple (none ∷ (integer (pos (2 ^ 127))) ∷ [])) → ⊥
no_node_2 = λ h. absurd (omega (arith, h.1.1.0.sfits))

node_5 : NodeFits (exception 8 [])
node_5 = (omega arith, tt)

node_6 : NodeFits (exception 8 ((integer (pos 1)) ∷ none ∷ []))
node_6 = (omega arith, (record { sfits = omega arith }, (tt, tt)))

no_node_3 : NodeFits (exception 8 (none ∷ (integer (pos (2 ^ 127))) ∷ [])) → ⊥
no_node_3 = λ h. absurd (omega (arith, h.1.1.0.sfits))

node_7 : NodeFits (exception 300 [])
node_7 = (omega arith, tt)

node_8 : NodeFits (exception 300 ((integer (pos 1)) ∷ none ∷ []))
node_8 = (omega arith, (record { sfits = omega arith }, (tt, tt)))

no_node_4 : NodeFits (exception 300 (none ∷ (integer (pos (2 ^ 127))) ∷ [])) → ⊥
no_node_4 = λ h. absurd (omega (arith, h.1.1.0.sfits))

node_9 : NodeFits (dict ((k.single (k.integer (pos 1)), (integer (pos 1))) ∷ []))
node_9 = (omega arith, ((record { sfits = omega arith }, record { sfits = omega arith }), tt))

node_10 : NodeFits (object ((codes "if", (integer (pos 1))) ∷ []))
node_10 = (omega arith, (record { sfits = omega arith }, tt))

node_11 : NodeFits (function One (codes "f") ((integer (pos 1)) ∷ []))
node_11 = (omega arith, (omega arith, (record { sfits = omega arith }, tt)))

no_node_5 : NodeFits (dict ((k.single (k.integer (pos 1)), (integer (pos (2 ^ 127)))) ∷ [])) → ⊥
no_node_5 = λ h. absurd (omega (arith, h.1.0.1.sfits))

no_node_6 : NodeFits (object ((codes "if", (integer (pos (2 ^ 127)))) ∷ [])) → ⊥
no_node_6 = λ h. absurd (omega (arith, h.1.0.sfits))

no_node_7 : NodeFits (function One (codes "f") ((integer (pos (2 ^ 127))) ∷ [])) → ⊥
no_node_7 = λ h. absurd (omega (arith, h.1.1.0.sfits))

no_node_8 : NodeFits (dict ((k.single (k.integer (pos (2 ^ 127))), none) ∷ [])) → ⊥
no_node_8 = λ h. absurd (omega (arith, h.1.0.0.sfits))

state_1 : StateFits (record { names = []; nodes = [] })
state_1 = ((omega arith, tt), (omega arith, tt))

state_2 : StateFits (record { names = ((codes "a", (integer (pos 1))) ∷ []); nodes = ((list ((integer (pos 1)) ∷ [])) ∷ []) })
state_2 = ((omega arith, (record { sfits = omega arith }, tt)), (omega arith, ((omega arith, (record { sfits = omega arith }, tt)), tt)))

no_state_1 : StateFits (record { names = ((codes "a", (integer (pos (2 ^ 127)))) ∷ []); nodes = [] }) → ⊥
no_state_1 = λ h. absurd (omega (arith, h.0.1.0.sfits))

no_state_2 : StateFits (record { names = []; nodes = ((list ((integer (pos (2 ^ 127))) ∷ [])) ∷ []) }) → ⊥
no_state_2 = λ h. absurd (omega (arith, h.1.1.0.1.0.sfits))
