-- A value as a key, and a key as a value, keep node numbers those of nodes.
use Rattle.std.specs.Prelude.{ℕ, List, map, [], ◌∷◌, Option, Some, length, None, option_and_then}
use Rattle.kishu_meaning.specs.items.KeyOf.{value_of_part, parts_of, part_in, tuple_key, key_by, key_of_value, value_of_key, values_of_keys}
use Rattle.kishu_meaning.specs.moments.Moment.{node_at}
use Rattle.kishu_meaning.specs.values.Keys as kk
use Rattle.kishu_meaning.specs.values.Keys.{KeyPart, Key}
use Rattle.kishu_meaning.specs.values.Nodes.{tuple_in}
use Rattle.kishu_meaning.specs.values.Values.{Value, tuple}
use Rattle.kishu_soundness_laws.specs.Below.{Below, AllBelow, Any}
use Rattle.kishu_soundness_laws.specs.BelowLaws.{below_later}
use Rattle.kishu_soundness_laws.specs.moments.Steps.{IsSafe, any_safe, plain_safe, any_else_safe, then_safe, spend_safe, look_any, value_safe, list_safe, bind_safe}
use Rattle.kishu_soundness_laws.specs.moments.Heap.{make_safe}
use Rattle.kishu_soundness_laws.specs.values.Kinds.{unhashable_safe}

part_below : (k : ℕ) (p : KeyPart) → Below k (value_of_part p)
part_below k kk.none = tt
part_below k (kk.bool b) = tt
part_below k (kk.integer z) = tt
part_below k (kk.text cs) = tt

key_parts_below : (k : ℕ) (ps : List KeyPart) → AllBelow k (map value_of_part ps)
key_parts_below k [] = tt
key_parts_below k (p ∷ ps) = (part_below k p, key_parts_below k ps)

module _ {k : ℕ} where
  parts_safe : (vs : List Value) → IsSafe k Any (parts_of vs)
  parts_safe [] = any_safe
  parts_safe (v ∷ vs) = plain_safe (any_else_safe (part_in v) (unhashable_safe v)) (λ p. plain_safe (parts_safe vs) (λ ps. any_safe))

  tuple_key_safe : (v : Value) (o : Option (List Value)) → IsSafe k Any (tuple_key v o)
  tuple_key_safe v (Some vs) = plain_safe (then_safe (spend_safe (length vs)) (parts_safe vs)) (λ ps. any_safe)
  tuple_key_safe v None = unhashable_safe v

  key_by_safe : (v : Value) (o : Option KeyPart) → IsSafe k Any (key_by v o)
  key_by_safe v (Some p) = any_safe
  key_by_safe v None = plain_safe (look_any (λ ns. option_and_then tuple_in (node_at ns v))) (λ o. tuple_key_safe v o)

  pub key_safe : (v : Value) → IsSafe k Any (key_of_value v)
  key_safe v = key_by_safe v (part_in v)

  pub value_of_key_safe : (key : Key) → IsSafe k Below (value_of_key key)
  value_of_key_safe (kk.single p) = value_safe (value_of_part p) (part_below k p)
  value_of_key_safe (kk.tuple ps) = then_safe (spend_safe (length ps)) (make_safe (tuple (map value_of_part ps)) (key_parts_below k ps))

pub values_of_keys_safe : {k : ℕ} (ks : List Key) → IsSafe k AllBelow (values_of_keys ks)
values_of_keys_safe [] = list_safe [] tt
values_of_keys_safe (key ∷ ks) = bind_safe (value_of_key_safe key) (λ n le v q. bind_safe (values_of_keys_safe ks) (λ m le' vs r. list_safe (v ∷ vs) (below_later n m le' v q, r)))
