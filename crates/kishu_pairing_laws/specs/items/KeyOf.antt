-- A value as a key, and a key as a value, on both sides.
use Rattle.std.specs.Prelude.{◌≡◌, List, Option, option_and_then, Some, None, map, [], ◌∷◌, length}
use Rattle.std.proofs.Common.{refl, subst}
use Rattle.kishu_meaning.specs.items.KeyOf.{part_in, parts_of, tuple_key, key_by, key_of_value, value_of_part, value_of_key, values_of_keys}
use Rattle.kishu_meaning.specs.moments.Moment.{look, node_at}
use Rattle.kishu_meaning.specs.values.Keys as k
use Rattle.kishu_meaning.specs.values.Keys.{KeyPart, Key}
use Rattle.kishu_meaning.specs.values.Nodes.{tuple_in}
use Rattle.kishu_meaning.specs.values.Values.{Value, none, bool, integer, text}
use Rattle.kishu_pairing_laws.specs.World.{World, SameValue, plain, paired, SameValues, GoQuietly, Is, nil, cons, BothOrNeither, both, neither, tuples}
use Rattle.kishu_pairing_laws.specs.moments.Steps.{give_quiet, bind_is, or_else_quiet, then_quiet, spend_is, look_quiet, bind_quiet, spend_quiet}
use Rattle.kishu_pairing_laws.specs.values.Lists.{opt_itself, zip_length}
use Rattle.kishu_pairing_laws.specs.moments.Heap.{node_of, make_quiet}
use Rattle.kishu_pairing_laws.specs.values.Nodes.{tuple_there}
use Rattle.kishu_pairing_laws.specs.values.Kinds.{unhashable_quiet}

module _ (W : World) where
  parts_in : {v w : Value} → SameValue W v w → part_in v ≡ part_in w
  parts_in (plain v p) = refl
  parts_in (paired i j p) = refl

  parts_quiet : {vs ws : List Value} → SameValues W vs ws → GoQuietly W Is (parts_of vs) (parts_of ws)
  parts_quiet nil = give_quiet W refl
  parts_quiet (cons {a = v} {b = w} vw z) =
      bind_is W (or_else_quiet W (unhashable_quiet W vw) (subst (λ o. BothOrNeither Is (part_in v) o) (parts_in vw) (opt_itself Is (λ a. refl) (part_in v)))) (λ p. bind_is W (parts_quiet z) (λ ps. give_quiet W refl))

  tuple_key_quiet : {v w : Value} {o p : Option (List Value)} → SameValue W v w → BothOrNeither (SameValues W) o p → GoQuietly W Is (tuple_key v o) (tuple_key w p)
  tuple_key_quiet vw (both z) = bind_is W (then_quiet W (spend_is W (zip_length z)) (parts_quiet z)) (λ ps. give_quiet W refl)
  tuple_key_quiet vw neither = unhashable_quiet W vw

  tuple_now_quiet : {v w : Value} → SameValue W v w → GoQuietly W (BothOrNeither (SameValues W)) (look (λ ns. option_and_then tuple_in (node_at ns v))) (look (λ ns. option_and_then tuple_in (node_at ns w)))
  tuple_now_quiet vw = look_quiet W _ _ (λ s t st. tuple_there W (node_of W vw st))

  key_by_quiet : (o : Option KeyPart) {v w : Value} → SameValue W v w → GoQuietly W Is (key_by v o) (key_by w o)
  key_by_quiet (Some p) vw = give_quiet W refl
  key_by_quiet None vw = bind_quiet W (tuple_now_quiet vw) (λ o p op. tuple_key_quiet vw op)

  pub key_quiet : {v w : Value} → SameValue W v w → GoQuietly W Is (key_of_value v) (key_of_value w)
  key_quiet {v = v} {w = w} vw = subst (λ o. GoQuietly W Is (key_of_value v) (key_by w o)) (parts_in vw) (key_by_quiet (part_in v) vw)

  part_value : (p : KeyPart) → SameValue W (value_of_part p) (value_of_part p)
  part_value k.none = plain none tt
  part_value (k.bool b) = plain (bool b) tt
  part_value (k.integer z) = plain (integer z) tt
  part_value (k.text cs) = plain (text cs) tt

  part_values : (ps : List KeyPart) → SameValues W (map value_of_part ps) (map value_of_part ps)
  part_values [] = nil
  part_values (p ∷ ps) = cons (part_value p) (part_values ps)

  pub value_of_key_quiet : (key : Key) → GoQuietly W (SameValue W) (value_of_key key) (value_of_key key)
  value_of_key_quiet (k.single p) = give_quiet W (part_value p)
  value_of_key_quiet (k.tuple ps) = then_quiet W (spend_quiet W (length ps)) (make_quiet W (tuples (part_values ps)))

  pub values_of_keys_quiet : (keys : List Key) → GoQuietly W (SameValues W) (values_of_keys keys) (values_of_keys keys)
  values_of_keys_quiet [] = give_quiet W nil
  values_of_keys_quiet (key ∷ keys) = bind_quiet W (value_of_key_quiet key) (λ v w vw. bind_quiet W (values_of_keys_quiet keys) (λ vs ws z. give_quiet W (cons vw z)))
