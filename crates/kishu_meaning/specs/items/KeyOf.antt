-- A value as a key of a dict, and a key as a value (Python Language Reference 3, "Dictionary displays" and "Subscriptions"; Library Reference, "Mapping Types").
use Rattle.std.specs.Prelude.{List, [], ◌∷◌, length, map, Option, Some, None, option_and_then}
use Rattle.kishu_meaning.specs.values.Keys as k
use Rattle.kishu_meaning.specs.values.Keys.{KeyPart, Key}
use Rattle.kishu_meaning.specs.values.Values.{Value, none, bool, integer, text, range, builtin, class, node, tuple}
use Rattle.kishu_meaning.specs.values.Nodes.{tuple_in}
use Rattle.kishu_meaning.specs.values.Kinds.{unhashable}
use Rattle.kishu_meaning.specs.moments.Moment.{M, ◌>>=◌, ◌>>◌, give, or_else, spend, look, make, node_at}

-- ---- a value as a key

-- None, a bool, a whole number or a text
abbrev pub part_in : Value → Option KeyPart
part_in none = Some k.none
part_in (bool b) = Some (k.bool b)
part_in (integer z) = Some (k.integer z)
part_in (text cs) = Some (k.text cs)
part_in (range a b c) = None
part_in (builtin n) = None
part_in (class n) = None
part_in (node i) = None

abbrev pub parts_of : List Value → M (List KeyPart)
parts_of [] = give []
parts_of (v ∷ vs) = or_else (unhashable v) (part_in v) >>= λ p. parts_of vs >>= λ ps. give (p ∷ ps)

-- A tuple that is made into a key takes its length.
abbrev pub tuple_key : Value → Option (List Value) → M Key
tuple_key v (Some vs) = spend (length vs) >> parts_of vs >>= λ ps. give (k.tuple ps)
tuple_key v None = unhashable v

abbrev pub key_by : Value → Option KeyPart → M Key
key_by v (Some p) = give (k.single p)
key_by v None = look (λ ns. option_and_then tuple_in (node_at ns v)) >>= tuple_key v

abbrev pub key_of_value : Value → M Key
key_of_value v = key_by v (part_in v)

-- ---- a key as a value

abbrev pub value_of_part : KeyPart → Value
value_of_part k.none = none
value_of_part (k.bool b) = bool b
value_of_part (k.integer z) = integer z
value_of_part (k.text cs) = text cs

-- A tuple is a new node each time, and takes its length.
abbrev pub value_of_key : Key → M Value
value_of_key (k.single p) = give (value_of_part p)
value_of_key (k.tuple ps) = spend (length ps) >> make (tuple (map value_of_part ps))

-- in order
abbrev pub values_of_keys : List Key → M (List Value)
values_of_keys [] = give []
values_of_keys (key ∷ keys) = value_of_key key >>= λ v. values_of_keys keys >>= λ vs. give (v ∷ vs)
