-- What vectors and options of the code's values stand for.
use Rattle.std.specs.Prelude.{◌≡◌, refl, ℕ, Bool, true, false, ◌&&◌, List, map, Option, Some, None, option_map}
use Rattle.std.specs.Borrow.{Bor}
use Rattle.std.specs.Option.{option_copied}
use Rattle.std.specs.List.{list_all}
use Rattle.std.specs.Str.{chars}
use Rattle.std.specs.String.{string_bytes}
use Rattle.std.specs.declared.alloc.Global.{Global}
use Rattle.std.specs.declared.string.String.{String}
use Rattle.std.specs.declared.vec.Vec.{Vec}
use Rattle.kishu_meaning.specs.declared.value.Value as rust
use Rattle.kishu_meaning.specs.values.Values.{Value, none, bool, integer, text, range, builtin, class, node, value_of}
use Rattle.kishu_meaning.specs.values.Sound.{is_sound, are_sound}

abbrev pub value_pairs : Vec (rust.Value × rust.Value) Global → List (Value × Value)
value_pairs v = map (λ p. (value_of p.0, value_of p.1)) v.items

abbrev pub items_in : Option (Vec rust.Value Global) → Option (List Value)
items_in None = None
items_in (Some v) = Some (map value_of v.items)

abbrev pub values_in : Option rust.Value → Option Value
values_in None = None
values_in (Some v) = Some (value_of v)

abbrev pub string_texts : Vec (String Global) Global → List (List ℕ)
string_texts v = map (λ t. chars (string_bytes t)) v.items

abbrev pub are_sound_pairs : ℕ → List (Value × Value) → Bool
are_sound_pairs n = list_all (λ p. is_sound n p.0 && is_sound n p.1)

abbrev pub is_node : Value → Bool
is_node none = false
is_node (bool b) = false
is_node (integer z) = false
is_node (text cs) = false
is_node (range a b c) = false
is_node (builtin n) = false
is_node (class n) = false
is_node (node i) = true

-- the items, and the value, where there are some
abbrev pub are_sound_in : ℕ → Option (List Value) → Bool
are_sound_in n None = true
are_sound_in n (Some vs) = are_sound n vs

abbrev pub is_sound_in : ℕ → Option Value → Bool
is_sound_in n None = true
is_sound_in n (Some v) = is_sound n v

-- a value that is lent, and that value
pub copied_value : (o : Option (Bor rust.Value)) → option_map (λ v. value_of v.now) o ≡ option_map value_of (option_copied o)
copied_value None = refl
copied_value (Some v) = refl
