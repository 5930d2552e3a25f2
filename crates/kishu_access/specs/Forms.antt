-- Forms that the code's functions have, where they cut a rule of the language into parts.
use Rattle.std.specs.Prelude.{ℕ, Bool, true, false, if◌then◌else◌, List, slice_get, codes, Option, Some, None, option_and_then}
use Rattle.std.specs.Str.{bytes_eq}
use Rattle.kishu_meaning.specs.values.Values.{Value, node, Node, list, tuple, dict, object, function, exception}
use Rattle.kishu_meaning.specs.moments.Moment.{M, ◌>>=◌, give}
use Rattle.kishu_meaning.specs.items.Subscripts.{picked}

-- what stands at the places of a slice, where there are items
abbrev pub maybe_picked : Option (List Value) → Value → Value → Value → M (Option (List Value))
maybe_picked (Some vs) start stop step = picked vs start stop step >>= λ ws. give (Some ws)
maybe_picked None start stop step = give None

-- the items of a list or a tuple
abbrev pub items_from : Option Node → Option (List Value)
items_from (Some (list vs)) = Some vs
items_from (Some (tuple vs)) = Some vs
items_from _ = None

abbrev pub is_dict : Option Node → Bool
is_dict (Some (dict es)) = true
is_dict _ = false

abbrev pub is_object : Option Node → Bool
is_object (Some (object as')) = true
is_object _ = false

abbrev pub arguments_in : Node → Option (List Value)
arguments_in (list vs) = None
arguments_in (tuple vs) = None
arguments_in (dict es) = None
arguments_in (object as') = None
arguments_in (function profile code vs) = None
arguments_in (exception kind vs) = Some vs

-- the arguments of an exception, under their name
abbrev pub arguments_at : List ℕ → Option Node → Option (List Value)
arguments_at x o = if bytes_eq x (codes "args") then option_and_then arguments_in o else None

abbrev pub number_if_list : ℕ → Option Node → Option ℕ
number_if_list i (Some (list vs)) = Some i
number_if_list i _ = None

abbrev pub number_if_dict : ℕ → Option Node → Option ℕ
number_if_dict i (Some (dict es)) = Some i
number_if_dict i _ = None

-- the number of a value that is a list, and of one that is a dict
abbrev pub list_number : List Node → Value → Option ℕ
list_number ns (node i) = number_if_list i (slice_get ns i)
list_number ns _ = None

abbrev pub dict_number : List Node → Value → Option ℕ
dict_number ns (node i) = number_if_dict i (slice_get ns i)
dict_number ns _ = None
