-- What stands in a node of a kind, and changes of one node, keep node numbers below a bound.
use Rattle.std.specs.Prelude.{ℕ, List, map, [], ◌∷◌, ℤ, Option, Some, None, option_and_then, slice_get, zero, suc}
use Rattle.kishu_meaning.specs.calls.Operators.{list_from, tuple_from}
use Rattle.kishu_meaning.specs.items.Walks.{or_none_there}
use Rattle.kishu_meaning.specs.values.Keys.{Key}
use Rattle.kishu_meaning.specs.values.Nodes.{on_list, on_dict, on_object, dict_in}
use Rattle.kishu_meaning.specs.values.Values.{Value, Node, list, tuple, dict, object, function, exception, text, integer}
use Rattle.kishu_soundness_laws.specs.Below.{AllBelow, NodeBelow, EntriesBelow, Maybe, Below}

pub on_list_below : (k : ℕ) (f : List Value → List Value) → ((vs : List Value) → AllBelow k vs → AllBelow k (f vs)) → (n : Node) → NodeBelow k n → NodeBelow k (on_list f n)
on_list_below k f h (list vs) p = h vs p
on_list_below k f h (tuple vs) p = p
on_list_below k f h (dict es) p = p
on_list_below k f h (object es) p = p
on_list_below k f h (function profile code vs) p = p
on_list_below k f h (exception kind vs) p = p

pub on_dict_below : (k : ℕ) (f : List (Key × Value) → List (Key × Value)) → ((es : List (Key × Value)) → EntriesBelow k es → EntriesBelow k (f es)) → (n : Node) → NodeBelow k n → NodeBelow k (on_dict f n)
on_dict_below k f h (list vs) p = p
on_dict_below k f h (tuple vs) p = p
on_dict_below k f h (dict es) p = h es p
on_dict_below k f h (object es) p = p
on_dict_below k f h (function profile code vs) p = p
on_dict_below k f h (exception kind vs) p = p

pub on_object_below : (k : ℕ) (f : List (List ℕ × Value) → List (List ℕ × Value)) → ((es : List (List ℕ × Value)) → EntriesBelow k es → EntriesBelow k (f es)) → (n : Node) → NodeBelow k n → NodeBelow k (on_object f n)
on_object_below k f h (list vs) p = p
on_object_below k f h (tuple vs) p = p
on_object_below k f h (dict es) p = p
on_object_below k f h (object es) p = h es p
on_object_below k f h (function profile code vs) p = p
on_object_below k f h (exception kind vs) p = p

pub texts_below : (k : ℕ) (cs : List ℕ) → AllBelow k (map (λ c. text (c ∷ [])) cs)
texts_below k [] = tt
texts_below k (c ∷ cs) = (tt, texts_below k cs)

pub parts_below : (k : ℕ) (ps : List (List ℕ)) → AllBelow k (map text ps)
parts_below k [] = tt
parts_below k (p ∷ ps) = (tt, parts_below k ps)

pub integers_below : (k : ℕ) (zs : List ℤ) → AllBelow k (map integer zs)
integers_below k [] = tt
integers_below k (z ∷ zs) = (tt, integers_below k zs)

abbrev pub MaybeBelow : ℕ → Option Value → Type 0
MaybeBelow l = Maybe (Below l)

pub list_maybe : (k : ℕ) (o : Option Node) → Maybe (NodeBelow k) o → Maybe (AllBelow k) (list_from o)
list_maybe k (Some (list vs)) h = h
list_maybe k (Some (tuple vs)) h = tt
list_maybe k (Some (dict es)) h = tt
list_maybe k (Some (object es)) h = tt
list_maybe k (Some (function profile code vs)) h = tt
list_maybe k (Some (exception kind vs)) h = tt
list_maybe k None h = tt

pub tuple_maybe : (k : ℕ) (o : Option Node) → Maybe (NodeBelow k) o → Maybe (AllBelow k) (tuple_from o)
tuple_maybe k (Some (list vs)) h = tt
tuple_maybe k (Some (tuple vs)) h = h
tuple_maybe k (Some (dict es)) h = tt
tuple_maybe k (Some (object es)) h = tt
tuple_maybe k (Some (function profile code vs)) h = tt
tuple_maybe k (Some (exception kind vs)) h = tt
tuple_maybe k None h = tt

pub none_list : (k : ℕ) (o : Option Node) → Maybe (NodeBelow k) o → AllBelow k (or_none_there (list_from o))
none_list k (Some (list vs)) h = h
none_list k (Some (tuple vs)) h = tt
none_list k (Some (dict es)) h = tt
none_list k (Some (object es)) h = tt
none_list k (Some (function profile code vs)) h = tt
none_list k (Some (exception kind vs)) h = tt
none_list k None h = tt

pub none_dict : (k : ℕ) (o : Option Node) → Maybe (NodeBelow k) o → EntriesBelow k (or_none_there (option_and_then dict_in o))
none_dict k (Some (list vs)) h = tt
none_dict k (Some (tuple vs)) h = tt
none_dict k (Some (dict es)) h = h
none_dict k (Some (object es)) h = tt
none_dict k (Some (function profile code vs)) h = tt
none_dict k (Some (exception kind vs)) h = tt
none_dict k None h = tt

pub entry_get : (k : ℕ) (es : List (Key × Value)) (i : ℕ) → EntriesBelow k es → Maybe (λ (e : Key × Value). Below k e.1) (slice_get es i)
entry_get k [] i h = tt
entry_get k (e ∷ es) zero h = h.0
entry_get k (e ∷ es) (suc i) h = entry_get k es i h.1

pub dict_maybe : (k : ℕ) (o : Option Node) → Maybe (NodeBelow k) o → Maybe (λ (es : List (Key × Value)). EntriesBelow k es) (option_and_then dict_in o)
dict_maybe k (Some (list vs)) h = tt
dict_maybe k (Some (tuple vs)) h = tt
dict_maybe k (Some (dict es)) h = h
dict_maybe k (Some (object es)) h = tt
dict_maybe k (Some (function profile code vs)) h = tt
dict_maybe k (Some (exception kind vs)) h = tt
dict_maybe k None h = tt
