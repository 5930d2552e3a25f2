-- Where a value leads: the children of a node, and what a path reaches (Python Language Reference 3, "Objects, values and types").
use Rattle.std.specs.Prelude.{ℕ, List, [], ◌∷◌, map, get_or, slice_get, Option, None, option_and_then}
use Rattle.kishu_meaning.specs.values.Values.{Value, node, Node, list, tuple, dict, object, function, exception, State, find}

-- the items of a list or a tuple, the values of a dict or an object, the defaults of a function, the arguments of an exception
abbrev pub children : Node → List Value
children (list vs) = vs
children (tuple vs) = vs
children (dict es) = map (λ e. e.1) es
children (object as') = map (λ a. a.1) as'
children (function profile code vs) = vs
children (exception kind vs) = vs

-- the node, with each child replaced by what f gives for it
abbrev pub each_child : (Value → Value) → Node → Node
each_child f (list vs) = list (map f vs)
each_child f (tuple vs) = tuple (map f vs)
each_child f (dict es) = dict (map (λ e. (e.0, f e.1)) es)
each_child f (object as') = object (map (λ a. (a.0, f a.1)) as')
each_child f (function profile code vs) = function profile code (map f vs)
each_child f (exception kind vs) = exception kind (map f vs)

-- the node of this number; an empty list, where there is none
abbrev pub node_at : List Node → ℕ → Node
node_at nodes i = get_or nodes i (list [])

-- the child of this number, where the value is a node that has so many
abbrev pub child : List Node → ℕ → Value → Option Value
child nodes c (node i) = slice_get (children (node_at nodes i)) c
child nodes c v = None

-- What a path reaches from a value. A path is the numbers of the children that it takes; its last step stands first.
abbrev pub along : List Node → Option Value → List ℕ → Option Value
along nodes v [] = v
along nodes v (c ∷ path) = option_and_then (child nodes c) (along nodes v path)

-- what a path reaches from a name
abbrev pub reached : State → List ℕ → List ℕ → Option Value
reached s name path = along s.nodes (find name s.names) path
