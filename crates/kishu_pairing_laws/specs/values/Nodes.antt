-- What stands in a node of a kind on both sides, and changes of one node.
use Rattle.std.specs.Prelude.{Option, List, ℕ}
use Rattle.std.proofs.Common.{refl}
use Rattle.kishu_meaning.specs.calls.Operators.{list_from, tuple_from}
use Rattle.kishu_meaning.specs.values.Keys.{Key}
use Rattle.kishu_meaning.specs.values.Nodes.{list_in, tuple_in, dict_in, object_in, on_list, on_dict, on_object}
use Rattle.kishu_meaning.specs.values.Values.{Node, Value}
use Rattle.kishu_pairing_laws.specs.World.{World, SameNode, BothOrNeither, SameValues, lists, both, tuples, neither, dicts, objects, functions, exceptions, SameEntries, Is}
use Rattle.kishu_pairing_laws.specs.values.Lists.{opt_then, opt_itself}

module _ (W : World) where
  -- ---- what is in a node of a kind

  pub in_list : {a b : Node} → SameNode W a b → BothOrNeither (SameValues W) (list_in a) (list_in b)
  in_list (lists z) = both z
  in_list (tuples z) = neither
  in_list (dicts z) = neither
  in_list (objects z) = neither
  in_list (functions profile code z) = neither
  in_list (exceptions kind z) = neither

  pub in_tuple : {a b : Node} → SameNode W a b → BothOrNeither (SameValues W) (tuple_in a) (tuple_in b)
  in_tuple (lists z) = neither
  in_tuple (tuples z) = both z
  in_tuple (dicts z) = neither
  in_tuple (objects z) = neither
  in_tuple (functions profile code z) = neither
  in_tuple (exceptions kind z) = neither

  pub in_dict : {a b : Node} → SameNode W a b → BothOrNeither (SameEntries W) (dict_in a) (dict_in b)
  in_dict (lists z) = neither
  in_dict (tuples z) = neither
  in_dict (dicts z) = both z
  in_dict (objects z) = neither
  in_dict (functions profile code z) = neither
  in_dict (exceptions kind z) = neither

  pub in_object : {a b : Node} → SameNode W a b → BothOrNeither (SameEntries W) (object_in a) (object_in b)
  in_object (lists z) = neither
  in_object (tuples z) = neither
  in_object (dicts z) = neither
  in_object (objects z) = both z
  in_object (functions profile code z) = neither
  in_object (exceptions kind z) = neither

  pub list_there : {o p : Option Node} → BothOrNeither (SameNode W) o p → BothOrNeither (SameValues W) (list_from o) (list_from p)
  list_there = opt_then (SameValues W) list_in list_in (λ a b ab. in_list ab)

  pub tuple_there : {o p : Option Node} → BothOrNeither (SameNode W) o p → BothOrNeither (SameValues W) (tuple_from o) (tuple_from p)
  tuple_there = opt_then (SameValues W) tuple_in tuple_in (λ a b ab. in_tuple ab)

module _ (W : World) where
  pub opt_is : {A : Type 0} (o : Option A) → BothOrNeither Is o o
  opt_is = opt_itself Is (λ a. refl)

  -- ---- changes of one node

  pub on_list_same : (f g : List Value → List Value) → ((vs ws : List Value) → SameValues W vs ws → SameValues W (f vs) (g ws)) → (a b : Node) → SameNode W a b → SameNode W (on_list f a) (on_list g b)
  on_list_same f g fg _ _ (lists z) = lists (fg _ _ z)
  on_list_same f g fg _ _ (tuples z) = tuples z
  on_list_same f g fg _ _ (dicts z) = dicts z
  on_list_same f g fg _ _ (objects z) = objects z
  on_list_same f g fg _ _ (functions profile code z) = functions profile code z
  on_list_same f g fg _ _ (exceptions kind z) = exceptions kind z

  pub on_dict_same : (f g : List (Key × Value) → List (Key × Value)) → ((es fs : List (Key × Value)) → SameEntries W es fs → SameEntries W (f es) (g fs)) → (a b : Node) → SameNode W a b → SameNode W (on_dict f a) (on_dict g b)
  on_dict_same f g fg _ _ (lists z) = lists z
  on_dict_same f g fg _ _ (tuples z) = tuples z
  on_dict_same f g fg _ _ (dicts z) = dicts (fg _ _ z)
  on_dict_same f g fg _ _ (objects z) = objects z
  on_dict_same f g fg _ _ (functions profile code z) = functions profile code z
  on_dict_same f g fg _ _ (exceptions kind z) = exceptions kind z

  pub on_object_same : (f g : List (List ℕ × Value) → List (List ℕ × Value)) → ((es fs : List (List ℕ × Value)) → SameEntries W es fs → SameEntries W (f es) (g fs)) → (a b : Node) → SameNode W a b → SameNode W (on_object f a) (on_object g b)
  on_object_same f g fg _ _ (lists z) = lists z
  on_object_same f g fg _ _ (tuples z) = tuples z
  on_object_same f g fg _ _ (dicts z) = dicts z
  on_object_same f g fg _ _ (objects z) = objects (fg _ _ z)
  on_object_same f g fg _ _ (functions profile code z) = functions profile code z
  on_object_same f g fg _ _ (exceptions kind z) = exceptions kind z
