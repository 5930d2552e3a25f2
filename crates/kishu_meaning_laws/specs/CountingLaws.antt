-- What only counts: comparisons, searches for an item and texts of values give no step back, and go the same way with more steps to spend.
use Rattle.std.specs.Prelude.{ℕ, zero, suc, ◌==◌, Bool, true, false, if◌then◌else◌, List, [], ◌∷◌, length, Option, Some, None, slice_get}
use Rattle.std.specs.Str.{bytes_eq}
use Rattle.kishu_meaning.specs.values.Keys.{is_one}
use Rattle.kishu_meaning.specs.values.Values.{Value, Node}
use Rattle.kishu_meaning.specs.values.Nodes.{value_at, list_in, tuple_in, dict_in, object_in}
use Rattle.kishu_meaning.specs.moments.Counting.{Count, ◌>>◌, give, spend}
use Rattle.kishu_meaning.specs.comparing.Equal as e
use Rattle.kishu_meaning.specs.comparing.Equal.{by_both, node_in, is_same, is_equal, pair_steps, less_plain, equal_by, pair_equal, equal_nodes, pair_turned, less_by, less_nodes, room_at, equal_in, less_in, greater_in}
use Rattle.kishu_meaning.specs.items.Finding.{is_found, place_from, count_from}
use Rattle.kishu_meaning.specs.comparing.Show.{repr_in, show_in}
pub use Rattle.kishu_meaning_laws.specs.CountLaws.{left_of, Wider, both_answer, both_deep, one_spent, Falls, then_falls, both_fall, give_falls, spend_falls, deep_falls, either_falls}
use Rattle.kishu_meaning_laws.specs.ShowLaws.{repr_takes, show_covers}

by_both_falls : {X A : Type 0} (x y : Option X) (f : X → X → Count A) (other : Count A) → ((a b : X) → Falls (f a b)) → Falls other → Falls (by_both x y f other)
by_both_falls (Some a) (Some b) f other hf h = hf a b
by_both_falls (Some a) None f other hf h = h
by_both_falls None y f other hf h = h

-- ---- equality

spent_then_given : {A : Type 0} (k : ℕ) (a : A) → Falls (spend k >> give a)
spent_then_given k a = both_fall (spend k) (give a) (spend_falls k) (give_falls a)

module _ (nodes : ℕ → ℕ → Count Bool) (h : (i j : ℕ) → Falls (nodes i j)) where
  equal_falls : (a b : Value) → Falls (equal_by nodes a b)
  equal_falls a b = by_both_falls (node_in a) (node_in b) nodes (spend (pair_steps a b) >> give (is_equal a b)) h (spent_then_given (pair_steps a b) (is_equal a b))

  pair_falls : (a b : Value) → Falls (pair_equal nodes a b)
  pair_falls a b =
      both_fall (spend 1) (if is_same a b then (spend (pair_steps a b) >> give true) else equal_by nodes a b) (spend_falls 1)
      (either_falls (is_same a b) (spend (pair_steps a b) >> give true) (equal_by nodes a b) (spent_then_given (pair_steps a b) true) (equal_falls a b))

  items_fall : (vs ws : List Value) → Falls (e.items_equal nodes vs ws)
  items_fall [] ws = give_falls true
  items_fall (v ∷ vs) [] = give_falls true
  items_fall (v ∷ vs) (w ∷ ws) =
      then_falls (pair_equal nodes v w) (λ same. if same then e.items_equal nodes vs ws else give false) (pair_falls v w)
      (λ same. either_falls same (e.items_equal nodes vs ws) (give false) (items_fall vs ws) (give_falls false))

  lists_fall : (vs ws : List Value) → Falls (e.lists_equal nodes vs ws)
  lists_fall vs ws = either_falls (length vs == length ws) (e.items_equal nodes vs ws) (give false) (items_fall vs ws) (give_falls false)

  value_falls : (v : Value) (o : Option Value) → Falls (e.value_equal nodes v o)
  value_falls v None = give_falls false
  value_falls v (Some w) = pair_falls v w

  module _ {K : Type 0} (is_key : K → K → Bool) where
    entries_fall : (es gs : List (K × Value)) → Falls (e.entries_equal nodes is_key es gs)
    entries_fall [] gs = give_falls true
    entries_fall (f ∷ es) gs =
        then_falls (e.value_equal nodes f.1 (value_at is_key f.0 gs)) (λ same. if same then e.entries_equal nodes is_key es gs else give false) (value_falls f.1 (value_at is_key f.0 gs))
        (λ same. either_falls same (e.entries_equal nodes is_key es gs) (give false) (entries_fall es gs) (give_falls false))

    maps_fall : (es gs : List (K × Value)) → Falls (e.maps_equal nodes is_key es gs)
    maps_fall es gs = either_falls (length es == length gs) (e.entries_equal nodes is_key es gs) (give false) (entries_fall es gs) (give_falls false)

  contents_fall : (i j : ℕ) (a b : Node) → Falls (e.contents_equal nodes i j a b)
  contents_fall i j a b =
      by_both_falls (list_in a) (list_in b) _ _ lists_fall
      (by_both_falls (tuple_in a) (tuple_in b) _ _ lists_fall
      (by_both_falls (dict_in a) (dict_in b) _ _ (maps_fall is_one)
      (by_both_falls (object_in a) (object_in b) _ _ (maps_fall bytes_eq) (give_falls (i == j)))))

  nodes_fall : (i j : ℕ) (a b : Option Node) → Falls (e.nodes_equal nodes i j a b)
  nodes_fall i j a b = by_both_falls a b _ _ (contents_fall i j) (give_falls (i == j))

pub equal_nodes_fall : (ns : List Node) (room i j : ℕ) → Falls (equal_nodes ns room i j)
equal_nodes_fall ns zero i j = deep_falls
equal_nodes_fall ns (suc room) i j = nodes_fall (equal_nodes ns room) (equal_nodes_fall ns room) i j (slice_get ns i) (slice_get ns j)

pub equal_in_falls : (ns : List Node) (depth : ℕ) (a b : Value) → Falls (equal_in ns depth a b)
equal_in_falls ns depth = equal_falls (equal_nodes ns (room_at depth)) (equal_nodes_fall ns (room_at depth))

-- ---- order

turned_falls : (turned : Bool) (nodes : ℕ → ℕ → Count Bool) → ((i j : ℕ) → Falls (nodes i j)) → (v w : Value) → Falls (pair_turned turned nodes v w)
turned_falls true nodes h v w = pair_falls nodes h w v
turned_falls false nodes h v w = pair_falls nodes h v w

module _ (pairs : Value → Value → Count Bool) (nodes : ℕ → ℕ → Count (Option Bool)) (hs : (v w : Value) → Falls (pairs v w)) (h : (i j : ℕ) → Falls (nodes i j)) where
  less_falls : (a b : Value) → Falls (less_by nodes a b)
  less_falls a b = by_both_falls (node_in a) (node_in b) nodes (spend (pair_steps a b) >> give (less_plain a b)) h (spent_then_given (pair_steps a b) (less_plain a b))

  items_less_fall : (vs ws : List Value) → Falls (e.items_less pairs nodes vs ws)
  items_less_fall [] [] = give_falls (Some false)
  items_less_fall [] (w ∷ ws) = give_falls (Some true)
  items_less_fall (v ∷ vs) [] = give_falls (Some false)
  items_less_fall (v ∷ vs) (w ∷ ws) =
      then_falls (pairs v w) (λ same. if same then e.items_less pairs nodes vs ws else less_by nodes v w) (hs v w)
      (λ same. either_falls same (e.items_less pairs nodes vs ws) (less_by nodes v w) (items_less_fall vs ws) (less_falls v w))

  contents_less_fall : (a b : Node) → Falls (e.contents_less pairs nodes a b)
  contents_less_fall a b = by_both_falls (list_in a) (list_in b) _ _ items_less_fall (by_both_falls (tuple_in a) (tuple_in b) _ _ items_less_fall (give_falls None))

  nodes_less_fall : (a b : Option Node) → Falls (e.nodes_less pairs nodes a b)
  nodes_less_fall a b = by_both_falls a b _ _ contents_less_fall (give_falls None)

pub less_nodes_fall : (turned : Bool) (ns : List Node) (room i j : ℕ) → Falls (less_nodes turned ns room i j)
less_nodes_fall turned ns zero i j = deep_falls
less_nodes_fall turned ns (suc room) i j = nodes_less_fall (pair_turned turned (equal_nodes ns room)) (less_nodes turned ns room) (turned_falls turned (equal_nodes ns room) (equal_nodes_fall ns room)) (less_nodes_fall turned ns room) (slice_get ns i) (slice_get ns j)

order_falls : (turned : Bool) (ns : List Node) (room : ℕ) (a b : Value) → Falls (less_by (less_nodes turned ns room) a b)
order_falls turned ns room = less_falls (pair_turned turned (equal_nodes ns room)) (less_nodes turned ns room) (turned_falls turned (equal_nodes ns room) (equal_nodes_fall ns room)) (less_nodes_fall turned ns room)

pub less_in_falls : (ns : List Node) (depth : ℕ) (a b : Value) → Falls (less_in ns depth a b)
less_in_falls ns depth = order_falls false ns (room_at depth)

pub greater_in_falls : (ns : List Node) (depth : ℕ) (a b : Value) → Falls (greater_in ns depth a b)
greater_in_falls ns depth a b = order_falls true ns (room_at depth) b a

-- ---- items that are equal to a value

module _ (ns : List Node) (depth : ℕ) (x : Value) where
  found_falls : (item : Value) → Falls (is_found ns depth x item)
  found_falls item = pair_falls (equal_nodes ns (room_at depth)) (equal_nodes_fall ns (room_at depth)) item x

  pub place_falls : (at : ℕ) (vs : List Value) → Falls (place_from ns depth x at vs)
  place_falls at [] = give_falls None
  place_falls at (v ∷ vs) =
      then_falls (is_found ns depth x v) (λ same. if same then give (Some at) else place_from ns depth x (suc at) vs) (found_falls v)
      (λ same. either_falls same (give (Some at)) (place_from ns depth x (suc at) vs) (give_falls (Some at)) (place_falls (suc at) vs))

  pub count_falls : (n : ℕ) (vs : List Value) → Falls (count_from ns depth x n vs)
  count_falls n [] = give_falls n
  count_falls n (v ∷ vs) =
      then_falls (is_found ns depth x v) (λ same. count_from ns depth x (if same then suc n else n) vs) (found_falls v)
      (λ same. count_falls (if same then suc n else n) vs)

-- ---- texts

pub show_falls : (ns : List Node) (depth : ℕ) (v : Value) → Falls (show_in ns depth v)
show_falls ns depth v = (show_covers ns depth v).counts

pub repr_falls : (ns : List Node) (depth : ℕ) (v : Value) → Falls (repr_in ns depth v)
repr_falls ns depth v = (repr_takes ns depth v).counts
