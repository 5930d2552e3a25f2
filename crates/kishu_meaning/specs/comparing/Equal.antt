-- When two values are the same, when they are equal, and which is less (Python Language Reference 3, "Value comparisons" and "Identity comparisons").
use Rattle.std.specs.Prelude.{ℕ, zero, suc, ◌+◌, ◌-◌, ◌/◌, ◌==◌, min, ℤ, pos, negsuc, ◌-ℤ◌, int_lt, unsigned_abs, Bool, true, false, ◌&&◌, ◌||◌, if◌then◌else◌, List, [], ◌∷◌, length, slice_get, Option, Some, None}
use Rattle.std.specs.Bool.{beq}
use Rattle.std.specs.Cmp.Lexicographic.{slice_cmp}
use Rattle.std.specs.Ordering.{is_lt, nat_cmp, int_cmp, int_eq}
use Rattle.std.specs.Str.{bytes_eq}
use Rattle.kishu_meaning.specs.values.Keys.{is_one, number_of_bool}
use Rattle.kishu_meaning.specs.values.Values.{Value, none, bool, integer, text, range, builtin, class, node, Node}
use Rattle.kishu_meaning.specs.values.Nodes.{value_at, list_in, tuple_in, dict_in, object_in}
use Rattle.kishu_meaning.specs.moments.Moment.{M, most_depth}
use Rattle.kishu_meaning.specs.moments.Counting.{Count, ◌>>=◌, ◌>>◌, give, spend, stop_deep, counted}

-- ---- plain values

-- the number that a value counts as
abbrev pub number_in : Value → Option ℤ
number_in (bool b) = Some (number_of_bool b)
number_in (integer z) = Some z
number_in _ = None

-- the same kind and the same value, or the same node
abbrev pub is_same : Value → Value → Bool
is_same none none = true
is_same (bool a) (bool b) = beq a b
is_same (integer a) (integer b) = int_eq a b
is_same (text a) (text b) = bytes_eq a b
is_same (range a b c) (range d e f) = int_eq a d && (int_eq b e && int_eq c f)
is_same (builtin a) (builtin b) = a == b
is_same (class a) (class b) = a == b
is_same (node a) (node b) = a == b
is_same _ _ = false

-- A comparison of two texts takes the code points of the shorter as steps.
abbrev pub pair_steps : Value → Value → ℕ
pair_steps (text a) (text b) = min (length a) (length b)
pair_steps _ _ = 0

-- by this where there are both, and else the other
abbrev pub by_both : {X A : Type 0} → Option X → Option X → (X → X → A) → A → A
by_both (Some a) (Some b) f other = f a b
by_both (Some a) None f other = other
by_both None b f other = other

abbrev pub by_numbers : {A : Type 0} → Option ℤ → Option ℤ → (ℤ → ℤ → A) → A → A
by_numbers = by_both

-- how many of `from`, `from` + `step`, `from` + 2 * `step` and so on lie below `to`
abbrev pub steps_between : ℕ → ℤ → ℤ → ℕ
steps_between step from to = if int_lt from to then (unsigned_abs (to -ℤ from) - 1) / step + 1 else 0

-- how many numbers a range has
abbrev pub range_length : ℤ → ℤ → ℤ → ℕ
range_length start stop (pos zero) = 0
range_length start stop (pos (suc n)) = steps_between (suc n) start stop
range_length start stop (negsuc n) = steps_between (suc n) stop start

-- the numbers of a range: how many they are, the first, and the step
abbrev pub numbers_in : Value → Option (ℕ × ℤ × ℤ)
numbers_in (range a b c) = Some (range_length a b c, a, c)
numbers_in _ = None

-- As many, and where there is one the same first, and where there are two the same step.
abbrev pub same_numbers : ℕ × ℤ × ℤ → ℕ × ℤ × ℤ → Bool
same_numbers p q = p.0 == q.0 && (p.0 == 0 || (int_eq p.1 q.1 && (p.0 == 1 || int_eq p.2 q.2)))

-- Ranges are equal where their numbers are, and all else where it is the same.
abbrev pub is_like : Value → Value → Bool
is_like a b = by_both (numbers_in a) (numbers_in b) same_numbers (is_same a b)

-- Numbers are equal by value.
abbrev pub is_equal : Value → Value → Bool
is_equal a b = by_numbers (number_in a) (number_in b) int_eq (is_like a b)

abbrev pub less_texts : Value → Value → Option Bool
less_texts (text a) (text b) = Some (is_lt (slice_cmp nat_cmp a b))
less_texts a b = None

-- Numbers have an order, and texts by their code points.
abbrev pub less_plain : Value → Value → Option Bool
less_plain a b = by_numbers (number_in a) (number_in b) (λ x y. Some (is_lt (int_cmp x y))) (less_texts a b)

-- ---- equality, where two nodes are compared by what is given

-- the number of a node
abbrev pub node_in : Value → Option ℕ
node_in (node i) = Some i
node_in _ = None

module _ (nodes : ℕ → ℕ → Count Bool) where
  abbrev pub equal_by : Value → Value → Count Bool
  equal_by a b = by_both (node_in a) (node_in b) nodes (spend (pair_steps a b) >> give (is_equal a b))

  -- A further pair of values takes a step. What is the same is equal.
  abbrev pub pair_equal : Value → Value → Count Bool
  pair_equal a b = spend 1 >> (if is_same a b then (spend (pair_steps a b) >> give true) else equal_by a b)

  -- of two lists as long
  abbrev pub items_equal : List Value → List Value → Count Bool
  items_equal [] ws = give true
  items_equal (v ∷ vs) [] = give true
  items_equal (v ∷ vs) (w ∷ ws) = pair_equal v w >>= λ same. if same then items_equal vs ws else give false

  abbrev pub lists_equal : List Value → List Value → Count Bool
  lists_equal vs ws = if length vs == length ws then items_equal vs ws else give false

  abbrev pub value_equal : Value → Option Value → Count Bool
  value_equal v None = give false
  value_equal v (Some w) = pair_equal v w

  module _ {K : Type 0} (is_key : K → K → Bool) where
    -- each key's values, in the order of the left one
    abbrev pub entries_equal : List (K × Value) → List (K × Value) → Count Bool
    entries_equal [] gs = give true
    entries_equal (e ∷ es) gs = value_equal e.1 (value_at is_key e.0 gs) >>= λ same. if same then entries_equal es gs else give false

    abbrev pub maps_equal : List (K × Value) → List (K × Value) → Count Bool
    maps_equal es gs = if length es == length gs then entries_equal es gs else give false

  -- Two lists, tuples, dicts or objects by what is in them, and all else by identity.
  abbrev pub contents_equal : ℕ → ℕ → Node → Node → Count Bool
  contents_equal i j a b =
      by_both (list_in a) (list_in b) lists_equal
      (by_both (tuple_in a) (tuple_in b) lists_equal
      (by_both (dict_in a) (dict_in b) (maps_equal is_one)
      (by_both (object_in a) (object_in b) (maps_equal bytes_eq)
      (give (i == j)))))

  abbrev pub nodes_equal : ℕ → ℕ → Option Node → Option Node → Count Bool
  nodes_equal i j a b = by_both a b (contents_equal i j) (give (i == j))

-- two nodes, with at most so many in one another, themselves among them
abbrev pub equal_nodes : List Node → ℕ → ℕ → ℕ → Count Bool
equal_nodes ns zero i j = stop_deep
equal_nodes ns (suc room) i j = nodes_equal (equal_nodes ns room) i j (slice_get ns i) (slice_get ns j)

-- At a depth, as many nodes may lie inside a node as are missing from the greatest depth.
abbrev pub room_at : ℕ → ℕ
room_at depth = suc (most_depth - depth)

abbrev pub equal_in : List Node → ℕ → Value → Value → Count Bool
equal_in ns depth = equal_by (equal_nodes ns (room_at depth))

abbrev pub equal : Value → Value → M Bool
equal a b = λ s. counted (equal_in s.nodes s.depth a b) s

-- ---- order; there is no answer where a pair is reached that has none

-- A pair of items is equal, asked as it stands or turned round.
abbrev pub pair_turned : Bool → (ℕ → ℕ → Count Bool) → Value → Value → Count Bool
pair_turned turned nodes v w = if turned then pair_equal nodes w v else pair_equal nodes v w

abbrev pub less_by : (ℕ → ℕ → Count (Option Bool)) → Value → Value → Count (Option Bool)
less_by nodes a b = by_both (node_in a) (node_in b) nodes (spend (pair_steps a b) >> give (less_plain a b))

module _ (pairs : Value → Value → Count Bool) (nodes : ℕ → ℕ → Count (Option Bool)) where
  -- by the first items that aren't equal, and where there are none by length
  abbrev pub items_less : List Value → List Value → Count (Option Bool)
  items_less [] [] = give (Some false)
  items_less [] (w ∷ ws) = give (Some true)
  items_less (v ∷ vs) [] = give (Some false)
  items_less (v ∷ vs) (w ∷ ws) = pairs v w >>= λ same. if same then items_less vs ws else less_by nodes v w

  -- two lists, or two tuples
  abbrev pub contents_less : Node → Node → Count (Option Bool)
  contents_less a b = by_both (list_in a) (list_in b) items_less (by_both (tuple_in a) (tuple_in b) items_less (give None))

  abbrev pub nodes_less : Option Node → Option Node → Count (Option Bool)
  nodes_less a b = by_both a b contents_less (give None)

abbrev pub less_nodes : Bool → List Node → ℕ → ℕ → ℕ → Count (Option Bool)
less_nodes turned ns zero i j = stop_deep
less_nodes turned ns (suc room) i j = nodes_less (pair_turned turned (equal_nodes ns room)) (less_nodes turned ns room) (slice_get ns i) (slice_get ns j)

abbrev pub less_in : List Node → ℕ → Value → Value → Count (Option Bool)
less_in ns depth = less_by (less_nodes false ns (room_at depth))

-- The right one is less, where each pair of items is asked for as it stands, the left one's first.
abbrev pub greater_in : List Node → ℕ → Value → Value → Count (Option Bool)
greater_in ns depth a b = less_by (less_nodes true ns (room_at depth)) b a

-- The left one is less, where the two have an order, or greater.
abbrev pub less : Value → Value → M (Option Bool)
less a b = λ s. counted (less_in s.nodes s.depth a b) s

abbrev pub greater : Value → Value → M (Option Bool)
greater a b = λ s. counted (greater_in s.nodes s.depth a b) s
