-- How much the pictures of a state's groups take, where the names can be cut into groups with small pictures.
use Rattle.std.specs.Prelude.{◌≡◌, ◌≤◌, ◌+◌, ◌*◌, ◌^◌, ℕ, List, length, map, flat_map, Option, Some, None}
use Rattle.std.specs.List.{sum_by}
use Rattle.std.proofs.Common.{ap, sym, ◌∙◌, arith}
use Rattle.kishu_meaning.specs.values.Values.{Value, State, find}
use Rattle.kishu_objects.specs.Bytes.{name_bytes, row_bytes, picture_bytes}
use Rattle.kishu_objects.specs.Groups.{Cuts, groups_of}
use Rattle.kishu_objects.specs.Lists.{In, AllDiffer}
use Rattle.kishu_objects.specs.Picture.{with_value, order, listed, roots}
use Rattle.kishu_objects.specs.Shape.{node_at}
use Rattle.kishu_objects.specs.Sizes.{size_among}
use Rattle.kishu_objects.specs.States.{IsSoundState}
use Rattle.kishu_objects_laws.specs.ListLaws.{contains_in, in_flat, flat_in, few}
use Rattle.kishu_objects_laws.specs.NameLaws.{listed_found, rise_differ}
use Rattle.kishu_objects_laws.specs.OrderLaws.{order_distinct, order_reached, reached_order, rounds_below, roots_below}
use Rattle.kishu_objects_laws.specs.NodeCountLaws.{some_byte}
use Rattle.kishu_history.specs.Changed.{Group}
use Rattle.kishu_history.specs.Cut.{IsCut}
use Rattle.kishu_history.specs.Tables.{first_name}
use Rattle.kishu_history_laws.specs.cells.LeavesLaws.{groups_are_cut}
use Rattle.kishu_history_laws.specs.states.PictureSizes.{picture-length, sum_inside}
use Rattle.kishu_history_laws.specs.tables.TableLaws.{class_rises, first_inside, groups_rise}
use Rattle.kishu_anew.specs.Anew.{IsSmall}
use Rattle.kishu_anew.proofs.Sums.{differ_flat, differ_map, sum_flat, sum_alike, sum_eight, no_fewer, sum_in}

-- ---- what names and nodes take

module _ (s : State) (sound : IsSoundState s) where
  -- a name with its value, if it has one, and a node
  abbrev name_takes : List ℕ → ℕ
  name_takes x = length (flat_map name_bytes (with_value x (find x s.names)))

  abbrev node_takes : ℕ → ℕ
  node_takes i = length (row_bytes (node_at s.nodes i))

  -- the names of groups, and the nodes that they reach, group by group
  abbrev names_of : List Group → List (List ℕ)
  names_of gs = flat_map (λ g. g) gs

  abbrev nodes_of : List Group → List ℕ
  nodes_of gs = flat_map (λ g. order s g) gs

  -- The pictures of groups take 8 bytes each, and what their names and nodes take.
  size_is : (gs : List Group) → size_among gs s ≡ 8 * length gs + (sum_by name_takes (names_of gs) + sum_by node_takes (nodes_of gs))
  size_is gs =
      let names = λ (g : Group). sum_by name_takes g in
      let nodes = λ (g : Group). sum_by node_takes (order s g) in
      sum_alike (λ (g : Group). length (picture_bytes s g)) (λ g. 8 + (names g + nodes g)) gs (picture-length s)
      ∙ sum_eight names nodes gs
      ∙ ap (λ n. 8 * length gs + (n + sum_by nodes gs)) (sym (sum_flat name_takes (λ g. g) gs))
      ∙ ap (λ n. 8 * length gs + (sum_by name_takes (names_of gs) + n)) (sym (sum_flat node_takes (λ g. order s g) gs))

  -- ---- the state's own groups

  abbrev own : List Group
  own = groups_of s

  cut : IsCut own s
  cut = groups_are_cut s sound.sound

  own_differ : AllDiffer own
  own_differ = differ_map first_name own (rise_differ (map first_name own) (groups_rise s sound.sound (listed s) sound.rise))

  names_differ : AllDiffer (names_of own)
  names_differ = differ_flat (λ (g : Group). g) own own_differ (λ g m. rise_differ g (class_rises s sound.sound (listed s) sound.rise g m)) (λ g h x m n a b. cut.one g h x m n a b)

  nodes_differ : AllDiffer (nodes_of own)
  nodes_differ = differ_flat (λ (g : Group). order s g) own own_differ (λ g m. order_distinct s g)
      (λ g h i m n a b.
      let k = order_reached s g i a in
      let l = order_reached s h i b in
      cut.apart g h k.0 l.0 m n k.1 l.1 (i, k.2, l.2))

  -- a name that a group has is bound
  bound_in : (g : Group) (x : List ℕ) → In g own → In x g → (v : Value) × (find x s.names ≡ Some v)
  bound_in g x m n = listed_found s.names x ((cut.bound x).1 (g, m, n))

  takes_some : (x : List ℕ) (o : Option Value) (v : Value) → o ≡ Some v → 1 ≤ length (flat_map name_bytes (with_value x o))
  takes_some x None v e = absurd (cc (e))
  takes_some x (Some w) v e = omega arith

  -- Each group has a name, which takes a byte at least.
  few_groups : length own ≤ sum_by name_takes (names_of own)
  few_groups =
      let some = no_fewer (λ (g : Group). sum_by name_takes g) own
      (λ g m.
      let x = first_name g in
      let there = first_inside s sound.sound (listed s) g m in
      let b = bound_in g x m there in
      let one = takes_some x (find x s.names) b.0 b.1 in
      let all = sum_in name_takes g x there in
      omega (arith, one, all)) in
      let e = sum_flat name_takes (λ (g : Group). g) own in
      omega (arith, some, e)

  -- ---- beside groups that have all names

  module _ (gs : List Group) (cuts : Cuts s gs) where
    name_there : (x : List ℕ) → In x (names_of own) → In x (names_of gs)
    name_there x m =
        let k = flat_in (λ (g : Group). g) x own m in
        let b = bound_in k.0 x k.1 k.2 in
        let c = cuts x b.0 b.1 in
        in_flat (λ (g : Group). g) x c.0 gs (contains_in gs c.0 c.1) (contains_in c.0 x c.2)

    node_there : (i : ℕ) → In i (nodes_of own) → In i (nodes_of gs)
    node_there i m =
        let k = flat_in (λ (g : Group). order s g) i own m in
        let r = order_reached s k.0 i k.2 in
        let b = bound_in k.0 r.0 k.1 r.1 in
        let c = cuts r.0 b.0 b.1 in
        in_flat (λ (g : Group). order s g) i c.0 gs (contains_in gs c.0 c.1) (reached_order s sound.sound c.0 r.0 (contains_in c.0 r.0 c.2) r.2.0 i r.2.1)

    names_few : sum_by name_takes (names_of own) ≤ sum_by name_takes (names_of gs)
    names_few = sum_inside name_takes (names_of own) (names_of gs) names_differ name_there

    nodes_few : sum_by node_takes (nodes_of own) ≤ sum_by node_takes (nodes_of gs)
    nodes_few = sum_inside node_takes (nodes_of own) (nodes_of gs) nodes_differ node_there

    own_size : size_among own s ≤ 9 * size_among gs s
    own_size =
        let a = size_is own in
        let b = size_is gs in
        let c = few_groups in
        let d = names_few in
        let e = nodes_few in
        omega (arith, a, b, c, d, e)

    own_nodes : length (nodes_of own) ≤ size_among gs s
    own_nodes =
        let a = no_fewer node_takes (nodes_of own) (λ i m. some_byte (node_at s.nodes i)) in
        let b = size_is gs in
        let c = nodes_few in
        omega (arith, a, b, c)

  -- ---- where those are small

  pub small_size : IsSmall s → size_among own s ≤ 9 * 2 ^ 28
  small_size small = (let a = own_size small.0 small.1 in let b = small.2 in omega (arith, a, b))

  pub small_nodes : IsSmall s → length (nodes_of own) ≤ 2 ^ 28
  small_nodes small = (let a = own_nodes small.0 small.1 in let b = small.2 in omega (arith, a, b))

  -- There are no more nodes in the groups than in the state.
  pub no_more_nodes : length (nodes_of own) ≤ length s.nodes
  no_more_nodes =
      few (length s.nodes) (nodes_of own) nodes_differ
      (λ i m.
      let k = flat_in (λ (g : Group). order s g) i own m in
      rounds_below s.nodes (roots s k.0) (length s.nodes) (roots_below s sound.sound k.0) sound.sound.nodes (length s.nodes) i k.2)

  -- One group takes no more than all.
  pub one_size : (g : Group) → In g own → length (picture_bytes s g) ≤ size_among own s
  one_size g m = sum_in (λ (h : Group). length (picture_bytes s h)) own g m
