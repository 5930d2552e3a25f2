-- The groups of a state share no node, so its pictures, loaded anew, have together no more nodes than it has.
use Rattle.std.specs.Prelude.{◌≡◌, ◌≤◌, ℕ, List, [], ◌∷◌, ◌++◌, length, map, flat_map}
use Rattle.std.specs.List.{AllZip}
use Rattle.std.proofs.Common.{ap, sym, subst, arith, inl, inr, refl, length-append}
use Rattle.std.proofs.lemmas.List.Sums.{sum_by-cons}
use Rattle.kishu_meaning.specs.values.Values.{State, empty}
use Rattle.kishu_objects.specs.Groups.{groups_of}
use Rattle.kishu_objects.specs.Lists.{In, AllDiffer}
use Rattle.kishu_objects.specs.Picture.{listed, order, picture, roots}
use Rattle.kishu_objects.specs.States.{IsSoundState}
use Rattle.kishu_objects_laws.specs.ListLaws.{few, flat_in, in_cases}
use Rattle.kishu_objects_laws.specs.OrderLaws.{order_distinct, order_reached, rounds_below, roots_below}
use Rattle.kishu_objects_laws.specs.OwnPictureLaws.{rows_length}
use Rattle.kishu_store.specs.Graph.{Graph}
use Rattle.kishu_history.specs.Changed.{Group}
use Rattle.kishu_history.specs.Checkout.{carried, without_names}
use Rattle.kishu_history.specs.Good.{IsAttached}
use Rattle.kishu_history.specs.Live.{IsPictureOf}
use Rattle.kishu_history.specs.Paths.{AreRows}
use Rattle.kishu_history.specs.Stored.{Held}
use Rattle.kishu_history.specs.Tables.{first_name, Change}
use Rattle.kishu_history_laws.specs.Choices.{in_map}
use Rattle.kishu_history_laws.specs.cells.LeavesLaws.{groups_are_cut}
use Rattle.kishu_history_laws.specs.tables.TableLaws.{rise_differ, groups_rise}
use Rattle.kishu_live_laws.specs.Fewer.{more_nodes}
use Rattle.kishu_live_laws.specs.Made.{pictured_in}
use Rattle.kishu_live_laws.specs.OnStates.{head_rows}
use Rattle.kishu_live_laws.specs.Told.{table_groups}

-- ---- lists whose items differ

differ_both : (xs ys : List ℕ) → AllDiffer xs → AllDiffer ys → ((i : ℕ) → In i xs → In i ys → ⊥) → AllDiffer (xs ++ ys)
differ_both [] ys d e apart = e
differ_both (x ∷ xs) ys d e apart = (
  λ m. elim (in_cases x xs ys m) [ inl l ↦ d.0 l | inr r ↦ apart x (inl refl) r ],
  differ_both xs ys d.1 e (λ i m k. apart i (inr m) k),
)

groups_differ : (gs : List Group) → AllDiffer (map first_name gs) → AllDiffer gs
groups_differ [] d = tt
groups_differ (g ∷ gs) d = (λ m. d.0 (in_map first_name gs g m), groups_differ gs d.1)

-- ---- the groups of a state

module _ (s : State) (is : IsSoundState s) where
  -- Where a node is met from two groups, they are one.
  one_group : (g h : Group) → In g (groups_of s) → In h (groups_of s) → (i : ℕ) → In i (order s g) → In i (order s h) → g ≡ h
  one_group g h m n i a b =
      let x = order_reached s g i a in
      let y = order_reached s h i b in
      (groups_are_cut s is.sound).apart g h x.0 y.0 m n x.1 y.1 (i, x.2, y.2)

  orders_differ : (gs : List Group) → AllDiffer gs → ((g : Group) → In g gs → In g (groups_of s)) → AllDiffer (flat_map (order s) gs)
  orders_differ [] d there = tt
  orders_differ (g ∷ gs) d there =
      differ_both (order s g) (flat_map (order s) gs) (order_distinct s g) (orders_differ gs d.1 (λ h m. there h (inr m)))
      (λ i m k.
      let h = flat_in (order s) i gs k in
      d.0 (subst (λ (z : Group). In z gs) (sym (one_group g h.0 (there g (inl refl)) (there h.0 (inr h.1)) i m h.2)) h.1))

  orders_few : length (flat_map (order s) (groups_of s)) ≤ length s.nodes
  orders_few =
      let differ = groups_differ (groups_of s) (rise_differ (map first_name (groups_of s)) (groups_rise s is.sound (listed s) is.rise)) in
      few (length s.nodes) (flat_map (order s) (groups_of s)) (orders_differ (groups_of s) differ (λ g m. m)) (λ i m.
      let g = flat_in (order s) i (groups_of s) m in
      rounds_below s.nodes (roots s g.0) (length s.nodes) (roots_below s is.sound g.0) is.sound.nodes (length s.nodes) i g.2)

  pictured_orders : (gs : List Group) → pictured_in gs s ≡ length (flat_map (order s) gs)
  pictured_orders [] = refl
  pictured_orders (g ∷ gs) =
      let all = sum_by-cons (λ (h : Group). length (picture s h).nodes) g gs in
      let own = rows_length s is.sound g in
      let rest = pictured_orders gs in
      omega (arith, all, own, rest, length-append (order s g) (flat_map (order s) gs))

  pub pictured_few : pictured_in (groups_of s) s ≤ length s.nodes
  pictured_few = (let all = pictured_orders (groups_of s) in let some = orders_few in omega (arith, all, some))

-- ---- the state of a session that is attached to a good store

-- What the pictures leave of the empty state that the file holds for the head's table has no more nodes.
pub anew_few : (file : List ℕ) (of : ℕ → Change) (s : State) (g : Graph) → AreRows of → IsAttached file g of s → (ps : List State) → AllZip (IsPictureOf (Held file)) (head_rows of g) ps → length (carried [] ps empty).nodes ≤ length s.nodes
anew_few file of s g rows attached ps zip =
    let all = more_nodes s file (head_rows of g) ps (without_names [] empty) attached.told.pictures zip in
    let groups = ap (λ (gs : List Group). pictured_in gs s) (table_groups file of s g rows attached) in
    omega (arith, all, groups, pictured_few s attached.told.state)
