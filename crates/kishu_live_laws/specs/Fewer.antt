-- What is loaded: a picture has no more nodes than the state of which it is; and of a good store an opening and a checkout make as many nodes as the pictures have that they load.
use Rattle.std.specs.Prelude.{◌≡◌, ◌≤◌, ◌+◌, ℕ, not, List, [], ◌∷◌, length, flat_map}
use Rattle.std.specs.List.{AllZip}
use Rattle.std.proofs.Common.{ap, subst, arith, inl, inr, refl, ◌∙◌}
use Rattle.std.proofs.lemmas.List.Sums.{sum_by-cons}
use Rattle.kishu_meaning.specs.values.Values.{State, empty}
use Rattle.kishu_objects.specs.Groups.{groups_of}
use Rattle.kishu_objects.specs.Lists.{In}
use Rattle.kishu_objects.specs.Loading.{with_picture}
use Rattle.kishu_objects.specs.Picture.{order, picture, roots}
use Rattle.kishu_objects.specs.Sound.{IsSound}
use Rattle.kishu_objects_laws.specs.ListLaws.{few, filter_in}
use Rattle.kishu_objects_laws.specs.LoadingLaws.{nodes_more}
use Rattle.kishu_objects_laws.specs.OrderLaws.{order_distinct, rounds_below, roots_below}
use Rattle.kishu_objects_laws.specs.OwnPictureLaws.{rows_length}
use Rattle.kishu_store.specs.Graph.{Graph, newest}
use Rattle.kishu_replay.specs.Replay.{replay}
use Rattle.kishu_history.specs.Changed.{Group}
use Rattle.kishu_history.specs.Checkout.{carried, is_row_of, to_load, with_pictures, without_names}
use Rattle.kishu_history.specs.Good.{IsGoodStore}
use Rattle.kishu_history.specs.Live.{IsPictureOf}
use Rattle.kishu_history.specs.Paths.{stops, table_at, AreRows}
use Rattle.kishu_history.specs.Stored.{Held}
use Rattle.kishu_history.specs.Tables.{Row, Table, groups_in, Change}
use Rattle.kishu_history.specs.Versions.{at_end, loaded}
use Rattle.kishu_history_laws.specs.checkouts.PlanLaws.{loads_loaded}
use Rattle.kishu_history_laws.specs.stores.ReplayLaws.{held_one, good_held, good_table}
use Rattle.kishu_history_laws.specs.versions.PathLaws.{end_replay}
use Rattle.kishu_session_laws.specs.CellLaws.{replays_are_states}
use Rattle.kishu_live_laws.specs.Made.{loaded_nodes, opened_nodes, pictured_in}

-- ---- a picture

pub picture_few : (s : State) (names : List (List ℕ)) → IsSound s → length (picture s names).nodes ≤ length s.nodes
picture_few s names sound =
    let rows = rows_length s sound names in
    let some = few (length s.nodes) (order s names) (order_distinct s names) (rounds_below s.nodes (roots s names) (length s.nodes) (roots_below s sound names) sound.nodes (length s.nodes)) in
    omega (arith, rows, some)

-- ---- pictures of groups, loaded one after another

module _ (s : State) (file : List ℕ) where
  -- as many more nodes as the pictures of the rows' groups have
  pub more_nodes : (t : Table) (ps : List State) (base : State) → ((r : Row) → In r t → Held file r (picture s r.group)) → AllZip (IsPictureOf (Held file)) t ps
      → length (with_pictures ps base).nodes ≡ length base.nodes + pictured_in (groups_in t) s
  more_nodes [] [] base held zip = omega arith
  more_nodes (r ∷ t) (p ∷ ps) base held zip =
      let one : length p.nodes ≡ length (picture s r.group).nodes = ap (λ (q : State). length q.nodes) (held_one file r p (picture s r.group) zip.0.stored (held r (inl refl))) in
      let here = nodes_more base p in
      let rest = more_nodes t ps (with_picture base p) (λ q m. held q (inr m)) zip.1 in
      let all = sum_by-cons (λ (g : Group). length (picture s g).nodes) r.group (groups_in t) in
      omega (arith, one, here, rest, all)
  more_nodes [] (p ∷ ps) base held zip = absurd zip
  more_nodes (r ∷ t) [] base held zip = absurd zip

-- ---- on a good store

module _ (file : List ℕ) (g : Graph) (of : ℕ → Change) (rows : AreRows of) (good : IsGoodStore file g.commits of) where
  -- The pictures that the file holds for rows of a commit's table have as many nodes as their groups' in the commit's replay.
  rows_make : (c : ℕ) → c ≤ newest g → (t : Table) → ((r : Row) → In r t → In r (table_at g of c)) → (ps : List State) (base : State) → AllZip (IsPictureOf (Held file)) t ps
      → length (with_pictures ps base).nodes ≡ length base.nodes + pictured_in (groups_in t) (replay g c)
  rows_make c there t part ps base zip =
      let states = replays_are_states g in
      subst (λ (s : State). length (with_pictures ps base).nodes ≡ length base.nodes + pictured_in (groups_in t) s) (end_replay g c)
      (more_nodes (at_end (stops g c)) file t ps base (λ r m. good_held file g.commits of rows good states c there r (part r m)) zip)

  -- The state that a commit's table gives has as many nodes as the pictures of the commit's groups.
  pub opened_makes : (c : ℕ) → c ≤ newest g → (ps : List State) → AllZip (IsPictureOf (Held file)) (table_at g of c) ps → length (carried [] ps empty).nodes ≡ opened_nodes g c
  opened_makes c there ps zip =
      let all = rows_make c there (table_at g of c) (λ r m. m) ps (without_names [] empty) zip in
      let groups : groups_in (table_at g of c) ≡ groups_of (replay g c) =
      (good_table file g.commits of rows good (replays_are_states g) c there).groups ∙ ap groups_of (end_replay g c) in
      omega (arith, all, ap (λ (gs : List Group). pictured_in gs (replay g c)) groups)

  -- A checkout makes as many as the pictures of the groups have that are loaded.
  pub moved_makes : (h c : ℕ) → h ≤ newest g → c ≤ newest g → (ps : List State) → AllZip (IsPictureOf (Held file)) (to_load (table_at g of h) (table_at g of c)) ps
      → (gs : List Group) (s : State) → length (carried gs ps s).nodes ≡ length s.nodes + loaded_nodes g h c
  moved_makes h c here there ps zip gs s =
      let states = replays_are_states g in
      let t = table_at g of h in
      let u = table_at g of c in
      let all = rows_make c there (to_load t u) (λ r m. (filter_in (λ q. not (is_row_of t q)) u r m).0) ps (without_names (flat_map (λ x. x) gs) s) zip in
      let groups : groups_in (to_load t u) ≡ loaded (stops g h) (stops g c) =
      loads_loaded (stops g h) (stops g c) t u (good_table file g.commits of rows good states h here) (good_table file g.commits of rows good states c there) in
      omega (arith, all, ap (λ (xs : List Group). pictured_in xs (replay g c)) groups)
