-- On a good store the rows of commits take just the bytes of their groups' pictures in the commits' replays.
use Rattle.std.specs.Prelude.{◌≡◌, ◌≤◌, ℕ, not, List, length, Some}
use Rattle.std.proofs.Common.{ap, sym, subst, ◌∙◌}
use Rattle.kishu_meaning.specs.values.Values.{State}
use Rattle.kishu_objects.specs.Bytes.{picture_bytes}
use Rattle.kishu_objects.specs.Groups.{groups_of}
use Rattle.kishu_objects.specs.Lists.{In}
use Rattle.kishu_objects.specs.Picture.{picture}
use Rattle.kishu_objects.specs.Sizes.{size, size_among}
use Rattle.kishu_objects_laws.specs.ListLaws.{filter_in}
use Rattle.kishu_store.specs.Graph.{Graph, newest}
use Rattle.kishu_replay.specs.Replay.{replay}
use Rattle.kishu_history.specs.Changed.{Group}
use Rattle.kishu_history.specs.Checkout.{is_row_of, to_load}
use Rattle.kishu_history.specs.Good.{IsGoodStore}
use Rattle.kishu_history.specs.Paths.{stops, table_at, AreRows}
use Rattle.kishu_history.specs.Tables.{Row, Table, bytes_in, groups_in, Change}
use Rattle.kishu_history.specs.Versions.{at_end, loaded}
use Rattle.kishu_history_laws.specs.checkouts.PlaceLaws.{stored_len}
use Rattle.kishu_history_laws.specs.checkouts.PlanLaws.{loads_loaded}
use Rattle.kishu_history_laws.specs.stores.ReplayLaws.{good_held, good_table}
use Rattle.kishu_history_laws.specs.tables.SplitLaws.{rows_take}
use Rattle.kishu_history_laws.specs.versions.PathLaws.{end_replay}
use Rattle.kishu_session_laws.specs.CellLaws.{replays_are_states}

module _ (file : List ℕ) (g : Graph) (of : ℕ → Change) (rows : AreRows of) (good : IsGoodStore file g.commits of) where
  rows_take_theirs : (c : ℕ) → c ≤ newest g → (t : Table) → ((r : Row) → In r t → In r (table_at g of c)) → bytes_in t ≡ size_among (groups_in t) (replay g c)
  rows_take_theirs c there t part =
      let end = at_end (stops g c) in
      subst (λ (s : State). bytes_in t ≡ size_among (groups_in t) s) (end_replay g c)
      (rows_take (λ (x : Group). length (picture_bytes end x)) t (λ r m. sym (stored_len (Some file) r (picture end r.group) (good_held file g.commits of rows good (replays_are_states g) c there r (part r m)))))

  -- The rows that a checkout loads take what the groups take that are loaded.
  pub moved_bytes : (h c : ℕ) → h ≤ newest g → c ≤ newest g → bytes_in (to_load (table_at g of h) (table_at g of c)) ≡ size_among (loaded (stops g h) (stops g c)) (replay g c)
  moved_bytes h c here there =
      let states = replays_are_states g in
      let t = table_at g of h in
      let u = table_at g of c in
      let groups : groups_in (to_load t u) ≡ loaded (stops g h) (stops g c) =
      loads_loaded (stops g h) (stops g c) t u (good_table file g.commits of rows good states h here) (good_table file g.commits of rows good states c there) in
      rows_take_theirs c there (to_load t u) (λ r m. (filter_in (λ q. not (is_row_of t q)) u r m).0)
      ∙ ap (λ (gs : List Group). size_among gs (replay g c)) groups

  -- All rows of a commit's table take what its state takes.
  pub opened_bytes : (c : ℕ) → c ≤ newest g → bytes_in (table_at g of c) ≡ size (replay g c)
  opened_bytes c there =
      let groups : groups_in (table_at g of c) ≡ groups_of (replay g c) =
      (good_table file g.commits of rows good (replays_are_states g) c there).groups ∙ ap groups_of (end_replay g c) in
      rows_take_theirs c there (table_at g of c) (λ r m. m)
      ∙ ap (λ (gs : List Group). size_among gs (replay g c)) groups
