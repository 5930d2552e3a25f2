-- A checkout leaves a state where it loads states; and on a good store whose cells are texts, each row's picture is a state.
use Rattle.std.specs.Prelude.{◌≤◌, ℕ, List, [], ◌∷◌, flat_map, ◌<◌, ◌^◌, ◌≡◌}
use Rattle.std.specs.List.{AllZip}
use Rattle.std.proofs.Common.{refl, sym, subst, inl, inr, arith}
use Rattle.kishu_meaning.specs.moments.Accesses.{unbind}
use Rattle.kishu_meaning.specs.values.Values.{State}
use Rattle.kishu_store.specs.Graph.{Graph, newest}
use Rattle.kishu_replay.specs.Replay.{replay}
use Rattle.kishu_objects.specs.Lists.{In}
use Rattle.kishu_objects.specs.Loading.{with_picture}
use Rattle.kishu_objects.specs.Picture.{picture, listed}
use Rattle.kishu_objects.specs.Reading.{IsInOrder}
use Rattle.kishu_objects.specs.State.{IsState}
use Rattle.kishu_state_laws.specs.Fitting.{state_fits}
use Rattle.kishu_state_laws.specs.HeldLaws.{AreTexts}
use Rattle.kishu_state_laws.specs.Pictures.{picture_is_state, with_picture_is_state, unbound_is_state}
use Rattle.kishu_state_laws.specs.Real.{state_is_real}
use Rattle.kishu_history.specs.Changed.{Group}
use Rattle.kishu_history.specs.Checkout.{without_names, with_pictures, carried}
use Rattle.kishu_history.specs.Good.{IsGoodStore}
use Rattle.kishu_history.specs.Live.{IsStoredPicture}
use Rattle.kishu_history.specs.Paths.{stops, table_at, AreRows}
use Rattle.kishu_history.specs.Stored.{Held, IsWritten}
use Rattle.kishu_history.specs.Tables.{Row, Table, Change}
use Rattle.kishu_history.specs.Versions.{at_end}
use Rattle.kishu_history_laws.specs.checkouts.AnewLaws.{own_picture}
use Rattle.kishu_history_laws.specs.stores.ReplayLaws.{replay_live}
use Rattle.kishu_history_laws.specs.stores.StoreLaws.{good_is_table}
use Rattle.kishu_history_laws.specs.tables.RecordLaws.{read_picture}
use Rattle.kishu_history_laws.specs.versions.PathLaws.{end_replay}
use Rattle.kishu_session_laws.specs.CellLaws.{replays_are_states}
use Rattle.kishu_session_laws.specs.WrittenLaws.{is_state}

-- ---- checkouts

without_is_state : (xs : List (List ℕ)) (s : State) → IsState s → IsState (without_names xs s)
without_is_state [] s h = h
without_is_state (x ∷ xs) s h = without_is_state xs (record { names = unbind x s.names; nodes = s.nodes }) (unbound_is_state s x h)

with_all : (ps : List State) (s : State) → IsState s → ((p : State) → In p ps → IsState p) → IsState (with_pictures ps s)
with_all [] s h there = h
with_all (p ∷ ps) s h there = with_all ps (with_picture s p) (with_picture_is_state s p h (there p (inl refl))) (λ q m. there q (inr m))

pub carried_is_state : (gs : List Group) (ps : List State) (s : State) → IsState s → ((p : State) → In p ps → IsState p) → IsState (carried gs ps s)
carried_is_state gs ps s h there = with_all ps (without_names (flat_map (λ g. g) gs) s) (without_is_state (flat_map (λ g. g) gs) s h) there

-- what was stored for rows are states
pub stored_are_states : (at : Row → State → Type 0) (t : Table) (ps : List State) → AllZip (IsStoredPicture at) t ps → (p : State) → In p ps → IsState p
stored_are_states at [] [] zip p m = absurd m
stored_are_states at (r ∷ t) (q ∷ ps) zip p (inl e) = subst (λ z. IsState z) (sym e) zip.0.state
stored_are_states at (r ∷ t) (q ∷ ps) zip p (inr m) = stored_are_states at t ps zip.1 p m
stored_are_states at [] (q ∷ ps) zip p m = absurd zip
stored_are_states at (r ∷ t) [] zip p m = absurd zip

-- A state that reads in order and has a row's names may be loaded for the row, where the file has its bytes at the row's place.
pub read_state : (file : List ℕ) (r : Row) (p : State) → IsState p → IsInOrder p → listed p ≡ r.group → IsWritten file r p → r.len < 2 ^ 32 → IsStoredPicture (Held file) r p
read_state file r p is order names written l =
    let real = state_is_real p is in
    let len = written.len in
    record { state = is; loads = read_picture file r p real.sound real.rise order (state_fits p is (omega (arith, l, len))) names written.bytes len }

-- ---- good stores

pub good_pictures : (file : List ℕ) (g : Graph) (of : ℕ → Change) → AreRows of → IsGoodStore file g.commits of → AreTexts g.commits → (c : ℕ) → c ≤ newest g → (r : Row) → In r (table_at g of c) → IsStoredPicture (Held file) r (picture (replay g c) r.group)
good_pictures file g of rows good cells c l r m =
    let states = replays_are_states g in
    let table = good_is_table file g.commits of rows good states c l in
    let own = own_picture (Held file) (table_at g of c) table (at_end (stops g c)) (replay_live file g.commits of rows good states c l) r m in
    let is = picture_is_state (at_end (stops g c)) (is_state g.commits cells c) r.group (table.ordered r m) in
    subst (λ s. IsStoredPicture (Held file) r (picture s r.group)) (end_replay g c) (record { state = is; loads = own })
