-- On a good store a cell's lists are what its commit drops and stores, and the live state that a commit's table tells is the same as its replay.
use Rattle.std.specs.Prelude.{◌≡◌, ◌≤◌, ℕ, List, [], ◌∷◌, length}
use Rattle.std.proofs.Common.{ap, sym, ◌∙◌, subst}
use Rattle.kishu_meaning.specs.values.Values.{State}
use Rattle.kishu_store.specs.Graph.{Commit}
use Rattle.kishu_objects.specs.Same.{Same}
use Rattle.kishu_objects.specs.Picture.{picture}
use Rattle.kishu_objects.specs.Lists.{In}
use Rattle.kishu_objects_laws.specs.BytesLaws.{reads_state}
use Rattle.kishu_objects_laws.specs.ListLaws.{map_in}
use Rattle.kishu_objects.specs.Groups.{groups_of}
use Rattle.kishu_history.specs.Changed.{Group}
use Rattle.kishu_objects.specs.States.{IsSoundState}
use Rattle.kishu_history.specs.Versions.{AreStates, Stop, at_end, version, stored, dropped, Falls}
use Rattle.kishu_history.specs.Tables.{Row, Table, group_in, groups_in, Change, IsRight}
use Rattle.kishu_history.specs.Paths.{stops_in, changes_in, table_in, AreRows}
use Rattle.kishu_history.specs.Touched.{dropped_among, stored_among}
use Rattle.kishu_history.specs.Cut.{IsCut}
use Rattle.kishu_objects.specs.Locality.{Leaves}
use Rattle.kishu_history.specs.Live.{IsLive}
use Rattle.kishu_history.specs.Stored.{Held}
use Rattle.kishu_history.specs.Good.{IsGoodStore}
use Rattle.kishu_history_laws.specs.states.SameLaws.{same_groups, same_changed}
use Rattle.kishu_history_laws.specs.Choices.{in_map}
use Rattle.kishu_history_laws.specs.versions.VersionLaws.{version_stop}
use Rattle.kishu_history_laws.specs.states.StateLaws.{end_state}
use Rattle.kishu_history_laws.specs.tables.TableLaws.{tables_right}
use Rattle.kishu_history_laws.specs.cells.LeavesLaws.{groups_are_cut, dropped_changed, stored_changed}
use Rattle.kishu_history_laws.specs.checkouts.CheckoutLaws.{live_same}
use Rattle.kishu_history_laws.specs.versions.PathLaws.{falls_in, stop_in, rows_recorded}
use Rattle.kishu_history_laws.specs.checkouts.PlanLaws.{right_table}
use Rattle.kishu_history_laws.specs.versions.VersionLaws as versions

-- ---- a cell

-- Where the live states before and after a cell are the same as the replays, and the table is right, the lists that are told among the touched names are just what the new commit drops and stores.
module _ (ks : List Stop) (k : Stop) (states : AreStates (k ∷ ks)) (falls : Falls (k ∷ ks)) (t : Table) (right : IsRight ks t)
    (s u : State) (here : IsSoundState s) (there : IsSoundState u) (before : Same s (at_end ks)) (after : Same u k.state)
    (accessed : List (List ℕ)) (leaves : Leaves accessed s u) where
  same_table : groups_in t ≡ groups_of s
  same_table = right.groups ∙ sym (same_groups s (at_end ks) here (end_state ks states.1) before)

  pub cell_drops : dropped_among (groups_in t) (picture s) accessed u ≡ dropped (k ∷ ks)
  cell_drops =
      ap (λ gs. dropped_among gs (picture s) accessed u) same_table
      ∙ dropped_changed accessed s u here there leaves
      ∙ same_changed s u (at_end ks) k.state here there (end_state ks states.1) states.0 before after

  pub cell_stores : stored_among (groups_in t) (picture s) accessed u ≡ stored (k ∷ ks)
  cell_stores =
      ap (λ gs. stored_among gs (picture s) accessed u) same_table
      ∙ stored_changed accessed s u here there leaves
      ∙ same_changed u s k.state (at_end ks) there here states.0 (end_state ks states.1) after before
      ∙ sym (versions.stored_changed k ks falls)

-- ---- a checkout on a good store

-- What a file holds at one place is one picture.
pub held_one : (file : List ℕ) (r : Row) (p q : State) → Held file r p → Held file r q → p ≡ q
held_one file r p q a b = reads_state p q a.fits b.fits (sym a.bytes ∙ b.bytes)

path_stop : (ks : List Stop) (g : Group) → In g (groups_of (at_end ks)) → (j : Stop) × In j ks × (j.commit ≡ version ks g) × (picture j.state g ≡ picture (at_end ks) g)
path_stop [] g m = absurd m
path_stop (k ∷ ks) g m = (let v = version_stop k ks g m in (v.0, v.1, v.2, v.4))

module _ (file : List ℕ) (ks : List Commit) (of : ℕ → Change) (rows : AreRows of) (good : IsGoodStore file ks of) (states : (c : ℕ) → AreStates (stops_in ks c)) where
  abbrev replayed : ℕ → State
  replayed c = at_end (stops_in ks c)

  pub good_table : (c : ℕ) → c ≤ length ks → IsRight (stops_in ks c) (table_in ks of c)
  good_table c l = tables_right (stops_in ks c) (changes_in ks of c) (states c) (falls_in ks c) (good.right c l)

  -- the group of a row has its version's picture
  version_picture : (c : ℕ) → c ≤ length ks → (r : Row) → In r (table_in ks of c) → picture (replayed r.version) r.group ≡ picture (replayed c) r.group
  version_picture c l r m =
      let right = good_table c l in
      let v = path_stop (stops_in ks c) r.group (subst (λ gs. In r.group gs) right.groups (in_map group_in (table_in ks of c) r m)) in
      let e : r.version ≡ v.0.commit = right.versions r m ∙ sym v.2 in
      ap (λ s. picture s r.group) (ap replayed e ∙ sym (stop_in ks c v.0 v.1).1) ∙ v.3

  -- For each row of a commit's table the file holds its group's picture in the commit's replay, and no other.
  pub good_held : (c : ℕ) → c ≤ length ks → (r : Row) → In r (table_in ks of c) → Held file r (picture (replayed c) r.group)
  good_held c l r m =
      let q = rows_recorded ks of rows c r m in
      subst (λ p. Held file r p) (version_picture c l r m) (good.pictures r.version q.1 r q.0)

  good_picture : (c : ℕ) → c ≤ length ks → (r : Row) (p : State) → In r (table_in ks of c) → Held file r p → p ≡ picture (replayed c) r.group
  good_picture c l r p m h = held_one file r p (picture (replayed c) r.group) h (good_held c l r m)

  -- The replay itself is a state that the table tells.
  pub replay_live : (c : ℕ) → c ≤ length ks → IsLive (Held file) (table_in ks of c) (replayed c)
  replay_live c l =
      let t = table_in ks of c in
      let right = good_table c l in
      let is = end_state (stops_in ks c) (states c) in
      let table = right_table (stops_in ks c) t is right in
      let cut : IsCut (groups_in t) (replayed c) = subst (λ gs. IsCut gs (replayed c)) (sym right.groups) (groups_are_cut (replayed c) is.sound) in record {
        state = is;
        bound = λ x. (
          λ m. let k = (cut.bound x).0 m in let r = map_in group_in t k.0 k.1 in (r.0, r.1, subst (λ g. In x g) r.2 k.2),
          λ k. (cut.bound x).1 (k.0.group, in_map group_in t k.0 k.1, k.2),
        );
        apart = λ r q x y m n a b touch.
            let e = cut.apart r.group q.group x y (in_map group_in t r m) (in_map group_in t q n) a b touch in
            table.one r q x m n a (subst (λ g. In x g) e a);
        pictures = λ r m. good_held c l r m;
      }

  -- The live state that the table of a commit tells is the same as the commit's replay.
  pub live_replay : (c : ℕ) → c ≤ length ks → (s : State) → IsLive (Held file) (table_in ks of c) s → Same s (replayed c)
  live_replay c l s live =
      let right = good_table c l in
      let is = end_state (stops_in ks c) (states c) in
      live_same (Held file) (table_in ks of c) s (replayed c) (right_table (stops_in ks c) (table_in ks of c) is right) live is
      (subst (λ gs. IsCut gs (replayed c)) (sym right.groups) (groups_are_cut (replayed c) is.sound)) (good_picture c l)
