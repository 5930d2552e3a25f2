-- A file that ends with one record more, or with none: its head's table tells the live state, and where the file before was good, it is good.
use Rattle.std.proofs.Common.{◌≡◌, ⊎_elim, ℕ, List, [], ◌∷◌, ◌++◌, length, refl, sym, ◌∙◌, ap, subst}
use Rattle.std.proofs.lemmas.List.{append-nil}
use Rattle.std.specs.Prelude.{Option, Some, None}
use Rattle.kishu_meaning.specs.values.Values as values
use Rattle.kishu_objects.specs.States.{IsSoundState}
use Rattle.kishu_store.specs.Entries.{Record}
use Rattle.kishu_store.specs.Graph.{Commit, Graph, newest}
use Rattle.kishu_store.specs.Histories.{History, head_table}
use Rattle.kishu_store.specs.Holds.{HasRecords, Holds, history_by}
use Rattle.kishu_store.specs.Limits.{newest_profile}
use Rattle.kishu_store.specs.Tables.{Table, Change, change_of, groups_in, table_in}
use Rattle.kishu_store_laws.specs.Laws.{has-holds, has-gives, history-graph, history-push}
use Rattle.kishu_store_laws.specs.PlaceLaws.{pictures-stay, has-history}
use Rattle.kishu_history.specs.Accessed.{accessed_by}
use Rattle.kishu_history.specs.Good.{IsAttached, IsGoodFileOf, IsGoodStore}
use Rattle.kishu_history.specs.Live.{IsLive}
use Rattle.kishu_history.specs.Paths.{AreRows}
use Rattle.kishu_history.specs.Sizes.{StaySmall}
use Rattle.kishu_history.specs.Stored.{Stored, Keeps, KeepsRecords}
use Rattle.kishu_history_laws.specs.stores.AttachedLaws.{attached_still}
use Rattle.kishu_history_laws.specs.stores.BackLaws.{same_live}
use Rattle.kishu_history_laws.specs.stores.StoreLaws.{live_still}
use Rattle.kishu_history_laws.specs.tables.FileLaws.{changes_are_rows, stay_keeps}
use Rattle.kishu_history_laws.specs.versions.PathLaws.{rows_recorded}
use Rattle.kishu_objects.specs.Locality.{Leaves}
use Rattle.kishu_replay.specs.Replay.{after_cells}
use Rattle.kishu_session_laws.specs.CellLaws.{cells_keep}
use Rattle.kishu_graph.specs.Tables.{table_of_rows}
use Rattle.kishu_delta.specs.Kept.{Digests, KeepsJust}
use Rattle.kishu_commit.specs.AttachedLaws.{accesses-leave, recorded-attached}
use Rattle.kishu_commit.specs.RecordedLaws.{recorded-live}
use Rattle.kishu_commit.specs.Told.{next_record, CanBeStored}
use Rattle.kishu_session.specs.Committing.{IsTold}
use Rattle.kishu_session.specs.Head.{LivesAt, KeepsTable}
use Rattle.kishu_session.specs.Known.{IsHistoryOf}
use Rattle.kishu_session.specs.Lives.{state_of}
use Rattle.kishu_session.specs.Prepared.{led_with}
use Rattle.kishu_session.specs.Recording.{with_new}
use Rattle.kishu_session.specs.declared.head.Head.{Head}
use Rattle.kishu_session.proofs.RecordKinds.{IsSameStore, IsStill, IsMoved, IsReloaded, IsCommitted, Kind, same-table, same-head-table}
use Rattle.kishu_session.proofs.Carried.{carried-held, carried-lives, carried-untold}
use Rattle.kishu_session.proofs.LoadFacts.{lives-untold}
use Rattle.kishu_session.proofs.SameRecords.{fits-same, record-same}

-- ---- cells that were committed

module _ (file : Option (List ℕ)) (old new : Head) (h : History) (r : Option Record) (k : IsCommitted file old new h r) (sound : IsSoundState (state_of old.live)) where
  -- the names that they accessed, and what they left of the old live state
  abbrev pub own : List (List ℕ)
  own = accessed_by newest_profile k.cells (state_of old.live)

  abbrev pub left : values.State
  left = after_cells newest_profile k.cells (state_of old.live)

  pub left-sound : IsSoundState left
  left-sound = cells_keep newest_profile k.cells (state_of old.live) sound

  pub own-leave : Leaves own (state_of old.live) left
  own-leave = accesses-leave k.cells (state_of old.live) sound own (λ x. (λ m. m, λ m. m))

  -- The record says what it would of that.
  pub told-left : IsTold file (head_table h) (state_of old.live) → r ≡ Some (next_record h k.cells (state_of old.live) own left)
  told-left told = k.told told ∙ ap (λ (x : Record). Some x) (record-same (state_of old.live) own (state_of new.live) left k.sound left-sound k.ran.same h k.cells)

  pub left-fits : CanBeStored (head_table h) (state_of old.live) own left
  left-fits = fits-same (state_of old.live) own (state_of new.live) left k.sound left-sound k.ran.same (head_table h) k.fits

-- ---- what is kept of the head's table

module _ (file : Option (List ℕ)) (old new : Head) (h : History) (held : KeepsTable old h) where
  still-held : (n : History) → IsStill old new h n → KeepsTable new n
  still-held n k =
      let same = sym (same-head-table h n k.same k.head) in
      record {
        table = ap table_of_rows k.table ∙ held.table ∙ same;
        pictures =
            subst (λ (t : Table). KeepsJust new.kept (groups_in t) (state_of new.live)) same
            (subst (λ (d : Digests). KeepsJust d (groups_in (head_table h)) (state_of new.live)) (sym k.kept)
            (subst (λ (s : values.State). KeepsJust old.kept (groups_in (head_table h)) s) (sym k.live) held.pictures));
      }

  pub held-led : (r : Option Record) → IsHistoryOf new.graph (led_with h r) → Kind file old new h r (led_with h r) → KeepsTable new (led_with h r)
  held-led r kept kind =
      ⊎_elim (still-held (led_with h r))
      (⊎_elim (λ (k : IsMoved file old new h (led_with h r)). carried-held file old new h (led_with h r) k kept)
      (⊎_elim (λ (k : IsReloaded file new h r (led_with h r)). (k.loaded (led_with h r) kept).held)
      (λ (k : IsCommitted file old new h r). k.held (led_with h r) kept))) kind

-- ---- whatever the host tells

-- The pictures of the new head's table have the lengths that it tells.
module _ (file : Option (List ℕ)) (old new : Head) (h : History) (lives : LivesAt None old h) where
  still-untold : (n : History) → IsStill old new h n → LivesAt None new n
  still-untold n k =
      subst (λ (t : Table). IsLive (Stored None) t (state_of new.live)) (sym (same-head-table h n k.same k.head))
      (subst (λ (s : values.State). IsLive (Stored None) (head_table h) s) (sym k.live) lives)

  committed-untold : (n : History) → IsHistoryOf new.graph n → (r : Option Record) → IsCommitted file old new h r → LivesAt None new n
  committed-untold n kept r k = subst (λ (t : Table). IsLive (Stored None) t (state_of new.live)) (k.held n kept).table k.lives

  pub lives-led : (r : Option Record) → IsHistoryOf new.graph (led_with h r) → Kind file old new h r (led_with h r) → LivesAt None new (led_with h r)
  lives-led r kept kind =
      ⊎_elim (still-untold (led_with h r))
      (⊎_elim (λ (k : IsMoved file old new h (led_with h r)). carried-untold file old new h (led_with h r) k kept lives)
      (⊎_elim (λ (k : IsReloaded file new h r (led_with h r)). lives-untold file (head_table (led_with h r)) (state_of new.live)
      (k.loaded (led_with h r) kept).lives) (committed-untold (led_with h r) kept r))) kind

-- ---- tables in a file that has grown

keeps-table : (file grown : List ℕ) (ks : List Commit) (of : ℕ → Change) → AreRows of → KeepsRecords file grown (length ks) of → (c : ℕ)
    → Keeps file grown (table_in ks of c)
keeps-table file grown ks of rows keeps c r m = (let q = rows_recorded ks of rows c r m in keeps r.version q.1 r q.0)

-- ---- records behind those of a file

with-more : (rs : List Record) (r : Option Record) → (more : List Record) × (rs ++ more ≡ with_new rs r)
with-more rs None = ([], append-nil rs)
with-more rs (Some r) = (r ∷ [], refl)

pub led-is : (rs : List Record) (r : Option Record) → led_with (history_by rs) r ≡ history_by (with_new rs r)
led-is rs None = refl
led-is rs (Some r) = sym (history-push rs r)

module _ (file grown : List ℕ) (rs : List Record) (r : Option Record) (has : HasRecords file rs) (has_grown : HasRecords grown (with_new rs r)) where
  abbrev h : History
  h = history_by rs

  abbrev n : History
  n = history_by (with_new rs r)

  abbrev of : ℕ → Change
  of = change_of h.changes

  rows : AreRows of
  rows = changes_are_rows h.graph h.changes h.place (has-history file rs has).changes

  keeps : KeepsRecords file grown (newest h.graph) of
  keeps =
      let more = with-more rs r in
      stay_keeps file grown h.changes (newest h.graph) (pictures-stay file grown rs more.0 has (subst (HasRecords grown) (sym more.1) has_grown))

  -- the table of a commit of before
  stays-there : (c : ℕ) (s : values.State) → IsLive (Stored (Some file)) (table_in h.graph.commits of c) s
      → IsLive (Stored (Some grown)) (table_in h.graph.commits of c) s
  stays-there c s live = live_still file grown (table_in h.graph.commits of c) s (keeps-table file grown h.graph.commits of rows keeps c) live

  module _ (old new : Head) where
    -- ---- the live state

    head-grown : IsSameStore h n → LivesAt (Some file) new n → LivesAt (Some grown) new n
    head-grown same lives =
        let table = same-table h n same n.graph.head.commit in
        subst (λ (t : Table). IsLive (Stored (Some grown)) t (state_of new.live)) (sym table)
        (stays-there n.graph.head.commit (state_of new.live) (subst (λ (t : Table). IsLive (Stored (Some file)) t (state_of new.live)) table lives))

    module _ (lives : LivesAt (Some file) old h) where
      still-grown : IsStill old new h n → LivesAt (Some grown) new n
      still-grown k =
          subst (λ (t : Table). IsLive (Stored (Some grown)) t (state_of new.live)) (sym (same-head-table h n k.same k.head))
          (subst (λ (s : values.State). IsLive (Stored (Some grown)) (head_table h) s) (sym k.live)
          (stays-there h.graph.head.commit (state_of old.live) lives))

      committed-grown : IsCommitted (Some file) old new h r → LivesAt (Some grown) new n
      committed-grown k =
          let s = state_of old.live in
          let x = left (Some file) old new h r k lives.state in
          let names = own (Some file) old new h r k lives.state in
          let is = told-left (Some file) old new h r k lives.state lives in
          let sound = left-sound (Some file) old new h r k lives.state in
          subst (λ (o : Option Record). LivesAt (Some grown) new (history_by (with_new rs o))) (sym is)
          (same_live (Stored (Some grown)) (head_table (history_by (with_new rs (Some (next_record h k.cells s names x))))) (state_of new.live) x k.sound
          (recorded-live rs k.cells s x names file has grown (subst (λ (o : Option Record). HasRecords grown (with_new rs o)) is has_grown) lives sound (own-leave (Some file) old new h r k lives.state) (left-fits (Some file) old new h r k lives.state))
          k.ran.same)

      pub lives-grown : IsHistoryOf new.graph n → Kind (Some file) old new h r n → LivesAt (Some grown) new n
      lives-grown kept kind =
          ⊎_elim still-grown
          (⊎_elim (λ (k : IsMoved (Some file) old new h n). head-grown k.same (carried-lives (Some file) old new h n k kept lives))
          (⊎_elim (λ (k : IsReloaded (Some file) new h r n). head-grown k.same (k.loaded n kept).lives) committed-grown)) kind

    -- ---- a good file

    module _ (attached : IsAttached file h.graph of (state_of old.live)) where
      abbrev s : values.State
      s = state_of old.live

      good-by : IsGoodStore grown n.graph.commits (change_of n.changes) → IsGoodFileOf grown n.graph
      good-by store = record {
        changes = n.changes;
        holds = subst (λ (g : Graph). Holds grown g) (sym (history-graph (with_new rs r))) (has-holds grown (with_new rs r) has_grown);
        gives = has-gives grown (with_new rs r) has_grown;
        store = store;
      }

      same-good : IsSameStore h n → IsGoodFileOf grown n.graph
      same-good same =
          let here = (attached_still file grown h.graph of rows s attached keeps h.graph refl refl).good in
          good-by
          (subst (λ (ks : List Commit). IsGoodStore grown ks (change_of n.changes)) (sym same.commits)
          (subst (λ (cs : List Change). IsGoodStore grown h.graph.commits (change_of cs)) (sym same.changes) here))

      committed-good : (k : IsCommitted (Some file) old new h r) → StaySmall newest_profile k.cells s → IsGoodFileOf grown n.graph
      committed-good k small =
          let x = left (Some file) old new h r k attached.told.state in
          let names = own (Some file) old new h r k attached.told.state in
          let is = told-left (Some file) old new h r k attached.told.state attached.told in
          let next = subst (λ (o : Option Record). HasRecords grown (with_new rs o)) is has_grown in
          let after = recorded-attached rs file has s attached k.cells x refl names (λ x. (λ m. m, λ m. m)) (left-fits (Some file) old new h r k attached.told.state) small grown next in
          good-by (subst (λ (o : Option Record). IsGoodStore grown (history_by (with_new rs o)).graph.commits
          (change_of (history_by (with_new rs o)).changes)) (sym is) after.good)

      pub good-grown : Kind (Some file) old new h r n → ((k : IsCommitted (Some file) old new h r) → StaySmall newest_profile k.cells s) → IsGoodFileOf grown n.graph
      good-grown kind small =
          ⊎_elim (λ (k : IsStill old new h n). same-good k.same)
          (⊎_elim (λ (k : IsMoved (Some file) old new h n). same-good k.same)
          (⊎_elim (λ (k : IsReloaded (Some file) new h r n). same-good k.same) (λ (k : IsCommitted (Some file) old new h r). committed-good k (small k)))) kind
