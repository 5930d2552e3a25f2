-- A session that is attached to a good store stays attached with one commit more of what is told.
use Rattle.std.specs.Prelude.{◌≡◌, ◌↔◌, ℕ, suc, ◌+◌, List, [], ◌∷◌, ◌++◌}
use Rattle.std.specs.List.{AllZip}
use Rattle.std.proofs.Common.{sym, ◌∙◌, subst}
use Rattle.kishu_meaning.specs.values.Values.{State}
use Rattle.kishu_objects.specs.Lists.{In}
use Rattle.kishu_objects.specs.Locality.{Leaves}
use Rattle.kishu_objects.specs.Picture.{picture}
use Rattle.kishu_objects.specs.States.{IsSoundState}
use Rattle.kishu_replay.specs.Replay.{after_cells}
use Rattle.kishu_store.specs.Entries.{Record}
use Rattle.kishu_store.specs.Graph.{newest, with_commit}
use Rattle.kishu_store.specs.Histories.{History, before_body, before_pictures, head_table, led}
use Rattle.kishu_store.specs.Holds.{HasRecords, history_by}
use Rattle.kishu_store.specs.Limits.{newest_profile}
use Rattle.kishu_store.specs.Tables.{Row, Table, Change, groups_in, bytes_at, with_change, change_of}
use Rattle.kishu_store_laws.specs.HistoryLaws.{IsHistory, rows-versions}
use Rattle.kishu_store_laws.specs.Laws.{history-push}
use Rattle.kishu_history.specs.Accessed.{accessed_by}
use Rattle.kishu_history.specs.Good.{IsAttached}
use Rattle.kishu_history.specs.Sizes.{StaySmall}
use Rattle.kishu_history.specs.Stored.{KeepsRecords, AreNewRows}
use Rattle.kishu_history.specs.Touched.{change_told}
use Rattle.kishu_history_laws.specs.cells.AccessLaws.{stored_same, change_same}
use Rattle.kishu_history_laws.specs.cells.JoinedLaws.{leaves_more}
use Rattle.kishu_history_laws.specs.tables.FileLaws.{all_in, changes_are_rows}
use Rattle.kishu_session_laws.specs.CellLaws.{cells_leave}
use Rattle.kishu_session_laws.specs.RunLaws.{attached_by_cells}
use Rattle.kishu_commit.specs.RecordedLaws.{before-history, new-lie, old-stay}
use Rattle.kishu_commit.specs.RowLaws.{rows-groups, rows-held}
use Rattle.kishu_commit.specs.Told.{groups_told, stored_told, pictures_told, next_entry, next_record, next_rows, CanBeStored}

-- Cells leave what the names that they access didn't reach, however often each is among these.
pub accesses-leave : (cells : List (List ℕ)) (s : State) → IsSoundState s → (accessed : List (List ℕ)) → ((x : List ℕ) → (In x accessed ↔ In x (accessed_by newest_profile cells s))) → Leaves accessed s (after_cells newest_profile cells s)
accesses-leave cells s is accessed same = leaves_more (accessed_by newest_profile cells s) accessed s (after_cells newest_profile cells s) is.sound (cells_leave newest_profile cells s is) (λ x m. (same x).1 m)

module _ (file grown : List ℕ) (h : History) (k : IsHistory h) (s : State) (attached : IsAttached file h.graph (change_of h.changes) s) (keeps : KeepsRecords file grown (newest h.graph) (change_of h.changes))
    (cells : List (List ℕ)) (accessed : List (List ℕ)) (same : (x : List ℕ) → (In x accessed ↔ In x (accessed_by newest_profile cells s))) (small : StaySmall newest_profile cells s) where
  abbrev left : State
  left = after_cells newest_profile cells s

  abbrev before : Table
  before = head_table h

  abbrev number : ℕ
  number = suc (newest h.graph)

  abbrev place : ℕ
  place = h.place + before_body + before_pictures (next_entry h cells s accessed left)

  abbrev new : Table
  new = next_rows h cells s accessed left

  module _ (can : CanBeStored before s accessed left) (lie : AllZip (λ r p. bytes_at grown r ≡ p) new (pictures_told before s accessed left)) where
    -- Its rows are those that are told among the names as the cells accessed them.
    news : AreNewRows grown number before s (accessed_by newest_profile cells s) left new
    news = record {
      groups = rows-groups left number place (groups_told before s accessed left) ∙ stored_same accessed (accessed_by newest_profile cells s) same (groups_in before) (picture s) left;
      version = all_in (λ (r : Row). r.version ≡ number) new (rows-versions number place (stored_told before s accessed left));
      held = rows-held left number place (groups_told before s accessed left) can grown lie;
    }

    -- the commit's change, where it has that number
    abbrev Stays : ℕ → Change → Type 0
    Stays n c = IsAttached grown (with_commit newest_profile cells h.graph) (with_change (change_of h.changes) (suc n) c) left

    stays : IsAttached grown (led h (next_entry h cells s accessed left)).graph (change_of (led h (next_entry h cells s accessed left)).changes) left
    stays =
        let rows = changes_are_rows h.graph h.changes h.place k.changes in
        let by_cells = attached_by_cells file h.graph (change_of h.changes) rows s attached newest_profile cells grown keeps new news small in
        let told = subst (λ (c : Change). Stays (newest h.graph) c) (sym (change_same accessed (accessed_by newest_profile cells s) same before s left new)) by_cells in
        subst (λ (n : ℕ). Stays n (change_told before s accessed left new)) (sym k.changes.counted) told

-- Its pictures lie in the new file at its rows' places.
pub told-attached : (file grown : List ℕ) (h : History) → IsHistory h → (s : State) → IsAttached file h.graph (change_of h.changes) s → KeepsRecords file grown (newest h.graph) (change_of h.changes)
    → (cells : List (List ℕ)) (u : State) → u ≡ after_cells newest_profile cells s → (accessed : List (List ℕ)) → ((x : List ℕ) → (In x accessed ↔ In x (accessed_by newest_profile cells s)))
    → CanBeStored (head_table h) s accessed u → StaySmall newest_profile cells s → AllZip (λ r p. bytes_at grown r ≡ p) (next_rows h cells s accessed u) (pictures_told (head_table h) s accessed u)
    → IsAttached grown (led h (next_entry h cells s accessed u)).graph (change_of (led h (next_entry h cells s accessed u)).changes) u
told-attached file grown h k s attached keeps cells u ran accessed same can small lie =
    subst (λ (v : State). CanBeStored (head_table h) s accessed v → AllZip (λ r p. bytes_at grown r ≡ p) (next_rows h cells s accessed v) (pictures_told (head_table h) s accessed v)
    → IsAttached grown (led h (next_entry h cells s accessed v)).graph (change_of (led h (next_entry h cells s accessed v)).changes) v)
    (sym ran) (λ c l. stays file grown h k s attached keeps cells accessed same small c l) can lie

-- So it is where the new file ends with the commit's record.
pub recorded-attached : (rs : List Record) (file : List ℕ) → HasRecords file rs → (s : State) → IsAttached file (history_by rs).graph (change_of (history_by rs).changes) s
    → (cells : List (List ℕ)) (u : State) → u ≡ after_cells newest_profile cells s → (accessed : List (List ℕ)) → ((x : List ℕ) → (In x accessed ↔ In x (accessed_by newest_profile cells s)))
    → CanBeStored (head_table (history_by rs)) s accessed u → StaySmall newest_profile cells s → (grown : List ℕ) → HasRecords grown (rs ++ (next_record (history_by rs) cells s accessed u ∷ []))
    → IsAttached grown (history_by (rs ++ (next_record (history_by rs) cells s accessed u ∷ []))).graph (change_of (history_by (rs ++ (next_record (history_by rs) cells s accessed u ∷ []))).changes) u
recorded-attached rs file had s attached cells u ran accessed same can small grown has =
    let k = before-history rs cells s u accessed file had grown has in
    let keeps = old-stay rs cells s u accessed file had grown has in
    let lie = new-lie rs cells s u accessed file had grown has in
    subst (λ (n : History). IsAttached grown n.graph (change_of n.changes) u) (sym (history-push rs (next_record (history_by rs) cells s accessed u)))
    (told-attached file grown (history_by rs) k s attached keeps cells u ran accessed same can small lie)
