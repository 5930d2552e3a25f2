-- The table of a commit of what is told tells the state that its cells left, on every store.
use Rattle.std.specs.Prelude.{◌≡◌, ℕ, suc, ◌+◌, Bool, List, [], ◌∷◌, length, map, refl, Option, Some, None}
use Rattle.std.specs.List.{AllZip}
use Rattle.std.proofs.Common.{ap, sym, ◌∙◌, subst, inl, inr, arith}
use Rattle.std.proofs.lemmas.Bool.Decides.{eqb_tells}
use Rattle.kishu_meaning.specs.values.Values.{State}
use Rattle.kishu_objects.specs.Bytes.{picture_bytes}
use Rattle.kishu_objects.specs.Lists.{In}
use Rattle.kishu_objects.specs.Locality.{Leaves}
use Rattle.kishu_objects.specs.Picture.{picture}
use Rattle.kishu_objects.specs.States.{IsSoundState}
use Rattle.kishu_store.specs.Entries.{Record, commit}
use Rattle.kishu_store.specs.Graph.{newest}
use Rattle.kishu_store.specs.Groups.{Group}
use Rattle.kishu_store.specs.Histories.{History, before_body, before_pictures, head_table, led}
use Rattle.kishu_store.specs.Limits.{newest_profile}
use Rattle.kishu_store.specs.Tables.{Row, Table, Change, groups_in, bytes_at, after, table_of, changes_in, with_change, change_of}
use Rattle.kishu_store_laws.specs.HistoryLaws.{IsHistory, changes-older}
use Rattle.kishu_history.specs.Live.{IsLive}
use Rattle.kishu_history.specs.Stored.{Stored, Keeps}
use Rattle.kishu_history.specs.Tables.{IsTable}
use Rattle.kishu_history.specs.Touched.{change_told}
use Rattle.kishu_history_laws.specs.cells.Led.{LeadsTo}
use Rattle.kishu_history_laws.specs.cells.LedLaws.{leads_here, live_after}
use Rattle.kishu_history_laws.specs.stores.StoreLaws.{live_still}
use Rattle.kishu_history_laws.specs.tables.FileLaws.{kept_is_table}
use Rattle.kishu_delta.specs.Deltas.{stored_by}
use Rattle.kishu_commit.specs.RowLaws.{rows-groups, rows-untold, rows-held}
use Rattle.kishu_commit.specs.StayLaws.{told-stay}
use Rattle.kishu_commit.specs.Told.{measured, with_lengths, record_with, record_by, dropped_told, groups_told, pictures_told, is_still, told_record, change_by, next_entry_by, rows_by, next_entry, next_rows, AreToldBy, PicturesFit, StayStored, CanBeStored}

-- ---- records

lengths-measured : (u : State) (gs : List Group) → with_lengths gs (map (picture_bytes u) gs) ≡ map (measured u) gs
lengths-measured u [] = refl
lengths-measured u (g ∷ gs) = ap (λ (zs : List (Group × ℕ)). measured u g ∷ zs) (lengths-measured u gs)

-- A record of groups, with the pictures that those have which are stored.
pub record-by : (parent : ℕ) (cells : List (List ℕ)) (dropped stored : List Group) (u : State) → record_with parent cells dropped stored (map (picture_bytes u) stored) ≡ record_by parent cells dropped stored u
record-by parent cells dropped stored u = ap (λ (zs : List (Group × ℕ)). with_stored zs) (lengths-measured u stored)
  where
    with_stored : List (Group × ℕ) → Record
    with_stored zs = record { entry = commit parent newest_profile cells dropped zs; pictures = map (picture_bytes u) stored }

-- Where they are those that are told, it is the commit's.
pub record-told : (parent : ℕ) (cells : List (List ℕ)) (t : Table) (s u : State) (accessed : List (List ℕ)) (dropped stored : List Group) → dropped ≡ dropped_told t s accessed u → stored ≡ groups_told t s accessed u
    → record_with parent cells dropped stored (map (picture_bytes u) stored) ≡ told_record parent cells t s accessed u
record-told parent cells t s u accessed dropped stored d e =
    record-by parent cells dropped stored u
    ∙ ap (λ (gs : List Group). record_by parent cells gs stored u) d
    ∙ ap (λ (gs : List Group). record_by parent cells (dropped_told t s accessed u) gs u) e

-- ---- the head's table

-- Behind records that the commit follows:
module _ (h : History) (k : IsHistory h) (cells : List (List ℕ)) (dropped stored : List Group) (u : State) where
  abbrev before : Table
  before = head_table h

  abbrev number : ℕ
  number = suc (newest h.graph)

  abbrev place : ℕ
  place = h.place + before_body + before_pictures (next_entry_by h cells dropped stored u)

  abbrev rows : Table
  rows = rows_by h cells dropped stored u

  abbrev change : Change
  change = change_by dropped rows

  abbrev now : ℕ → Change
  now = with_change (change_of h.changes) (suc (length h.changes)) change

  -- what the commits on the path of its parent change
  abbrev along : (ℕ → Change) → List Change
  along of = changes_in h.graph.commits of h.graph.head.commit

  now-is : now number ≡ change
  now-is = elim (eqb_tells number (suc (length h.changes))) [ inl q ↦ rw q.0 refl | inr q ↦ absurd (q.1 (ap suc (sym k.changes.counted))) ]

  along-is : along now ≡ along (change_of h.changes)
  along-is = changes-older h.graph.commits (change_of h.changes) (suc (length h.changes)) change (let n = k.changes.counted in omega (arith, n)) h.graph.head.commit

  pub table-by : head_table (led h (next_entry_by h cells dropped stored u)) ≡ after (change_by dropped (rows_by h cells dropped stored u)) (head_table h)
  table-by = elim (eqb_tells number (suc (length h.graph.commits))) [
    | inl q ↦ rw q.0 (ap (λ (c : Change). after c (table_of (along now))) now-is ∙ ap (λ (cs : List Change). after change (table_of cs)) along-is)
    | inr q ↦ absurd (q.1 refl)
  ]

  -- ---- live states

  is-table : IsTable before
  is-table = kept_is_table before (k.changes.tables h.graph.head.commit)

  module _ (s : State) (accessed : List (List ℕ)) (same : Group → Bool) (told : AreToldBy before accessed u same dropped stored) (there : IsSoundState u) (leads : LeadsTo accessed s u) (can : PicturesFit u stored) where
    stores : groups_in rows ≡ stored_by (groups_in before) accessed u same
    stores = rows-groups u number place stored ∙ told.1

    -- Where a test tells what stays, and what does is stored for its rows.
    pub tested-live : (at : Option (List ℕ)) → IsLive (Stored at) before s → StayStored at before accessed u same → ((r : Row) → In r rows → Stored at r (picture u r.group)) → IsLive (Stored at) (head_table (led h (next_entry_by h cells dropped stored u))) u
    tested-live at live stay new =
        subst (λ (t : Table). IsLive (Stored at) t u) (sym table-by)
        (subst (λ (ds : List Group). IsLive (Stored at) (after (change_by ds rows) before) u) (sym told.0)
        (live_after (Stored at) before is-table s u live there accessed leads same stay rows stores new))

    -- What is known of a file that isn't told.
    pub tested-untold : IsLive (Stored None) before s → StayStored None before accessed u same → IsLive (Stored None) (head_table (led h (next_entry_by h cells dropped stored u))) u
    tested-untold live stay = tested-live None live stay (rows-untold u number place stored can)

    -- Where the new pictures lie at their rows' places, and the old ones stay there.
    pub tested-held : (file grown : List ℕ) → IsLive (Stored (Some file)) before s → StayStored (Some grown) before accessed u same → Keeps file grown before
        → AllZip (λ r p. bytes_at grown r ≡ p) rows (map (picture_bytes u) stored) → IsLive (Stored (Some grown)) (head_table (led h (next_entry_by h cells dropped stored u))) u
    tested-held file grown live stay keeps lie = tested-live (Some grown) (live_still file grown before s keeps live) stay (rows-held u number place stored can grown lie)

-- ---- where the state before tells what stays

module _ (h : History) (k : IsHistory h) (cells : List (List ℕ)) (s u : State) (accessed : List (List ℕ)) where
  abbrev t : Table
  t = head_table h

  abbrev drops : List Group
  drops = dropped_told t s accessed u

  abbrev comes : List Group
  comes = groups_told t s accessed u

  pub told-table : head_table (led h (next_entry h cells s accessed u)) ≡ after (change_told (head_table h) s accessed u (next_rows h cells s accessed u)) (head_table h)
  told-table = table-by h k cells drops comes u

  module _ (there : IsSoundState u) (leaves : Leaves accessed s u) (can : CanBeStored t s accessed u) where
    pub live-untold : IsLive (Stored None) t s → IsLive (Stored None) (head_table (led h (next_entry h cells s accessed u))) u
    live-untold live = tested-untold h k cells drops comes u s accessed (is_still s u) (refl, refl) there (leads_here accessed s u there leaves) can live (told-stay None t s u accessed live)

    pub live-held : (file grown : List ℕ) → IsLive (Stored (Some file)) t s → Keeps file grown t → AllZip (λ r p. bytes_at grown r ≡ p) (next_rows h cells s accessed u) (pictures_told t s accessed u)
        → IsLive (Stored (Some grown)) (head_table (led h (next_entry h cells s accessed u))) u
    live-held file grown live keeps lie =
        let stay = told-stay (Some grown) t s u accessed (live_still file grown t s keeps live) in
        tested-held h k cells drops comes u s accessed (is_still s u) (refl, refl) there (leads_here accessed s u there leaves) can file grown live stay keeps lie
