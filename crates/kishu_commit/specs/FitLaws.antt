-- A commit of what is told fits the table of its parent, and the records before it.
use Rattle.std.specs.Prelude.{◌≡◌, ◌<◌, ◌≤◌, ℕ, suc, ◌+◌, Bool, List, refl, None}
use Rattle.std.proofs.Common.{sym, ◌∙◌, subst, arith}
use Rattle.kishu_meaning.specs.values.Values.{State}
use Rattle.kishu_objects.specs.Lists.{In}
use Rattle.kishu_objects.specs.Locality.{Leaves}
use Rattle.kishu_objects.specs.Picture.{picture}
use Rattle.kishu_objects.specs.Sizes.{size_among, most_bytes}
use Rattle.kishu_objects.specs.States.{IsSoundState}
use Rattle.kishu_store.specs.Graph.{newest}
use Rattle.kishu_store.specs.Groups.{Group}
use Rattle.kishu_store.specs.Histories.{History, before_body, before_pictures, head_table, FollowsAt, Follows}
use Rattle.kishu_store.specs.Limits.{most_records}
use Rattle.kishu_store.specs.Tables.{Row, Table, groups_in, bytes_in, after, FitsTable}
use Rattle.kishu_store_laws.specs.HistoryLaws.{IsHistory}
use Rattle.kishu_history.specs.Live.{IsLive}
use Rattle.kishu_history.specs.Stored.{Stored}
use Rattle.kishu_history.specs.Tables.{IsTable}
use Rattle.kishu_history.specs.Touched.{classes, untouched, change_told, size_told}
use Rattle.kishu_history_laws.specs.cells.Led.{LeadsTo}
use Rattle.kishu_history_laws.specs.cells.LedLaws.{leads_here, table_after}
use Rattle.kishu_history_laws.specs.cells.SizeLaws.{tested_takes}
use Rattle.kishu_history_laws.specs.tables.FileLaws.{kept_is_table}
use Rattle.kishu_delta.specs.Deltas.{dropped_by, stored_by}
use Rattle.kishu_commit.specs.ApartLaws.{table-apart, each-among}
use Rattle.kishu_commit.specs.RowLaws.{rows_of, rows-groups, rows-untold}
use Rattle.kishu_commit.specs.StayLaws.{told-stay}
use Rattle.kishu_commit.specs.Told.{dropped_told, groups_told, is_still, change_by, next_entry_by, next_entry, AreToldBy, PicturesFit, StayStored, CanBeStored}
use Rattle.kishu_commit.specs.WritingLaws.{dropped-inside}

-- ---- by a test

module _ (t : Table) (is : IsTable t) (s u : State) (accessed : List (List ℕ)) (live : IsLive (Stored None) t s) (there : IsSoundState u) (leads : LeadsTo accessed s u)
    (same : Group → Bool) (stay : StayStored None t accessed u same) (dropped stored : List Group) (told : AreToldBy t accessed u same dropped stored)
    (can : PicturesFit u stored) (small : size_told t accessed u ≤ most_bytes) (number place : ℕ) where
  abbrev rows : Table
  rows = rows_of u number place stored

  abbrev drops : List Group
  drops = dropped_by (groups_in t) accessed u same

  stores : groups_in rows ≡ stored_by (groups_in t) accessed u same
  stores = rows-groups u number place stored ∙ told.1

  new : (r : Row) → In r rows → Stored None r (picture u r.group)
  new = rows-untold u number place stored can

  inside : (g : Group) → In g dropped → In g (groups_in t)
  inside g m = dropped-inside t accessed u same g (subst (λ (gs : List Group). In g gs) told.0 m)

  is-table : IsTable (after (change_by dropped rows) t)
  is-table =
      subst (λ (ds : List Group). IsTable (after (change_by ds rows) t)) (sym told.0)
      (table_after (Stored None) t is s u live there accessed leads same stay rows stores new)

  takes : bytes_in (after (change_by dropped rows) t) ≡ bytes_in (untouched t accessed) + size_among (classes (groups_in t) accessed u) u
  takes =
      subst (λ (ds : List Group). bytes_in (after (change_by ds rows) t) ≡ bytes_in (untouched t accessed) + size_among (classes (groups_in t) accessed u) u) (sym told.0)
      (tested_takes None t s u accessed same rows is live there stay stores new)

  -- Wherever its pictures lie.
  pub tested-fits : FitsTable t (change_by dropped rows)
  tested-fits = record {
    dropped = each-among dropped (groups_in t) inside;
    apart = table-apart (after (change_by dropped rows) t) is-table;
    small = omega (arith, takes, small);
  }

-- The commit fits behind records, wherever its body stands, where there is room for one more.
pub tested-follows-at : (body : ℕ) (h : History) → IsHistory h → (cells : List (List ℕ)) (s u : State) (accessed : List (List ℕ)) → IsLive (Stored None) (head_table h) s → IsSoundState u → LeadsTo accessed s u
    → (same : Group → Bool) → StayStored None (head_table h) accessed u same → (dropped stored : List Group) → AreToldBy (head_table h) accessed u same dropped stored → PicturesFit u stored
    → size_told (head_table h) accessed u ≤ most_bytes → h.graph.records < most_records → FollowsAt body h (next_entry_by h cells dropped stored u)
tested-follows-at body h k cells s u accessed live there leads same stay dropped stored told can small room =
    let is = kept_is_table (head_table h) (k.changes.tables h.graph.head.commit) in
    let place = body + before_pictures (next_entry_by h cells dropped stored u) in
    record {
      graph = record { room = room; goes_on = refl };
      table = (tested-fits (head_table h) is s u accessed live there leads same stay dropped stored told can small (suc (newest h.graph)) place, tt);
    }

pub tested-follows : (h : History) → IsHistory h → (cells : List (List ℕ)) (s u : State) (accessed : List (List ℕ)) → IsLive (Stored None) (head_table h) s → IsSoundState u → LeadsTo accessed s u
    → (same : Group → Bool) → StayStored None (head_table h) accessed u same → (dropped stored : List Group) → AreToldBy (head_table h) accessed u same dropped stored → PicturesFit u stored
    → size_told (head_table h) accessed u ≤ most_bytes → h.graph.records < most_records → Follows h (next_entry_by h cells dropped stored u)
tested-follows h = tested-follows-at (h.place + before_body) h

-- ---- by the state before

pub told-fits : (t : Table) → IsTable t → (s u : State) (accessed : List (List ℕ)) → IsLive (Stored None) t s → IsSoundState u → Leaves accessed s u
    → CanBeStored t s accessed u → size_told t accessed u ≤ most_bytes → (number place : ℕ) → FitsTable t (change_told t s accessed u (rows_of u number place (groups_told t s accessed u)))
told-fits t is s u accessed live there leaves can small number place =
    tested-fits t is s u accessed live there (leads_here accessed s u there leaves) (is_still s u) (told-stay None t s u accessed live) (dropped_told t s accessed u) (groups_told t s accessed u) (refl, refl) can small number place

pub told-follows-at : (body : ℕ) (h : History) → IsHistory h → (cells : List (List ℕ)) (s u : State) (accessed : List (List ℕ)) → IsLive (Stored None) (head_table h) s → IsSoundState u → Leaves accessed s u
    → CanBeStored (head_table h) s accessed u → size_told (head_table h) accessed u ≤ most_bytes → h.graph.records < most_records → FollowsAt body h (next_entry h cells s accessed u)
told-follows-at body h k cells s u accessed live there leaves can small room =
    let t = head_table h in
    tested-follows-at body h k cells s u accessed live there (leads_here accessed s u there leaves) (is_still s u) (told-stay None t s u accessed live) (dropped_told t s accessed u) (groups_told t s accessed u) (refl, refl) can small room

pub told-follows : (h : History) → IsHistory h → (cells : List (List ℕ)) (s u : State) (accessed : List (List ℕ)) → IsLive (Stored None) (head_table h) s → IsSoundState u → Leaves accessed s u
    → CanBeStored (head_table h) s accessed u → size_told (head_table h) accessed u ≤ most_bytes → h.graph.records < most_records → Follows h (next_entry h cells s accessed u)
told-follows h = told-follows-at (h.place + before_body) h
