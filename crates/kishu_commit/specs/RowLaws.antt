-- The rows of groups that a commit stores, and what is stored for them.
use Rattle.std.specs.Prelude.{◌≡◌, ℕ, ◌+◌, List, [], ◌∷◌, length, map, refl, Some, None}
use Rattle.std.specs.List.{AllByRecursion, AllZip}
use Rattle.std.proofs.Common.{ap, sym, subst, inl, inr}
use Rattle.kishu_meaning.specs.values.Values.{State}
use Rattle.kishu_objects.specs.Bytes.{picture_bytes}
use Rattle.kishu_objects.specs.Fits.{StateFits}
use Rattle.kishu_objects.specs.Lists.{In}
use Rattle.kishu_objects.specs.Picture.{picture}
use Rattle.kishu_store.specs.Groups.{Group}
use Rattle.kishu_store.specs.Tables.{Row, Table, group_in, groups_in, bytes_at, rows_from}
use Rattle.kishu_history.specs.Stored.{Stored}
use Rattle.kishu_history_laws.specs.tables.FileLaws.{all_in}
use Rattle.kishu_commit.specs.Told.{measured}

-- Where the commit of that number stores them from that place on:
module _ (u : State) (number : ℕ) where
  abbrev pub rows_of : (place : ℕ) → List Group → Table
  rows_of place gs = rows_from number place (map (measured u) gs)

  pub rows-groups : (place : ℕ) (gs : List Group) → groups_in (rows_of place gs) ≡ gs
  rows-groups place [] = refl
  rows-groups place (g ∷ gs) = ap (λ hs. g ∷ hs) (rows-groups (place + length (picture_bytes u g)) gs)

  row-measured : (place : ℕ) (gs : List Group) (r : Row) → In r (rows_of place gs) → (length (picture_bytes u r.group) ≡ r.len) × In r.group gs
  row-measured place [] r m = absurd m
  row-measured place (g ∷ gs) r (inl e) = (subst (λ (q : Row). length (picture_bytes u q.group) ≡ q.len) (sym e) refl, inl (ap group_in e))
  row-measured place (g ∷ gs) r (inr m) = (let k = row-measured (place + length (picture_bytes u g)) gs r m in (k.0, inr k.1))

  row-lies : (file : List ℕ) (place : ℕ) (gs : List Group) → AllZip (λ r p. bytes_at file r ≡ p) (rows_of place gs) (map (picture_bytes u) gs)
      → (r : Row) → In r (rows_of place gs) → bytes_at file r ≡ picture_bytes u r.group
  row-lies file place [] lie r m = absurd m
  row-lies file place (g ∷ gs) lie r (inl e) = subst (λ (q : Row). bytes_at file q ≡ picture_bytes u q.group) (sym e) lie.0
  row-lies file place (g ∷ gs) lie r (inr m) = row-lies file (place + length (picture_bytes u g)) gs lie.1 r m

  module _ (place : ℕ) (gs : List Group) (can : AllByRecursion (λ g. StateFits (picture u g)) gs) where
    fits-here : (r : Row) → In r (rows_of place gs) → StateFits (picture u r.group)
    fits-here r m = all_in (λ (g : Group). StateFits (picture u g)) gs can r.group (row-measured place gs r m).1

    -- What is known of a file that isn't told.
    pub rows-untold : (r : Row) → In r (rows_of place gs) → Stored None r (picture u r.group)
    rows-untold r m = record { len = (row-measured place gs r m).0; fits = fits-here r m }

    -- Where the pictures lie at the places of the rows, the file holds them for these.
    pub rows-held : (file : List ℕ) → AllZip (λ r p. bytes_at file r ≡ p) (rows_of place gs) (map (picture_bytes u) gs) → (r : Row) → In r (rows_of place gs) → Stored (Some file) r (picture u r.group)
    rows-held file lie r m = record { bytes = row-lies file place gs lie r m; len = (row-measured place gs r m).0; fits = fits-here r m }
