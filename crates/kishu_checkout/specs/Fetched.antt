-- What the reading of rows' pictures gives, and where there is none to read.
use Rattle.std.specs.Prelude.{◌≡◌, ℕ, List, length, map}
use Rattle.std.specs.List.{sum_by}
use Rattle.std.specs.declared.alloc.Global.{Global}
use Rattle.std.specs.declared.vec.Vec.{Vec}
use Rattle.kishu_host.specs.Host as host
use Rattle.kishu_objects.specs.Lists.{In}
use Rattle.kishu_store.specs.Tables.{Row, Table, bytes_at, len_in}
use Rattle.kishu_journal.specs.Facts.{LacksPart}

-- the bytes of each
abbrev pub contents : List (Vec ℕ Global) → List (List ℕ)
contents ps = map (λ p. p.items) ps

-- how many they are together
abbrev pub taken_by : List (List ℕ) → ℕ
taken_by ps = sum_by (λ p. length p) ps

-- Where the host tells its file, these are the bytes at the rows' places. Each is as long as its row tells.
pub record AreFetched (s : host.State) (t : Table) (pictures : List (List ℕ)) : Type 0 where
  pub bytes : host.Told s (pictures ≡ map (bytes_at s.file) t)
  pub lens : map (λ p. length p) pictures ≡ map len_in t

-- At this place a row has its picture, and the file ends before the picture does.
pub record LacksBytes (s : host.State) (t : Table) (at : ℕ) : Type 0 where
  pub row : Row
  pub there : In row t
  pub lacks : LacksPart s row.place row.len at
