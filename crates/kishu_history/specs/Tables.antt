-- What holds of the tables of commits, on every store and on a good one.
use Rattle.std.specs.Prelude.{◌≡◌, ℕ, ⊤, List, [], ◌∷◌, map}
use Rattle.kishu_objects.specs.Lists.{In, Rise}
use Rattle.kishu_objects.specs.Groups.{groups_of}
pub use Rattle.kishu_store.specs.Groups.{first_name}
pub use Rattle.kishu_store.specs.Tables.{Row, Table, group_in, groups_in, first_in, len_in, bytes_in, Change, no_change, put_row, put_rows, without_groups, after, table_of, rows_from}
use Rattle.kishu_history.specs.Versions.{Stop, at_end, version, stored, dropped}

-- ---- on every store

-- What holds of each table that records give: its rows stand in the order of their first names, each has a name, its names stand in byte order, and no name is in two rows.
pub record IsTable (t : Table) : Type 0 where
  pub rise : Rise (map first_in t)
  pub full : (r : Row) → In r t → In (first_in r) r.group
  pub ordered : (r : Row) → In r t → Rise r.group
  pub one : (r q : Row) (x : List ℕ) → In r t → In q t → In x r.group → In x q.group → r ≡ q

-- Two tables of one graph: rows of one group and one version are one row.
abbrev pub AreOfOne : Table → Table → Type 0
AreOfOne t u = (r q : Row) → In r t → In q u → r.group ≡ q.group → r.version ≡ q.version → r ≡ q

-- ---- on a good store

-- Each commit on the path drops and stores just what it has to.
abbrev pub AreRight : List Stop → List Change → Type 0
AreRight [] [] = ⊤
AreRight (k ∷ ks) (c ∷ cs) = (c.dropped ≡ dropped (k ∷ ks)) × (groups_in c.stored ≡ stored (k ∷ ks)) × ((r : Row) → In r c.stored → r.version ≡ k.commit) × AreRight ks cs
AreRight [] (c ∷ cs) = ⊥
AreRight (k ∷ ks) [] = ⊥

-- A table has just the groups of the path's newest commit, in their order, each with its version.
pub record IsRight (path : List Stop) (t : Table) : Type 0 where
  pub groups : groups_in t ≡ groups_of (at_end path)
  pub versions : (r : Row) → In r t → r.version ≡ version path r.group
