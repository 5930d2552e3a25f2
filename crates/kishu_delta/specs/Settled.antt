-- What a settled draft tells of a table, the accessed names and the state now.
use Rattle.std.specs.Prelude.{◌≡◌, ◌↔◌, ◌⊎◌, ℕ, Bool, true, false, not, ◌&&◌, if◌then◌else◌, List, map, filter, Some}
use Rattle.std.specs.Str.{bytes_eq}
use Rattle.kishu_meaning.specs.values.Values.{State}
use Rattle.kishu_store.specs.Groups.{Group, first_name, is_one_of}
use Rattle.kishu_store.specs.Tables.{Row, Table, groups_in, after}
use Rattle.kishu_objects.specs.Bytes.{picture_bytes}
use Rattle.kishu_objects.specs.Groups.{groups_of}
use Rattle.kishu_objects.specs.Lists.{In, Rise}
use Rattle.kishu_objects.specs.Picture.{listed, picture}
use Rattle.kishu_history.specs.Touched.{holds_any, classes, dropped_among, stored_among}
use Rattle.kishu_delta.specs.declared.delta.Delta as rust
use Rattle.kishu_delta.specs.declared.asking.Draft as rust_draft
use Rattle.kishu_delta.specs.Kept.{Digests, digest_of, kept_of, KeepsJustThese}
use Rattle.kishu_delta.specs.Deltas.{groups_dropped, groups_stored, pictures_stored, groups_asked, change_with, dropped_by, stored_by, Follows}

-- ---- whatever was handed

-- A row's group that holds an accessed name isn't dropped.
pub record Stays (t : Table) (accessed : List (List ℕ)) (d : rust.Delta) (g : Group) : Type 0 where
  pub row : In g (groups_in t)
  pub holds : holds_any accessed g ≡ true
  pub stays : In g (groups_dropped d) → ⊥

-- whether a group isn't dropped
abbrev pub is_left : rust.Delta → Group → Bool
is_left d g = not (is_one_of g (groups_dropped d))

-- What both lists tell of the table, the accessed names and the state now, and what is kept then.
pub record IsSettled (old new : Digests) (t : Table) (accessed : List (List ℕ)) (s : State) (d : rust.Delta) : Type 0 where
  -- Each group that is dropped is a row's that holds an accessed name, and both lists stand in the order of first names.
  pub dropped : (g : Group) → In g (groups_dropped d) → In g (groups_in t) × (holds_any accessed g ≡ true)
  pub dropped_rise : Rise (map first_name (groups_dropped d))
  pub stored_rise : Rise (map first_name (groups_stored d))
  -- Those that stay and those that are stored are together just the classes of the touched names, and none is both.
  pub classes : (g : Group) → (In g (classes (groups_in t) accessed s) ↔ (Stays t accessed d g ⊎ In g (groups_stored d)))
  pub apart : (g : Group) → Stays t accessed d g → In g (groups_stored d) → ⊥
  -- So both lists are told by one test: which groups aren't dropped.
  pub changes : (groups_dropped d ≡ dropped_by (groups_in t) accessed s (is_left d)) × (groups_stored d ≡ stored_by (groups_in t) accessed s (is_left d))
  -- Each that stays has a picture now whose digest is the one that was kept of it.
  pub same : (g : Group) → Stays t accessed d g → kept_of old g ≡ Some (digest_of (picture_bytes s g))
  -- Each that is stored has its picture now. The digest of this is kept then, and of each other row of the new table what was kept.
  pub pictures : pictures_stored d ≡ map (picture_bytes s) (groups_stored d)
  pub kept : Follows old new (groups_dropped d) (groups_stored d) s

-- ---- for each list of pictures that fits

-- A picture for each row of the table, given by its group, which no other row has, fits where the digest of each is kept of its row, and those of the rows that were asked for are the ones that were handed.
pub record IsFitting (kept : Digests) (t : Table) (draft : rust_draft.Draft) (handed : List (List ℕ)) (list : Group → List ℕ) : Type 0 where
  pub digests : (r : Row) → In r t → kept_of kept r.group ≡ Some (digest_of (list r.group))
  pub asked : handed ≡ map list (groups_asked draft)

-- whether a group has its picture of the list
abbrev pub has_listed : State → (Group → List ℕ) → Group → Bool
has_listed s list g = bytes_eq (picture_bytes s g) (list g)

-- the pictures of a new table's rows: of the stored groups those that they have now, and of the others those of the list
abbrev pub listed_then : State → (Group → List ℕ) → (stored : List Group) → Group → List ℕ
listed_then s list stored g = if is_one_of g stored then picture_bytes s g else list g

-- The lists are exact among the touched names: a row that holds an accessed name stays just where it is a class of these with its picture of the list, and the other classes are stored. Of each row of the new table the digest of its picture is kept then.
pub record IsExactAmong (new : Digests) (t : Table) (accessed : List (List ℕ)) (s : State) (list : Group → List ℕ) (d : rust.Delta) : Type 0 where
  pub dropped : groups_dropped d ≡ dropped_by (groups_in t) accessed s (has_listed s list)
  pub stored : groups_stored d ≡ stored_by (groups_in t) accessed s (has_listed s list)
  pub kept : (rows : List Row) → groups_in rows ≡ groups_stored d → (r : Row) → In r (after (change_with d rows) t)
      → kept_of new r.group ≡ Some (digest_of (listed_then s list (groups_stored d) r.group))

-- Each row without an accessed name is a group of the state still with its picture of the list, and each bound name outside the table was accessed.
pub record IsLeft (t : Table) (accessed : List (List ℕ)) (s : State) (list : Group → List ℕ) : Type 0 where
  pub still : (g : Group) → In g (groups_in t) → holds_any accessed g ≡ false → In g (groups_of s) × (picture_bytes s g ≡ list g)
  pub others : (x : List ℕ) → In x (listed s) → ((g : Group) × In g (groups_in t) × In x g) ⊎ In x accessed

-- The lists are exact against the whole state, and just of its groups the digests of their pictures are kept then.
pub record IsExact (new : Digests) (t : Table) (s : State) (list : Group → List ℕ) (d : rust.Delta) : Type 0 where
  pub dropped : groups_dropped d ≡ filter (λ g. not (is_one_of g (groups_of s) && has_listed s list g)) (groups_in t)
  pub stored : groups_stored d ≡ filter (λ g. not (is_one_of g (groups_in t) && has_listed s list g)) (groups_of s)
  pub kept : KeepsJustThese new (groups_of s) (picture_bytes s)

-- ---- over any table, also one that no records give

-- What both lists tell then: all but the order of what is dropped, and that all of it holds an accessed name.
pub record IsSettledAnyhow (old new : Digests) (t : Table) (accessed : List (List ℕ)) (s : State) (d : rust.Delta) : Type 0 where
  pub rows : (g : Group) → In g (groups_dropped d) → In g (groups_in t)
  pub stored_rise : Rise (map first_name (groups_stored d))
  pub stays : (g : Group) → Stays t accessed d g → In g (classes (groups_in t) accessed s)
  pub stored : (g : Group) → In g (groups_stored d) → In g (classes (groups_in t) accessed s)
  pub classes : (g : Group) → In g (classes (groups_in t) accessed s) → (In g (groups_in t) × (In g (groups_dropped d) → ⊥)) ⊎ In g (groups_stored d)
  pub apart : (g : Group) → Stays t accessed d g → In g (groups_stored d) → ⊥
  pub same : (g : Group) → Stays t accessed d g → kept_of old g ≡ Some (digest_of (picture_bytes s g))
  pub pictures : pictures_stored d ≡ map (picture_bytes s) (groups_stored d)
  pub kept : Follows old new (groups_dropped d) (groups_stored d) s

-- For a list that fits: a row that holds an accessed name stays just where it is a class with its picture of the list, and the other classes are stored. Of each row of the new table the digest of its picture is kept then.
pub record IsExactAnyhow (new : Digests) (t : Table) (accessed : List (List ℕ)) (s : State) (list : Group → List ℕ) (d : rust.Delta) : Type 0 where
  pub stays : (g : Group) → In g (groups_in t) → holds_any accessed g ≡ true
      → ((In g (groups_dropped d) → ⊥) ↔ (In g (classes (groups_in t) accessed s) × (picture_bytes s g ≡ list g)))
  pub stored : groups_stored d ≡ stored_by (groups_in t) accessed s (has_listed s list)
  pub kept : (rows : List Row) → groups_in rows ≡ groups_stored d → (r : Row) → In r (after (change_with d rows) t)
      → kept_of new r.group ≡ Some (digest_of (listed_then s list (groups_stored d) r.group))

-- ---- from a state before

-- Where the digests of that state's pictures were kept and its pictures were handed, the lists are what it tells among the touched names.
pub record IsToldFrom (before : State) (t : Table) (accessed : List (List ℕ)) (s : State) (d : rust.Delta) : Type 0 where
  pub dropped : groups_dropped d ≡ dropped_among (groups_in t) (picture before) accessed s
  pub stored : groups_stored d ≡ stored_among (groups_in t) (picture before) accessed s
