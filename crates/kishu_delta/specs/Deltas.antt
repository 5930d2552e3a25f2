-- What drafts and deltas tell, and what they have to tell.
use Rattle.std.specs.Prelude.{◌≡◌, ◌↔◌, ◌⊎◌, ℕ, Bool, not, ◌&&◌, if◌then◌else◌, List, map, filter, Some, None}
use Rattle.std.specs.declared.alloc.Global.{Global}
use Rattle.std.specs.declared.rc.RcStr.{RcStr}
use Rattle.std.specs.declared.vec.Vec.{Vec}
use Rattle.kishu_meaning.specs.values.Values.{Node, State}
use Rattle.kishu_names.specs.Namespace.{Namespace}
use Rattle.kishu_graph.specs.declared.tables.Table as rust_table
use Rattle.kishu_graph.specs.Tables.{table_of_rows}
use Rattle.kishu_store.specs.Groups.{Group, is_one_of}
use Rattle.kishu_store.specs.Tables.{Row, Table, Change, groups_in}
use Rattle.kishu_objects.specs.Bytes.{picture_bytes}
use Rattle.kishu_objects.specs.Fits.{StateFits}
use Rattle.kishu_objects.specs.Lists.{In}
use Rattle.kishu_objects.specs.Picture.{picture}
use Rattle.kishu_objects.specs.States.{IsSoundState}
use Rattle.kishu_picture.specs.Held.{held}
use Rattle.kishu_history.specs.Touched.{holds_any, touched, classes}
use Rattle.kishu_delta.specs.declared.delta.Delta as rust
use Rattle.kishu_delta.specs.declared.delta.StoredGroup as rust_stored
use Rattle.kishu_delta.specs.declared.asking.Draft as rust_draft
use Rattle.kishu_delta.specs.Found.{group_of}
use Rattle.kishu_delta.specs.Kept.{Digests, digest_of, kept_of, is_kept}
use Rattle.kishu_delta.specs.Compared.{Pictures, stored_group, with_pictures, groups_with, pictured, asked_row, asked_pictures, differing}

-- ---- the values of the program

abbrev pub groups_among : List rust_stored.StoredGroup → List Group
groups_among = map stored_group

abbrev pub pictures_among : List rust_stored.StoredGroup → List (List ℕ)
pictures_among = map (λ g. g.bytes.items)

abbrev pub all_groups : Vec (Vec (RcStr Global) Global) Global → List Group
all_groups v = map group_of v.items

abbrev pub groups_dropped : rust.Delta → List Group
groups_dropped d = all_groups d.dropped

abbrev pub groups_stored : rust.Delta → List Group
groups_stored d = groups_among d.stored.items

abbrev pub pictures_stored : rust.Delta → List (List ℕ)
pictures_stored d = pictures_among d.stored.items

-- the change of a table that a delta is, with these rows stored
abbrev pub change_with : rust.Delta → List Row → Change
change_with d rows = record { dropped = groups_dropped d; stored = rows }

-- of a draft the groups that are dropped at least, those that are stored at least, and those of the rows that are asked for
abbrev pub drafted_dropped : rust_draft.Draft → List Group
drafted_dropped d = all_groups d.dropped

abbrev pub drafted_stored : rust_draft.Draft → Pictures
drafted_stored d = with_pictures d.stored.items

abbrev pub drafted_asked : rust_draft.Draft → Pictures
drafted_asked d = asked_pictures d.asked.items

abbrev pub groups_asked : rust_draft.Draft → List Group
groups_asked d = groups_with (drafted_asked d)

abbrev pub rows_asked : rust_draft.Draft → Table
rows_asked d = map asked_row d.asked.items

-- the groups of a table
abbrev pub table_groups : rust_table.Table → List Group
table_groups t = groups_in (table_of_rows t)

-- the names that the record of accesses and the table's groups touch, as far as they are bound now, and their classes
abbrev pub touched_now : rust_table.Table → List Node → Namespace → List (List ℕ)
touched_now t nodes names = touched (table_groups t) names.accessed (held nodes names)

abbrev pub classes_now : rust_table.Table → List Node → Namespace → List Group
classes_now t nodes names = classes (table_groups t) names.accessed (held nodes names)

-- ---- what changes, by a test

-- From the groups of a table, the accessed names, the state now, and a test which groups have their picture still:
module _ (gs : List Group) (accessed : List (List ℕ)) (s : State) (same : Group → Bool) where
  -- the groups that hold an accessed name and aren't classes with their picture,
  abbrev pub dropped_by : List Group
  dropped_by = filter (λ g. holds_any accessed g && not (is_one_of g (classes gs accessed s) && same g)) gs

  -- the classes that are groups with their picture,
  abbrev pub stays_by : List Group
  stays_by = filter (λ g. is_one_of g gs && same g) (classes gs accessed s)

  -- and the other classes.
  abbrev pub stored_by : List Group
  stored_by = filter (λ g. not (is_one_of g gs && same g)) (classes gs accessed s)

-- ---- a draft

-- whether the digest of a group's picture now is the one that is kept
abbrev pub agrees : Digests → State → Group → Bool
agrees kept s g = is_kept kept g (picture_bytes s g)

-- Where no two pictures have one digest, the kept digests tell what changes of this table: the draft drops that, and stores that with its picture now. It asks for each class of the touched names that is a group of the table with the digest that is kept of it: with the table's row, and with its picture now.
pub record IsDraft (kept : Digests) (t : Table) (accessed : List (List ℕ)) (s : State) (d : rust_draft.Draft) : Type 0 where
  pub dropped : drafted_dropped d ≡ dropped_by (groups_in t) accessed s (agrees kept s)
  pub stored : drafted_stored d ≡ pictured s (stored_by (groups_in t) accessed s (agrees kept s))
  pub asked : drafted_asked d ≡ pictured s (stays_by (groups_in t) accessed s (agrees kept s))
  pub rows : (r : Row) → In r (rows_asked d) → In r t
  -- The state is one, and bytes can tell its classes' pictures.
  pub sound : IsSoundState s
  pub fits : (g : Group) → In g (classes (groups_in t) accessed s) → StateFits (picture s g)

-- ---- what comes of it

-- the groups that are asked for whose pictures aren't those that were handed
abbrev pub joining : rust_draft.Draft → List (List ℕ) → Pictures
joining draft handed = differing (drafted_asked draft) handed

-- Of the groups that were asked for, those join both lists whose bytes differ, and no others.
pub record Joins (draft : rust_draft.Draft) (handed : List (List ℕ)) (d : rust.Delta) : Type 0 where
  pub dropped : (g : Group) → (In g (groups_dropped d) ↔ (In g (drafted_dropped draft) ⊎ In g (groups_with (joining draft handed))))
  pub stored : (p : Group × List ℕ) → (In p (with_pictures d.stored.items) ↔ (In p (drafted_stored draft) ⊎ In p (joining draft handed)))

-- Of the stored groups the digests of the pictures in this state are kept now, of the others that were dropped none, and of the rest what was kept of them.
abbrev pub Follows : (old new : Digests) → (dropped stored : List Group) → State → Type 0
Follows old new dropped stored s = (g : Group) → kept_of new g ≡ (if is_one_of g stored then Some (digest_of (picture_bytes s g)) else if is_one_of g dropped then None else kept_of old g)
