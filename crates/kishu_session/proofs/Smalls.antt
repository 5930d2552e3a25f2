-- When a state is small enough to be loaded anew: groups that have all its names take at most 2^28 bytes.
use Rattle.std.specs.Prelude.{◌≡◌, ◌≤◌, ◌&&◌, ℕ, Bool, true, false, not, List, [], ◌∷◌, length, map, filter, None}
use Rattle.std.proofs.Common.{refl, ap, sym, ◌∙◌, subst}
use Rattle.kishu_meaning.specs.values.Values.{State}
use Rattle.kishu_objects.specs.Bytes.{state_bytes, picture_bytes}
use Rattle.kishu_objects.specs.Groups.{Cuts}
use Rattle.kishu_objects.specs.Lists.{In}
use Rattle.kishu_objects.specs.Locality.{Leaves}
use Rattle.kishu_objects.specs.Picture.{picture}
use Rattle.kishu_objects.specs.Same.{Same}
use Rattle.kishu_objects.specs.Sizes.{most_bytes}
use Rattle.kishu_objects.specs.States.{IsSoundState}
use Rattle.kishu_objects_laws.specs.ListLaws.{in_contains, map_in}
use Rattle.kishu_objects_laws.specs.NameLaws.{found_listed, listed_found}
use Rattle.kishu_replay.specs.Replay.{after_cells}
use Rattle.kishu_store.specs.Groups.{Group, is_one_of}
use Rattle.kishu_store.specs.Limits.{newest_profile}
use Rattle.kishu_store.specs.Tables.{Row, Table, bytes_in, groups_in}
use Rattle.kishu_history.specs.Accessed.{accessed_by}
use Rattle.kishu_history.specs.Live.{IsLive}
use Rattle.kishu_history.specs.Stored.{Stored}
use Rattle.kishu_history.specs.Tables.{IsTable, after}
use Rattle.kishu_history.specs.Touched.{classes, holds_any}
use Rattle.kishu_history_laws.specs.states.AlikeLaws.{not_true}
use Rattle.kishu_history_laws.specs.Choices.{in_map}
use Rattle.kishu_history_laws.specs.cells.TestedLaws as tested
use Rattle.kishu_history_laws.specs.checkouts.CheckoutLaws.{live_cut}
use Rattle.kishu_history_laws.specs.checkouts.PlaceLaws.{rows_take_theirs, stored_len}
use Rattle.kishu_history_laws.specs.states.SameLaws.{same_listed, same_pictures}
use Rattle.kishu_history_laws.specs.tables.SplitLaws.{after_takes, rows_take}
use Rattle.kishu_session_laws.specs.CellLaws.{cells_keep, cells_leave}
use Rattle.kishu_live_laws.specs.OnStates.{left_size}
use Rattle.kishu_live_laws.specs.SameRequests.{sizes_same}
use Rattle.kishu_anew.specs.Anew.{IsSmall}

-- ---- by a table

-- Each bound name is in the group of a row.
live-cuts : (at : Row → State → Type 0) (t : Table) (s : State) → IsLive at t s → Cuts s (groups_in t)
live-cuts at t s live x v e =
    let k = (live.bound x).0 (found_listed s.names x v e) in
    (k.0.group, in_contains (groups_in t) k.0.group (in_map (λ (r : Row). r.group) t k.0 k.1), in_contains k.0.group x k.2)

pub table-small : (t : Table) (s : State) → IsLive (Stored None) t s → bytes_in t ≤ most_bytes → IsSmall s
table-small t s live few = (groups_in t, live-cuts (Stored None) t s live, subst (λ n. n ≤ most_bytes) (rows_take_theirs None t s live) few)

-- ---- where another state is the same

pub same-small : (s u : State) → IsSoundState s → IsSoundState u → Same s u → IsSmall s → IsSmall u
same-small s u here there same small = (
  small.0,
  λ x v e.
      let k = listed_found s.names x (subst (λ l. In x l) (sym (same_listed s u here there same)) (found_listed u.names x v e)) in
      small.1 x k.0 k.1,
  subst (λ n. n ≤ most_bytes) (sizes_same small.0 s u (same_pictures s u here there same)) small.2,
)

-- ---- after cells, by what is told of the size

-- a row for each group, with the length of its picture
abbrev rows_for : State → List Group → Table
rows_for u gs = map (λ (g : Group). record { group = g; version = 0; place = 0; len = length (picture_bytes u g) }) gs

groups-for : (u : State) (gs : List Group) → groups_in (rows_for u gs) ≡ gs
groups-for u [] = refl
groups-for u (g ∷ gs) = ap (λ hs. g ∷ hs) (groups-for u gs)

row-for : (u : State) (gs : List Group) (r : Row) → In r (rows_for u gs) → r.len ≡ length (picture_bytes u r.group)
row-for u gs r m =
    let k = map_in (λ (g : Group). record { group = g; version = 0; place = 0; len = length (picture_bytes u g) }) gs r m in
    ap (λ (q : Row). q.len) k.2 ∙ ap (λ (q : Row). length (picture_bytes u q.group)) (sym k.2)

and-false : (b : Bool) → not (b && false) ≡ true
and-false true = refl
and-false false = refl

-- all that are chosen by no test
all-chosen : (gs hs : List Group) → hs ≡ filter (λ (g : Group). not (is_one_of g gs && false)) hs
all-chosen gs [] = refl
all-chosen gs (h ∷ hs) = rw (and-false (is_one_of h gs)) (ap (λ ks. h ∷ ks) (all-chosen gs hs))

-- In this picture the row has its length.
abbrev HasLen : Row → State → Type 0
HasLen r p = length (state_bytes p) ≡ r.len

module _ (t : Table) (is : IsTable t) (s : State) (live : IsLive (Stored None) t s) (texts : List (List ℕ)) where
  abbrev u : State
  u = after_cells newest_profile texts s

  abbrev accessed : List (List ℕ)
  accessed = accessed_by newest_profile texts s

  abbrev now : List Group
  now = classes (groups_in t) accessed u

  here : IsLive HasLen t s
  here = record { state = live.state; bound = live.bound; apart = live.apart; pictures = λ r m. stored_len None r (picture s r.group) (live.pictures r m) }

  there : IsSoundState u
  there = cells_keep newest_profile texts s live.state

  leaves : Leaves accessed s u
  leaves = cells_leave newest_profile texts s live.state

  abbrev none : Group → Bool
  none g = false

  none-stays : {A : Type 0} → false ≡ true → A
  none-stays e = absurd (not_true e)

  stores : groups_in (rows_for u now) ≡ filter (λ (g : Group). not (is_one_of g (groups_in t) && false)) now
  stores = groups-for u now ∙ all-chosen (groups_in t) now

  new : (r : Row) → In r (rows_for u now) → HasLen r (picture u r.group)
  new r m = sym (row-for u now r m)

  -- the groups that leave the table: those that hold an accessed name
  abbrev gone : List Group
  gone = filter (λ (g : Group). holds_any accessed g && not (is_one_of g now && none g)) (groups_in t)

  abbrev next : Table
  next = after (record { dropped = gone; stored = rows_for u now }) t

  next-live : IsLive HasLen next u
  next-live = tested.live_after HasLen t is s u here there accessed leaves none (λ r m n e. none-stays e) (rows_for u now) stores new

  next-takes : bytes_in next ≡ left_size t texts s
  next-takes = after_takes t is (live_cut HasLen t s is here).one accessed u there none (λ (g : Group). length (picture_bytes u g)) (rows_for u now) stores (row-for u now) (λ r m e. none-stays e)

  pub left-small : left_size t texts s ≤ most_bytes → IsSmall u
  left-small few = (
    groups_in next,
    live-cuts HasLen next u next-live,
    subst (λ n. n ≤ most_bytes) (sym next-takes ∙ rows_take (λ (g : Group). length (picture_bytes u g)) next (λ r m. sym (next-live.pictures r m))) few,
  )
