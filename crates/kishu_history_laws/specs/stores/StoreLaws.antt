-- A good store stays good where the file grows, and with a commit more; opening, a checkout and a cell leave the live state that the table tells, the same as the replay.
use Rattle.std.specs.Prelude.{◌≡◌, ℕ, suc, ◌==◌, ◌≤◌, Bool, true, false, if◌then◌else◌, List, [], ◌∷◌, ◌++◌, length}
use Rattle.std.specs.List.{AllZip}
use Rattle.std.specs.List.Sorted.{IsStrictlySortedBy}
use Rattle.std.proofs.Common.{refl, ap, sym, ◌∙◌, subst, arith, inl, inr}
use Rattle.std.proofs.lemmas.Bool.{cases_Bool, cases_lt}
use Rattle.std.proofs.lemmas.Bool.Decides.{Decides-eqb}
use Rattle.kishu_language.specs.declared.profile.Profile.{Profile}
use Rattle.kishu_meaning.specs.values.Values.{State, empty}
use Rattle.kishu_store.specs.Graph.{Commit, path_in}
use Rattle.kishu_replay.specs.Replay.{after_cells, after_commits}
use Rattle.kishu_objects.specs.Same.{Same}
use Rattle.kishu_objects.specs.Picture.{picture}
use Rattle.kishu_objects.specs.Lists.{In}
use Rattle.kishu_objects.specs.States.{IsSoundState}
use Rattle.kishu_history.specs.Versions.{AreStates, Stop, at_end, Falls}
use Rattle.kishu_history.specs.Tables.{AreOfOne, Row, Table, no_change, groups_in, Change, after, table_of, IsTable, AreRight}
use Rattle.kishu_history.specs.Paths.{stops_in, changes_in, table_in, AreRows}
use Rattle.kishu_history.specs.Touched.{dropped_among, stored_among}
use Rattle.kishu_objects.specs.Locality.{Leaves}
use Rattle.kishu_history.specs.Checkout.{to_load, to_drop, carried}
use Rattle.kishu_history.specs.Live.{IsLive, IsPictureOf}
use Rattle.kishu_history.specs.Stored.{bytes_at, Held, Keeps}
use Rattle.kishu_history.specs.Sizes.{StaySmall, AllStaySmall}
use Rattle.kishu_history.specs.Good.{IsGoodStore}
use Rattle.kishu_history_laws.specs.Choices.{false_no, not_told}
use Rattle.kishu_history_laws.specs.states.StateLaws.{empty_state, end_state}
use Rattle.kishu_history_laws.specs.checkouts.CheckoutLaws.{carried_live}
use Rattle.kishu_history_laws.specs.versions.PathLaws.{falls_in, older_path, below_in_commits, end_in, same_changes, rows_recorded}
use Rattle.kishu_history_laws.specs.checkouts.PlanLaws.{right_table, recorded_of_one}
use Rattle.kishu_history_laws.specs.states.SameLaws.{same_pictures}
use Rattle.kishu_history_laws.specs.stores.ReplayLaws.{cell_drops, cell_stores, good_table, live_replay}
use Rattle.kishu_history_laws.specs.cells.LiveLaws.{live_after}

-- ---- tables of one graph

pub tables_of_one : (ks : List Commit) (of : ℕ → Change) → AreRows of → (c d : ℕ) → AreOfOne (table_in ks of c) (table_in ks of d)
tables_of_one ks of rows c d = recorded_of_one (λ v. (of v).stored) rows.rise (table_in ks of c) (table_in ks of d) (λ r m. (rows_recorded ks of rows c r m).0) (λ r m. (rows_recorded ks of rows d r m).0)

-- ---- a new store, and opening

-- A store without commits is good, whatever its bytes are.
pub new_good : (file : List ℕ) → IsGoodStore file [] (λ c. no_change)
new_good file = record { right = λ c l. tt; pictures = λ c l r m. absurd m; small = λ c l. tt }

-- The empty state is the one that the empty table tells.
pub empty_live : (at : Row → State → Type 0) → IsLive at [] empty
empty_live at = record {
  state = empty_state;
  bound = λ x. ((λ m. absurd m), (λ k. absurd k.1));
  apart = λ r q x y m n a b touch. absurd m;
  pictures = λ r m. absurd m;
}

pub all_rows : (u : Table) → to_load [] u ≡ u
all_rows [] = refl
all_rows (r ∷ u) = ap (λ l. r ∷ l) (all_rows u)

pub empty_table : IsTable []
unfolding IsStrictlySortedBy
empty_table = record { rise = tt; full = λ r m. absurd m; ordered = λ r m. absurd m; one = λ r q x m n a b. absurd m }

append_small : (commits : List Commit) (k : Commit) (s : State) → AllStaySmall commits s → StaySmall k.profile k.cells (after_commits commits s) → AllStaySmall (commits ++ (k ∷ [])) s
append_small [] k s a b = (b, tt)
append_small (j ∷ commits) k s a b = (a.0, append_small commits k (after_cells j.profile j.cells s) a.1 b)

-- ---- files that keep what they hold

held_still : (file grown : List ℕ) (r : Row) (p : State) → bytes_at file r ≡ bytes_at grown r → Held file r p → Held grown r p
held_still file grown r p e h = record { bytes = sym e ∙ h.bytes; len = h.len; fits = h.fits }

pub live_still : (file grown : List ℕ) (t : Table) (s : State) → Keeps file grown t → IsLive (Held file) t s → IsLive (Held grown) t s
live_still file grown t s keeps live = record {
  state = live.state;
  bound = live.bound;
  apart = live.apart;
  pictures = λ r m. held_still file grown r (picture s r.group) (keeps r m) (live.pictures r m);
}

module _ (file grown : List ℕ) (ks : List Commit) (of : ℕ → Change) (rows : AreRows of) (good : IsGoodStore file ks of)
    (keeps : (c : ℕ) → c ≤ length ks → Keeps file grown (of c).stored) where
  pub good_still : IsGoodStore grown ks of
  good_still = record {
    right = good.right;
    pictures = λ c l r m. held_still file grown r (picture (at_end (stops_in ks c)) r.group) (keeps c l r m) (good.pictures c l r m);
    small = good.small;
  }

  pub table_still : (c : ℕ) (s : State) → IsLive (Held file) (table_in ks of c) s → IsLive (Held grown) (table_in ks of c) s
  table_still c s live = live_still file grown (table_in ks of c) s (λ r m. let q = rows_recorded ks of rows c r m in keeps r.version q.1 r q.0) live

  -- ---- a commit more

  module _ (h : ℕ) (there : h ≤ length ks) (profile : Profile) (cells : List (List ℕ)) (change : Change) where
    abbrev commit : Commit
    commit = record { parent = h; profile = profile; cells = cells }

    abbrev more : List Commit
    more = commit ∷ ks

    abbrev stop : Stop
    stop = record { commit = suc (length ks); state = after_cells profile cells (at_end (stops_in ks h)) }

    -- with what the new commit does
    abbrev pub with_change : ℕ → Change
    with_change c = if c == suc (length ks) then change else of c

    newest_stops : stops_in more (suc (length ks)) ≡ stop ∷ stops_in ks h
    newest_stops = (let e = (Decides-eqb (suc (length ks)) (suc (length ks))).1 refl in rw e refl)

    old_change : (c : ℕ) → c ≤ length ks → with_change c ≡ of c
    old_change c l = (let e = not_told (c == suc (length ks)) (Decides-eqb c (suc (length ks))) (λ f. omega (arith, l, f)) in rw e refl)

    old_changes : (c : ℕ) → changes_in ks with_change c ≡ changes_in ks of c
    old_changes = same_changes ks with_change of old_change

    pub newest_table : table_in more with_change (suc (length ks)) ≡ after change (table_in ks of h)
    newest_table =
        let e = (Decides-eqb (suc (length ks)) (suc (length ks))).1 refl in
        rw e (ap (λ cs. after change (table_of cs)) (old_changes h))

    module _ (one : AreRight (stop ∷ stops_in ks h) (change ∷ changes_in ks of h))
        (held : (r : Row) → In r change.stored → Held grown r (picture stop.state r.group))
        (fits : StaySmall profile cells (at_end (stops_in ks h))) where
      below : (c : ℕ) → c ≤ suc (length ks) → (c == suc (length ks)) ≡ false → c ≤ length ks
      below c l e = (let n = false_no (c == suc (length ks)) (Decides-eqb c (suc (length ks))) e in elim (cases_lt c (suc (length ks))) [ inl k ↦ omega arith | inr k ↦ absurd (n (omega arith)) ])

      right_new : (c : ℕ) (d : Change) (ds : List Change) → c ≡ suc (length ks) → d ≡ change → ds ≡ changes_in ks of h → AreRight (record { commit = c; state = stop.state } ∷ stops_in ks h) (d ∷ ds)
      right_new c d ds f p q =
          let k : record { commit = c; state = stop.state } ≡ stop = ap (λ n. record { commit = n; state = stop.state }) f in
          subst (λ z. AreRight (z ∷ stops_in ks h) (d ∷ ds)) (sym k) (subst (λ z. AreRight (stop ∷ stops_in ks h) (z ∷ ds)) (sym p) (subst (λ z. AreRight (stop ∷ stops_in ks h) (change ∷ z)) (sym q) one))

      right_more : (c : ℕ) → c ≤ suc (length ks) → AreRight (stops_in more c) (changes_in more with_change c)
      right_more c l = elim (cases_Bool (c == suc (length ks))) [
        | inl e ↦ rw e (right_new c change (changes_in ks with_change h) ((Decides-eqb c (suc (length ks))).0 e) refl (old_changes h))
        | inr e ↦ rw e (subst (λ cs. AreRight (stops_in ks c) cs) (sym (old_changes c)) (good.right c (below c l e)))
      ]

      pictures_more : (c : ℕ) → c ≤ suc (length ks) → (b : Bool) → (c == suc (length ks)) ≡ b → (r : Row) → In r (if b then change else of c).stored → Held grown r (picture (at_end (stops_in more c)) r.group)
      pictures_more c l true e r m = subst (λ s. Held grown r (picture s r.group)) (sym (ap (λ v. at_end (stops_in more v)) ((Decides-eqb c (suc (length ks))).0 e) ∙ ap at_end newest_stops)) (held r m)
      pictures_more c l false e r m = subst (λ path. Held grown r (picture (at_end path) r.group)) (sym (older_path commit ks c (below c l e))) (good_still.pictures c (below c l e) r m)

      small_more : (c : ℕ) → c ≤ suc (length ks) → AllStaySmall (path_in more c) empty
      small_more c l = elim (cases_Bool (c == suc (length ks))) [
        | inl e ↦ rw e (append_small (path_in ks h) commit empty (good.small h there) (subst (λ s. StaySmall profile cells s) (end_in ks h) fits))
        | inr e ↦ rw e (good.small c (below c l e))
      ]

      -- The store is good with the commit, where it has the lists that have to be there, its pictures are those of its replay, and no cell leaves too much.
      pub good_more : IsGoodStore grown more with_change
      good_more = record {
        right = right_more;
        pictures = λ c l r m. pictures_more c l (c == suc (length ks)) refl r m;
        small = small_more;
      }

-- ---- the steps of a session

module _ (file : List ℕ) (ks : List Commit) (of : ℕ → Change) (rows : AreRows of) (good : IsGoodStore file ks of) (states : (c : ℕ) → AreStates (stops_in ks c)) where
  pub good_is_table : (c : ℕ) → c ≤ length ks → IsTable (table_in ks of c)
  good_is_table c l = right_table (stops_in ks c) (table_in ks of c) (end_state (stops_in ks c) (states c)) (good_table file ks of rows good states c l)

  -- Opening: each row of the head's table is loaded into the empty state.
  pub opened : (c : ℕ) → c ≤ length ks → (ps : List State) → AllZip (IsPictureOf (Held file)) (table_in ks of c) ps
      → IsLive (Held file) (table_in ks of c) (carried [] ps empty) × Same (carried [] ps empty) (at_end (stops_in ks c))
  opened c l ps zip =
      let u = table_in ks of c in
      let live = carried_live (Held file) [] u empty ps empty_table (good_is_table c l) (λ r q m n e f. absurd m) (empty_live (Held file)) (subst (λ z. AllZip (IsPictureOf (Held file)) z ps) (sym (all_rows u)) zip) in
      (live, live_replay file ks of rows good states c l (carried [] ps empty) live)

  -- A checkout: the groups to drop are dropped, and the rows to load are loaded beside those that stay.
  pub checked_out : (h c : ℕ) → h ≤ length ks → c ≤ length ks → (s : State) → IsLive (Held file) (table_in ks of h) s → (ps : List State)
      → AllZip (IsPictureOf (Held file)) (to_load (table_in ks of h) (table_in ks of c)) ps
      → IsLive (Held file) (table_in ks of c) (carried (to_drop (table_in ks of h) (table_in ks of c)) ps s) × Same (carried (to_drop (table_in ks of h) (table_in ks of c)) ps s) (at_end (stops_in ks c))
  checked_out h c k l s live ps zip =
      let t = table_in ks of h in
      let u = table_in ks of c in
      let one = tables_of_one ks of rows h c in
      let after = carried_live (Held file) t u s ps (good_is_table h k) (good_is_table c l) one live zip in
      (after, live_replay file ks of rows good states c l (carried (to_drop t u) ps s) after)

-- A cell: the lists that are told among the touched names make the store good with the new commit, and the live state is the one that the new table tells.
module _ (file grown : List ℕ) (ks : List Commit) (of : ℕ → Change) (rows : AreRows of) (good : IsGoodStore file ks of)
    (keeps : (c : ℕ) → c ≤ length ks → Keeps file grown (of c).stored)
    (states : (c : ℕ) → AreStates (stops_in ks c)) (h : ℕ) (there : h ≤ length ks) (profile : Profile) (cells : List (List ℕ))
    (s u : State) (live : IsLive (Held file) (table_in ks of h) s) (same : Same s (at_end (stops_in ks h)))
    (now : IsSoundState u) (ran : IsSoundState (after_cells profile cells (at_end (stops_in ks h)))) (same_now : Same u (after_cells profile cells (at_end (stops_in ks h))))
    (accessed : List (List ℕ)) (leaves : Leaves accessed s u)
    (new : Table) (stores : groups_in new ≡ stored_among (groups_in (table_in ks of h)) (picture s) accessed u)
    (versions : (r : Row) → In r new → r.version ≡ suc (length ks)) (held : (r : Row) → In r new → Held grown r (picture u r.group))
    (fits : StaySmall profile cells (at_end (stops_in ks h))) where
  abbrev head_table : Table
  head_table = table_in ks of h

  abbrev pub told_change : Change
  told_change = record { dropped = dropped_among (groups_in head_table) (picture s) accessed u; stored = new }

  abbrev new_stop : Stop
  new_stop = record { commit = suc (length ks); state = after_cells profile cells (at_end (stops_in ks h)) }

  new_states : AreStates (new_stop ∷ stops_in ks h)
  new_states = (ran, states h)

  new_falls : Falls (new_stop ∷ stops_in ks h)
  new_falls = ((let b = below_in_commits ks h in omega (arith, b)), falls_in ks h)

  pub committed_good : IsGoodStore grown (record { parent = h; profile = profile; cells = cells } ∷ ks) (with_change file grown ks of rows good keeps h there profile cells told_change)
  committed_good = good_more file grown ks of rows good keeps h there profile cells told_change (
    cell_drops (stops_in ks h) new_stop new_states new_falls head_table (good_table file ks of rows good states h there) s u live.state now same same_now accessed leaves,
    stores ∙ cell_stores (stops_in ks h) new_stop new_states new_falls head_table (good_table file ks of rows good states h there) s u live.state now same same_now accessed leaves,
    versions,
    good.right h there,
  )
      (λ r m. subst (λ p. Held grown r p) (same_pictures u new_stop.state now ran same_now r.group) (held r m))
      fits

  pub committed_live : IsLive (Held grown) (table_in (record { parent = h; profile = profile; cells = cells } ∷ ks) (with_change file grown ks of rows good keeps h there profile cells told_change) (suc (length ks))) u
  committed_live = subst (λ t. IsLive (Held grown) t u) (sym (newest_table file grown ks of rows good keeps h there profile cells told_change))
      (live_after (Held grown) head_table (good_is_table file ks of rows good states h there) s u (table_still file grown ks of rows good keeps h s live) now accessed leaves new stores held)
