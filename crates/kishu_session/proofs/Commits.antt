-- The commit of cells that were run, on each history that is kept.
use Rattle.std.proofs.Common.{◌≡◌, ◌<◌, ◌≤◌, ◌+◌, ◌^◌, ℕ, suc, Bool, if◌then◌else◌, List, length, Option, Some, None, sym, ◌∙◌, ap, subst, arith}
use Rattle.std.proofs.Math.Logic.{∥∥₁_elim}
use Rattle.std.proofs.Props.{props}
use Rattle.std.specs.Coded.{le_prop}
use Rattle.std.specs.List.{AllByRecursion}
use Rattle.kishu_meaning.specs.values.Values.{State}
use Rattle.kishu_objects.specs.Bytes.{picture_bytes}
use Rattle.kishu_objects.specs.Fits.{StateFits}
use Rattle.kishu_objects.specs.Lists.{In}
use Rattle.kishu_objects.specs.Picture.{listed, picture}
use Rattle.kishu_objects.specs.Sizes.{size_among, most_bytes}
use Rattle.kishu_objects.specs.States.{IsSoundState}
use Rattle.kishu_objects_laws.specs.SameLaws.{same_turned}
use Rattle.kishu_replay.specs.Replay.{after_cells}
use Rattle.kishu_store.specs.Entries.{Record}
use Rattle.kishu_store.specs.Fitting.{changed}
use Rattle.kishu_store.specs.Graph.{Target, newest}
use Rattle.kishu_store.specs.Groups.{Group, IsName}
use Rattle.kishu_store.specs.Histories.{History, before_body, before_pictures, head_table, led, FollowsAt, led_at}
use Rattle.kishu_store.specs.Limits.{most_records, newest_profile}
use Rattle.kishu_store.specs.Rules.{IsRecord}
use Rattle.kishu_store.specs.Tables.{Row, Table, after, groups_in, IsKeptTable}
use Rattle.kishu_store_laws.specs.HistoryLaws.{led-history}
use Rattle.kishu_graph.specs.Kept.{Kept, KeepsHistory}
use Rattle.kishu_graph.specs.Laws.{count-shape}
use Rattle.kishu_graph.specs.Tables.{IsTableOf, table_of_rows}
use Rattle.kishu_history.specs.Accessed.{accessed_by}
use Rattle.kishu_history.specs.Live.{IsLive}
use Rattle.kishu_history.specs.Stored.{Stored}
use Rattle.kishu_history.specs.Tables.{IsTable}
use Rattle.kishu_history.specs.Touched.{classes, size_told}
use Rattle.kishu_history_laws.specs.Choices.{in_map, one_of_decides}
use Rattle.kishu_history_laws.specs.cells.AccessLaws.{classes_same, dropped_same, stored_same}
use Rattle.kishu_history_laws.specs.cells.Led.{LeadsTo}
use Rattle.kishu_history_laws.specs.tables.FileLaws.{kept_is_table}
use Rattle.kishu_session_laws.specs.CellLaws.{cells_keep}
use Rattle.kishu_journal.specs.Following.{IsKept, GoesOn}
use Rattle.kishu_delta.specs.Deltas.{groups_dropped, groups_stored, pictures_stored, change_with}
use Rattle.kishu_delta.specs.Kept.{Digests, KeepsDigests, KeepsJust, digest_of, kept_of}
use Rattle.kishu_delta.specs.Settled.{IsSettled, IsToldFrom, is_left}
use Rattle.kishu_delta.specs.declared.delta.Delta.{Delta}
use Rattle.kishu_commit.specs.AttachedLaws.{accesses-leave}
use Rattle.kishu_commit.specs.FitLaws.{tested-follows-at}
use Rattle.kishu_commit.specs.LengthLaws.{live-names}
use Rattle.kishu_commit.specs.LiveLaws.{record-by, record-told, table-by, tested-untold}
use Rattle.kishu_commit.specs.RowLaws.{rows-groups}
use Rattle.kishu_commit.specs.StayLaws.{settled-stay}
use Rattle.kishu_commit.specs.Told.{told_record, record_by, record_with, next_entry_by, next_record, next_record_by, rows_by, AreToldBy, CanBeStored, MayBeCommitted, PicturesFit, StayStored}
use Rattle.kishu_commit.specs.WritingLaws.{told-fit, tested-fit, tested-record}
use Rattle.kishu_session.specs.Committing.{HasRun, HasTable, IsCommit, IsNextNumber, IsTold}
use Rattle.kishu_session.specs.Head.{CountsPath, IsKnown, KeepsTable}
use Rattle.kishu_session.specs.Known.{IsHistoryOf, HasHistory}
use Rattle.kishu_session.specs.Lives.{state_of}
use Rattle.kishu_session.specs.declared.head.Head.{Head}
use Rattle.kishu_session.proofs.AddFacts.{counts-more}
use Rattle.kishu_session.proofs.LoadFacts.{head-is, head-table-is, kept-prop}
use Rattle.kishu_session.proofs.LongTexts.{size-few}
use Rattle.kishu_session.proofs.OneTable.{one-head-table}
use Rattle.kishu_session.proofs.Sizes.{sizes-are}
use Rattle.kishu_session.proofs.Untold.{keeps-prop, live-there, pictures-there}

-- ---- what is known of a head

pub known-history : (head : Head) (place : ℕ) → IsKnown head place → HasHistory head.graph
known-history head place known = ∥∥₁_elim known squash₁ (λ k. ∣ (k.0, k.1.kept) ∣₁)

-- Its table tells its live state, and the digests of the pictures are kept.
module _ (head : Head) (place : ℕ) (known : IsKnown head place) where
  abbrev t : Table
  t = table_of_rows head.table

  pub known-table : HasTable head place
  known-table = ∥∥₁_elim known squash₁ (λ k. ∣ (k.0, k.1.kept, k.1.place_is, k.1.held.table) ∣₁)

  pub known-told : IsLive (Stored None) t (state_of head.live)
  known-told = live-there t (state_of head.live)
      (∥∥₁_elim known squash₁ (λ k. ∣ subst (λ (x : Table). IsLive (Stored None) x (state_of head.live)) (sym k.1.held.table) k.1.lives ∣₁))

  pub known-pictures : KeepsJust head.kept (groups_in t) (state_of head.live)
  known-pictures = pictures-there head.kept (groups_in t) (state_of head.live)
      (∥∥₁_elim known squash₁ (λ k. ∣ subst (λ (x : Table). KeepsJust head.kept (groups_in x) (state_of head.live)) (sym k.1.held.table) k.1.held.pictures ∣₁))

⊥-prop : IsProp ⊥
⊥-prop a b = absurd a

table-set : IsSet Table
table-set = hlevel props

-- A commit has fewer than 2^24 cells.
pub few-cells : (cells : List (List ℕ)) → MayBeCommitted cells → length cells ≤ 2 ^ 24
few-cells cells may = omega (arith, may.size, size-few cells)

-- ---- cells that were run

module _ (place : ℕ) (before : State) (old : Head) (cells : List (List ℕ)) (ran : HasRun place before old cells) where
  abbrev rows : Table
  rows = table_of_rows old.table

  abbrev u : State
  u = state_of old.live

  -- the names that they accessed, as they are told and as they are recorded
  abbrev own : List (List ℕ)
  own = accessed_by newest_profile cells before

  abbrev noted : List (List ℕ)
  noted = old.live.names.accessed

  kept-table : IsKeptTable rows
  kept-table = ∥∥₁_elim ran.known (kept-prop rows) (λ k. subst IsKeptTable (sym k.3) (k.1.good.changes.tables k.0.graph.head.commit))

  -- the digest of each row's picture was kept
  pub kept-before : KeepsDigests old.kept rows before
  kept-before = record { digests = λ r m. of-one r.group (in_map (λ (q : Row). q.group) rows r m); fit = λ r m. ran.pictures.fit r.group (in_map (λ (q : Row). q.group) rows r m) }
    where
      of-one : (g : Group) → In g (groups_in rows) → kept_of old.kept g ≡ Some (digest_of (picture_bytes before g))
      of-one g m = ran.pictures.digests g ∙ ap (λ (b : Bool). if b then Some (digest_of (picture_bytes before g)) else None) ((one_of_decides g (groups_in rows)).1 m)

  pub is-table : IsTable rows
  is-table = kept_is_table rows kept-table

  pub table-here : (h : History) → IsHistoryOf old.graph h → rows ≡ head_table h
  table-here h kept = ∥∥₁_elim ran.known (table-set rows (head_table h)) (λ k. k.3 ∙ one-head-table old.graph k.0 h k.1 kept)

  pub sound-now : IsSoundState u
  sound-now = ran.sound

  -- They left it, or one that is the same.
  pub leaves-noted : LeadsTo noted before u
  leaves-noted =
      let x = after_cells newest_profile cells before in
      record {
        state = x;
        leaves = accesses-leave cells before ran.told.state noted ran.accessed;
        sound = cells_keep newest_profile cells before ran.told.state;
        same = same_turned _ u x ran.left.same;
      }

  size-noted : size_told rows noted u ≤ most_bytes
  size-noted = (let is = sizes-are rows cells before u ran.told.state ran.sound noted ran.left ran.accessed in subst (λ (n : ℕ). n ≤ most_bytes) (sym is) ran.small)

  pub classes-small : size_among (classes (groups_in rows) noted u) u ≤ most_bytes
  classes-small = omega (arith, size-noted)

  -- ---- what changed

  module _ (kept : Digests) (d : Delta) (settled : IsSettled old.kept kept rows noted u d) (fits : (g : Group) → In g (classes (groups_in rows) noted u) → StateFits (picture u g)) where
    abbrev dropped : List Group
    dropped = groups_dropped d

    abbrev stored : List Group
    stored = groups_stored d

    can : CanBeStored rows before own u
    can = told-fit rows before own u (λ g m. fits g (subst (λ (gs : List Group). In g gs) (sym (classes_same noted own ran.accessed (groups_in rows) u)) m))

    fit-stored : PicturesFit u stored
    fit-stored = tested-fit rows noted u (is_left d) dropped stored settled.changes fits

    stay : StayStored None rows noted u (is_left d)
    stay = settled-stay old.kept kept rows before u noted d settled kept-before ran.told fits

    module _ (parent : ℕ) (r : Record) (made : r ≡ record_with parent cells dropped stored (pictures_stored d)) where
      made-by : r ≡ record_by parent cells dropped stored u
      made-by = made ∙ ap (λ (ps : List (List ℕ)). record_with parent cells dropped stored ps) settled.pictures ∙ record-by parent cells dropped stored u

      module _ (at : parent ≡ old.graph.head.commit) where
        -- a commit that is there has a number of four bytes
        parent-few : parent < 2 ^ 32
        parent-few =
            ∥∥₁_elim ran.known le_prop
            (λ k.
            let is : parent ≡ k.0.graph.head.commit = head-is old.graph parent at k.0 k.1 in
            let graph = k.1.good.graph in
            omega (arith, is, graph.head.there, graph.counted, graph.few))

        pub rules : MayBeCommitted cells → AllByRecursion IsName (listed u) → IsRecord r
        rules may names =
            subst IsRecord (sym made-by)
            (tested-record parent cells rows u noted (is_left d) dropped stored settled.changes parent-few may kept-table (live-names None rows before ran.told kept-table.small) sound-now names size-noted)

        -- The record is that of the history's next commit.
        next-is : (h : History) → IsHistoryOf old.graph h → r ≡ next_record_by h cells dropped stored u
        next-is h k = made-by ∙ ap (λ (n : ℕ). record_by n cells dropped stored u) (head-is old.graph parent at h k)

        -- Where the state before tells which groups these are, it is the one that this tells.
        told-is : IsToldFrom before rows noted u d → (h : History) → IsHistoryOf old.graph h → r ≡ next_record h cells before own u
        told-is tells h k =
            made
            ∙ ap (λ (ps : List (List ℕ)). record_with parent cells dropped stored ps) settled.pictures
            ∙ record-told parent cells rows before u own dropped stored
            (tells.dropped ∙ dropped_same noted own ran.accessed (groups_in rows) (picture before) u) (tells.stored ∙ stored_same noted own ran.accessed (groups_in rows) (picture before) u)
            ∙ ap (λ (n : ℕ). told_record n cells rows before own u) (head-is old.graph parent at h k)
            ∙ ap (λ (x : Table). told_record h.graph.head.commit cells x before own u) (table-here h k)

        can-here : (h : History) → IsHistoryOf old.graph h → CanBeStored (head_table h) before own u
        can-here h k = subst (λ (x : Table). CanBeStored x before own u) (table-here h k) can

        -- what is known of the rows is known of the head's table
        module _ (h : History) (k : IsHistoryOf old.graph h) where
          live-here : IsLive (Stored None) (head_table h) before
          live-here = subst (λ (x : Table). IsLive (Stored None) x before) (table-here h k) ran.told

          stay-here : StayStored None (head_table h) noted u (is_left d)
          stay-here = subst (λ (x : Table). StayStored None x noted u (is_left d)) (table-here h k) stay

          changes-here : AreToldBy (head_table h) noted u (is_left d) dropped stored
          changes-here = subst (λ (x : Table). AreToldBy x noted u (is_left d) dropped stored) (table-here h k) settled.changes

          size-here : size_told (head_table h) noted u ≤ most_bytes
          size-here = subst (λ (x : Table). size_told x noted u ≤ most_bytes) (table-here h k) size-noted

        module _ (room : old.graph.records < most_records) where
          -- It fits, wherever its body stands.
          follows : (h : History) → IsHistoryOf old.graph h → (body : ℕ) → FollowsAt body h r.entry
          follows h k body =
              subst (λ (x : Record). FollowsAt body h x.entry) (sym (next-is h k))
              (tested-follows-at body h k.good cells before u noted (live-here h k) sound-now leaves-noted (is_left d) (stay-here h k) dropped stored (changes-here h k) fit-stored
              (size-here h k) (subst (λ (n : ℕ). n < most_records) k.keeps.graph.shape.records room))

          is-kept : (h : History) → IsHistoryOf old.graph h → IsKept old.graph h
          is-kept h k = record { keeps = k.keeps; most = h.place; changes = k.good.changes }

          -- So the record isn't one that doesn't fit.
          pub fits-some : (body : ℕ) → ((h : History) → IsKept old.graph h → FollowsAt body h r.entry → ⊥) → ⊥
          fits-some body none = ∥∥₁_elim ran.known ⊥-prop (λ k. none k.0 (is-kept k.0 k.1) (follows k.0 k.1 body))

          pub commit-is : (file : Option (List ℕ)) → (IsTold file rows before → IsToldFrom before rows noted u d)
              → (new : Head) → length cells ≤ 2 ^ 24 → (old.cells + length cells < 2 ^ 64 → new.cells ≡ old.cells + length cells) → (h : History) → IsHistoryOf old.graph h
              → IsCommit file h before old new cells r
          commit-is file tells new few grows h k = record {
            dropped = dropped;
            stored = stored;
            is = next-is h k;
            told = λ t. told-is (tells (subst (λ (x : Table). IsTold file x before) (sym (table-here h k)) t)) h k;
            fits = follows h k (h.place + before_body);
            can = can-here h k;
            count = λ n. subst (λ (x : Record). CountsPath new (changed h.graph x.entry)) (sym (next-is h k)) (counts-more old new h.graph cells k.good.graph few grows n);
          }

          -- ---- what is kept then

          module _ (new : Kept) (body : ℕ) (body_is : body ≡ place + before_body) (goes : (h : History) → IsKept old.graph h → GoesOn body h r.entry new) where
            pub commit-keeps : (h : History) → IsHistoryOf old.graph h → h.place ≡ place → KeepsHistory new (led h r.entry)
            commit-keeps h k here =
                let same : body ≡ h.place + before_body = omega (arith, body_is, here) in
                subst (λ (b : ℕ). KeepsHistory new (led_at b h r.entry)) same (goes h (is-kept h k)).keeps

            module _ (number : ℕ) (number_is : IsNextNumber old.graph number) where
              -- It is the number of the commit on which the head stands.
              head-there : (h : History) → IsHistoryOf old.graph h → h.place ≡ place → number ≡ new.head.commit
              head-there h k here =
                  number_is h.graph k.keeps.graph.shape
                  ∙ ap (λ (x : Record). (led h x.entry).graph.head.commit) (sym (next-is h k))
                  ∙ ap (λ (t : Target). t.commit) (sym (commit-keeps h k here).graph.shape.head)

              pub number-there : number < length new.commits
              number-there =
                  ∥∥₁_elim ran.known le_prop
                  (λ k.
                  let shape = commit-keeps k.0 k.1 k.2 in
                  let is : number ≡ newest (led k.0 r.entry).graph =
                  number_is k.0.graph k.1.keeps.graph.shape ∙ ap (λ (x : Record). newest (led k.0 x.entry).graph) (sym (next-is k.0 k.1)) in
                  omega (arith, is, count-shape new (led k.0 r.entry).graph shape.graph.shape))

              -- The new head keeps the table of that commit, and the digests that follow what changed.
              module _ (written : IsRecord r) (head : Head) (graph : head.graph ≡ new) (live : head.live ≡ old.live) (table : IsTableOf new number (table_of_rows head.table)) where
                module _ (h : History) (k : IsHistoryOf old.graph h) (here : h.place ≡ place) where
                  abbrev more : Table
                  more = rows_by h cells dropped stored u

                  now-kept : IsHistoryOf new (led h r.entry)
                  now-kept = record { keeps = commit-keeps h k here; good = led-history h r.entry k.good written.rules (follows h k (h.place + before_body)) }

                  table-now : table_of_rows head.table ≡ head_table (led h r.entry)
                  table-now = head-table-is new number (table_of_rows head.table) (head-there h k here) table (led h r.entry) now-kept

                  -- It tells the new state by the lengths of its pictures.
                  lives-now : IsLive (Stored None) (table_of_rows head.table) u
                  lives-now =
                      let next = tested-untold h k.good cells dropped stored u before noted (is_left d) (changes-here h k) sound-now leaves-noted fit-stored (live-here h k) (stay-here h k) in
                      let led = subst (λ (x : Record). IsLive (Stored None) (head_table (led h x.entry)) u) (sym (next-is h k)) next in
                      subst (λ (x : Table). IsLive (Stored None) x u) (sym table-now) led

                pub commit-lives : IsLive (Stored None) (table_of_rows head.table) (state_of old.live)
                commit-lives = live-there (table_of_rows head.table) u (∥∥₁_elim ran.known squash₁ (λ k. ∣ lives-now k.0 k.1 k.2 ∣₁))

                module _ (kept_is : head.kept ≡ kept)
                    (just : (stored_rows : Table) → groups_in stored_rows ≡ groups_stored d → KeepsJust kept (groups_in (after (change_with d stored_rows) rows)) u) where
                  module _ (h : History) (k : IsHistoryOf old.graph h) (here : h.place ≡ place) where
                    rows-more : groups_in (more h k here) ≡ groups_stored d
                    rows-more = rows-groups u (suc (newest h.graph)) (h.place + before_body + before_pictures (next_entry_by h cells dropped stored u)) stored

                    pictures-now : KeepsJust kept (groups_in (head_table (led h r.entry))) u
                    pictures-now =
                        let first = just (more h k here) rows-more in
                        let second = subst (λ (x : Table). KeepsJust kept (groups_in (after (change_with d (more h k here)) x)) u) (table-here h k) first in
                        let third = subst (λ (x : Table). KeepsJust kept (groups_in x) u) (sym (table-by h k.good cells dropped stored u)) second in
                        subst (λ (x : Record). KeepsJust kept (groups_in (head_table (led h x.entry))) u) (sym (next-is h k)) third

                    held-by : (j : History) → IsHistoryOf new j → KeepsTable head j
                    held-by j other =
                        let one = one-head-table new (led h r.entry) j (now-kept h k here) other in
                        record {
                          table = table-now h k here ∙ one;
                          pictures =
                              subst (λ (x : State). KeepsJust head.kept (groups_in (head_table j)) x) (sym (ap state_of live))
                              (subst (λ (p : Digests). KeepsJust p (groups_in (head_table j)) u) (sym kept_is)
                              (subst (λ (x : Table). KeepsJust kept (groups_in x) u) one pictures-now));
                        }

                  pub commit-held : (j : History) → IsHistoryOf head.graph j → KeepsTable head j
                  commit-held j other =
                      let there = subst (λ (x : Kept). IsHistoryOf x j) graph other in
                      ∥∥₁_elim ran.known (keeps-prop head j) (λ k. held-by k.0 k.1 k.2 j there)
