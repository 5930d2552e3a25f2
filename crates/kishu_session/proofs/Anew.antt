-- The loading of the head's table into the empty state: this is carried there from the root's table, which is empty.
use Rattle.std.proofs.Common.{◌≡◌, ℕ, suc, ◌==◌, false, List, [], ◌∷◌, length, refl, sym, ◌∙◌, ap, subst, arith}
use Rattle.std.proofs.lemmas.Bool.Decides.{Decides-eqb}
use Rattle.std.specs.List.{AllZip}
use Rattle.std.specs.Prelude.{Option, Some, None}
use Rattle.kishu_host.specs.Host as host
use Rattle.kishu_meaning.specs.values.Values.{State, empty}
use Rattle.kishu_store.specs.Graph.{Commit}
use Rattle.kishu_store.specs.Groups.{Group}
use Rattle.kishu_store.specs.Histories.{History, head_table, table_to}
use Rattle.kishu_store.specs.Tables.{Change, Table, bytes_in, change_of, changes_in, groups_in, table_of}
use Rattle.kishu_graph.specs.Tables.{table_of_rows}
use Rattle.kishu_delta.specs.Kept.{KeepsJust, kept_of}
use Rattle.kishu_history.specs.Checkout.{to_drop, to_load}
use Rattle.kishu_history.specs.Live.{IsLive, IsPictureOf}
use Rattle.kishu_history.specs.Stored.{Stored}
use Rattle.kishu_history.specs.Tables.{IsTable}
use Rattle.kishu_history_laws.specs.Choices.{not_told}
use Rattle.kishu_history_laws.specs.checkouts.CheckoutLaws.{carried_live}
use Rattle.kishu_history_laws.specs.stores.StoreLaws.{all_rows, empty_live, empty_table}
use Rattle.kishu_history_laws.specs.tables.FileLaws.{changes_are_tables}
use Rattle.kishu_journal.specs.Going.{ReadsAtMost}
use Rattle.kishu_checkout.specs.Loads.{AreCarried}
use Rattle.kishu_session.specs.Head.{Carries, IsGiven, IsLoadedAt, KeepsSome, Lacks, LacksAtHead, LacksToLoad, ReadsAtHead, ReadsToLoad}
use Rattle.kishu_session.specs.Known.{IsHistoryOf}
use Rattle.kishu_session.specs.Lives.{state_of}
use Rattle.kishu_session.specs.declared.head.Head.{Head}

-- ---- the root's table

no-changes : (ks : List Commit) (of : ℕ → Change) → changes_in ks of 0 ≡ []
no-changes [] of = refl
no-changes (k ∷ ks) of =
    let other : (0 == suc (length ks)) ≡ false = not_told (0 == suc (length ks)) (Decides-eqb 0 (suc (length ks))) (λ f. omega (arith, f)) in
    rw other (no-changes ks of)

root-table : (h : History) → table_to h 0 ≡ []
root-table h = ap table_of (no-changes h.graph.commits (change_of h.changes))

-- ---- from a head that keeps nothing

module _ (head : Head) (none : table_of_rows head.table ≡ []) where
  -- All rows of the head's table are to be loaded.
  loads-all : (u : Table) → to_load (table_of_rows head.table) u ≡ u
  loads-all u = ap (λ (t : Table). to_load t u) none ∙ all_rows u

  pub keeps-none : state_of head.live ≡ empty → ((g : Group) → kept_of head.kept g ≡ None) → KeepsSome head
  keeps-none live kept = record {
    commit = 0;
    table = λ h k. none ∙ sym (root-table h);
    lives = subst (λ (t : Table). IsLive (Stored None) t (state_of head.live)) (sym none)
        (subst (λ (s : State). IsLive (Stored None) [] s) (sym live) (empty_live (Stored None)));
    pictures = subst (λ (t : Table). KeepsJust head.kept (groups_in t) (state_of head.live)) (sym none)
        (record { digests = kept; fit = λ g m. absurd m });
  }

  pub reads-anew : (s t : host.State) → ReadsToLoad head s t → ReadsAtHead head.graph s t
  reads-anew s t reads h k = subst (λ (rows : Table). ReadsAtMost s.reads t.reads (bytes_in rows)) (loads-all (head_table h)) (reads h k)

  pub lacks-anew : (s : host.State) (at : ℕ) → LacksToLoad head s at → LacksAtHead head.graph s at
  lacks-anew s at lacks h k = subst (λ (rows : Table). Lacks s rows at) (loads-all (head_table h)) (lacks h k)

-- ---- what is loaded

given-of : (file : Option (List ℕ)) (head : Head) (h : History) → AreCarried file [] (head_table h) empty (state_of head.live) → IsGiven file head h
given-of None head h from = tt
given-of (Some file) head h from = record { pictures = from.pictures; each = from.each; is = from.is }

module _ (file : Option (List ℕ)) (old new : Head) (none : table_of_rows old.table ≡ []) (live : state_of old.live ≡ empty) (carries : Carries file old new) where
  -- From the empty table no group is dropped, and each row is loaded.
  from-empty : (u : Table) → table_of_rows new.table ≡ u → AreCarried file [] u empty (state_of new.live)
  from-empty u to =
      let all = subst (λ (t : Table). AreCarried file (to_drop t u) (to_load t u) (state_of old.live) (state_of new.live)) none
      (subst (λ (t : Table). AreCarried file (to_drop (table_of_rows old.table) t) (to_load (table_of_rows old.table) t) (state_of old.live) (state_of new.live)) to carries.state) in
      subst (λ (s : State). AreCarried file [] u s (state_of new.live)) live
      (subst (λ (rows : Table). AreCarried file [] rows (state_of old.live) (state_of new.live)) (all_rows u) all)

  pub loaded-anew : (h : History) → IsHistoryOf new.graph h → IsLoadedAt file new h
  loaded-anew h k =
      let u = head_table h in
      let to = carries.to h k in
      let from = from-empty u to in
      let is : IsTable u = changes_are_tables h.graph h.changes h.place k.good.changes h.graph.head.commit in
      let each = subst (λ (rows : Table). AllZip (IsPictureOf (Stored file)) rows from.pictures) (sym (all_rows u)) from.each in
      record {
        lives = subst (λ (s : State). IsLive (Stored file) u s) (sym from.is)
            (carried_live (Stored file) [] u empty from.pictures empty_table is (λ r q m n e f. absurd m) (empty_live (Stored file)) each);
        given = given-of file new h from;
        held = record { table = to; pictures = subst (λ (t : Table). KeepsJust new.kept (groups_in t) (state_of new.live)) to carries.pictures };
      }
