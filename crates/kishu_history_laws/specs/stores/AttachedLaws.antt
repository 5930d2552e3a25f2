-- Each step of a session on a good store leaves it attached.
use Rattle.std.specs.Prelude.{◌≡◌, ◌≤◌, ℕ, suc, ◌==◌, if◌then◌else◌, List, [], length, ⊤}
use Rattle.std.specs.List.{AllZip}
use Rattle.std.proofs.Common.{ap, sym, ◌∙◌, subst, arith}
use Rattle.kishu_language.specs.declared.profile.Profile.{Profile}
use Rattle.kishu_meaning.specs.values.Values.{State, empty}
use Rattle.kishu_store.specs.Graph.{Graph, newest, with_commit, new_graph}
use Rattle.kishu_replay.specs.Replay.{after_cells, replay}
use Rattle.kishu_objects.specs.Same.{Same}
use Rattle.kishu_objects.specs.Picture.{picture}
use Rattle.kishu_objects.specs.Lists.{In}
use Rattle.kishu_objects_laws.specs.SameLaws.{same_self}
use Rattle.kishu_objects.specs.States.{IsSoundState}
use Rattle.kishu_history.specs.Versions.{at_end}
use Rattle.kishu_history.specs.Tables.{Row, Table, groups_in, Change, no_change}
use Rattle.kishu_history.specs.Paths.{stops, stops_in, table_in, AreRows, ReplaysAreStates}
use Rattle.kishu_history.specs.Touched.{dropped_among, stored_among}
use Rattle.kishu_objects.specs.Locality.{Leaves}
use Rattle.kishu_history.specs.Checkout.{to_load, to_drop, carried}
use Rattle.kishu_history.specs.Live.{IsLive, IsPictureOf}
use Rattle.kishu_history.specs.Stored.{Held, Keeps}
use Rattle.kishu_history.specs.Sizes.{StaySmall}
use Rattle.kishu_history.specs.Good.{IsGoodStore, IsAttached}
use Rattle.kishu_history_laws.specs.versions.PathLaws.{end_replay, newest_path}
use Rattle.kishu_history_laws.specs.stores.StoreLaws.{good_still, table_still, opened, checked_out, committed_good, committed_live, empty_live, new_good}

-- A session on a new store, with the empty state.
pub attached_new : (file : List ℕ) → IsAttached file new_graph (λ c. no_change) empty
attached_new file = record { good = new_good file; head = omega arith; told = empty_live (Held file); same = same_self (λ x. ⊤) empty }

pub attached_opened : (file : List ℕ) (g : Graph) (of : ℕ → Change) → AreRows of → ReplaysAreStates g.commits → IsGoodStore file g.commits of → g.head.commit ≤ newest g
    → (ps : List State) → AllZip (IsPictureOf (Held file)) (table_in g.commits of g.head.commit) ps → IsAttached file g of (carried [] ps empty)
attached_opened file g of rows states good head ps zip =
    let o = opened file g.commits of rows good states g.head.commit head ps zip in
    record { good = good; head = head; told = o.0; same = subst (λ s. Same (carried [] ps empty) s) (end_replay g g.head.commit) o.1 }

-- a record that makes no commit and leaves the head's commit, as a branch's name
pub attached_still : (file grown : List ℕ) (g : Graph) (of : ℕ → Change) → AreRows of → (s : State) → IsAttached file g of s → ((c : ℕ) → c ≤ newest g → Keeps file grown (of c).stored)
    → (next : Graph) → next.commits ≡ g.commits → next.head.commit ≡ g.head.commit → IsAttached grown next of s
attached_still file grown g of rows s attached keeps next e h = record {
  good = subst (λ ks. IsGoodStore grown ks of) (sym e) (good_still file grown g.commits of rows attached.good keeps);
  head = (let l = attached.head in let n = ap length e in omega (arith, l, n, h));
  told = subst (λ ks. IsLive (Held grown) (table_in ks of next.head.commit) s) (sym e) (subst (λ c. IsLive (Held grown) (table_in g.commits of c) s) (sym h) (table_still file grown g.commits of rows attached.good keeps g.head.commit s attached.told));
  same = subst (λ t. Same s t) (end_replay next next.head.commit) (subst (λ ks. Same s (at_end (stops_in ks next.head.commit))) (sym e) (subst (λ c. Same s (at_end (stops_in g.commits c))) (sym h) (subst (λ t. Same s t) (sym (end_replay g g.head.commit)) attached.same)));
}

module _ (file grown : List ℕ) (g : Graph) (of : ℕ → Change) (rows : AreRows of) (states : ReplaysAreStates g.commits) (s : State) (attached : IsAttached file g of s)
    (keeps : (c : ℕ) → c ≤ newest g → Keeps file grown (of c).stored) where
  same_replay : Same s (at_end (stops g g.head.commit))
  same_replay = subst (λ t. Same s t) (sym (end_replay g g.head.commit)) attached.same

  -- a checkout: the pictures are read and loaded before the record is appended
  pub attached_moved : (next : Graph) → next.commits ≡ g.commits → next.head.commit ≤ newest g
      → (ps : List State) → AllZip (IsPictureOf (Held file)) (to_load (table_in g.commits of g.head.commit) (table_in g.commits of next.head.commit)) ps
      → IsAttached grown next of (carried (to_drop (table_in g.commits of g.head.commit) (table_in g.commits of next.head.commit)) ps s)
  attached_moved next e l ps zip =
      let c = next.head.commit in
      let after = carried (to_drop (table_in g.commits of g.head.commit) (table_in g.commits of c)) ps s in
      let o = checked_out file g.commits of rows attached.good states g.head.commit c attached.head l s attached.told ps zip in
      record {
        good = subst (λ ks. IsGoodStore grown ks of) (sym e) (good_still file grown g.commits of rows attached.good keeps);
        head = (let n = ap length e in omega (arith, l, n));
        told = subst (λ ks. IsLive (Held grown) (table_in ks of c) after) (sym e) (table_still file grown g.commits of rows attached.good keeps c after o.0);
        same = subst (λ t. Same after t) (end_replay next c) (subst (λ ks. Same after (at_end (stops_in ks c))) (sym e) o.1);
      }

  -- cells that ran: what they drop and store is told among the touched names, and the pictures are appended
  module _ (profile : Profile) (cells : List (List ℕ)) (u : State) (now : IsSoundState u) (ran : IsSoundState (after_cells profile cells (replay g g.head.commit)))
      (same_now : Same u (after_cells profile cells (replay g g.head.commit))) (accessed : List (List ℕ)) (leaves : Leaves accessed s u)
      (new : Table) (stores : groups_in new ≡ stored_among (groups_in (table_in g.commits of g.head.commit)) (picture s) accessed u)
      (versions : (r : Row) → In r new → r.version ≡ suc (newest g)) (held : (r : Row) → In r new → Held grown r (picture u r.group))
      (fits : StaySmall profile cells (replay g g.head.commit)) where
    abbrev told : Change
    told = record { dropped = dropped_among (groups_in (table_in g.commits of g.head.commit)) (picture s) accessed u; stored = new }

    abbrev pub of_all : ℕ → Change
    of_all c = if c == suc (newest g) then told else of c

    back_to : (P : State → Type 0) → P (replay g g.head.commit) → P (at_end (stops_in g.commits g.head.commit))
    back_to P h = subst P (sym (end_replay g g.head.commit)) h

    pub attached_cells : IsAttached grown (with_commit profile cells g) of_all u
    attached_cells =
        let r = back_to (λ t. IsSoundState (after_cells profile cells t)) ran in
        let n = back_to (λ t. Same u (after_cells profile cells t)) same_now in
        let f = back_to (λ t. StaySmall profile cells t) fits in
        record {
          good = committed_good file grown g.commits of rows attached.good keeps states g.head.commit attached.head profile cells s u attached.told same_replay now r n accessed leaves new stores versions held f;
          head = omega arith;
          told = committed_live file grown g.commits of rows attached.good keeps states g.head.commit attached.head profile cells s u attached.told same_replay now r n accessed leaves new stores versions held f;
          same = subst (λ t. Same u t) (sym (ap at_end (newest_path profile cells g)) ∙ end_replay (with_commit profile cells g) (suc (newest g))) n;
        }
