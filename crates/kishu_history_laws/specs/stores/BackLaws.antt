-- A sound state that is the same as one that a table tells is told by it too; so a session on a good store is attached with each sound state that is the same as the head's replay, and two states that one table tells are the same.
use Rattle.std.specs.Prelude.{◌↔◌, ◌≤◌, ℕ, List, Some}
use Rattle.std.proofs.Common.{sym, subst}
use Rattle.kishu_meaning.specs.values.Values.{State}
use Rattle.kishu_store.specs.Graph.{Graph, newest}
use Rattle.kishu_replay.specs.Replay.{replay}
use Rattle.kishu_objects.specs.Same.{Same}
use Rattle.kishu_objects.specs.Picture.{picture}
use Rattle.kishu_objects.specs.Groups.{Touch}
use Rattle.kishu_objects.specs.Lists.{In}
use Rattle.kishu_objects.specs.States.{IsSoundState}
use Rattle.kishu_history.specs.Versions.{at_end}
use Rattle.kishu_history.specs.Tables.{Row, Table, groups_in, bytes_in, Change, IsTable}
use Rattle.kishu_history.specs.Paths.{stops_in, table_in, ReplaysAreStates, AreRows}
use Rattle.kishu_history.specs.Live.{IsLive}
use Rattle.kishu_history.specs.Stored.{Held}
use Rattle.kishu_objects.specs.Sizes.{size_among, most_bytes}
use Rattle.kishu_history.specs.Good.{IsGoodStore, IsAttached}
use Rattle.kishu_history_laws.specs.states.SameLaws.{same_listed, same_pictures}
use Rattle.kishu_history_laws.specs.versions.PathLaws.{end_replay}
use Rattle.kishu_history_laws.specs.checkouts.CheckoutLaws.{live_cut, live_same}
use Rattle.kishu_history_laws.specs.checkouts.PlaceLaws.{rows_take_theirs}
use Rattle.kishu_history_laws.specs.stores.ReplayLaws.{held_one, replay_live}

-- ---- told by one table

module _ (at : Row → State → Type 0) (t : Table) (s u : State) (here : IsSoundState s) (live : IsLive at t u) (same : Same s u) where
  touch_there : (x y : List ℕ) → Touch s x y → Touch u x y
  touch_there x y touch =
      let k = same.shared_there x touch.1.0 y touch.2.0 tt tt (touch.0, touch.1.1, touch.2.1) in
      (k.0, (touch.1.0, k.1), (touch.2.0, k.2))

  pub same_live : IsLive at t s
  same_live = record {
    state = here;
    bound = λ x. subst (λ xs. In x xs ↔ ((r : Row) × In r t × In x r.group)) (sym (same_listed s u here live.state same)) (live.bound x);
    apart = λ r q x y m n a b touch. live.apart r q x y m n a b (touch_there x y touch);
    pictures = λ r m. subst (λ p. at r p) (sym (same_pictures s u here live.state same r.group)) (live.pictures r m);
  }

-- What a file holds for the rows of a table gives one state,
same_told : (file : List ℕ) (t : Table) (s u : State) → IsTable t → IsLive (Held file) t s → IsLive (Held file) t u → Same s u
same_told file t s u is live other = live_same (Held file) t s u is live other.state (live_cut (Held file) t u is other) (λ r p m h. held_one file r p (picture u r.group) h (other.pictures r m))

-- and where the table's pictures aren't too large, that state isn't.
pub live_one : (file : List ℕ) (t : Table) (s u : State) → IsTable t → IsLive (Held file) t s → IsLive (Held file) t u → Same s u × (bytes_in t ≤ most_bytes → size_among (groups_in t) s ≤ most_bytes)
live_one file t s u is live other = (same_told file t s u is live other, λ l. subst (λ n. n ≤ most_bytes) (rows_take_theirs (Some file) t s live) l)

-- ---- on a good store

module _ (file : List ℕ) (g : Graph) (of : ℕ → Change) (rows : AreRows of) (states : ReplaysAreStates g.commits) (head : g.head.commit ≤ newest g) (s : State) (here : IsSoundState s) (same : Same s (replay g g.head.commit)) where
  same_end : Same s (at_end (stops_in g.commits g.head.commit))
  same_end = subst (λ t. Same s t) (sym (end_replay g g.head.commit)) same

  pub attached_same : IsGoodStore file g.commits of → IsAttached file g of s
  attached_same good = record {
    good = good;
    head = head;
    told = same_live (Held file) (table_in g.commits of g.head.commit) s (at_end (stops_in g.commits g.head.commit)) here (replay_live file g.commits of rows good states g.head.commit head) same_end;
    same = same;
  }
