-- The pictures of the head's table take at most 2^28 bytes.
use Rattle.std.proofs.Common.{◌≡◌, ◌≤◌, ℕ, ap, arith}
use Rattle.std.specs.Prelude.{None}
use Rattle.std.proofs.Math.Logic.{∥∥₁_elim}
use Rattle.std.proofs.Props.{props}
use Rattle.kishu_objects.specs.Sizes.{size_among}
use Rattle.kishu_store.specs.Histories.{History, head_table}
use Rattle.kishu_store.specs.Limits.{most_pictured}
use Rattle.kishu_store.specs.Tables.{Table, bytes_in, groups_in}
use Rattle.kishu_history_laws.specs.checkouts.PlaceLaws.{rows_take_theirs}
use Rattle.kishu_session.specs.Bounded.{IsBounded}
use Rattle.kishu_session.specs.Head.{IsHeadOf, IsKnown}
use Rattle.kishu_session.specs.Known.{IsHistoryOf}
use Rattle.kishu_session.specs.Lives.{state_of}
use Rattle.kishu_session.specs.OneTable.{one-head-table}
use Rattle.kishu_session.specs.declared.head.Head.{Head}

module _ (head : Head) (place : ℕ) where
  abbrev Within : Table → Type 0
  Within t = size_among (groups_in t) (state_of head.live) ≤ most_pictured

  -- In the history of which more is known they have the lengths that its rows tell.
  live-within : (h j : History) → IsHeadOf head place h → IsHistoryOf head.graph j → Within (head_table j)
  live-within h j is k =
      let one = one-head-table head.graph j h k is.kept in
      let few = (k.good.changes.tables j.graph.head.commit).small in
      let rows = ap bytes_in one in
      let groups = ap (λ (t : Table). size_among (groups_in t) (state_of head.live)) one in
      let take = rows_take_theirs None (head_table h) (state_of head.live) is.lives in
      omega (arith, few, rows, groups, take)

  pub known-bounded : IsKnown head place → IsBounded head
  known-bounded known j k = record {
    told = (k.good.changes.tables j.graph.head.commit).small;
    live = (let prop : IsProp (Within (head_table j)) = hlevel props in ∥∥₁_elim known prop (λ is. live-within is.0 j is.1 k));
  }
