-- How many bytes the pictures of the head's table take, whatever the host tells.
use Rattle.std.specs.Prelude.{◌≤◌}
use Rattle.kishu_objects.specs.Sizes.{size_among}
use Rattle.kishu_store.specs.Histories.{History, head_table}
use Rattle.kishu_store.specs.Limits.{most_pictured}
use Rattle.kishu_store.specs.Tables.{bytes_in, groups_in}
use Rattle.kishu_session.specs.Known.{IsHistoryOf}
use Rattle.kishu_session.specs.Lives.{state_of}
use Rattle.kishu_session.specs.declared.head.Head.{Head}

-- In this history they have together at most 2^28 bytes: by the lengths that the rows tell, and in the live state.
pub record IsBoundedAt (head : Head) (h : History) : Type 0 where
  pub told : bytes_in (head_table h) ≤ most_pictured
  pub live : size_among (groups_in (head_table h)) (state_of head.live) ≤ most_pictured

-- So it is in each history that is kept.
abbrev pub IsBounded : Head → Type 0
IsBounded head = (h : History) → IsHistoryOf head.graph h → IsBoundedAt head h
