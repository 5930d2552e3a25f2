-- Where a move leads that puts the head on a target.
use Rattle.std.specs.Prelude.{◌≡◌, ℕ, List, Option, Some, None}
use Rattle.kishu_meaning.specs.values.Values as values
use Rattle.kishu_store.specs.Entries.{Entry, MoveTo, move, to_commit, to_branch, plain}
use Rattle.kishu_store.specs.Graph.{Target}
use Rattle.kishu_store.specs.Rules.{IsRecord}
use Rattle.kishu_model.specs.Answers.{Answer, checked_out}
use Rattle.kishu_model.specs.Values.{answer_of}
use Rattle.kishu_session.specs.Head.{CarriesFrom, Counts}
use Rattle.kishu_session.specs.Lives.{state_of}
use Rattle.kishu_session.specs.Prepared.{record_in}
use Rattle.kishu_session.specs.Renewing.{Starts}
use Rattle.kishu_session.specs.declared.head.Head.{Head}
use Rattle.kishu_session.specs.declared.prepared.Prepared.{Prepared}

abbrev pub move_by : ℕ → Option (List ℕ) → MoveTo
move_by number None = to_commit number
move_by number (Some title) = to_branch title

abbrev pub move_to : Target → MoveTo
move_to target = move_by target.commit target.branch

-- the entry of that move, and the answer that tells it
abbrev pub entry_to : Target → Entry
entry_to target = move (move_to target)

abbrev pub told_at : Target → Answer
told_at target = checked_out target.commit target.branch

-- What a move leads to that put the head where it stands: the answer that tells it, its record, and the state that was carried there, loaded anew before or not.
pub record IsMoved (file : Option (List ℕ)) (old head : Head) (prepared : Prepared) : Type 0 where
  pub answer : answer_of prepared.answer ≡ Some (told_at head.graph.head)
  pub recorded : record_in prepared.recorded ≡ Some (plain (entry_to head.graph.head))
  pub rules : IsRecord (plain (entry_to head.graph.head))
  pub start : values.State
  pub starts : Starts (state_of old.live) start
  pub carries : CarriesFrom file start old head
  pub count : Counts head
