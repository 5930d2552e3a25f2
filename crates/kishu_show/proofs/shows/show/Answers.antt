use Rattle.kishu_meaning.specs.comparing.Show.{show_in}
use Rattle.kishu_meaning.specs.values.Values.{value_of}
use Rattle.kishu_show.proofs.Ends.{show_whole, fault_told}
use Rattle.kishu_show.proofs.shows.show.Goals as goal

pub returns-in-Ok-clause-gives : goal.returns-in-Ok-clause-gives
returns-in-Ok-clause-gives g c = rw c.in-Ok.is at (show_whole c.args.heap.now (value_of c.args.value.now) c.push_shown-made.result c.new-draft.result c.push_shown-made.new.draft c.room_at-room.result c.args.budget.now.depth c.args.budget.now.left c.new-draft.ensures.text c.new-draft.ensures.left c.room_at-room.ensures c.push_shown-made.ensures.gives)

pub returns-in-Err-clause-gives : goal.returns-in-Err-clause-gives
returns-in-Err-clause-gives g c =
    fault_told c.in-Err.fault c.push_shown-made.new.draft (show_in c.args.heap.now c.args.budget.now.depth (value_of c.args.value.now) c.args.budget.now.left)
    (rw c.in-Err.is at (show_whole c.args.heap.now (value_of c.args.value.now) c.push_shown-made.result c.new-draft.result c.push_shown-made.new.draft c.room_at-room.result c.args.budget.now.depth c.args.budget.now.left c.new-draft.ensures.text c.new-draft.ensures.left c.room_at-room.ensures c.push_shown-made.ensures.gives))
