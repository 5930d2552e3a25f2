use Rattle.std.specs.Prelude.{length}
use Rattle.kishu_meaning.specs.items.Walks as walks
use Rattle.kishu_meaning.specs.values.Values.{value_of}
use Rattle.kishu_items.specs.Called as called
use Rattle.kishu_items.specs.Walks.{is_sound_walk, walk_of}
use Rattle.kishu_machine.specs.Lifted.{lifted}
use Rattle.kishu_machine.specs.Machine.{moment_of}
use Rattle.kishu_machine.specs.Raising.{passed_sound}
use Rattle.kishu_access.proofs.Walking.{walk_bare, walk_raises}
use Rattle.kishu_access.proofs.walks.walk_of.Goals as goal

pub returns-clause-gives : goal.returns-clause-gives
returns-clause-gives g c =
    let v = value_of c.args.value.now in
    let m = c.args.machine.now in
    let t = called.moment_of m.heap m.budget in
    rw c.passed.ensures (lifted walk_of (walks.walk_of v) (walk_bare v) (moment_of m) t c.walk_of-walk.result (c.walk_of-walk.ensures.gives m.budget))

pub returns-clause-sound : goal.returns-clause-sound
returns-clause-sound g c =
    let v = value_of c.args.value.now in
    let m = c.args.machine.now in
    let n = length m.heap in
    let s = called.moment_of m.heap m.budget in
    rw c.passed.ensures (passed_sound n walk_of (λ w. is_sound_walk n (walk_of w)) (walks.walk_of v) s s c.walk_of-walk.result (walk_raises n v) c.walk_of-walk.ensures.sound (c.walk_of-walk.ensures.gives m.budget))
