use Rattle.std.proofs.Common.{arith}
use Rattle.std.specs.Prelude.{length, option_map}
use Rattle.kishu_meaning.specs.items.Walks.{item_for}
use Rattle.kishu_meaning.specs.values.Values.{value_of}
use Rattle.kishu_items.specs.Called as called
use Rattle.kishu_items.specs.Gathering.{grown_least, grown_length}
use Rattle.kishu_items.specs.Walks.{nodes_for, walk_of}
use Rattle.kishu_machine.specs.Frames.{locals_of}
use Rattle.kishu_machine.specs.Lifted.{lifted}
use Rattle.kishu_machine.specs.Lists.{values_in}
use Rattle.kishu_machine.specs.Machine.{moment_of}
use Rattle.kishu_machine.specs.Raising.{passed_sound}
use Rattle.kishu_machine.specs.SoundMore.{sound_more_run}
use Rattle.kishu_access.specs.Access.{is_sound_maybe}
use Rattle.kishu_access.proofs.Walking.{found_gives, found_sound, item_bare, item_raises, walk_most}
use Rattle.kishu_access.proofs.walks.item_for.Goals as goal

pub invariant_of-machine : goal.invariant_of-machine
invariant_of-machine g c = (
    let m = c.args.machine.now in
    record { sound = sound_more_run m.heap c.item_for-item.new.heap m.names.bound (locals_of m.locals) (option_map value_of m.handled) (grown_least _ m.heap c.item_for-item.new.heap c.item_for-item.ensures.more) m.sound })

pub returns-clause-gives : goal.returns-clause-gives
returns-clause-gives g c =
    let w = walk_of c.args.walk.now in
    let k = c.args.k in
    let s = moment_of c.args.machine.now in
    let t = called.moment_of c.item_for-item.new.heap c.item_for-item.new.budget in
    let h = found_gives c.item_for-item.result t _ c.item_for-item.ensures.gives in
    rw (c.passed.ensures, c.item_for-item.ensures.spends.0) (lifted values_in (item_for w k) (item_bare w k) s t c.item_for-item.result h)

pub returns-clause-sound : goal.returns-clause-sound
returns-clause-sound g c =
    let w = walk_of c.args.walk.now in
    let k = c.args.k in
    let n = length c.item_for-item.new.heap in
    let s = called.moment_of c.args.machine.now.heap c.args.machine.now.budget in
    let t = called.moment_of c.item_for-item.new.heap c.item_for-item.new.budget in
    let h = found_sound n c.item_for-item.result c.item_for-item.ensures.sound in
    rw c.passed.ensures (passed_sound n (option_map value_of) (is_sound_maybe n) (item_for w k) s t c.item_for-item.result (item_raises n w k) h c.item_for-item.ensures.gives)

pub returns-clause-costs : goal.returns-clause-costs
returns-clause-costs g c =
    let w = walk_of c.args.walk.now in
    let old = c.args.machine.now.heap in
    let new = c.item_for-item.new.heap in
    let e = c.item_for-item.ensures in
    record {
      kept = (grown_least (nodes_for w) old new e.more, omega (arith, grown_length (nodes_for w) old new e.more, walk_most w, e.spends.1), omega (arith, e.spends.2));
      reads = omega (arith, e.spends.1, e.spends.3);
    }
