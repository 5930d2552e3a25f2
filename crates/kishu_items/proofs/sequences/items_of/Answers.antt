use Rattle.std.proofs.Common.{length, to_z, of_z}
use Rattle.std.specs.Int.{w128}
use Rattle.std.specs.Str.{chars}
use Rattle.kishu_items.proofs.Items.{texts_sound, range_sound}
use Rattle.kishu_items.proofs.sequences.items_of.Goals as goal

pub returns-in_ok-text_items-in-Text-clause-sound : goal.returns-in_ok-text_items-in-Text-clause-sound
returns-in_ok-text_items-in-Text-clause-sound g c = rw c.in_ok-text_items-in-Text.ensures (texts_sound (length c.args.heap.now) (chars c.as_str.result.now))

pub returns-in_ok-range_items-in-Range-clause-sound : goal.returns-in_ok-range_items-in-Range-clause-sound
returns-in_ok-range_items-in-Range-clause-sound g c =
    rw c.in_ok-range_items-in-Range.ensures (range_sound (length c.args.heap.now) (to_z w128 (of_z w128 c.in-Range.start)) (to_z w128 (of_z w128 c.in-Range.stop)) (to_z w128 (of_z w128 c.in-Range.step)))

pub returns-in-Bool-clause-gives : goal.returns-in-Bool-clause-gives
returns-in-Bool-clause-gives g c = rw c.in-Bool.is (rw c.in-Bool.is at (c.not_iterable-in-Bool.ensures.gives c.args.budget.now))

pub returns-in-Int-clause-gives : goal.returns-in-Int-clause-gives
returns-in-Int-clause-gives g c = rw c.in-Int.is (rw c.in-Int.is at (c.not_iterable-in-Int.ensures.gives c.args.budget.now))

pub returns-in-Class-clause-gives : goal.returns-in-Class-clause-gives
returns-in-Class-clause-gives g c = rw c.in-Class.is (rw c.in-Class.is at (c.not_iterable-in-Class.ensures.gives c.args.budget.now))
