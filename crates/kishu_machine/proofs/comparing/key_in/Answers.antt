use Rattle.std.proofs.Common.{length}
use Rattle.kishu_meaning_laws.specs.BareLaws.{key_bare}
use Rattle.kishu_meaning.specs.items.KeyOf.{key_of_value}
use Rattle.kishu_meaning.specs.values.Keys.{key_of}
use Rattle.kishu_meaning.specs.values.Values.{value_of}
use Rattle.kishu_items.specs.Called as called
use Rattle.kishu_machine.specs.Lifted.{lifted}
use Rattle.kishu_machine.specs.Machine.{placed_in}
use Rattle.kishu_machine.specs.Raising.{passed_raised, key_raises}
use Rattle.kishu_machine.proofs.comparing.key_in.Goals as goal

pub returns-clause-gives : goal.returns-clause-gives
returns-clause-gives g c = λ s.
    let v = value_of c.args.value.now in
    let t = called.moment_of c.args.heap.now c.key_of-key.new.budget in
    rw (c.passed.ensures, c.key_of-key.ensures.spends.0) (lifted key_of (key_of_value v) (key_bare v) (placed_in s c.args.heap.now c.args.budget.now) t c.key_of-key.result c.key_of-key.ensures.gives)

pub returns-clause-sound : goal.returns-clause-sound
returns-clause-sound g c =
    let v = value_of c.args.value.now in
    let ns = c.args.heap.now in
    rw c.passed.ensures (passed_raised (length ns) key_of (key_of_value v) (called.moment_of ns c.args.budget.now) (called.moment_of ns c.key_of-key.new.budget) c.key_of-key.result (key_raises (length ns) v) c.key_of-key.ensures.gives)
