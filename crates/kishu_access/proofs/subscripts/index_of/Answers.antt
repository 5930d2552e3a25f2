use Rattle.kishu_meaning_laws.specs.BareLaws.{index_bare}
use Rattle.kishu_meaning.specs.items.Indexes.{index_of}
use Rattle.kishu_meaning.specs.values.Values.{value_of}
use Rattle.kishu_items.specs.Called as called
use Rattle.kishu_machine.specs.Lifted.{lifted}
use Rattle.kishu_machine.specs.Machine.{moment_of}
use Rattle.kishu_machine.specs.Raising.{passed_raised}
use Rattle.kishu_access.proofs.Raises.{index_raises}
use Rattle.kishu_access.proofs.subscripts.index_of.Goals as goal

pub returns-clause-gives : goal.returns-clause-gives
returns-clause-gives g c =
    let v = value_of c.args.index.now in
    let m = c.args.machine.now in
    rw c.passed.ensures (lifted (λ z. z) (index_of v) (index_bare v) (moment_of m) (called.moment_of m.heap m.budget) c.index_of-number.result (c.index_of-number.ensures.gives m.budget))

pub returns-clause-sound : goal.returns-clause-sound
returns-clause-sound g c =
    let v = value_of c.args.index.now in
    let m = c.args.machine.now in
    let s = called.moment_of m.heap m.budget in
    rw c.passed.ensures (passed_raised _ (λ z. z) (index_of v) s s c.index_of-number.result (index_raises _ v) (c.index_of-number.ensures.gives m.budget))
