use Rattle.std.specs.Prelude.{[]}
use Rattle.kishu_meaning_laws.specs.BareLaws.{spend_bare}
use Rattle.kishu_meaning.specs.moments.Moment.{spend}
use Rattle.kishu_machine.specs.Lifted.{lifted}
use Rattle.kishu_machine.specs.Machine.{placed}
use Rattle.kishu_machine.specs.Raising.{passed_raised, spend_raises}
use Rattle.kishu_items.specs.Called as called
use Rattle.kishu_machine.proofs.spending.spend_from.Goals as goal

pub returns-clause-gives : goal.returns-clause-gives
returns-clause-gives g c = λ s.
    let t = called.moment_of s.nodes c.spend-spent.new.budget in
    rw (c.passed.ensures, c.spend-spent.ensures.depth) (lifted (λ u. u) (spend c.args.count) (spend_bare c.args.count) (placed s c.args.budget.now) t c.spend-spent.result (c.spend-spent.ensures.gives s.nodes))

pub returns-clause-sound : goal.returns-clause-sound
returns-clause-sound g c = λ n.
    let s = called.moment_of [] c.args.budget.now in
    let t = called.moment_of [] c.spend-spent.new.budget in
    rw c.passed.ensures (passed_raised n (λ u. u) (spend c.args.count) s t c.spend-spent.result (spend_raises n c.args.count) (c.spend-spent.ensures.gives []))
