use Rattle.kishu_meaning_laws.specs.BareLaws.{spend_bare}
use Rattle.kishu_meaning.specs.moments.Moment.{spend}
use Rattle.kishu_machine.specs.Lifted.{lifted}
use Rattle.kishu_machine.specs.Machine.{moment_of}
use Rattle.kishu_items.specs.Called as called
use Rattle.kishu_machine.specs.Raising.{passed_raised, spend_raises}
use Rattle.kishu_machine.proofs.stepping.spend.Goals as goal

pub returns-clause-gives : goal.returns-clause-gives
returns-clause-gives g c =
    let s = moment_of c.args.machine.now in
    let t = called.moment_of s.nodes c.spend-spent.new.budget in
    rw (c.passed.ensures, c.spend-spent.ensures.depth) (lifted (λ u. u) (spend c.args.count) (spend_bare c.args.count) s t c.spend-spent.result (c.spend-spent.ensures.gives s.nodes))

pub returns-clause-sound : goal.returns-clause-sound
returns-clause-sound g c =
    let ns = c.args.machine.now.heap in
    let s = called.moment_of ns c.args.machine.now.budget in
    let t = called.moment_of ns c.spend-spent.new.budget in
    rw c.passed.ensures (passed_raised _ (λ u. u) (spend c.args.count) s t c.spend-spent.result (spend_raises _ c.args.count) (c.spend-spent.ensures.gives ns))
