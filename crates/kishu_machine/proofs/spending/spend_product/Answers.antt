use Rattle.std.proofs.Common.{◌≡◌, ◌*◌, ◌+◌, ◌<◌, ℕ, subst, arith}
use Rattle.kishu_meaning.specs.moments.Moment.{spend}
use Rattle.kishu_machine.specs.Machine.{Gives, placed}
use Rattle.kishu_machine.proofs.Sequences.{spend_beyond, taken_beyond}
use Rattle.kishu_machine.proofs.spending.spend_product.Goals as goal

pub returns-in-Some-clause-gives : goal.returns-in-Some-clause-gives
returns-in-Some-clause-gives g c = λ s.
    let e : c.in-Some.total ≡ c.args.size * c.args.times = grind arith in
    subst (λ (k : ℕ). Gives (λ u. u) c.spend_from.result (placed s c.spend_from.new.budget) (spend k (placed s c.args.budget.now))) e (c.spend_from.ensures.gives s)

pub returns-in-None-clause-gives : goal.returns-in-None-clause-gives
returns-in-None-clause-gives g c = λ s.
    let left = c.args.budget.now.left in
    let p : left < left + 1 = omega arith in
    let q : left < c.args.size * c.args.times = grind arith in
    rw (← spend_beyond (placed s c.args.budget.now) (left + 1) (c.args.size * c.args.times) p q) (c.spend_from-in-None.ensures.gives s)

pub returns-in-None-clause-taken : goal.returns-in-None-clause-taken
returns-in-None-clause-taken g c =
    let left = c.args.budget.now.left in
    taken_beyond c.spend_from-in-None.result c.spend_from-in-None.new.budget.left left (left + 1) (c.args.size * c.args.times) (omega arith) c.spend_from-in-None.ensures.taken
