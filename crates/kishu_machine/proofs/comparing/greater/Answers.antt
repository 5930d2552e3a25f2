use Rattle.std.proofs.Common.{subst, arith, ℕ, ◌≤◌, Bool, Option}
use Rattle.kishu_meaning.specs.comparing.Comparing.{or_unordered}
use Rattle.kishu_meaning.specs.comparing.Equal.{greater_in}
use Rattle.kishu_meaning.specs.moments.Moment.{Ends, and_then}
use Rattle.kishu_meaning.specs.values.Values.{value_of}
use Rattle.kishu_meaning_laws.specs.CountingLaws.{greater_in_falls}
use Rattle.kishu_machine.specs.Machine.{Gives, moment_of}
use Rattle.kishu_machine.proofs.Members.{ended_at, orders_left}
use Rattle.kishu_machine.proofs.comparing.greater.Goals as goal

pub returns-clause-gives : goal.returns-clause-gives
returns-clause-gives g c =
    let s = moment_of c.args.machine.now in
    let b = c.greater-answer.new.budget in
    let e = greater_in s.nodes s.depth (value_of c.args.a.now) (value_of c.args.b.now) s.left in
    let f = or_unordered c.args.comparison (value_of c.args.a.now) (value_of c.args.b.now) in
    subst (λ (x : Ends (Option Bool)). Gives (λ b. b) c.ordered.result (record s { left = b.left; depth = b.depth }) (and_then x f)) (ended_at s b.left b.depth e c.greater-answer.ensures.depth) (c.ordered.ensures.gives e c.greater-answer.ensures.gives)

pub returns-clause-sound : goal.returns-clause-sound
returns-clause-sound g c = c.ordered.ensures.sound

pub returns-clause-costs : goal.returns-clause-costs
returns-clause-costs g c =
    let s = moment_of c.args.machine.now in
    let a = value_of c.args.a.now in
    let b = value_of c.args.b.now in
    let left = c.greater-answer.new.budget.left in
    let falls : left ≤ s.left = subst (λ (n : ℕ). n ≤ s.left) (orders_left c.greater-answer.result left (greater_in s.nodes s.depth a b s.left) c.greater-answer.ensures.gives) ((greater_in_falls s.nodes s.depth a b).falls s.left) in
    record { kept = (omega arith, omega (arith, falls), omega arith); reads = omega (arith, falls) }
