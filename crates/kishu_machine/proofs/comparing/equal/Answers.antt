use Rattle.std.proofs.Common.{length, subst, arith, ℕ, ◌≤◌}
use Rattle.kishu_meaning.specs.comparing.Equal.{equal_in}
use Rattle.kishu_meaning.specs.values.Values.{value_of}
use Rattle.kishu_meaning_laws.specs.CountingLaws.{equal_in_falls}
use Rattle.kishu_machine.specs.Machine.{moment_of}
use Rattle.kishu_machine.proofs.Members.{gives_left}
use Rattle.kishu_machine.proofs.comparing.equal.Goals as goal

pub returns-clause-gives : goal.returns-clause-gives
returns-clause-gives g c =
    let s = moment_of c.args.machine.now in
    let e = equal_in s.nodes s.depth (value_of c.args.a.now) (value_of c.args.b.now) s.left in
    rw c.equal-answer.ensures.depth (c.answered.ensures.gives s c.equal-answer.new.budget.left e c.equal-answer.ensures.gives)

pub returns-clause-sound : goal.returns-clause-sound
returns-clause-sound g c =
    let s = moment_of c.args.machine.now in
    let e = equal_in s.nodes s.depth (value_of c.args.a.now) (value_of c.args.b.now) s.left in
    c.answered.ensures.sound (length s.nodes) c.equal-answer.new.budget.left e c.equal-answer.ensures.gives

pub returns-clause-costs : goal.returns-clause-costs
returns-clause-costs g c =
    let s = moment_of c.args.machine.now in
    let a = value_of c.args.a.now in
    let b = value_of c.args.b.now in
    let left = c.equal-answer.new.budget.left in
    let falls : left ≤ s.left = subst (λ (n : ℕ). n ≤ s.left) (gives_left c.equal-answer.result left (equal_in s.nodes s.depth a b s.left) c.equal-answer.ensures.gives) ((equal_in_falls s.nodes s.depth a b).falls s.left) in
    record { kept = (omega arith, omega (arith, falls), omega arith); reads = omega (arith, falls) }
