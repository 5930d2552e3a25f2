use Rattle.std.proofs.Common.{length, true}
use Rattle.kishu_meaning.specs.comparing.Comparing.{comparison_sign}
use Rattle.kishu_meaning.specs.values.Values.{value_of}
use Rattle.kishu_machine.specs.Machine.{moment_of}
use Rattle.kishu_machine.proofs.Sequences.{bad_sound}
use Rattle.kishu_machine.proofs.comparing.no_comparison.Goals as goal

pub returns-clause-sound : goal.returns-clause-sound
returns-clause-sound g c =
    let s = moment_of c.args.machine.now in
    bad_sound (λ b. b) c.bad_operands.result (comparison_sign c.args.comparison) (value_of c.args.a.now) (value_of c.args.b.now) s s (λ _. true) (length s.nodes) (rw c.comparison_sign.ensures.is at c.bad_operands.ensures.gives)
