use Rattle.std.specs.Str.{chars}
use Rattle.kishu_meaning.specs.values.Values.{value_of}
use Rattle.kishu_machine.specs.Machine.{moment_of}
use Rattle.kishu_machine.proofs.Members.{in_text_is}
use Rattle.kishu_machine.proofs.comparing.in_text.Goals as goal

pub returns-in-Some-clause-gives : goal.returns-in-Some-clause-gives
returns-in-Some-clause-gives g c =
    let s = moment_of c.args.machine.now in
    rw (in_text_is c.args.comparison (value_of c.args.a.now) (chars c.args.text.now) s, ← c.in-Some.ensures) c.part_in.ensures.gives

pub returns-in-None-clause-gives : goal.returns-in-None-clause-gives
returns-in-None-clause-gives g c =
    let s = moment_of c.args.machine.now in
    rw (in_text_is c.args.comparison (value_of c.args.a.now) (chars c.args.text.now) s, ← c.in-None.ensures) (rw c.requires.text at c.no_comparison.ensures.gives)
