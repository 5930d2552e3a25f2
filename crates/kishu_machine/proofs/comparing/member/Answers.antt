use Rattle.std.proofs.Common.{SFits, refl, rules}
use Rattle.std.specs.Int.{w128}
use Rattle.std.proofs.lemmas.Int.{to_z-of_z}
use Rattle.kishu_meaning.specs.values.Values.{value_of}
use Rattle.kishu_machine.specs.Machine.{moment_of}
use Rattle.kishu_machine.proofs.Members.{member_range, member_node, member_plain}
use Rattle.kishu_machine.proofs.comparing.member.Goals as goal

pub returns-in-Range-clause-gives : goal.returns-in-Range-clause-gives
returns-in-Range-clause-gives g c =
    let start : SFits w128 c.in-Range.start = search rules in
    let stop : SFits w128 c.in-Range.stop = search rules in
    let step : SFits w128 c.in-Range.step = search rules in
    rw (c.in-Range.is, member_range, c.in_range.ensures, to_z-of_z w128 c.in-Range.start start, to_z-of_z w128 c.in-Range.stop stop, to_z-of_z w128 c.in-Range.step step) refl

pub returns-in-Node-clause-gives : goal.returns-in-Node-clause-gives
returns-in-Node-clause-gives g c = rw (c.in-Node.is, member_node) (rw c.in-Node.is at c.in_node.ensures.gives)

pub returns-in-None-clause-gives : goal.returns-in-None-clause-gives
returns-in-None-clause-gives g c = rw (member_plain c.args.comparison (value_of c.args.a.now) (value_of c.args.b.now) (moment_of c.args.machine.now) (rw c.in-None.is refl)) c.no_items.ensures.gives

pub returns-in-Bool-clause-gives : goal.returns-in-Bool-clause-gives
returns-in-Bool-clause-gives g c = rw (member_plain c.args.comparison (value_of c.args.a.now) (value_of c.args.b.now) (moment_of c.args.machine.now) (rw c.in-Bool.is refl)) c.no_items-in-Bool.ensures.gives

pub returns-in-Int-clause-gives : goal.returns-in-Int-clause-gives
returns-in-Int-clause-gives g c = rw (member_plain c.args.comparison (value_of c.args.a.now) (value_of c.args.b.now) (moment_of c.args.machine.now) (rw c.in-Int.is refl)) c.no_items-in-Int.ensures.gives

pub returns-in-Builtin-clause-gives : goal.returns-in-Builtin-clause-gives
returns-in-Builtin-clause-gives g c = rw (member_plain c.args.comparison (value_of c.args.a.now) (value_of c.args.b.now) (moment_of c.args.machine.now) (rw c.in-Builtin.is refl)) c.no_items-in-Builtin.ensures.gives

pub returns-in-Class-clause-gives : goal.returns-in-Class-clause-gives
returns-in-Class-clause-gives g c = rw (member_plain c.args.comparison (value_of c.args.a.now) (value_of c.args.b.now) (moment_of c.args.machine.now) (rw c.in-Class.is refl)) c.no_items-in-Class.ensures.gives
