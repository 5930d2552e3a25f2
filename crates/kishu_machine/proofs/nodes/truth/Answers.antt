use Rattle.kishu_meaning.specs.values.Values.{value_of}
use Rattle.kishu_meaning_laws.specs.Bare.{over}
use Rattle.std.proofs.Common.{◌∙◌, ap}
use Rattle.kishu_machine.specs.Machine.{moment_of}
use Rattle.kishu_machine.proofs.Makes.{truth_bare}
use Rattle.kishu_machine.proofs.nodes.truth.Goals as goal

pub returns-clause-is : goal.returns-clause-is
returns-clause-is g c =
    let s = moment_of c.args.machine.now in
    (truth_bare (value_of c.args.value.now)).ends s ∙ ap (over s) (c.is_true.ensures.is c.args.machine.now.budget)
