use Rattle.std.proofs.Common.{◌∙◌, ap, subst}
use Rattle.std.specs.Int.{w128}
use Rattle.std.proofs.lemmas.Int.{to_z-of_z}
use Rattle.kishu_meaning.specs.values.Values.{value_of}
use Rattle.kishu_machine.specs.Machine.{Gives}
use Rattle.kishu_machine.specs.Forms.{answered}
use Rattle.kishu_machine.proofs.Arithmetic.{same_answer}
use Rattle.kishu_machine.proofs.numbers.arithmetic.Goals as goal

pub returns : goal.returns
returns c = λ s.
    let e = rw (to_z-of_z w128 c.args.a c.ranges.a, to_z-of_z w128 c.args.b c.ranges.b) at c.answer.ensures in
    subst (λ x. Gives value_of c.number_value.result s x) (ap (λ r. answered r s) e ∙ same_answer c.args.operator c.args.a c.args.b s) (c.number_value.ensures s)
