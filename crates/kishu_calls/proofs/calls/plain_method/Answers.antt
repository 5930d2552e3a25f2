use Rattle.std.proofs.Common.{◌∙◌, sym, subst, map}
use Rattle.std.specs.Prelude.{length}
use Rattle.kishu_meaning.specs.moments.Moment.{Ends}
use Rattle.kishu_meaning.specs.values.Sound.{is_sound}
use Rattle.kishu_meaning.specs.values.Values.{Value, value_of}
use Rattle.kishu_machine.specs.Machine.{Gives, moment_of}
use Rattle.kishu_calls.proofs.Called.{no_method}
use Rattle.kishu_calls.proofs.Passing.{unnamed, unnamed_sound}
use Rattle.kishu_calls.proofs.calls.plain_method.Goals as goal

pub returns-then-not-has_method-clause-gives : goal.returns-then-not-has_method-clause-gives
returns-then-not-has_method-clause-gives g c =
    let s = moment_of c.args.machine.now in
    let v = value_of c.args.receiver.now in
    let x = c.args.name.now in
    subst (λ (e : Ends Value). Gives value_of c.no_attribute.result s e) (sym (no_method v x (map value_of c.args.values.now) s (sym c.has_method.ensures.has ∙ c.if-not-has_method.true)))
    (unnamed s c.no_attribute.result v x value_of c.no_attribute.ensures.gives)

pub returns-then-not-has_method-clause-sound : goal.returns-then-not-has_method-clause-sound
returns-then-not-has_method-clause-sound g c =
    let n = length c.args.machine.now.heap in
    unnamed_sound (moment_of c.args.machine.now) c.no_attribute.result (value_of c.args.receiver.now) c.args.name.now (λ v. is_sound n (value_of v)) n c.no_attribute.ensures.gives
