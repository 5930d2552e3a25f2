use Rattle.std.proofs.Common.{◌++◌, refl, arith, sym, subst, map, ℕ, List}
use Rattle.std.specs.Prelude.{length, codes}
use Rattle.kishu_meaning.specs.calls.Methods.{call_method}
use Rattle.kishu_meaning.specs.moments.Moment.{Ends}
use Rattle.kishu_meaning.specs.values.Sound.{is_sound}
use Rattle.kishu_meaning.specs.values.Values.{Value, value_of}
use Rattle.kishu_meaning.specs.values.Classes.{type_error_class}
use Rattle.kishu_items.specs.Messages.{chars-plain}
use Rattle.kishu_machine.specs.Machine.{Gives, IsRaised, moment_of}
use Rattle.kishu_machine.specs.Raising.{raises_text, sound_text}
use Rattle.kishu_calls.specs.Calls.{named_of}
use Rattle.kishu_calls.proofs.Called.{some_named, none_named, named_there, named_gone}
use Rattle.kishu_calls.proofs.calls.call_method.Goals as goal

pub returns-then-not-is_empty-clause-gives : goal.returns-then-not-is_empty-clause-gives
returns-then-not-is_empty-clause-gives g c =
    let s = moment_of c.args.machine.now in
    let x = c.args.name.now in
    let named = c.args.given.now.named in
    let m = call_method (value_of c.args.receiver.now) x (map value_of c.args.given.now.plain.items) in
    let r = c.bad_arguments.result in
    let told = subst (λ (y : List ℕ). IsRaised r type_error_class (y ++ codes "() got bad arguments")) (chars-plain x c.requires.ascii) c.bad_arguments.ensures in
    subst (λ (e : Ends Value). Gives value_of r s e) (sym (some_named x (named_of named.items) m s (named_there named.items named.len c.is_empty.result (omega (arith, named.ok.0)) c.is_empty.ensures c.if-not-is_empty.true)))
    (raises_text value_of type_error_class (x ++ codes "() got bad arguments") r s told)

pub returns-then-not-is_empty-clause-sound : goal.returns-then-not-is_empty-clause-sound
returns-then-not-is_empty-clause-sound g c =
    let n = length c.args.machine.now.heap in
    sound_text (λ v. is_sound n (value_of v)) n type_error_class _ c.bad_arguments.result c.bad_arguments.ensures refl

pub returns-clause-gives : goal.returns-clause-gives
returns-clause-gives g c =
    let s = moment_of c.args.machine.now in
    let x = c.args.name.now in
    let named = c.args.given.now.named in
    let m = call_method (value_of c.args.receiver.now) x (map value_of c.args.given.now.plain.items) in
    subst (λ (e : Ends Value). Gives value_of c.plain_method.result (moment_of c.plain_method.new.machine) e) (sym (none_named x (named_of named.items) m s (named_gone named.items named.len c.is_empty.result (omega (arith, named.ok.0)) c.is_empty.ensures c.if-not-is_empty.false)))
    (rw c.as_slice.ensures.value at c.plain_method.ensures.gives)
