use Rattle.std.proofs.Common.{◌∙◌, sym, subst}
use Rattle.std.specs.Prelude.{length}
use Rattle.std.specs.Rc.{rc_str_bytes}
use Rattle.kishu_meaning.specs.calls.Callees.{Callee}
use Rattle.kishu_meaning.specs.moments.Moment.{Ends}
use Rattle.kishu_meaning.specs.values.Values.{value_of}
use Rattle.kishu_items.specs.Holding.{both}
use Rattle.kishu_items.specs.Messages.{is_plain}
use Rattle.kishu_machine.specs.Machine.{Gives, moment_of}
use Rattle.kishu_calls.specs.Calls.{callee_of, is_sound_callee}
use Rattle.kishu_calls.proofs.Called.{has_called, not_called, method_plain}
use Rattle.kishu_calls.proofs.Passing.{unnamed, unnamed_sound}
use Rattle.kishu_calls.proofs.callees.method_of.Goals as goal

pub returns-then-has_method-clause-gives : goal.returns-then-has_method-clause-gives
returns-then-has_method-clause-gives g c =
    let h = rw c.as_str-title.ensures.value at c.has_method.ensures.has in
    has_called (value_of c.args.value) (rc_str_bytes c.args.name) (moment_of c.args.machine.now) (sym h ∙ c.if-has_method.true)

pub returns-then-has_method-clause-sound : goal.returns-then-has_method-clause-sound
returns-then-has_method-clause-sound g c =
    let h = rw c.as_str-title.ensures.value at c.has_method.ensures.has in
    let x = rc_str_bytes c.args.name in
    both (is_plain x) _ (method_plain c.args.machine.now.heap (value_of c.args.value) x (sym h ∙ c.if-has_method.true)) c.requires.sound_value

pub returns-clause-gives : goal.returns-clause-gives
returns-clause-gives g c =
    let s = moment_of c.args.machine.now in
    let v = value_of c.args.value in
    let x = rc_str_bytes c.args.name in
    let h = rw c.as_str-title.ensures.value at c.has_method.ensures.has in
    subst (λ (e : Ends Callee). Gives callee_of c.no_attribute.result s e) (sym (not_called v x s (sym h ∙ c.if-has_method.false)))
    (unnamed s c.no_attribute.result v x callee_of (rw c.as_str-title.ensures.value at c.no_attribute.ensures.gives))

pub returns-clause-sound : goal.returns-clause-sound
returns-clause-sound g c =
    let n = length c.args.machine.now.heap in
    unnamed_sound (moment_of c.args.machine.now) c.no_attribute.result (value_of c.args.value) c.as_str-title.result.now (λ k. is_sound_callee n (callee_of k)) n c.no_attribute.ensures.gives
