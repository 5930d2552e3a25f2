use Rattle.std.proofs.Common.{◌∙◌, sym, arith}
use Rattle.std.specs.Rc.{rc_str_bytes}
use Rattle.kishu_calls.specs.Calls.{named_of}
use Rattle.kishu_calls.proofs.Marks.{marks_begin, no_text_next, other_next, refused}
use Rattle.kishu_calls.proofs.calls.marks_in.Goals as goal

pub loop-name-init : goal.loop-name-init
loop-name-init c = λ s vs. marks_begin (named_of c.args.named.now) vs s (rc_str_bytes c.in_ok-separator.separator) (rc_str_bytes c.in_ok-end.end) c.in_ok-separator.ensures.ok c.in_ok-end.ensures.ok

pub returns-in_default : goal.returns-in_default
returns-in_default c = λ s vs.
    refused c.bad_arguments.result (named_of c.args.named.now) vs s c.bad_arguments.ensures
    (c.loop-name.invariant s vs ∙ no_text_next c.args.named.now c.loop-name.name-index c.loop-name-item.result _ _ vs s (omega arith) c.loop-name-item.is c.in_default.not-Text)

pub returns-else-is_same_text-2 : goal.returns-else-is_same_text-2
returns-else-is_same_text-2 c = λ s vs.
    let other = rw c.as_str.ensures.value at (sym c.is_same_text.ensures ∙ c.if-is_same_text.false) in
    let neither = rw c.as_str-else-is_same_text.ensures.value at (sym c.is_same_text-else-is_same_text.ensures ∙ c.if-is_same_text-2.false) in
    refused c.bad_arguments-else-is_same_text-2.result (named_of c.args.named.now) vs s c.bad_arguments-else-is_same_text-2.ensures
    (c.loop-name.invariant s vs ∙ other_next c.args.named.now c.loop-name.name-index c.loop-name-item.result _ _ vs s (omega arith) c.loop-name-item.is c.in-Text.text c.in-Text.is other neither)
