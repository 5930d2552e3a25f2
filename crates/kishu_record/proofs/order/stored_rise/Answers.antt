use Rattle.std.proofs.Common.{◌∙◌, map, ap, sym, arith}
use Rattle.std.proofs.lemmas.List.{length-map}
use Rattle.std.specs.Rc.{rc_str_bytes}
use Rattle.kishu_store.specs.Groups.{first_name}
use Rattle.kishu_record.specs.Entries.{first_stored}
use Rattle.kishu_record.proofs.Rising.{rise_from_steps, steps_more, compared, not_rising}
use Rattle.kishu_record.proofs.order.stored_rise.Goals as goal

pub returns-then-not-is_before-clause-no : goal.returns-then-not-is_before-clause-no
returns-then-not-is_before-clause-no c same rise =
    let inside = c.loop-i-test.true in
    let is = compared first_stored c.args.stored.now c.loop-i.i _ _ _ _ c.is_before.result (omega arith) inside (c.first_name.ensures ∙ ap (λ l. first_name (map rc_str_bytes l)) c.deref.ensures.value) (c.first_name-in-loop-i.ensures ∙ ap (λ l. first_name (map rc_str_bytes l)) c.deref-in-loop-i.ensures.value) c.is_before.ensures in
    not_rising (map first_stored c.args.stored.now) c.loop-i.i c.is_before.result (omega arith) (omega (arith, inside, length-map c.args.stored.now first_stored)) is c.if-not-is_before.true rise

pub loop-i-preserved : goal.loop-i-preserved
loop-i-preserved c =
    let is = compared first_stored c.args.stored.now c.loop-i.i _ _ _ _ c.is_before.result (omega arith) c.loop-i-test.true (c.first_name.ensures ∙ ap (λ l. first_name (map rc_str_bytes l)) c.deref.ensures.value) (c.first_name-in-loop-i.ensures ∙ ap (λ l. first_name (map rc_str_bytes l)) c.deref-in-loop-i.ensures.value) c.is_before.ensures in
    steps_more (map first_stored c.args.stored.now) c.loop-i.i (omega arith) c.loop-i.invariant (sym is ∙ c.if-not-is_before.false)

pub returns-clause-yes : goal.returns-clause-yes
returns-clause-yes c same =
    rise_from_steps (map first_stored c.args.stored.now) (λ k small. c.loop-i.invariant k (omega (arith, small, c.loop-i-test.false, length-map c.args.stored.now first_stored)))
