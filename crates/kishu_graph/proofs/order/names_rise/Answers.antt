use Rattle.std.proofs.Common.{◌∙◌, map, ap, sym, arith}
use Rattle.std.proofs.lemmas.List.{length-map}
use Rattle.std.specs.Rc.{rc_str_bytes}
use Rattle.kishu_graph.proofs.Rising.{rise_from_steps, steps_more, compared, not_rising}
use Rattle.kishu_graph.proofs.order.names_rise.Goals as goal

pub returns-then-not-is_before-clause-no : goal.returns-then-not-is_before-clause-no
returns-then-not-is_before-clause-no c same rise =
    let inside = c.loop-i-test.true in
    let is = compared rc_str_bytes c.args.names.now c.loop-i.i _ _ _ _ c.is_before.result (omega arith) inside (c.as_str.ensures.value ∙ ap rc_str_bytes c.index-names-i.is) (c.as_str-in-loop-i.ensures.value ∙ ap rc_str_bytes c.index-names-i-in-loop-i.is) c.is_before.ensures in
    not_rising (map rc_str_bytes c.args.names.now) c.loop-i.i c.is_before.result (omega arith) (omega (arith, inside, length-map c.args.names.now rc_str_bytes)) is c.if-not-is_before.true rise

pub loop-i-preserved : goal.loop-i-preserved
loop-i-preserved c =
    let is = compared rc_str_bytes c.args.names.now c.loop-i.i _ _ _ _ c.is_before.result (omega arith) c.loop-i-test.true (c.as_str.ensures.value ∙ ap rc_str_bytes c.index-names-i.is) (c.as_str-in-loop-i.ensures.value ∙ ap rc_str_bytes c.index-names-i-in-loop-i.is) c.is_before.ensures in
    steps_more (map rc_str_bytes c.args.names.now) c.loop-i.i (omega arith) c.loop-i.invariant (sym is ∙ c.if-not-is_before.false)

pub returns-clause-yes : goal.returns-clause-yes
returns-clause-yes c same =
    rise_from_steps (map rc_str_bytes c.args.names.now) (λ k small. c.loop-i.invariant k (omega (arith, small, c.loop-i-test.false, length-map c.args.names.now rc_str_bytes)))
