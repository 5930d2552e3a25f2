use Rattle.std.proofs.Common.{map, ◌≡◌, ◌+◌, Bool, true, false, drop, Option, Some, None, sym, ap, ◌∙◌, refl}
use Rattle.std.specs.Prelude.{is_some, is_none, not, ◌&&◌}
use Rattle.kishu_language.specs.declared.tree.Expr.{Expr}
use Rattle.kishu_language.specs.trees.Tree.{value_of}
use Rattle.kishu_language.specs.trees.Parts.{handler_of}
use Rattle.kishu_language.specs.trees.StatementRows.{handler_is}
use Rattle.kishu_parser.proofs.Orders.{after_open, handlers_after}
use Rattle.kishu_parser.proofs.Walks.{here}
use Rattle.kishu_parser.proofs.refusals.handlers_fit.Goals as goal

pub loop-handler-init : goal.loop-handler-init
loop-handler-init c = handlers_after (map handler_of c.args.handlers.now)

no_class : (o : Option Expr) (b : Bool) → is_some o ≡ not b → is_none (value_of o) ≡ b
no_class None true h = refl
no_class None false h = sym h
no_class (Some e) true h = sym h
no_class (Some e) false h = refl

pub loop-handler-preserved : goal.loop-handler-preserved
loop-handler-preserved c =
    let row = handler_is c.handler-item.result.class c.handler-item.result.name c.handler-item.result.body in
    let rest = map handler_of (drop (c.loop-handler.handler-index + 1) c.args.handlers.now) in
    c.loop-handler.invariant
    ∙ ap (λ ys. after_open c.loop-handler.«open» (map handler_of ys)) (here c.args.handlers.now c.loop-handler.handler-index c.handler-item.result c.loop-handler-test.true c.handler-item.is)
    ∙ ap (λ b. not b && after_open (is_none (handler_of c.handler-item.result).class) rest) c.if-open.false
    ∙ ap (λ h. after_open (is_none h.class) rest) row
    ∙ ap (λ b. after_open b rest) (no_class c.handler-item.result.class c.is_none-open.result c.is_none-open.ensures)
