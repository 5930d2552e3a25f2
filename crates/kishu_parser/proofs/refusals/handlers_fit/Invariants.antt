use Rattle.std.proofs.Common.{◌≡◌, drop, map}
use Rattle.kishu_language.specs.grammar.Refusals.{handlers_fit}
use Rattle.kishu_language.specs.trees.Parts.{handler_of}
use Rattle.kishu_parser.proofs.Orders.{after_open}
use Rattle.kishu_parser.proofs.refusals.handlers_fit.Given as goal

abbrev pub invariant-loop-handler : goal.invariant-loop-handler
invariant-loop-handler l = handlers_fit (map handler_of l.handlers) ≡ after_open l.«open» (map handler_of (drop l.handler-index l.handlers))
