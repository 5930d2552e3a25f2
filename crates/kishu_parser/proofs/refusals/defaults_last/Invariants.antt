use Rattle.std.proofs.Common.{◌≡◌, drop, map}
use Rattle.kishu_language.specs.trees.Tree.{parameter_of}
use Rattle.kishu_language.specs.grammar.Refusals.{defaults_last}
use Rattle.kishu_parser.proofs.Orders.{after_default}
use Rattle.kishu_parser.proofs.refusals.defaults_last.Given as goal

abbrev pub invariant-loop-default : goal.invariant-loop-default
invariant-loop-default l = defaults_last (map parameter_of l.params) ≡ after_default l.given (drop l.default-index l.params)
