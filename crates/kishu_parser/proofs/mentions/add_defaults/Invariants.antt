use Rattle.std.proofs.Common.{◌≡◌, drop, map}
use Rattle.std.specs.Prelude.{flat_map}
use Rattle.kishu_language.specs.trees.Tree.{parameter_of}
use Rattle.kishu_language.specs.grammar.Refusals.{in_parameter}
use Rattle.kishu_parser.specs.Sets.{names_in, note}
use Rattle.kishu_parser.proofs.mentions.add_defaults.Given as goal

abbrev pub invariant-loop-default : goal.invariant-loop-default
invariant-loop-default l = note (names_in l.fn.seen) (flat_map in_parameter (map parameter_of l.params)) ≡ note (names_in l.seen) (flat_map in_parameter (map parameter_of (drop l.default-index l.params)))
