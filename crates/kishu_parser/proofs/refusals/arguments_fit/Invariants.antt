use Rattle.std.proofs.Common.{◌≡◌, [], drop, map}
use Rattle.kishu_language.specs.grammar.Grammar.{fits_after}
use Rattle.kishu_parser.specs.Sets.{names_in}
use Rattle.kishu_language.specs.trees.Parts.{argument_of}
use Rattle.kishu_parser.proofs.refusals.arguments_fit.Given as goal

abbrev pub invariant-loop-argument : goal.invariant-loop-argument
invariant-loop-argument l = fits_after [] (map argument_of l.found) ≡ fits_after (names_in l.seen) (map argument_of (drop l.argument-index l.found))
