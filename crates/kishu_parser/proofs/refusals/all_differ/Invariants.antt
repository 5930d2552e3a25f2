use Rattle.std.proofs.Common.{◌≡◌, [], drop, map}
use Rattle.kishu_language.specs.trees.Tree.{parameter_of}
use Rattle.kishu_language.specs.grammar.Refusals.{all_differ, titles}
use Rattle.kishu_parser.specs.Sets.{names_in}
use Rattle.kishu_parser.proofs.NameSets.{fresh}
use Rattle.kishu_parser.proofs.refusals.all_differ.Given as goal

abbrev pub invariant-loop-name : goal.invariant-loop-name
invariant-loop-name l = all_differ (titles (map parameter_of l.params)) ≡ fresh (names_in l.seen) (titles (map parameter_of (drop l.name-index l.params)))
