use Rattle.std.proofs.Common.{◌≡◌, drop, map}
use Rattle.kishu_language.specs.trees.Tree.{parameter_of}
use Rattle.kishu_language.specs.grammar.Refusals.{titles}
use Rattle.kishu_parser.specs.Sets.{names_in, with_names}
use Rattle.kishu_parser.proofs.mentions.add_titles.Given as goal

abbrev pub invariant-loop-name : goal.invariant-loop-name
invariant-loop-name l = with_names (names_in l.fn.seen) (titles (map parameter_of l.params)) ≡ with_names (names_in l.seen) (titles (map parameter_of (drop l.name-index l.params)))
