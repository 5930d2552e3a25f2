use Rattle.std.proofs.Common.{◌≡◌, drop, map}
use Rattle.std.specs.List.{list_all}
use Rattle.kishu_language.specs.tokens.Names.{is_among}
use Rattle.kishu_language.specs.grammar.Refusals.{titles}
use Rattle.kishu_language.specs.trees.Tree.{parameter_of}
use Rattle.kishu_calls.specs.Calls.{named_of}
use Rattle.kishu_calls.proofs.functions.keywords_fit.Given as goal

abbrev pub invariant-loop-name : goal.invariant-loop-name
invariant-loop-name l = list_all (λ k. is_among k.0 (titles (map parameter_of l.params))) (named_of (drop l.name-index l.named)) ≡ list_all (λ k. is_among k.0 (titles (map parameter_of l.params))) (named_of l.named)
