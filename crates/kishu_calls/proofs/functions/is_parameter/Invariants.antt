use Rattle.std.proofs.Common.{◌≡◌, drop, map}
use Rattle.kishu_language.specs.tokens.Names.{is_among}
use Rattle.kishu_language.specs.grammar.Refusals.{titles}
use Rattle.kishu_language.specs.trees.Tree.{parameter_of}
use Rattle.kishu_calls.proofs.functions.is_parameter.Given as goal

abbrev pub invariant-loop-other : goal.invariant-loop-other
invariant-loop-other l = is_among l.name (titles (map parameter_of (drop l.other-index l.params))) ≡ is_among l.name (titles (map parameter_of l.params))
