use Rattle.std.proofs.Common.{◌≡◌, ◌++◌, drop, map}
use Rattle.kishu_machine.specs.Frames.{texts_of}
use Rattle.kishu_language.specs.grammar.Refusals.{titles}
use Rattle.kishu_language.specs.trees.Tree.{parameter_of}
use Rattle.kishu_calls.proofs.locals.push_titles.Given as goal

abbrev pub invariant-loop-name : goal.invariant-loop-name
invariant-loop-name l = texts_of l.own.items ++ titles (map parameter_of (drop l.name-index l.params)) ≡ texts_of l.fn.own.items ++ titles (map parameter_of l.params)
