use Rattle.std.proofs.Common.{◌≡◌, ◌++◌, drop}
use Rattle.std.specs.List.{filter}
use Rattle.std.specs.Prelude.{not}
use Rattle.kishu_language.specs.tokens.Names.{is_among}
use Rattle.kishu_machine.specs.Frames.{texts_of}
use Rattle.kishu_calls.proofs.locals.push_undeclared.Given as goal

abbrev pub invariant-loop-name : goal.invariant-loop-name
invariant-loop-name l = texts_of l.own.items ++ filter (λ x. not (is_among x (texts_of l.declared))) (texts_of (drop l.name-index l.names)) ≡ texts_of l.fn.own.items ++ filter (λ x. not (is_among x (texts_of l.declared))) (texts_of l.names)
