use Rattle.std.proofs.Common.{◌≡◌, ◌++◌, replicate}
use Rattle.kishu_language.specs.tokens.Layout as spec
use Rattle.kishu_lexer.specs.Machine.{tokens_of}
use Rattle.kishu_lexer.proofs.layout.with_dedents.Given as goal

abbrev pub invariant-loop-turn : goal.invariant-loop-turn
invariant-loop-turn l = tokens_of l.out.items ≡ tokens_of l.initial.out.items ++ replicate l._turn (spec.token spec.dedent l.line l.place l.place)
