use Rattle.std.proofs.Common.{◌≡◌, ◌-◌, length, reverse}
use Rattle.kishu_language.specs.tokens.Layout as spec
use Rattle.kishu_lexer.specs.Machine.{state_of, tokens_of}
use Rattle.kishu_lexer.proofs.layout.Lexer.dedent.Given as goal

abbrev pub invariant-loop-turn : goal.invariant-loop-turn
invariant-loop-turn l = record {
  same : spec.dedented (state_of l.fn.self) (spec.dedents l.blanks l.line l.place (reverse l.fn.self.indents.items) (tokens_of l.fn.self.out.items))
      ≡ spec.dedented (state_of l.self) (spec.dedents l.blanks l.line l.place (reverse l.self.indents.items) (tokens_of l.self.out.items));
  left : l._turn-end - l._turn ≡ length l.self.indents.items;
}
