use Rattle.std.proofs.Common.{◌≡◌, ◌+◌, ◌≤◌, length}
use Rattle.kishu_language.specs.tokens.Lexemes.{feeds}
use Rattle.kishu_language.specs.tokens.Layout as spec
use Rattle.kishu_lexer.specs.Machine.{state_of}
use Rattle.kishu_lexer.proofs.cutting.layout.Given as goal

abbrev pub invariant-loop-rest : goal.invariant-loop-rest
invariant-loop-rest l = record {
  same : spec.steps (spec.cut 1 0 l.text) spec.empty ≡ spec.steps (spec.cut l.line l.start l.rest) (state_of l.lexer);
  lines : l.line + feeds l.rest ≡ 1 + feeds l.text;
  places : l.start + spec.width l.rest ≡ 0 + spec.width l.text;
  shorter : length l.rest ≤ length l.text;
}

abbrev pub decreases-loop-rest : goal.decreases-loop-rest
decreases-loop-rest l = length l.rest
