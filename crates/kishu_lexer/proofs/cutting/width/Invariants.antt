use Rattle.std.proofs.Common.{◌≡◌, ◌≤◌, ◌*◌, take}
use Rattle.kishu_language.specs.tokens.Layout as spec
use Rattle.kishu_lexer.proofs.cutting.width.Given as goal

abbrev pub invariant-loop-c : goal.invariant-loop-c
invariant-loop-c l = record {
  so_far : l.n ≡ spec.width (take l.c-index l.text);
  small : l.n ≤ 4 * l.c-index;
}
