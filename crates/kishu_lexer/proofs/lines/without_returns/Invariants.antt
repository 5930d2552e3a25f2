use Rattle.std.proofs.Common.{◌≡◌, ◌≤◌, ◌++◌, length, drop}
use Rattle.kishu_language.specs.tokens.PlainLines as spec
use Rattle.kishu_lexer.proofs.lines.without_returns.Given as goal

abbrev pub invariant-loop-i : goal.invariant-loop-i
invariant-loop-i l = record {
  same : l.out.items ++ spec.plain_lines (drop l.i l.text) ≡ spec.plain_lines l.text;
  small : length l.out.items ≤ l.i;
}
