use Rattle.std.proofs.Common.{◌≡◌, drop}
use Rattle.kishu_language.specs.tokens.Numerals as spec
use Rattle.kishu_lexer.proofs.numerals.are_digits.Given as goal

abbrev pub invariant-loop-c : goal.invariant-loop-c
invariant-loop-c l = spec.are_digits l.base l.wants (drop l.c-index l.text) ≡ spec.are_digits l.base l.wanted l.text
