use Rattle.std.proofs.Common.{◌≡◌, drop, fold}
use Rattle.kishu_language.specs.tokens.Numerals as spec
use Rattle.kishu_lexer.proofs.numerals.digits_value.Given as goal

abbrev pub invariant-loop-c : goal.invariant-loop-c
invariant-loop-c l = fold (spec.with_digit l.base) l.n (drop l.c-index l.digits) ≡ spec.digits_value l.base l.digits
