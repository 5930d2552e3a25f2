use Rattle.std.proofs.Common.{◌≡◌, drop}
use Rattle.kishu_language.specs.tokens.Marks as spec
use Rattle.kishu_lexer.specs.Views.{spelled}
use Rattle.kishu_lexer.proofs.marks.mark_among.Given as goal

abbrev pub invariant-loop-spelling : goal.invariant-loop-spelling
invariant-loop-spelling l = spec.mark_among (spelled (drop l.spelling-index l.table)) l.word ≡ spec.mark_among (spelled l.table) l.word
