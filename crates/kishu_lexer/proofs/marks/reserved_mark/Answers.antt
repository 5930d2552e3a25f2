use Rattle.std.proofs.Common.{ap, ◌∙◌}
use Rattle.kishu_language.specs.tokens.Marks.{reserved_marks, mark_among}
use Rattle.kishu_lexer.specs.Views.{spelled}
use Rattle.kishu_lexer.proofs.marks.reserved_mark.Goals as goal

pub returns : goal.returns
unfolding reserved_marks
returns c = c.mark_among.ensures ∙ ap (λ t. mark_among (spelled t) c.args.word.now) c.as_slice.ensures
