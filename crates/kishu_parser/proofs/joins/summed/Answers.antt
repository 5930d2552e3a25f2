use Rattle.std.proofs.Common.{◌≡◌, refl, sym, ap, ◌∙◌, length, false-eqb}
use Rattle.kishu_language.specs.grammar.Grammar.{summed}
use Rattle.kishu_language.specs.trees.Parts.{operand_of}
use Rattle.kishu_language.specs.trees.Rows.{sum_is}
use Rattle.kishu_parser.proofs.Parts.{many}
use Rattle.kishu_parser.proofs.joins.summed.Goals as goal

pub returns : goal.returns
returns c = rw (sum_is, c.in_ok-new.ensures.ok) (many operand_of summed _ _ (λ e. false-eqb _ 0 (sym (sym c.is_empty.ensures ∙ c.if-is_empty.false)) (c.args.following.ok.0 ∙ e)))
