use Rattle.std.proofs.Common.{◌≡◌, refl, sym, ap, ◌∙◌, length, false-eqb}
use Rattle.kishu_language.specs.grammar.Grammar.{compared_with}
use Rattle.kishu_language.specs.trees.Parts.{link_of}
use Rattle.kishu_language.specs.trees.Rows.{compared_is}
use Rattle.kishu_parser.proofs.Parts.{many}
use Rattle.kishu_parser.proofs.joins.compared.Goals as goal

pub returns : goal.returns
returns c = rw (compared_is, c.in_ok-new.ensures.ok) (many link_of compared_with _ _ (λ e. false-eqb _ 0 (sym (sym c.is_empty.ensures ∙ c.if-is_empty.false)) (c.args.links.ok.0 ∙ e)))
