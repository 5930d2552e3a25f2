use Rattle.std.proofs.Common.{◌≡◌, refl, sym, ap, ◌∙◌, length, false-eqb}
use Rattle.kishu_language.specs.trees.Rows.{or_is}
use Rattle.kishu_parser.proofs.Parts.{any_many}
use Rattle.kishu_parser.proofs.joins.any_of.Goals as goal

pub returns : goal.returns
returns c = rw or_is (any_many _ _ _ c.in_ok-insert.ensures.items (λ e. false-eqb _ 0 (sym (sym c.is_empty.ensures ∙ c.if-is_empty.false)) (c.args.following.ok.0 ∙ e)))
