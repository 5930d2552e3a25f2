use Rattle.std.proofs.Common.{◌≡◌, refl, sym, ap, ◌∙◌, length, false-eqb}
use Rattle.kishu_language.specs.trees.Tree.{trailers}
use Rattle.kishu_language.specs.trees.Tree as t
use Rattle.kishu_language.specs.trees.Parts.{trailer_of}
use Rattle.kishu_language.specs.trees.Rows.{primary_is}
use Rattle.kishu_parser.proofs.Parts.{many}
use Rattle.kishu_parser.proofs.joins.with_trailers.Goals as goal

pub returns : goal.returns
returns c = rw (primary_is, c.in_ok-new.ensures.ok) (many trailer_of (λ atom found. t.primary atom (trailers found)) _ _ (λ e. false-eqb _ 0 (sym (sym c.is_empty.ensures ∙ c.if-is_empty.false)) (c.args.trailers.ok.0 ∙ e)))
