use Rattle.std.proofs.Common.{◌∙◌}
use Rattle.std.proofs.lemmas.Str.{scalars-chars}
use Rattle.std.specs.Str.{chars}
use Rattle.kishu_language.specs.tokens.PlainLines.{plain_lines}
use Rattle.kishu_lexer.proofs.Edges.{placed_at_edges}
use Rattle.kishu_lexer.proofs.Order.{placed}
use Rattle.kishu_lexer.proofs.Alone.{rules_alone, written_alone, only_alone}
use Rattle.kishu_lexer.proofs.cutting.tokens.Goals as goal

pub returns-clause-places : goal.returns-clause-places
returns-clause-places c = placed c.as_slice.result.now (plain_lines (chars c.args.text.now)) c.layout.result (λ v. v.items) (c.as_slice.ensures.value ∙ c.in_ok-plain.ensures.value) c.layout.ensures

pub returns-clause-only : goal.returns-clause-only
returns-clause-only c = λ ts t. only_alone c.as_slice.result.now (plain_lines (chars c.args.text.now)) ts c.layout.result (λ v. v.items) (c.as_slice.ensures.value ∙ c.in_ok-plain.ensures.value) c.layout.ensures t

pub returns-clause-rules : goal.returns-clause-rules
returns-clause-rules c = rules_alone c.as_slice.result.now (plain_lines (chars c.args.text.now)) c.layout.result (λ v. v.items) (c.as_slice.ensures.value ∙ c.in_ok-plain.ensures.value) c.layout.ensures

pub returns-clause-boundaries : goal.returns-clause-boundaries
returns-clause-boundaries c = placed_at_edges c.as_slice.result.now (chars c.args.text.now) c.layout.result (λ v. v.items) (c.as_slice.ensures.value ∙ c.in_ok-plain.ensures.value) (scalars-chars c.args.text.now c.utf8.text) c.layout.ensures

pub returns-clause-texts : goal.returns-clause-texts
returns-clause-texts c = written_alone c.as_slice.result.now (plain_lines (chars c.args.text.now)) c.layout.result (λ v. v.items) (c.as_slice.ensures.value ∙ c.in_ok-plain.ensures.value) c.layout.ensures
