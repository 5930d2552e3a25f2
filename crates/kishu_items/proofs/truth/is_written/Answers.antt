use Rattle.std.proofs.Common.{◌∙◌, sym, ap, not}
use Rattle.kishu_meaning.specs.moments.Moment.{fine}
use Rattle.kishu_items.specs.Messages.{is_nothing}
use Rattle.kishu_items.proofs.truth.is_written.Goals as goal

pub returns : goal.returns
returns c = λ s. ap (λ b. fine (not b) s) (is_nothing c.args.text.now c.utf8.text ∙ sym c.is_empty.ensures)
