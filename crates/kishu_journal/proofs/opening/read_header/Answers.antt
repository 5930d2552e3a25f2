use Rattle.std.proofs.Common.{◌∙◌, ap, take, List, ℕ, arith}
use Rattle.std.proofs.lemmas.List.{take_at}
use Rattle.kishu_store.specs.Holds.{header}
use Rattle.kishu_store_laws.specs.Laws.{length-header}
use Rattle.kishu_journal.proofs.opening.read_header.Goals as goal

pub returns-then-not-is_header-clause-foreign : goal.returns-then-not-is_header-clause-foreign
returns-then-not-is_header-clause-foreign g c err told =
    let first = (c.in-Ok-true.ensures.whole c.in-Ok-true.field-0-test told).1 in (
      omega (arith, c.requires.len told, c.requires.long),
      λ rest is. c.is_header.ensures.no c.if-not-is_header.true (first ∙ ap (λ (f : List ℕ). take 16 f) is ∙ take_at header rest 16 length-header),
    )
