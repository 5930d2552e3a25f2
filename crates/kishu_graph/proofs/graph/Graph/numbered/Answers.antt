use Rattle.std.proofs.Common.{◌∙◌, ℕ, Some, None, ap, arith}
use Rattle.std.specs.Prelude.{nat_lt, if◌then◌else◌}
use Rattle.kishu_store.specs.References.{number_from}
use Rattle.kishu_graph.proofs.Targets.{number-there}
use Rattle.kishu_graph.proofs.graph.Graph.numbered.Goals as goal

pub returns : goal.returns
returns c =
    let n = number_from 0 c.args.digits.now in
    number-there c.number_of.result c.counted.result n c.commits-commits.result c.number_of.ensures.found c.number_of.ensures.none (omega (arith, c.commits-commits.type_inv)) c.counted.ensures
    ∙ ap (λ (m : ℕ). if nat_lt n m then Some n else None) c.commits-commits.ensures.value
