use Rattle.std.proofs.Common.{◌≡◌, ◌∙◌, ap, sym, rules, Bool, SFits, to_z, of_z}
use mir.Syntax.{w128}
use Rattle.std.specs.Prelude.{ℤ, pos, int_lt, if◌then◌else◌}
use Rattle.std.proofs.lemmas.Int.{to_z-of_z}
use Rattle.kishu_meaning.specs.items.Subscripts.{highest, limit, lowest}
use Rattle.kishu_access.proofs.slices.last_limit.Goals as goal
use Rattle.kishu_access.proofs.slices.last_limit.Goals.{then-step-gt0, else-step-gt0}

pub returns : goal.returns
returns c =
    let n = c.args.len in
    let step = c.args.step in
    let found = to_z w128 c.if-step-gt0.other-bits in
    let same : to_z w128 (of_z w128 step) ≡ step = to_z-of_z w128 step c.ranges.step in
    let f2 : SFits w128 c.limit.result = search rules in
    let other : found ≡ (if int_lt (pos 0) step then highest n step else lowest n step) =
    elim c.if-step-gt0.branch [
      | then-step-gt0 w ↦ (let f : SFits w128 w.highest-other.result = record { sfits = w.highest-other.type_inv } in
          w.other-is ∙ (to_z-of_z w128 w.highest-other.result f ∙ ((rw same at w.highest-other.ensures) ∙ ap (λ (b : Bool). if b then highest n step else lowest n step) (sym (rw same at w.if-step-gt0.true)))))
      | else-step-gt0 w ↦ (let f : SFits w128 w.lowest-other.result = record { sfits = w.lowest-other.type_inv } in
          w.other-is ∙ (to_z-of_z w128 w.lowest-other.result f ∙ ((rw same at (w.lowest-other.ensures n)) ∙ ap (λ (b : Bool). if b then highest n step else lowest n step) (sym (rw same at w.if-step-gt0.false)))))
    ] in
    let all : c.limit.result ≡ limit n step found c.args.stop = rw same at c.limit.ensures in
    to_z-of_z w128 c.limit.result f2 ∙ (all ∙ ap (λ (y : ℤ). limit n step y c.args.stop) other)
