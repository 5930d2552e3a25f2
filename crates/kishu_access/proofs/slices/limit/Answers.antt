use Rattle.std.proofs.Common.{◌≡◌, ◌∙◌, ap, rules, SFits}
use mir.Syntax.{w128}
use Rattle.std.specs.Prelude.{ℤ}
use Rattle.std.proofs.lemmas.Int.{to_z-of_z}
use Rattle.kishu_meaning.specs.items.Subscripts.{brought, counted_from_end, highest, lowest}
use Rattle.kishu_access.proofs.slices.limit.Goals as goal

pub returns-in-Some : goal.returns-in-Some
returns-in-Some c =
    let n = c.args.len in
    let step = c.args.step in
    let z = c.in-Some.bound in
    let f : SFits w128 z = search rules in
    let f1 : SFits w128 c.lowest.result = search rules in
    let f2 : SFits w128 c.highest.result = search rules in
    let f3 : SFits w128 c.counted_from_end.result = search rules in
    let f4 : SFits w128 c.brought.result = search rules in
    let low : c.lowest.result ≡ lowest n step = rw (to_z-of_z w128 step c.ranges.step) at (c.lowest.ensures n) in
    let high : c.highest.result ≡ highest n step = rw (to_z-of_z w128 step c.ranges.step) at c.highest.ensures in
    let counted : c.counted_from_end.result ≡ counted_from_end n z = rw (to_z-of_z w128 z f) at c.counted_from_end.ensures in
    let all : c.brought.result ≡ brought c.lowest.result c.highest.result c.counted_from_end.result =
    rw (to_z-of_z w128 c.lowest.result f1, to_z-of_z w128 c.highest.result f2, to_z-of_z w128 c.counted_from_end.result f3) at c.brought.ensures in
    rw c.in-Some.is (to_z-of_z w128 c.brought.result f4 ∙ (all
    ∙ (ap (λ (y : ℤ). brought y c.highest.result c.counted_from_end.result) low
    ∙ (ap (λ (y : ℤ). brought (lowest n step) y c.counted_from_end.result) high
    ∙ ap (λ (y : ℤ). brought (lowest n step) (highest n step) y) counted))))
