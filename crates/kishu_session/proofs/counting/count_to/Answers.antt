use Rattle.std.proofs.Common.{◌≡◌, ◌<◌, arith, ap, ◌∙◌}
use Rattle.kishu_store.specs.Graph.{count_of}
use Rattle.kishu_graph.specs.Laws.{count-shape}
use Rattle.kishu_session.proofs.CountFacts.{count-step, count-root}
use Rattle.kishu_session.proofs.counting.count_to.Goals as goal

pub loop-at-preserved : goal.loop-at-preserved
loop-at-preserved c =
    let graph = c.args.graph.now in
    let at = c.loop-at.at in
    let positive : 0 < at = omega arith in
    record {
      there = omega (arith, c.parent-at.ensures.older, c.loop-at.invariant.there);
      count = λ h k.
          count-step h.graph.commits at c.parent-at.result c.from-count.result c.loop-at.count (count_of h.graph c.args.commit) k.good.graph.parents positive
          (omega (arith, c.loop-at.invariant.there, count-shape graph h.graph k.keeps.graph.shape))
          (c.parent-at.ensures.value h.graph k.keeps.graph.shape)
          (c.from-count.ensures ∙ c.cells.ensures.told h.graph k.keeps.graph.cells)
          (c.loop-at.invariant.count h k);
      few = omega (arith, c.loop-at.invariant.few, c.parent-at.ensures.older, c.from-count.ensures);
    }

pub returns : goal.returns
returns c = record {
  is = λ h k. (
      let before = c.loop-at.invariant.count h k in
      let root : c.loop-at.at ≡ 0 = omega arith in
      let none = ap (count_of h.graph) root in
      omega (arith, before, none, count-root h.graph.commits)
      );
  few = omega (arith, c.loop-at.invariant.few);
}
