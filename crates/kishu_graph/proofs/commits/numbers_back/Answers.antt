use Rattle.std.proofs.Common.{◌≡◌, ◌∙◌, arith}
use Rattle.kishu_graph.proofs.Outlines.{parent-below, parent-there, one-more, none-left}
use Rattle.kishu_graph.proofs.commits.numbers_back.Goals as goal

pub loop-at-smaller : goal.loop-at-smaller
loop-at-smaller c = parent-below c.args.commits.now c.loop-at.at _ c.requires.parents (omega arith) c.loop-at.invariant.there

pub loop-at-preserved : goal.loop-at-preserved
loop-at-preserved c =
    let at = c.loop-at.at in
    let commits = c.args.commits.now in
    record {
      there = parent-there commits at _ c.requires.parents (omega arith) c.loop-at.invariant.there;
      numbers = λ ks e.
          one-more commits ks e at _ c.requires.parents (omega arith) c.loop-at.invariant.there c.loop-at.numbers.items c.push.new.self.items c.in_ok-push.ensures.items ∙ c.loop-at.invariant.numbers ks e;
    }

pub returns : goal.returns
returns c ks e = (let root : c.loop-at.at ≡ 0 = omega arith in none-left ks c.loop-at.at c.loop-at.numbers.items root ∙ c.loop-at.invariant.numbers ks e)
