use Rattle.std.proofs.Common.{sym, ◌∙◌, arith}
use Rattle.kishu_num.proofs.White.{next_trailing, last_trailing, none_trailing}
use Rattle.kishu_num.proofs.text.without_trailing_white.Goals as goal
use Rattle.kishu_num.proofs.text.without_trailing_white.Goals.{then-loop-end-test+else-is_white, else-loop-end-test}

pub loop-end-preserved : goal.loop-end-preserved
loop-end-preserved c = (omega arith, next_trailing c.args.text.now c.loop-end.end c.loop-end-test.true c.loop-end.invariant.0 (sym c.is_white.ensures ∙ c.if-is_white.true) ∙ c.loop-end.invariant.1)

pub returns : goal.returns
returns c = elim c.loop-end-test.branch [
  | then-loop-end-test+else-is_white w ↦ last_trailing c.args.text.now c.loop-end.end w.loop-end-test.true c.loop-end.invariant.0 (sym w.is_white.ensures ∙ w.if-is_white.false) ∙ c.loop-end.invariant.1
  | else-loop-end-test w ↦ none_trailing c.args.text.now c.loop-end.end (omega arith) ∙ c.loop-end.invariant.1
]
