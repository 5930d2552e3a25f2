use Rattle.std.proofs.Common.{◌≡◌, ◌≤◌, length, take}
use Rattle.kishu_meaning.specs.values.White.{without_back}
use Rattle.kishu_num.proofs.text.without_trailing_white.Given as goal

abbrev pub invariant-loop-end : goal.invariant-loop-end
invariant-loop-end l = (l.end ≤ length l.text) × (without_back (take l.end l.text) ≡ without_back l.text)

abbrev pub decreases-loop-end : goal.decreases-loop-end
decreases-loop-end l = l.end
