use Rattle.std.proofs.Common.{◌≡◌, ◌≤◌, ◌+◌, ◌-◌, ◌++◌, true, vec_len}
use Rattle.kishu_input.proofs.whole.read_input.Given as goal

abbrev pub invariant-loop-buffer : goal.invariant-loop-buffer
invariant-loop-buffer g l =
    let st = g.S.Source.source in
    record {
      left : (st l.fn.source).tells ≡ true → l.bytes.items ++ (st l.source).left ≡ (st l.fn.source).left;
      tells : (st l.source).tells ≡ (st l.fn.source).tells;
      few : vec_len l.bytes ≤ l.most + 4096;
      faults : (st l.fn.source).in_faults ≤ (st l.source).in_faults;
    }

abbrev pub decreases-loop-buffer : goal.decreases-loop-buffer
decreases-loop-buffer g l = l.most + 1 - vec_len l.bytes
