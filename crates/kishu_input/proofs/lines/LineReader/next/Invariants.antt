use Rattle.std.proofs.Common.{◌≡◌, ◌≤◌, ◌<◌, ◌+◌, ◌-◌, ◌^◌, ◌++◌, [], length, true, vec_len}
use Rattle.kishu_input.specs.Begun.{GoesOn}
use Rattle.kishu_input.specs.Lines.{ahead}
use Rattle.kishu_input.proofs.lines.LineReader.next.Given as goal

abbrev pub invariant-loop-line : goal.invariant-loop-line
invariant-loop-line g l =
    let st = g.S.Source.source in
    record {
      read : (st l.fn.source).tells ≡ true → GoesOn [] l.fn.self.before (ahead l.fn.self ++ (st l.fn.source).left) l.line.items l.self.before (ahead l.self ++ (st l.source).left);
      short : vec_len l.line < 2 ^ 24;
      counted : l.self.before ≡ l.fn.self.before + vec_len l.line;
      taken : (st l.fn.source).tells ≡ true → l.fn.self.before + length (ahead l.fn.self) + length (st l.fn.source).left ≡ l.self.before + length (ahead l.self) + length (st l.source).left;
      tells : (st l.source).tells ≡ (st l.fn.source).tells;
      faults : (st l.fn.source).in_faults ≤ (st l.source).in_faults;
    }

abbrev pub decreases-loop-line : goal.decreases-loop-line
decreases-loop-line g l = 2 ^ 30 - l.self.before
