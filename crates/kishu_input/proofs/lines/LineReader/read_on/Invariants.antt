use Rattle.std.proofs.Common.{◌≡◌, ◌≤◌, ◌<◌, ◌+◌, ◌-◌, ◌^◌, ◌++◌, List, ℕ, vec_len}
use Rattle.kishu_input.specs.Begun.{GoesOn}
use Rattle.kishu_input.specs.Lines.{ahead}
use Rattle.kishu_input.proofs.lines.LineReader.read_on.Given as goal

abbrev pub invariant-loop-self : goal.invariant-loop-self
invariant-loop-self l = record {
  read : (rest : List ℕ) → GoesOn l.fn.line.items l.fn.self.before (ahead l.fn.self ++ rest) l.line.items l.self.before (ahead l.self ++ rest);
  taken : l.self.taken ≡ l.fn.self.taken;
  further : l.fn.self.at ≤ l.self.at;
  before : l.self.before + l.fn.self.at ≡ l.fn.self.before + l.self.at;
  short : vec_len l.fn.line < 2 ^ 24 → vec_len l.line < 2 ^ 24;
  counted : l.self.before + vec_len l.fn.line ≡ l.fn.self.before + vec_len l.line;
}

abbrev pub decreases-loop-self : goal.decreases-loop-self
decreases-loop-self l = vec_len l.self.taken - l.self.at
