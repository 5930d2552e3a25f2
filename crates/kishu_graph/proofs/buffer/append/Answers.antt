use Rattle.std.proofs.Common.{arith}
use Rattle.kishu_graph.proofs.buffer.append.Goals as goal

pub returns-clause-end : goal.returns-clause-end
returns-clause-end c = omega (arith, c.len.ensures, c.push_str.new.self.bytes.ok.0)
