use Rattle.kishu_items.specs.Called.{moment_of}
use Rattle.kishu_items.proofs.truth.is_true.Goals as goal

pub returns-in-Text-clause-is : goal.returns-in-Text-clause-is
returns-in-Text-clause-is g c b = rw c.in-Text.is (rw c.as_str.ensures.value at (c.is_written.ensures (moment_of c.args.heap.now b)))
