use Rattle.std.proofs.Common.{◌≡◌, ◌+◌, take}
use Rattle.kishu_graph.specs.Fits.{lengths_in}
use Rattle.kishu_graph.proofs.fitting.room_behind_groups.Given as goal

abbrev pub invariant-loop-len : goal.invariant-loop-len
invariant-loop-len l = l.room + lengths_in (take l.len-index l.stored) ≡ l.fn.most
