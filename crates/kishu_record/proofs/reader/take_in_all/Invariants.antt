use Rattle.std.proofs.Common.{◌≡◌, ◌+◌, take}
use Rattle.std.specs.List.{sum_by}
use Rattle.kishu_record.proofs.reader.take_in_all.Given as goal

abbrev pub invariant-loop-length : goal.invariant-loop-length
invariant-loop-length l = sum_by (λ s. s.1) (take l.length-index l.stored) + l.left ≡ l.initial.left
