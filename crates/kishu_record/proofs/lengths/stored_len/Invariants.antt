use Rattle.std.proofs.Common.{◌≡◌, ◌+◌, length, take}
use Rattle.std.specs.List.{sum_by}
use Rattle.kishu_store.specs.EntryBytes.{stored_bytes}
use Rattle.kishu_record.specs.Entries.{stored_of}
use Rattle.kishu_record.proofs.lengths.stored_len.Given as goal

abbrev pub invariant-loop-group : goal.invariant-loop-group
invariant-loop-group l = l.len ≡ 4 + sum_by (λ r. length (stored_bytes (stored_of r))) (take l.group-index l.stored)
