use Rattle.std.proofs.Common.{◌≡◌, ◌+◌, length, take}
use Rattle.std.specs.List.{sum_by}
use Rattle.kishu_store.specs.EntryBytes.{group_bytes}
use Rattle.kishu_record.specs.Entries.{texts_of}
use Rattle.kishu_record.proofs.lengths.groups_len.Given as goal

abbrev pub invariant-loop-group : goal.invariant-loop-group
invariant-loop-group l = l.len ≡ 4 + sum_by (λ r. length (group_bytes (texts_of r))) (take l.group-index l.groups)
