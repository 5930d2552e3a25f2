use Rattle.std.proofs.Common.{◌≡◌, ◌+◌, length, take}
use Rattle.std.specs.List.{sum_by}
use Rattle.std.specs.Rc.{rc_str_bytes}
use Rattle.kishu_store.specs.EntryBytes.{name_bytes}
use Rattle.kishu_record.proofs.lengths.group_len.Given as goal

abbrev pub invariant-loop-name : goal.invariant-loop-name
invariant-loop-name l = l.len ≡ 4 + sum_by (λ r. length (name_bytes (rc_str_bytes r))) (take l.name-index l.group)
