use Rattle.std.proofs.Common.{◌≡◌, ◌+◌, length, take}
use Rattle.std.specs.List.{sum_by}
use Rattle.std.specs.Rc.{rc_str_bytes}
use Rattle.kishu_store.specs.EntryBytes.{text_bytes}
use Rattle.kishu_record.proofs.lengths.texts_len.Given as goal

abbrev pub invariant-loop-text : goal.invariant-loop-text
invariant-loop-text l = l.len ≡ 4 + sum_by (λ r. length (text_bytes (rc_str_bytes r))) (take l.text-index l.texts)
