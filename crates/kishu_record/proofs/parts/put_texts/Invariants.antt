use Rattle.std.proofs.Common.{◌≡◌, ◌++◌, flat_map, take}
use Rattle.std.specs.Rc.{rc_str_bytes}
use Rattle.kishu_store.specs.EntryBytes.{text_bytes}
use Rattle.kishu_record.proofs.parts.put_texts.Given as goal

abbrev pub invariant-loop-text : goal.invariant-loop-text
invariant-loop-text l = l.out.items ≡ l.initial.out.items ++ flat_map (λ r. text_bytes (rc_str_bytes r)) (take l.text-index l.texts.items)
