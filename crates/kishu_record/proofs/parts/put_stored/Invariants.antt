use Rattle.std.proofs.Common.{◌≡◌, ◌++◌, flat_map, take}
use Rattle.kishu_store.specs.EntryBytes.{stored_bytes}
use Rattle.kishu_record.specs.Entries.{stored_of}
use Rattle.kishu_record.proofs.parts.put_stored.Given as goal

abbrev pub invariant-loop-group : goal.invariant-loop-group
invariant-loop-group l = l.out.items ≡ l.initial.out.items ++ flat_map (λ r. stored_bytes (stored_of r)) (take l.group-index l.stored.items)
