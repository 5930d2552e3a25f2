use Rattle.std.proofs.Common.{◌≡◌, ◌++◌, flat_map, take}
use Rattle.kishu_store.specs.EntryBytes.{group_bytes}
use Rattle.kishu_record.specs.Entries.{texts_of}
use Rattle.kishu_record.proofs.parts.put_groups.Given as goal

abbrev pub invariant-loop-group : goal.invariant-loop-group
invariant-loop-group l = l.out.items ≡ l.initial.out.items ++ flat_map (λ r. group_bytes (texts_of r)) (take l.group-index l.groups.items)
