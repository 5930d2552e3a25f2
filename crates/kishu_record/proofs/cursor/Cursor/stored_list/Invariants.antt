use Rattle.std.proofs.Common.{◌≡◌, ◌++◌, length, map, flat_map}
use Rattle.std.specs.List.{AllByRecursion}
use Rattle.kishu_store.specs.EntryBytes.{stored_bytes}
use Rattle.kishu_store.specs.Groups.{IsStored}
use Rattle.kishu_record.specs.Entries.{stored_of}
use Rattle.kishu_record.proofs.cursor.Cursor.stored_list.Given as goal

abbrev pub invariant-loop : goal.invariant-loop
invariant-loop l = record {
  found : l.initial.self.rest.now ≡ flat_map stored_bytes (map stored_of l.stored.items) ++ l.self.rest.now;
  count : length l.stored.items ≡ l.counter;
  fit : AllByRecursion IsStored (map stored_of l.stored.items);
}
