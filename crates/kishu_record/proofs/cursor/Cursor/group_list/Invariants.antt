use Rattle.std.proofs.Common.{◌≡◌, ◌++◌, length, map, flat_map}
use Rattle.std.specs.List.{AllByRecursion}
use Rattle.kishu_store.specs.EntryBytes.{group_bytes}
use Rattle.kishu_store.specs.Groups.{IsGroup}
use Rattle.kishu_record.specs.Entries.{texts_of}
use Rattle.kishu_record.proofs.cursor.Cursor.group_list.Given as goal

abbrev pub invariant-loop : goal.invariant-loop
invariant-loop l = record {
  found : l.initial.self.rest.now ≡ flat_map group_bytes (map texts_of l.groups.items) ++ l.self.rest.now;
  count : length l.groups.items ≡ l.counter;
  fit : AllByRecursion IsGroup (map texts_of l.groups.items);
}
