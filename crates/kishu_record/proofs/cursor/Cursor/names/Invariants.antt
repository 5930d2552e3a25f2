use Rattle.std.proofs.Common.{◌≡◌, ◌++◌, length, map, flat_map}
use Rattle.std.specs.List.{AllByRecursion}
use Rattle.std.specs.Rc.{rc_str_bytes}
use Rattle.kishu_store.specs.EntryBytes.{name_bytes}
use Rattle.kishu_store.specs.Groups.{IsName}
use Rattle.kishu_record.proofs.cursor.Cursor.names.Given as goal

abbrev pub invariant-loop : goal.invariant-loop
invariant-loop l = record {
  found : l.initial.self.rest.now ≡ flat_map name_bytes (map rc_str_bytes l.names.items) ++ l.self.rest.now;
  count : length l.names.items ≡ l.counter;
  fit : AllByRecursion IsName (map rc_str_bytes l.names.items);
}
