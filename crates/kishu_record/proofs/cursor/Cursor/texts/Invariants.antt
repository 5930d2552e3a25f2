use Rattle.std.proofs.Common.{◌≡◌, ◌++◌, length, map, flat_map}
use Rattle.std.specs.List.{AllByRecursion}
use Rattle.std.specs.Rc.{rc_str_bytes}
use Rattle.kishu_store.specs.EntryBytes.{text_bytes}
use Rattle.kishu_store.specs.Rules.{IsCell}
use Rattle.kishu_record.proofs.cursor.Cursor.texts.Given as goal

abbrev pub invariant-loop : goal.invariant-loop
invariant-loop l = record {
  found : l.initial.self.rest.now ≡ flat_map text_bytes (map rc_str_bytes l.texts.items) ++ l.self.rest.now;
  count : length l.texts.items ≡ l.counter;
  fit : AllByRecursion IsCell (map rc_str_bytes l.texts.items);
}
