use Rattle.std.proofs.Common.{◌≡◌}
use Rattle.kishu_meaning.specs.moments.Accesses.{with_accesses}
use Rattle.kishu_names.specs.Record.{Rises, texts_of}
use Rattle.kishu_names.proofs.record.note_all.Given as goal

abbrev pub invariant-loop-name : goal.invariant-loop-name
invariant-loop-name l = record {
  order : Rises (texts_of l.accessed.items);
  told : with_accesses (texts_of l.name-iterator.rest.items) (texts_of l.accessed.items) ≡ with_accesses (texts_of l.fn.names.items) (texts_of l.fn.accessed.items);
}
