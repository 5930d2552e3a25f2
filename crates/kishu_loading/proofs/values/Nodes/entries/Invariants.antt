use Rattle.std.proofs.Common.{IsTrue}
use Rattle.std.specs.List.{list_all}
use Rattle.kishu_heap.specs.Cells.{entries_of}
use Rattle.kishu_meaning.specs.values.Keys.{is_one}
use Rattle.kishu_meaning.specs.values.Sound.{is_sound}
use Rattle.kishu_loading.specs.Fronts.{front_of, Forward}
use Rattle.kishu_loading.specs.Moving.{top, moved_value, one_key}
use Rattle.kishu_loading.proofs.Turns.{Paired}
use Rattle.kishu_loading.proofs.values.Nodes.entries.Given as goal

abbrev pub invariant-loop-turn : goal.invariant-loop-turn
invariant-loop-turn l = record {
  so_far : Paired is_one one_key (moved_value l.self.base l.self.count) l.count l._turn (front_of l.fn.cursor) (entries_of l.entries.entries)
      (front_of l.cursor);
  forward : Forward (front_of l.fn.cursor) (front_of l.cursor);
  sound : IsTrue (list_all (λ e. is_sound (top l.self.base l.self.count) e.1) (entries_of l.entries.entries));
}
