use Rattle.std.proofs.Common.{◌&&◌, IsTrue}
use Rattle.std.specs.List.{list_all}
use Rattle.std.specs.Str.{bytes_eq}
use Rattle.kishu_heap.specs.Cells.{attributes_of}
use Rattle.kishu_language.specs.tokens.Names.{is_name}
use Rattle.kishu_meaning.specs.values.Sound.{is_sound}
use Rattle.kishu_loading.specs.Fronts.{front_of, Forward}
use Rattle.kishu_loading.specs.Moving.{top, moved_value, attribute}
use Rattle.kishu_loading.proofs.Turns.{Paired}
use Rattle.kishu_loading.proofs.values.Nodes.attributes.Given as goal

abbrev pub invariant-loop-turn : goal.invariant-loop-turn
invariant-loop-turn l = record {
  so_far : Paired bytes_eq attribute (moved_value l.self.base l.self.count) l.count l._turn (front_of l.fn.cursor)
      (attributes_of l.attributes.entries) (front_of l.cursor);
  forward : Forward (front_of l.fn.cursor) (front_of l.cursor);
  sound : IsTrue (list_all (λ a. is_name a.0 && is_sound (top l.self.base l.self.count) a.1) (attributes_of l.attributes.entries));
}
