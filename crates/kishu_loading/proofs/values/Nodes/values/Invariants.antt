use Rattle.std.proofs.Common.{◌≡◌, length, map, IsTrue}
use Rattle.kishu_meaning.specs.values.Sound.{are_sound}
use Rattle.kishu_meaning.specs.values.Values.{value_of}
use Rattle.kishu_loading.specs.Fronts.{front_of, Forward}
use Rattle.kishu_loading.specs.Moving.{top, moved_value}
use Rattle.kishu_loading.proofs.Turns.{Turned}
use Rattle.kishu_loading.proofs.values.Nodes.values.Given as goal

abbrev pub invariant-loop-turn : goal.invariant-loop-turn
invariant-loop-turn l = record {
  so_far : Turned (moved_value l.self.base l.self.count) l.count l._turn (front_of l.fn.cursor) (map value_of l.values.items) (front_of l.cursor);
  forward : Forward (front_of l.fn.cursor) (front_of l.cursor);
  sound : IsTrue (are_sound (top l.self.base l.self.count) (map value_of l.values.items));
  many : length l.values.items ≡ l._turn;
}
