use Rattle.std.proofs.Common.{◌≡◌, ◌≤◌, length, map, IsTrue}
use Rattle.kishu_heap.specs.Cells.{node_of}
use Rattle.kishu_meaning.specs.values.Sound.{are_sound_nodes}
use Rattle.kishu_loading.specs.Fronts.{front_of, Forward}
use Rattle.kishu_loading.specs.Moving.{top, moved_value}
use Rattle.kishu_loading.proofs.Turns.{Rowed}
use Rattle.kishu_loading.proofs.values.Nodes.rows.Given as goal

abbrev pub invariant-loop-row : goal.invariant-loop-row
invariant-loop-row l = record {
  so_far : Rowed (moved_value l.self.base l.self.count) l.count l.row (front_of l.fn.cursor) (map node_of l.rows.items) (front_of l.cursor);
  forward : Forward (front_of l.fn.cursor) (front_of l.cursor);
  sound : IsTrue (are_sound_nodes (top l.self.base l.self.count) (map node_of l.rows.items));
  many : length l.rows.items ≡ l.row;
  met : l.row ≤ l.cursor.met;
}
