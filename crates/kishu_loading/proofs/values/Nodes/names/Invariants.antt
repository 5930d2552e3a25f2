use Rattle.std.proofs.Common.{◌+◌, IsTrue}
use Rattle.std.specs.Prelude.{None}
use Rattle.kishu_meaning.specs.values.Sound.{are_sound_names}
use Rattle.kishu_names.specs.Namespace.{names_of}
use Rattle.kishu_loading.specs.Fronts.{front_of, Forward}
use Rattle.kishu_loading.specs.Moving.{moved_value}
use Rattle.kishu_loading.proofs.Turns.{Titled}
use Rattle.kishu_loading.proofs.values.Nodes.names.Given as goal

abbrev pub invariant-loop-turn : goal.invariant-loop-turn
invariant-loop-turn l = record {
  so_far : Titled (moved_value l.self.base None) l.count l._turn (front_of l.fn.cursor) (names_of l.names.items) (front_of l.cursor);
  forward : Forward (front_of l.fn.cursor) (front_of l.cursor);
  sound : IsTrue (are_sound_names (l.self.base + l.cursor.met) (names_of l.names.items));
}
