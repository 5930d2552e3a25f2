use Rattle.std.proofs.Common.{map}
use Rattle.kishu_meaning.specs.values.Keys.{part_of}
use Rattle.kishu_loading.specs.Fronts.{front_of, Forward}
use Rattle.kishu_loading.specs.Moving.{one_part}
use Rattle.kishu_loading.proofs.Turns.{Turned}
use Rattle.kishu_loading.proofs.keys.parts.Given as goal

abbrev pub invariant-loop-turn : goal.invariant-loop-turn
invariant-loop-turn l = record {
  so_far : Turned one_part l.count l._turn (front_of l.fn.cursor) (map part_of l.parts.items) (front_of l.cursor);
  forward : Forward (front_of l.fn.cursor) (front_of l.cursor);
}
