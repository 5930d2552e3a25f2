use Rattle.std.proofs.Common.{◌≡◌, ◌++◌, List, map}
use Rattle.std.specs.Prelude.{not, filter}
use Rattle.kishu_graph.specs.Kept.{row_of}
use Rattle.kishu_objects.specs.Lists.{In}
use Rattle.kishu_store.specs.Groups.{Group}
use Rattle.kishu_store.specs.Tables.{Row, groups_in}
use Rattle.kishu_delta.specs.Compared.{AreKnown, asked_pictures, asked_row, is_known, with_pictures}
use Rattle.kishu_delta.proofs.comparing.parted.Given as goal

abbrev pub invariant-loop-group : goal.invariant-loop-group
invariant-loop-group l = record {
  stored : (stand : List Group) → AreKnown (groups_in (map row_of l.rows)) stand l.known
      → with_pictures l.parted.stored.items ++ filter (λ p. not (is_known (groups_in (map row_of l.rows)) stand p.0)) (with_pictures l.group-iterator.rest.items)
      ≡ filter (λ p. not (is_known (groups_in (map row_of l.rows)) stand p.0)) (with_pictures l.fn.pictured.items);
  asked : (stand : List Group) → AreKnown (groups_in (map row_of l.rows)) stand l.known
      → asked_pictures l.parted.asked.items ++ filter (λ p. is_known (groups_in (map row_of l.rows)) stand p.0) (with_pictures l.group-iterator.rest.items)
      ≡ filter (λ p. is_known (groups_in (map row_of l.rows)) stand p.0) (with_pictures l.fn.pictured.items);
  rows : (r : Row) → In r (map asked_row l.parted.asked.items) → In r (map row_of l.rows);
}
