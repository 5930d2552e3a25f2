use Rattle.std.proofs.Common.{◌≡◌, ◌++◌, length}
use Rattle.std.specs.Iterator.Adapters.{zip_first, zip_second}
use Rattle.std.specs.Slice.Iter.{iter_rest}
use Rattle.kishu_delta.specs.Compared.{asked_pictures, contents, differing, with_pictures}
use Rattle.kishu_delta.proofs.settling.differing.Given as goal

abbrev pub invariant-loop-asked : goal.invariant-loop-asked
invariant-loop-asked l = record {
  left : with_pictures l.differing.items ++ differing (asked_pictures (zip_first l.asked-iterator).rest.items) (contents (iter_rest (zip_second l.asked-iterator))) ≡ differing (asked_pictures l.fn.asked.items) (contents l.handed);
  even : length (iter_rest (zip_second l.asked-iterator)) ≡ length (zip_first l.asked-iterator).rest.items;
}
