use Rattle.std.proofs.Common.{ℕ, List}
use Rattle.std.specs.Iterator.Adapters.{zip_first, zip_second}
use Rattle.std.specs.Slice.Iter.{iter_rest}
use Rattle.kishu_store.specs.Groups.{Group}
use Rattle.kishu_session.proofs.PutFacts.{ArePictures, IsLeft}
use Rattle.kishu_session.proofs.keeping.hold_half.Given as goal

abbrev pub invariant-loop-row : goal.invariant-loop-row
invariant-loop-row l =
    (picture : Group → List ℕ) → ArePictures picture l.rows l.pictures
    → IsLeft l.first l.initial.kept l.rows picture l.takes (iter_rest (zip_first l.row-iterator)) (iter_rest (zip_second l.row-iterator)) l.kept
