use Rattle.std.proofs.Common.{◌≡◌, [], drop}
use Rattle.kishu_objects_laws.specs.WalkLaws.{noted_all}
use Rattle.kishu_inspect.specs.Told.{numbers_of}
use Rattle.kishu_inspect.proofs.telling.places.Given as goal

abbrev pub invariant-loop-id : goal.invariant-loop-id
invariant-loop-id l =
    noted_all l.found.keys (numbers_of (drop l.id-index l.order)) ≡ noted_all [] (numbers_of l.order)
