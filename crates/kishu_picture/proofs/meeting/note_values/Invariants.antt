use Rattle.std.proofs.Common.{◌≡◌, map, drop}
use Rattle.kishu_meaning.specs.values.Values.{value_of}
use Rattle.kishu_objects.specs.Picture.{numbers}
use Rattle.kishu_objects_laws.specs.WalkLaws.{noted_all}
use Rattle.kishu_picture.proofs.meeting.note_values.Given as goal

abbrev pub invariant-loop-value : goal.invariant-loop-value
invariant-loop-value l = noted_all l.found.keys (numbers (map value_of (drop l.value-index l.values))) ≡ noted_all l.fn.found.keys
    (numbers (map value_of l.values))
