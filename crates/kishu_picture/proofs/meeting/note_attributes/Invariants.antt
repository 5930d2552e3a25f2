use Rattle.std.proofs.Common.{◌≡◌, map, drop}
use Rattle.kishu_heap.specs.Cells.{attributes_of}
use Rattle.kishu_objects.specs.Picture.{numbers}
use Rattle.kishu_objects_laws.specs.WalkLaws.{noted_all}
use Rattle.kishu_picture.proofs.meeting.note_attributes.Given as goal

abbrev pub invariant-loop-i : goal.invariant-loop-i
invariant-loop-i l = noted_all l.found.keys (numbers (map (λ e. e.1) (attributes_of (drop l.i l.attributes.entries)))) ≡ noted_all l.fn.found.keys
    (numbers (map (λ e. e.1) (attributes_of l.attributes.entries)))
