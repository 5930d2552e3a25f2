use Rattle.std.proofs.Common.{◌≡◌, map, drop}
use Rattle.kishu_meaning.specs.values.Values.{value_of}
use Rattle.kishu_objects.specs.Picture.{numbers}
use Rattle.kishu_groups.specs.Marks.{Kept, marks_of, note_all}
use Rattle.kishu_groups.proofs.marks.Marks.note_values.Given as goal

abbrev pub invariant-loop-value : goal.invariant-loop-value
invariant-loop-value l = record {
  kept : Kept (marks_of l.fn.self) (marks_of l.self);
  noted : note_all l.label (numbers (map value_of (drop l.value-index l.values))) (marks_of l.self)
      ≡ note_all l.label (numbers (map value_of l.values)) (marks_of l.fn.self);
}
