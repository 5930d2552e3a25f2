use Rattle.std.proofs.Common.{◌≡◌, map, drop}
use Rattle.kishu_heap.specs.Cells.{attributes_of}
use Rattle.kishu_objects.specs.Picture.{numbers}
use Rattle.kishu_groups.specs.Marks.{Kept, marks_of, note_all}
use Rattle.kishu_groups.proofs.marks.Marks.note_attributes.Given as goal

abbrev pub invariant-loop-i : goal.invariant-loop-i
invariant-loop-i l = record {
  kept : Kept (marks_of l.fn.self) (marks_of l.self);
  noted : note_all l.label (numbers (map (λ e. e.1) (attributes_of (drop l.i l.attributes.entries)))) (marks_of l.self)
      ≡ note_all l.label (numbers (map (λ e. e.1) (attributes_of l.attributes.entries))) (marks_of l.fn.self);
}
