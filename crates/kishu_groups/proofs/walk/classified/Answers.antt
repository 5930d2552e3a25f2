use Rattle.std.proofs.Common.{sym, arith, map, length, refl}
use Rattle.std.specs.Rc.{rc_str_bytes}
use Rattle.kishu_objects_laws.specs.NameLaws.{rise_differ}
use Rattle.kishu_objects_laws.specs.WalkLaws.{walk_inside, walk_short}
use Rattle.kishu_groups.specs.Held.{held}
use Rattle.kishu_groups.specs.Marks.{marks_of}
use Rattle.kishu_groups.proofs.Walked.{marked_end}
use Rattle.kishu_groups.proofs.Steps.{past_end, sound_held, marks_begin, marks_many, marked_begin, marked_on, label_there}
use Rattle.kishu_groups.proofs.walk.classified.Goals as goal

pub note_names-requires-clause-marks : goal.note_names-requires-clause-marks
note_names-requires-clause-marks g c = marks_begin (marks_of c.in_ok-marks.marks) (length c.args.of.now) c.in_ok-marks.ensures

pub note_names-requires-clause-many : goal.note_names-requires-clause-many
note_names-requires-clause-many g c = marks_many (marks_of c.in_ok-marks.marks) (length c.args.of.now) c.in_ok-marks.ensures

pub loop-i-init : goal.loop-i-init
loop-i-init g c = record {
  marked = marked_begin (held c.args.heap.now c.args.names.now)
      (sound_held c.args.heap.now c.args.names.now c.len-i-end.ensures.sound c.requires.sound)
      c.args.of.now (length c.args.of.now) (marks_of c.in_ok-marks.marks)
      (marks_of c.note_names.new.marks) refl c.in_ok-marks.ensures c.in_ok-note_names.ensures.noted;
  reads = omega arith;
}

pub node-node-requires : goal.node-node-requires
node-node-requires g c =
    walk_inside (held c.args.heap.now c.args.names.now) (sound_held c.args.heap.now c.args.names.now c.len-i-end.ensures.sound c.requires.sound)
    (map rc_str_bytes c.args.of.now) c.loop-i.marks.found.keys c.loop-i.i c.loop-i.i c.in-Some.id.now
    c.loop-i.invariant.marked.walked (sym c.in-Some.ensures.key)

pub label_at-label-requires : goal.label_at-label-requires
label_at-label-requires g c =
    label_there (held c.args.heap.now c.args.names.now) (map rc_str_bytes c.args.of.now)
    (marks_of c.loop-i.marks) c.loop-i.i c.in-Some.id.now c.loop-i.invariant.marked (sym c.in-Some.ensures.key)

pub note_children-requires-clause-marks : goal.note_children-requires-clause-marks
note_children-requires-clause-marks g c = c.loop-i.invariant.marked.tells.marks

pub note_children-requires-clause-label : goal.note_children-requires-clause-label
note_children-requires-clause-label g c = c.loop-i.invariant.marked.tells.marks.labelled c.loop-i.i _ c.label_at-label.ensures

pub loop-i-preserved : goal.loop-i-preserved
loop-i-preserved g c = record {
  marked = marked_on (held c.args.heap.now c.args.names.now) (sound_held c.args.heap.now c.args.names.now c.len-i-end.ensures.sound c.requires.sound)
      (map rc_str_bytes c.args.of.now) (marks_of c.loop-i.marks) (marks_of c.note_children.new.self) c.loop-i.i c.in-Some.id.now _ _
      c.loop-i.invariant.marked (sym c.in-Some.ensures.key) c.label_at-label.ensures c.node-node.ensures.node c.in_ok-note_children.ensures.noted;
  reads = omega (arith, c.loop-i.invariant.reads, c.node-node.ensures.counted);
}

pub returns-in_default-clause-classes : goal.returns-in_default-clause-classes
returns-in_default-clause-classes g c =
    marked_end (held c.args.heap.now c.args.names.now) (sound_held c.args.heap.now c.args.names.now c.len-i-end.ensures.sound c.requires.sound)
    (map rc_str_bytes c.args.of.now)
    (rise_differ _ c.requires.order) (marks_of c.loop-i.marks) c.loop-i.i c.loop-i.invariant.marked
    (past_end c.loop-i.marks.found.keys c.loop-i.i (sym c.in_default.ensures.key))

pub returns-clause-classes : goal.returns-clause-classes
returns-clause-classes g c =
    let sound = sound_held c.args.heap.now c.args.names.now c.len-i-end.ensures.sound c.requires.sound in
    let short = walk_short (held c.args.heap.now c.args.names.now) sound
    (map rc_str_bytes c.args.of.now) c.loop-i.marks.found.keys c.loop-i.i c.loop-i.invariant.marked.walked in
    marked_end (held c.args.heap.now c.args.names.now) sound (map rc_str_bytes c.args.of.now) (rise_differ _ c.requires.order)
    (marks_of c.loop-i.marks) c.loop-i.i c.loop-i.invariant.marked
    (omega (arith, short, c.loop-i-test.false, c.len-i-end.ensures.len))
