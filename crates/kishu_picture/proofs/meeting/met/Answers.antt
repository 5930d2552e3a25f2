use Rattle.std.proofs.Common.{sym, arith}
use Rattle.kishu_names.specs.Record.{texts_of}
use Rattle.kishu_picture.specs.Held.{held}
use Rattle.kishu_objects_laws.specs.SoundLaws.{sound_of}
use Rattle.kishu_objects_laws.specs.WalkLaws.{walk_ends, walk_short, walk_inside}
use Rattle.kishu_picture.proofs.Reached.{is_met}
use Rattle.kishu_picture.proofs.Steps.{past_end, walked_on, walked_first}
use Rattle.kishu_picture.proofs.meeting.met.Goals as goal

pub loop-i-init : goal.loop-i-init
loop-i-init g c =
    let s = held c.args.heap.now c.args.names.now in
    let sound = sound_of s c.len-i-end.ensures.sound c.requires.sound in
    record {
      walked = walked_first s sound (texts_of c.args.group.now) c.with_hasher-found.result.keys c.note_names.new.found.keys c.with_hasher-found.ensures.empty
          c.in_ok-note_names.ensures;
      reads = omega arith;
    }

pub returns-in_default-clause-order : goal.returns-in_default-clause-order
returns-in_default-clause-order g c =
    let s = held c.args.heap.now c.args.names.now in
    let sound = sound_of s c.len-i-end.ensures.sound c.requires.sound in
    let ends = walk_ends s sound (texts_of c.args.group.now) c.loop-i.found.keys c.loop-i.i c.loop-i.invariant.walked
    (past_end c.loop-i.found.keys c.loop-i.i (sym c.in_default.ensures.key)) in
    is_met c.args.heap.now c.args.names.now c.args.group.now sound (omega (arith, c.len-i-end.type_inv, c.len-i-end.ensures.len)) c.loop-i.found.keys
    ends

pub node-node-requires : goal.node-node-requires
node-node-requires g c =
    let s = held c.args.heap.now c.args.names.now in
    let sound = sound_of s c.len-i-end.ensures.sound c.requires.sound in
    walk_inside s sound (texts_of c.args.group.now) c.loop-i.found.keys c.loop-i.i c.loop-i.i c.in-Some.id.now c.loop-i.invariant.walked
    (sym c.in-Some.ensures.key)

pub loop-i-preserved : goal.loop-i-preserved
loop-i-preserved g c =
    let s = held c.args.heap.now c.args.names.now in
    let sound = sound_of s c.len-i-end.ensures.sound c.requires.sound in
    record {
      walked = walked_on s sound (texts_of c.args.group.now) c.loop-i.found.keys c.note_children.new.found.keys c.loop-i.i c.in-Some.id.now _
          c.loop-i.invariant.walked (sym c.in-Some.ensures.key) c.node-node.ensures.node c.in_ok-note_children.ensures;
      reads = omega (arith, c.loop-i.invariant.reads, c.node-node.ensures.counted);
    }

pub returns-clause-order : goal.returns-clause-order
returns-clause-order g c =
    let s = held c.args.heap.now c.args.names.now in
    let sound = sound_of s c.len-i-end.ensures.sound c.requires.sound in
    let short = walk_short s sound (texts_of c.args.group.now) c.loop-i.found.keys c.loop-i.i c.loop-i.invariant.walked in
    let ends = walk_ends s sound (texts_of c.args.group.now) c.loop-i.found.keys c.loop-i.i c.loop-i.invariant.walked
    (omega (arith, short, c.loop-i-test.false, c.len-i-end.ensures.len)) in
    is_met c.args.heap.now c.args.names.now c.args.group.now sound (omega (arith, c.len-i-end.type_inv, c.len-i-end.ensures.len)) c.loop-i.found.keys
    ends
