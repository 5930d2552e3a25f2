use Rattle.std.proofs.Common.{◌<◌, ◌∙◌, List, map, length, ap, sym, subst, arith}
use Rattle.std.specs.Rc.{rc_str_bytes}
use Rattle.std.specs.declared.alloc.Global.{Global}
use Rattle.std.specs.declared.rc.RcStr.{RcStr}
use Rattle.kishu_groups.specs.Held.{texts_of}
use Rattle.kishu_objects.specs.Bytes.{picture_bytes}
use Rattle.kishu_loading.specs.Loaded.{held}
use Rattle.kishu_picture.specs.Held.{AreBound}
use Rattle.kishu_anew.proofs.Taken.{group-in, taken-next, taken-all}
use Rattle.kishu_anew.proofs.pictures.pictures_of.Goals as goal

pub picture-requires-clause-bound : goal.picture-requires-clause-bound
picture-requires-clause-bound g c =
    let s = held c.args.heap.now c.args.names.now in
    let group = c.group-item.result in
    subst (λ (l : List (RcStr Global)). AreBound c.args.names.now.bound (map rc_str_bytes l)) (sym c.deref.ensures.value)
    (c.requires.bound (texts_of group) (group-in s c.args.groups.now c.loop-group.group-index group c.loop-group-test.true c.group-item.is))

pub picture-requires-clause-short : goal.picture-requires-clause-short
picture-requires-clause-short g c =
    let s = held c.args.heap.now c.args.names.now in
    let group = c.group-item.result in
    subst (λ (l : List (RcStr Global)). length (picture_bytes s (map rc_str_bytes l)) < 4294967296) (sym c.deref.ensures.value)
    (c.requires.short (texts_of group) (group-in s c.args.groups.now c.loop-group.group-index group c.loop-group-test.true c.group-item.is))

pub loop-group-preserved : goal.loop-group-preserved
loop-group-preserved g c =
    let s = held c.args.heap.now c.args.names.now in
    let l = c.loop-group in
    let group = c.group-item.result in
    let bytes = c.in_ok-bytes.ensures.bytes ∙ ap (λ (of : List (RcStr Global)). picture_bytes s (map rc_str_bytes of)) c.deref.ensures.value in
    record {
      taken = taken-next s c.args.groups.now l.group-index group c.loop-group-test.true c.group-item.is l.pictures.items c.push.new.self.items c.in_ok-bytes.bytes l.invariant.taken c.in_ok-push.ensures.items bytes;
      counted = omega (arith, l.invariant.counted, c.picture.ensures.reads.0);
    }

pub returns-clause-pictures : goal.returns-clause-pictures
returns-clause-pictures g c = taken-all (held c.args.heap.now c.args.names.now) c.args.groups.now c.loop-group.group-index c.loop-group.pictures.items (omega (arith, c.loop-group-test.false)) c.loop-group.invariant.taken
