use Rattle.std.proofs.Common.{◌≡◌, ◌∙◌, ◌*◌, ◌+◌, List, drop, length, ap, subst, arith}
use Rattle.std.specs.declared.alloc.Global.{Global}
use Rattle.std.specs.declared.rc.RcStr.{RcStr}
use Rattle.kishu_heap.specs.Costs.{Reads}
use Rattle.kishu_names.specs.Record.{texts_of}
use Rattle.kishu_objects.specs.Bytes.{picture_bytes}
use Rattle.kishu_objects.specs.Picture.{order}
use Rattle.kishu_picture.specs.Held.{held}
use Rattle.kishu_picture.specs.Lengths.{capped}
use Rattle.kishu_delta.proofs.Choosing.{rest_here}
use Rattle.kishu_delta.proofs.Sizes.{takes, reaches}
use Rattle.kishu_delta.proofs.picturing.lengths.Goals as goal

pub loop-group-preserved : goal.loop-group-preserved
loop-group-preserved g c =
    let l = c.loop-group in
    let groups = c.args.groups.now in
    let group = c.group-item.result in
    let s = held c.args.heap.now c.args.names.now in
    let next = rest_here groups l.group-index group c.loop-group-test.true c.group-item.is in
    let more = takes s (drop l.group-index groups) (drop (l.group-index + 1) groups) group next in
    let reach = reaches s (drop l.group-index groups) (drop (l.group-index + 1) groups) group next in
    let len : c.in_ok-len.len ≡ capped (length (picture_bytes s (texts_of group.items))) =
    c.in_ok-len.ensures.len ∙ ap (λ (of : List (RcStr Global)). capped (length (picture_bytes s (texts_of of)))) c.deref.ensures.value in
    let reads = subst (λ (of : List (RcStr Global)). Reads (2 * length (order s (texts_of of))) l.steps c.picture_len.new.steps) c.deref.ensures.value c.picture_len.ensures.reads in
    record {
      small = omega (arith, c.saturating_add-total.ensures);
      sum = omega (arith, l.invariant.sum, l.invariant.small, more, len, c.saturating_add-total.ensures);
      counted = omega (arith, l.invariant.counted, reads.0);
      few = omega (arith, l.invariant.few, reach, reads.1);
    }
