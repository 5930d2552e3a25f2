use Rattle.std.proofs.Common.{◌≡◌, ◌∙◌, length, map, ap, sym}
use Rattle.std.specs.Rc.{rc_str_bytes}
use Rattle.kishu_graph.specs.Fits.{names_at}
use Rattle.kishu_graph.specs.Kept.{texts_of}
use Rattle.kishu_graph.proofs.Stays.{same-group, same-more}
use Rattle.kishu_graph.proofs.fitting.have_groups.Goals as goal

pub loop-i-preserved : goal.loop-i-preserved
loop-i-preserved c =
    let rows = c.args.rows.now in
    let groups = c.args.groups.now in
    let row = c.index-rows-i.result in
    let group = c.index-groups-i.result in
    let long : length rows ≡ length groups = c.if-rows-groups.false in
    let alike = (same-group (map rc_str_bytes c.deref.result.now) (map rc_str_bytes c.deref-in-loop-i.result.now)).0 (sym c.are_same.ensures ∙ c.if-not-are_same.false) in
    let same : names_at row ≡ texts_of group = ap names_at c.index-rows-i.is ∙ sym (ap (map rc_str_bytes) c.deref.ensures.value) ∙ alike ∙ ap (map rc_str_bytes) c.deref-in-loop-i.ensures.value in
    same-more names_at texts_of rows groups c.loop-i.i row group long c.loop-i-test.true c.index-rows-i.is c.index-groups-i.is same c.loop-i.invariant
