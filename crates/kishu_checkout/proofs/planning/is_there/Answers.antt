use Rattle.std.proofs.Common.{refl, map, ap, ◌∙◌}
use Rattle.std.specs.Rc.{rc_str_bytes}
use Rattle.kishu_graph.specs.Kept.{row_of}
use Rattle.kishu_checkout.proofs.Indexed.{there_same}
use Rattle.kishu_checkout.proofs.planning.is_there.Goals as goal

pub returns : goal.returns
returns c =
    let row = c.args.row.now in
    c.contains.ensures
    ∙ there_same (c.as_slice.result, row.version) (row_of row) (ap (map rc_str_bytes) c.as_slice.ensures.value) refl c.args.versions.now.keys
