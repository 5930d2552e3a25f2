use Rattle.std.proofs.Common.{arith}
use Rattle.kishu_picture.proofs.Summing.{picture_long}
use Rattle.kishu_picture.proofs.lengths.picture_len.Goals as goal

pub returns-clause-len : goal.returns-clause-len
returns-clause-len g c =
    let whole = picture_long c.args.heap.now c.args.names.now c.args.group.now c.in_ok-found.found.keys c.in_ok-found.ensures.order.order in
    omega (arith, c.saturating_add.ensures, c.names_len.ensures, c.rows_len-rows.ensures.len, whole)
