use Rattle.std.proofs.Common.{ap, arith}
use Rattle.kishu_store.specs.Tables.{len_in}
use Rattle.kishu_graph.specs.declared.tables.TableRow as rust_row
use Rattle.kishu_graph.specs.Kept.{row_of}
use Rattle.kishu_graph.proofs.TablesThatFit.{within}
use Rattle.kishu_graph.proofs.fitting.room_behind_rows.Goals as goal

pub returns-in_default : goal.returns-in_default
returns-in_default c =
    let one = ap (λ (r : rust_row.TableRow). r.len) c.row-item.is in
    omega (arith, within len_in row_of c.args.rows.now c.loop-row.row-index c.row-item.result c.loop-row-test.true, c.loop-row.invariant, c.in_default.ensures, one)
