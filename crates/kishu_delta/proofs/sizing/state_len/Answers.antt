use Rattle.std.proofs.Common.{◌∙◌, List, map, ap, arith}
use Rattle.kishu_graph.specs.Tables.{table_of_rows}
use Rattle.kishu_objects.specs.Sizes.{size_among}
use Rattle.kishu_picture.specs.Held.{held}
use Rattle.kishu_picture.specs.Lengths.{capped}
use Rattle.kishu_store.specs.Tables.{Table, bytes_in}
use Rattle.kishu_store.specs.Groups.{Group}
use Rattle.kishu_delta.specs.Deltas.{table_groups}
use Rattle.kishu_delta.specs.Found.{group_of}
use Rattle.kishu_delta.proofs.Alike.{near_lent, touched_reach, untouched_alike}
use Rattle.kishu_delta.proofs.Keys.{Texts}
use Rattle.kishu_delta.proofs.sizing.state_len.Goals as goal

pub returns-in_err-classes-clause-reads : goal.returns-in_err-classes-clause-reads
returns-in_err-classes-clause-reads g c =
    let gs = table_groups c.args.table.now in
    let near = near_lent _ c.deref.result.now gs c.in_ok-accessed.accessed c.args.names.now.accessed c.deref.ensures.value c.in_ok-accessed.ensures c.in_ok-near.ensures in
    let reads = c.classes_touched.ensures.reads gs near in
    (reads.0, omega (arith, reads.1))

pub returns-in_err-pictured-clause-reads : goal.returns-in_err-pictured-clause-reads
returns-in_err-pictured-clause-reads g c =
    let s = held c.args.heap.now c.args.names.now in
    let found = c.in_ok-classes.ensures in
    let gs = table_groups c.args.table.now in
    let accessed = c.args.names.now.accessed in
    let near = near_lent _ c.deref.result.now gs c.in_ok-accessed.accessed accessed c.deref.ensures.value c.in_ok-accessed.ensures c.in_ok-near.ensures in
    let are = ap (λ (l : List Texts). map group_of l) c.deref-2.ensures.value ∙ found.classes gs near in
    let few = touched_reach s found.sound gs accessed found.rise (map group_of c.deref-2.result.now) are in
    let a = c.classes_touched.ensures.reads gs near in
    let b = c.lengths.ensures.reads in
    (omega (arith, a.0, b.0), omega (arith, few, a.1, b.1))

pub returns-clause-len : goal.returns-clause-len
returns-clause-len g c =
    let s = held c.args.heap.now c.args.names.now in
    let t = table_of_rows c.args.table.now in
    let near = near_lent _ c.deref.result.now (table_groups c.args.table.now) c.in_ok-accessed.accessed c.args.names.now.accessed c.deref.ensures.value c.in_ok-accessed.ensures c.in_ok-near.ensures in
    let are = ap (λ (l : List Texts). map group_of l) c.deref-2.ensures.value ∙ c.in_ok-classes.ensures.classes (table_groups c.args.table.now) near in
    let rows = c.untouched_len.ensures ∙ ap (λ (u : Table). capped (bytes_in u)) (untouched_alike c.in_ok-accessed.accessed c.args.names.now.accessed c.in_ok-accessed.ensures t) in
    let pictures = c.in_ok-pictured.ensures.len ∙ ap (λ (gs : List Group). capped (size_among gs s)) are in
    omega (arith, rows, pictures, c.saturating_add.ensures)

pub returns-clause-reads : goal.returns-clause-reads
returns-clause-reads g c =
    let s = held c.args.heap.now c.args.names.now in
    let found = c.in_ok-classes.ensures in
    let gs = table_groups c.args.table.now in
    let accessed = c.args.names.now.accessed in
    let near = near_lent _ c.deref.result.now gs c.in_ok-accessed.accessed accessed c.deref.ensures.value c.in_ok-accessed.ensures c.in_ok-near.ensures in
    let are = ap (λ (l : List Texts). map group_of l) c.deref-2.ensures.value ∙ found.classes gs near in
    let few = touched_reach s found.sound gs accessed found.rise (map group_of c.deref-2.result.now) are in
    let a = c.classes_touched.ensures.reads gs near in
    let b = c.lengths.ensures.reads in
    (omega (arith, a.0, b.0), omega (arith, few, a.1, b.1))
