use Rattle.std.proofs.Common.{◌+◌, ◌∷◌, ◌++◌, length, drop, ap, sym, ◌∙◌, subst, arith}
use Rattle.kishu_heap.specs.Cells.{node_of}
use Rattle.kishu_objects.specs.Bytes.{many, row_bytes}
use Rattle.kishu_objects.specs.Fits.{NodeFits}
use Rattle.kishu_objects.specs.Picture.{place, renumbered}
use Rattle.kishu_objects.specs.Shape.{children, each_child}
use Rattle.kishu_objects_laws.specs.ListLaws.{in_at}
use Rattle.kishu_picture.specs.Rows.{AreFound, node_at_places, rows_of, rows_at}
use Rattle.kishu_picture.proofs.Found.{sound_short}
use Rattle.kishu_picture.proofs.Putting.{one_short, putting_goes_on}
use Rattle.kishu_picture.proofs.Steps.{rest_at, node_is}
use Rattle.kishu_picture.proofs.writing.put_rows.Goals as goal

pub node-node-requires : goal.node-node-requires
node-node-requires g c = c.requires.low c.in-Some.id.now (in_at c.args.found.now.keys c.loop-i.i c.in-Some.id.now (sym c.in-Some.ensures.key))

pub put_row-requires-clause-met : goal.put_row-requires-clause-met
put_row-requires-clause-met g c =
    let keys = c.args.found.now.keys in
    let id = c.in-Some.id.now in
    let closed = c.requires.closed id (in_at keys c.loop-i.i id (sym c.in-Some.ensures.key)) in
    subst (λ n. AreFound keys (children n)) (node_is c.args.heap.now id (node_of c.node-node.result.now) c.node-node.ensures.node) closed

pub put_row-requires-clause-names : goal.put_row-requires-clause-names
put_row-requires-clause-names g c = sound_short (length c.args.heap.now) (node_of c.node-node.result.now) c.node-node.ensures.sound

pub put_row-requires-clause-short : goal.put_row-requires-clause-short
put_row-requires-clause-short g c =
    let nodes = c.args.heap.now in
    let keys = c.args.found.now.keys in
    let i = c.loop-i.i in
    let id = c.in-Some.id.now in
    let node = node_of c.node-node.result.now in
    let more = rows_at nodes keys (drop (i + 1) keys) in
    let rest = ap (rows_at nodes keys) (rest_at keys i id (sym c.in-Some.ensures.key))
    ∙ ap (λ n. each_child (renumbered (place keys)) n ∷ more) (node_is nodes id node c.node-node.ensures.node) in
    one_short row_bytes NodeFits (rows_of nodes keys) (c.args.out.now.items ++ many row_bytes (rows_of nodes keys)) c.loop-i.out.items
    (rows_at nodes keys (drop i keys)) more (node_at_places keys c.node-node.result.now) c.loop-i.invariant.puts rest

pub loop-i-preserved : goal.loop-i-preserved
loop-i-preserved g c =
    let nodes = c.args.heap.now in
    let keys = c.args.found.now.keys in
    let i = c.loop-i.i in
    let id = c.in-Some.id.now in
    let node = node_of c.node-node.result.now in
    let more = rows_at nodes keys (drop (i + 1) keys) in
    let rest = ap (rows_at nodes keys) (rest_at keys i id (sym c.in-Some.ensures.key))
    ∙ ap (λ n. each_child (renumbered (place keys)) n ∷ more) (node_is nodes id node c.node-node.ensures.node) in
    record {
      puts = putting_goes_on row_bytes NodeFits (rows_of nodes keys) (c.args.out.now.items ++ many row_bytes (rows_of nodes keys)) c.loop-i.out.items
          c.put_row.new.out.items (rows_at nodes keys (drop i keys)) more
          (node_at_places keys c.node-node.result.now) c.loop-i.invariant.puts rest c.in_ok-put_row.ensures.bytes c.in_ok-put_row.ensures.fits;
      reads = omega (arith, c.loop-i.invariant.reads, c.node-node.ensures.counted);
    }
