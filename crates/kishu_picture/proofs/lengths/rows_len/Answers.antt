use Rattle.std.proofs.Common.{◌+◌, ◌∷◌, map, drop, refl, ap, sym, ◌∙◌, arith}
use Rattle.kishu_heap.specs.Cells.{node_of}
use Rattle.kishu_objects.specs.Bytes.{row_bytes}
use Rattle.kishu_objects.specs.Shape.{node_at}
use Rattle.kishu_objects_laws.specs.ListLaws.{in_at}
use Rattle.kishu_picture.proofs.Steps.{rest_at, no_rest, node_is}
use Rattle.kishu_picture.proofs.Summing.{summing_begins, summing_goes_on, summed}
use Rattle.kishu_picture.proofs.lengths.rows_len.Goals as goal

pub loop-i-init : goal.loop-i-init
loop-i-init g c = record { sums = summing_begins row_bytes (map (node_at c.args.heap.now) c.args.found.now.keys) 4 refl; reads = omega arith }

pub node-node-requires : goal.node-node-requires
node-node-requires g c = c.requires.low c.in-Some.id.now (in_at c.args.found.now.keys c.loop-i.i c.in-Some.id.now (sym c.in-Some.ensures.key))

pub loop-i-preserved : goal.loop-i-preserved
loop-i-preserved g c =
    let nodes = c.args.heap.now in
    let keys = c.args.found.now.keys in
    let i = c.loop-i.i in
    let id = c.in-Some.id.now in
    let node = node_of c.node-node.result.now in
    let rest = ap (map (node_at nodes)) (rest_at keys i id (sym c.in-Some.ensures.key))
    ∙ ap (λ n. n ∷ map (node_at nodes) (drop (i + 1) keys)) (node_is nodes id node c.node-node.ensures.node) in
    record {
      sums = summing_goes_on row_bytes (map (node_at nodes) keys) (map (node_at nodes) (drop i keys)) (map (node_at nodes) (drop (i + 1) keys)) node
          c.loop-i.len c.saturating_add-len.result c.loop-i.invariant.sums rest
          (omega (arith, c.saturating_add-len.ensures, c.row_len.ensures));
      reads = omega (arith, c.loop-i.invariant.reads, c.node-node.ensures.counted);
    }

pub returns-clause-len : goal.returns-clause-len
returns-clause-len g c =
    let nodes = c.args.heap.now in
    let keys = c.args.found.now.keys in
    let i = c.loop-i.i in
    summed row_bytes (map (node_at nodes) keys) (map (node_at nodes) (drop i keys)) c.loop-i.len c.loop-i.invariant.sums
    (ap (map (node_at nodes)) (no_rest keys i (omega (arith, c.loop-i-test.false, c.len-i-end.ensures.len))))

pub returns-clause-reads : goal.returns-clause-reads
returns-clause-reads g c = (
  omega (arith, c.loop-i.invariant.reads),
  omega
      (arith, c.loop-i.invariant.reads, c.loop-i.auto.i-end, c.len-i-end.ensures.len),
)
