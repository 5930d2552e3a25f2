use Rattle.std.proofs.Common.{◌≡◌, ◌∷◌, ◌++◌, ◌+◌, List, drop, map, sym, ap, arith, ◌∙◌}
use Rattle.std.specs.Prelude.{ℕ}
use Rattle.kishu_heap.specs.Cells.{node_of}
use Rattle.kishu_objects_laws.specs.ListLaws.{in_at}
use Rattle.kishu_model.specs.Values.{texts_of}
use Rattle.kishu_inspect.specs.Told.{node_told, rows_told}
use Rattle.kishu_inspect.proofs.Bindings.{more_told, row_told}
use Rattle.kishu_inspect.proofs.Pushing.{rest_at}
use Rattle.kishu_inspect.proofs.telling.rows.Goals as goal

pub node-node-requires : goal.node-node-requires
node-node-requires g c =
    c.requires.low c.in-Some.id.now (in_at c.args.found.now.keys c.loop-i.i c.in-Some.id.now (sym c.in-Some.ensures.key))

pub loop-i-preserved : goal.loop-i-preserved
loop-i-preserved g c =
    let keys = c.args.found.now.keys in
    let nodes = c.args.heap.now in
    let id = c.in-Some.id.now in
    let old = c.loop-i.rows.items in
    let rest = rows_told keys nodes (drop (c.loop-i.i + 1) keys) in
    let texts = node_told keys c.node-node.result.now in
    let before : map texts_of old ++ (texts ∷ rest) ≡ rows_told keys nodes keys =
    ap (λ (l : List (List (List ℕ))). map texts_of old ++ l)
    (sym (ap (rows_told keys nodes) (rest_at keys c.loop-i.i id (sym c.in-Some.ensures.key))
    ∙ row_told keys nodes id (drop (c.loop-i.i + 1) keys) (node_of c.node-node.result.now) c.node-node.ensures.node))
    ∙ c.loop-i.invariant.rows in
    record {
      rows = more_told texts_of old c.push.new.self.items c.in_ok-node_row.field-0 texts rest (rows_told keys nodes keys)
          before c.in_ok-push.ensures.items c.in_ok-node_row.ensures;
      counted = omega (arith, c.loop-i.invariant.counted, c.node-node.ensures.counted);
    }
