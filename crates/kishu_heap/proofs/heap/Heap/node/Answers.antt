use Rattle.std.proofs.Common.{◌≡◌, ◌<◌, ℕ, zero, suc, ap, sym, subst, arith, length, map, get_or, IsTrue, List, [], ◌∷◌}
use Rattle.std.proofs.lemmas.List.{length-map}
use Rattle.kishu_meaning.specs.values.Sound.{is_sound_node, are_sound_nodes}
use Rattle.kishu_heap.specs.declared.node.Node as rust
use Rattle.kishu_heap.specs.Cells.{node_of}
use Rattle.kishu_heap.proofs.Soundness.{first, second}
use Rattle.kishu_heap.proofs.heap.Heap.node.Goals as goal

among : (n : ℕ) (xs : List rust.Node) (i : ℕ) (x : rust.Node) → IsTrue (are_sound_nodes n (map node_of xs)) → i < length xs → x ≡ get_or xs i x → IsTrue (is_sound_node n (node_of x))
among n [] i x a h p = absurd (omega arith)
among n (y ∷ ys) zero x a h p = subst (λ z. IsTrue (is_sound_node n (node_of z))) (sym p) (first (is_sound_node n (node_of y)) _ a)
among n (y ∷ ys) (suc i) x a h p = among n ys i x (second (is_sound_node n (node_of y)) _ a) (omega arith) p

pub returns-clause-sound : goal.returns-clause-sound
returns-clause-sound g c =
    let xs = c.self.inside.nodes.items in
    let v : map node_of xs ≡ c.args.self.now = c.self.view_is in
    let i : c.args.id.0 < length xs = omega (arith, length-map xs node_of, ap length v) in
    rw (← v) (among (length (map node_of xs)) xs c.args.id.0 c.index.result.now c.self.invariant.0 i c.index.ensures)
