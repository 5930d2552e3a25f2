-- A heap after one call. Its nodes in the code are seen as the list that contracts speak of.
use Rattle.std.proofs.Common.{◌≡◌, ◌∙◌, ap, sym, refl, subst, arith, ℕ, zero, suc, ◌+◌, ◌<◌, Bool, true, false, IsTrue, List, [], ◌∷◌, ◌++◌, length, length-append, length-set, map, Result, Ok, Err, OnOk, OnErr}
use Rattle.std.proofs.lemmas.List.{length-map, map-append}
use Rattle.std.specs.Prelude.{slice_set, slice_index_or, Option, if◌then◌else◌}
use Rattle.kishu_meaning.specs.values.Values.{Node}
use Rattle.kishu_meaning.specs.values.Nodes.{changed, found}
use Rattle.kishu_meaning.specs.values.Sound.{is_sound_node, are_sound_nodes, is_sound_heap}
use Rattle.kishu_heap.specs.declared.node.Node as rust
use Rattle.kishu_heap.specs.Cells.{node_of}
use Rattle.kishu_heap.specs.Changing.{length_changed}
use Rattle.kishu_heap.proofs.Changes.{changed_set, unchanged_set}
use Rattle.kishu_heap.proofs.Soundness.{both, all_append, Keeps, changed_sound, node_more, nodes_more}

-- what holds of the nodes
abbrev pub IsHeap : (most : ℕ) → List rust.Node → Type 0
IsHeap most ns = IsTrue (is_sound_heap (map node_of ns)) × length ns < most

-- ---- where the node at a place is changed

-- The nodes ns are seen as s, and n is the one at the place i.
module _ (ns : List rust.Node) (s : List Node) (i : ℕ) (n : rust.Node) (seen : map node_of ns ≡ s) (within : i < length s) (here : n ≡ slice_index_or ns i n) where
  inside : i < length ns
  inside = omega (arith, length-map ns node_of, ap length seen)

  pub changes : (m : rust.Node) (f : Node → Node) → node_of m ≡ f (node_of n) → map node_of (slice_set ns i m) ≡ changed f i s
  changes m f h = changed_set ns i m n f inside (h ∙ ap (λ x. f (node_of x)) here) ∙ ap (changed f i) seen

  pub stays : (m : rust.Node) → node_of m ≡ node_of n → map node_of (slice_set ns i m) ≡ s
  stays m h = unchanged_set ns i m n inside (h ∙ ap node_of here) ∙ seen

  module _ (most : ℕ) (before : IsHeap most ns) where
    pub stays_heap : (m : rust.Node) → node_of m ≡ node_of n → IsHeap most (slice_set ns i m)
    stays_heap m h =
        (subst (λ r. IsTrue (is_sound_heap r)) (seen ∙ sym (stays m h)) before.0, rw length-set before.1)

    pub changes_heap : (m : rust.Node) (f : Node → Node) → Keeps (length s) f → node_of m ≡ f (node_of n) → IsHeap most (slice_set ns i m)
    changes_heap m f keeps h =
        let sound : IsTrue (is_sound_heap s) = subst (λ r. IsTrue (is_sound_heap r)) seen before.0 in
        let all : IsTrue (are_sound_nodes (length s) (changed f i s)) = changed_sound (length s) f keeps i s sound in
        let after : IsTrue (is_sound_heap (changed f i s)) = subst (λ k. IsTrue (are_sound_nodes k (changed f i s))) (sym (length_changed f i s)) all in
        (subst (λ r. IsTrue (is_sound_heap r)) (sym (changes m f h)) after, rw length-set before.1)

    -- a call that may find no memory
    pub ends_heap : {T E : Type 0} (r : Result T E) (m : rust.Node) (f : Node → Node) → Keeps (length s) f → OnOk r (node_of m ≡ f (node_of n)) → OnErr r (node_of m ≡ node_of n) → IsHeap most (slice_set ns i m)
    ends_heap (Ok a) m f keeps ok err = changes_heap m f keeps ok
    ends_heap (Err e) m f keeps ok err = stays_heap m err

-- what is read in the node at a place
pub reads : {A : Type 0} (g : Node → Option A) (ns : List rust.Node) (i : ℕ) (n : rust.Node) → i < length ns → n ≡ slice_index_or ns i n → g (node_of n) ≡ found g i (map node_of ns)
reads g [] i n p h = absurd (omega arith)
reads g (x ∷ xs) zero n p h = ap (λ y. g (node_of y)) h
reads g (x ∷ xs) (suc i) n p h = reads g xs i n (omega arith) h

pub finds_in : {A : Type 0} (g : Node → Option A) (ns : List rust.Node) (s : List Node) (i : ℕ) (n : rust.Node) → map node_of ns ≡ s → i < length s → n ≡ slice_index_or ns i n → g (node_of n) ≡ found g i s
finds_in g ns s i n seen within here = reads g ns i n (omega (arith, length-map ns node_of, ap length seen)) here ∙ ap (found g i) seen

-- ---- where nodes are added

module _ (most : ℕ) (ns : List rust.Node) (s : List Node) (seen : map node_of ns ≡ s) (before : IsHeap most ns) where
  sound_more : (k : ℕ) → IsTrue (are_sound_nodes (length s + k) s)
  sound_more k = nodes_more (length s) (length s + k) (omega arith) s (subst (λ r. IsTrue (is_sound_heap r)) seen before.0)

  pub adds_heap : (ms : List rust.Node) → length s + length ms < most → IsTrue (are_sound_nodes (length s + length ms) (map node_of ms)) → IsHeap most (ns ++ ms)
  adds_heap ms room sound =
      let together : map node_of (ns ++ ms) ≡ s ++ map node_of ms = map-append node_of ns ms ∙ ap (λ r. r ++ map node_of ms) seen in
      let long : length s + length ms ≡ length (s ++ map node_of ms) = omega (arith, length-append s (map node_of ms), length-map ms node_of) in
      let all : IsTrue (are_sound_nodes (length s + length ms) (s ++ map node_of ms)) = all_append (is_sound_node (length s + length ms)) s (map node_of ms) (sound_more (length ms)) sound in
      let after : IsTrue (is_sound_heap (s ++ map node_of ms)) = subst (λ k. IsTrue (are_sound_nodes k (s ++ map node_of ms))) long all in
      (subst (λ r. IsTrue (is_sound_heap r)) (sym together) after, omega (arith, length-append ns ms, length-map ns node_of, ap length seen))

  pub adds_one_heap : (m : rust.Node) → length s + 1 < most → IsTrue (is_sound_node (length s) (node_of m)) → IsHeap most (ns ++ m ∷ [])
  adds_one_heap m room sound =
      adds_heap (m ∷ []) room (both (is_sound_node (length s + 1) (node_of m)) true (node_more (length s) (length s + 1) (omega arith) (node_of m) sound) refl)

  -- nodes that are added where there is memory
  pub may_add_heap : (new ms : List rust.Node) (b : Bool) → new ≡ (if b then ns ++ ms else ns) → length s + length ms < most → IsTrue (are_sound_nodes (length s + length ms) (map node_of ms)) → IsHeap most new
  may_add_heap new ms true e room sound = subst (IsHeap most) (sym e) (adds_heap ms room sound)
  may_add_heap new ms false e room sound = subst (IsHeap most) (sym e) before
