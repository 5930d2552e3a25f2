-- Nodes that correspond: looking at them, making and changing them.
use Rattle.std.specs.Prelude.{List, ℕ, length, slice_get, zero, suc, ◌≡◌, ◌<◌, [], ◌∷◌, ◌++◌, Some, None, ◌≤◌, option_map, ◌+◌, Option}
use Rattle.std.proofs.Common.{arith, refl, ap, inl, inr, length-append, ◌∙◌}
use Rattle.std.proofs.lemmas.Bool.{cases_lt, cases_eq}
use Rattle.kishu_meaning.specs.moments.Moment.{Moment, node_at, node_now, make, change}
use Rattle.kishu_meaning.specs.values.Nodes.{changed}
use Rattle.kishu_meaning.specs.values.Values.{Node, Value, none, bool, integer, text, range, builtin, class, node}
use Rattle.kishu_soundness_laws.specs.moments.Heap.{changed_length}
use Rattle.kishu_pairing_laws.specs.World.{World, Paired, SameValue, SameMoment, BothOrNeither, SameNode, plain, neither, paired, GoQuietly, both_fine, SameHeaps, both, Any}

get_front : {A : Type 0} (xs ys : List A) (i : ℕ) → i < length xs → slice_get (xs ++ ys) i ≡ slice_get xs i
get_front [] ys i h = absurd (omega arith)
get_front (x ∷ xs) ys zero h = refl
get_front (x ∷ xs) ys (suc i) h = get_front xs ys i (omega arith)

get_seam : {A : Type 0} (xs : List A) (y : A) → slice_get (xs ++ y ∷ []) (length xs) ≡ Some y
get_seam [] y = refl
get_seam (x ∷ xs) y = get_seam xs y

get_past : {A : Type 0} (xs : List A) (i : ℕ) → length xs ≤ i → slice_get xs i ≡ None
get_past [] i h = refl
get_past (x ∷ xs) zero h = absurd (omega arith)
get_past (x ∷ xs) (suc i) h = get_past xs i (omega arith)

get_changed : (f : Node → Node) (i : ℕ) (ns : List Node) → slice_get (changed f i ns) i ≡ option_map f (slice_get ns i)
get_changed f i [] = refl
get_changed f zero (n ∷ ns) = refl
get_changed f (suc i) (n ∷ ns) = get_changed f i ns

get_unchanged : (f : Node → Node) (i j : ℕ) (ns : List Node) → (j ≡ i → ⊥) → slice_get (changed f i ns) j ≡ slice_get ns j
get_unchanged f i j [] h = refl
get_unchanged f zero zero (n ∷ ns) h = absurd (h refl)
get_unchanged f zero (suc j) (n ∷ ns) h = refl
get_unchanged f (suc i) zero (n ∷ ns) h = refl
get_unchanged f (suc i) (suc j) (n ∷ ns) h = get_unchanged f i j ns (λ e. h (ap suc e))

module _ (W : World) where
  -- ---- the pairing is one to one

  pub paired_right : (i j k : ℕ) → Paired W i j → Paired W i k → j ≡ k
  paired_right i j k (inl p) (inl q) = W.one_right i j k p q
  paired_right i j k (inl p) (inr q) = let h : i < length W.nodes_here = W.left_in i j p in omega arith
  paired_right i j k (inr p) (inl q) = let h : i < length W.nodes_here = W.left_in i k q in omega arith
  paired_right i j k (inr p) (inr q) = omega arith

  pub paired_left : (i j k : ℕ) → Paired W i k → Paired W j k → i ≡ j
  paired_left i j k (inl p) (inl q) = W.one_left i j k p q
  paired_left i j k (inl p) (inr q) = let h : k < length W.nodes_there = W.right_in i k p in omega arith
  paired_left i j k (inr p) (inl q) = let h : k < length W.nodes_there = W.right_in j k q in omega arith
  paired_left i j k (inr p) (inr q) = omega arith

  -- ---- looking

  pub node_of : {v w : Value} {s t : Moment} → SameValue W v w → SameMoment W s t → BothOrNeither (SameNode W) (node_at s.nodes v) (node_at t.nodes w)
  node_of (plain none p) st = neither
  node_of (plain (bool b) p) st = neither
  node_of (plain (integer z) p) st = neither
  node_of (plain (text cs) p) st = neither
  node_of (plain (range a b c) p) st = neither
  node_of (plain (builtin n) p) st = neither
  node_of (plain (class n) p) st = neither
  node_of (plain (node n) p) st = absurd p
  node_of (paired i j p) st = st.heaps.closed i j p

  pub node_now_quiet : {v w : Value} → SameValue W v w → GoQuietly W (BothOrNeither (SameNode W)) (node_now v) (node_now w)
  node_now_quiet vw = record { go = λ s t st. both_fine (node_of vw st) st; stays = λ s t st. refl }

  -- ---- a new node on both sides

  below : {i j : ℕ} {ns ms : List Node} → SameHeaps W ns ms → Paired W i j → (i < length ns → j < length ms) × (j < length ms → i < length ns)
  below {i = i} {j = j} h (inl p) = let a : i < length W.nodes_here = W.left_in i j p in let b : j < length W.nodes_there = W.right_in i j p in ((λ k. omega (arith, h.base, h.counts)), (λ k. omega (arith, h.base, h.counts)))
  below h (inr p) = ((λ k. omega (arith, h.base, h.counts)), (λ k. omega (arith, h.base, h.counts)))

  same_end : {i j : ℕ} {ns ms : List Node} → SameHeaps W ns ms → Paired W i j → i ≡ length ns → j ≡ length ms
  same_end {i = i} {j = j} h (inl p) e = let a : i < length W.nodes_here = W.left_in i j p in omega (arith, h.base)
  same_end h (inr p) e = omega (arith, h.base, h.counts)

  abbrev More : List Node → List Node → Node → Node → ℕ → ℕ → Type 0
  More ns ms c d i j = BothOrNeither (SameNode W) (slice_get (ns ++ c ∷ []) i) (slice_get (ms ++ d ∷ []) j)

  more_end : (ns ms : List Node) {c d : Node} (i j : ℕ) → SameNode W c d → i ≡ length ns → j ≡ length ms → More ns ms c d i j
  more_end ns ms {c = c} {d = d} i j cd e f = rw (e, f, get_seam ns c, get_seam ms d) (both cd)

  more_past : (ns ms : List Node) (c d : Node) (i j : ℕ) → length ns + 1 ≤ i → length ms + 1 ≤ j → More ns ms c d i j
  more_past ns ms c d i j h k = rw (get_past (ns ++ c ∷ []) i (omega (arith, length-append ns (c ∷ []), h)), get_past (ms ++ d ∷ []) j (omega (arith, length-append ms (d ∷ []), k))) neither

  more_front : {ns ms : List Node} (c d : Node) (i j : ℕ) → SameHeaps W ns ms → Paired W i j → i < length ns → j < length ms → More ns ms c d i j
  more_front {ns = ns} {ms = ms} c d i j h p a b = rw (get_front ns (c ∷ []) i a, get_front ms (d ∷ []) j b) (h.closed i j p)

  more_closed : {ns ms : List Node} {c d : Node} → SameHeaps W ns ms → SameNode W c d → (i j : ℕ) → Paired W i j → More ns ms c d i j
  more_closed {ns = ns} {ms = ms} {c = c} {d = d} h cd i j p =
      elim (cases_lt i (length ns)) [
        | inl l ↦ more_front c d i j h p l ((below h p).0 l)
        | inr l ↦ elim (cases_eq i (length ns)) [
          | inl e ↦ more_end ns ms i j cd e (same_end h p e)
          | inr n ↦ elim (cases_lt j (length ms)) [
            | inl b ↦ (let a = (below h p).1 b in absurd (omega arith))
            | inr b ↦ elim (cases_eq j (length ms)) [
              | inl f ↦ absurd (n (paired_left i (length ns) j p (rw f (inr (h.base, h.counts)))))
              | inr m ↦ more_past ns ms c d i j (omega arith) (omega arith)
            ]
          ]
        ]
      ]

  pub more_nodes : {ns ms : List Node} {c d : Node} → SameHeaps W ns ms → SameNode W c d → SameHeaps W (ns ++ c ∷ []) (ms ++ d ∷ [])
  more_nodes {ns = ns} {ms = ms} {c = c} {d = d} h cd = record {
    base = omega (arith, h.base, length-append ns (c ∷ []));
    counts = omega (arith, h.counts, length-append ns (c ∷ []), length-append ms (d ∷ []));
    closed = more_closed h cd;
    left_stays = λ i lt un. get_front ns (c ∷ []) i (omega (arith, h.base)) ∙ h.left_stays i lt un;
    right_stays = λ j lt un. get_front ms (d ∷ []) j (omega (arith, h.base, h.counts)) ∙ h.right_stays j lt un;
  }

  with_heaps : {s t : Moment} {ns ms : List Node} → SameMoment W s t → SameHeaps W ns ms → SameMoment W (record s { nodes = ns }) (record t { nodes = ms })
  with_heaps st h = record { profile = st.profile; names = st.names; heaps = h; accessed = st.accessed; locals = st.locals; handled = st.handled; left = st.left; depth = st.depth; out = st.out }

  pub make_quiet : {c d : Node} → SameNode W c d → GoQuietly W (SameValue W) (make c) (make d)
  make_quiet cd = record {
    go = λ s t st. both_fine (paired (length s.nodes) (length t.nodes) (inr (st.heaps.base, st.heaps.counts))) (with_heaps st (more_nodes st.heaps cd));
    stays = λ s t st. refl;
  }

  -- ---- a changed node

  unpaired_left : (i j k : ℕ) → Paired W i j → k < length W.nodes_here → ((l : ℕ) → W.P k l → ⊥) → k ≡ i → ⊥
  unpaired_left i j k (inl p) lt un e = un j (rw e p)
  unpaired_left i j k (inr p) lt un e = omega arith

  unpaired_right : (i j k : ℕ) {ns ms : List Node} → SameHeaps W ns ms → Paired W i j → k < length W.nodes_there → ((l : ℕ) → W.P l k → ⊥) → k ≡ j → ⊥
  unpaired_right i j k h (inl p) lt un e = un i (rw e p)
  unpaired_right i j k h (inr p) lt un e = omega arith

  opt_changed : (f g : Node → Node) → ((c d : Node) → SameNode W c d → SameNode W (f c) (g d)) → {o p : Option Node} → BothOrNeither (SameNode W) o p → BothOrNeither (SameNode W) (option_map f o) (option_map g p)
  opt_changed f g h neither = neither
  opt_changed f g h (both {a = a} {b = b} r) = both (h a b r)

  change_closed : {ns ms : List Node} (f g : Node → Node) → ((c d : Node) → SameNode W c d → SameNode W (f c) (g d)) → (i j : ℕ) → Paired W i j → SameHeaps W ns ms → (k l : ℕ) → Paired W k l → BothOrNeither (SameNode W) (slice_get (changed f i ns) k) (slice_get (changed g j ms) l)
  change_closed {ns = ns} {ms = ms} f g fg i j p h k l q =
      elim (cases_eq k i) [
        | inl e ↦ (
            let m : l ≡ j = paired_right i l j (rw e at q) p in
            rw (e, m, get_changed f i ns, get_changed g j ms) (opt_changed f g fg (h.closed i j p)))
        | inr n ↦ (
            let m : l ≡ j → ⊥ = λ e. n (paired_left k i j (rw e at q) p) in
            rw (get_unchanged f i k ns n, get_unchanged g j l ms m) (h.closed k l q))
      ]

  pub change_quiet : {i j : ℕ} (f g : Node → Node) → Paired W i j → ((c d : Node) → SameNode W c d → SameNode W (f c) (g d)) → GoQuietly W Any (change i f) (change j g)
  change_quiet {i = i} {j = j} f g p fg = record {
    go = λ s t st. both_fine tt (with_heaps st (record {
      base = omega (arith, st.heaps.base, changed_length f i s.nodes);
      counts = omega (arith, st.heaps.counts, changed_length f i s.nodes, changed_length g j t.nodes);
      closed = change_closed f g fg i j p st.heaps;
      left_stays = λ k lt un. get_unchanged f i k s.nodes (unpaired_left i j k p lt un) ∙ st.heaps.left_stays k lt un;
      right_stays = λ k lt un. get_unchanged g j k t.nodes (unpaired_right i j k st.heaps p lt un) ∙ st.heaps.right_stays k lt un;
    }));
    stays = λ s t st. refl;
  }
