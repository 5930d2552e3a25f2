-- One turn of a walk over two lists of values, and over the entries of a map.
use Rattle.std.proofs.Common.{◌≡◌, ◌∙◌, ap, sym, refl, arith, ℕ, zero, suc, ◌-◌, ◌+◌, ◌<◌, Bool, true, false, List, ◌∷◌, length, map, drop, get_or, drop-cons, add-one, Option, Some, Result, Err}
use Rattle.std.specs.Prelude.{slice_get, if◌then◌else◌}
use Rattle.std.proofs.lemmas.Option.{slice_get_within, get_or_from_slice_get}
use Rattle.kishu_meaning.specs.declared.value.Value as rust
use Rattle.kishu_meaning.specs.values.Values.{Value, value_of, Node}
use Rattle.kishu_meaning.specs.values.Nodes.{value_at}
use Rattle.kishu_meaning.specs.moments.Counting.{Count, answer, and_then, give}
use Rattle.kishu_meaning.specs.comparing.Equal.{node_in, equal_by, pair_equal, items_equal, value_equal, entries_equal, nodes_equal, equal_nodes}
use Rattle.kishu_heap.specs.declared.fault.CompareFault.{CompareFault}
use Rattle.kishu_heap.specs.Compared.{Gives}
use Rattle.kishu_heap.proofs.Counts.{fault_through}

-- two values that are nodes
pub both_nodes : (ns : List Node) (room : ℕ) (a b : Value) (i j : ℕ) (r : Result Bool CompareFault) (n m : ℕ) → Some i ≡ node_in a → Some j ≡ node_in b → (room ≡ 0 → ⊥)
    → Gives r m (nodes_equal (equal_nodes ns (room - 1)) i j (slice_get ns i) (slice_get ns j) n) → Gives r m (equal_by (equal_nodes ns room) a b n)
both_nodes ns zero a b i j r n m p q z h = absurd (z refl)
both_nodes ns (suc room) a b i j r n m p q z h = let e : suc room - 1 ≡ room = omega arith in rw (← p, ← q) (rw e at h)

pub dropped : {A : Type 0} (xs : List A) (i : ℕ) (x : A) → i < length xs → x ≡ get_or xs i x → drop i xs ≡ x ∷ drop (i + 1) xs
dropped xs i x h p = rw add-one (drop-cons xs i x h ∙ ap (λ y. y ∷ drop (suc i) xs) (sym p))

module _ (nodes : ℕ → ℕ → Count Bool) (xs ys : List rust.Value) (i : ℕ) (x y : rust.Value) (in_xs : i < length xs) (in_ys : i < length ys) (is_x : x ≡ get_or xs i x) (is_y : y ≡ get_or ys i y) (n m : ℕ) where
  abbrev from : ℕ → Count Bool
  from k = items_equal nodes (map value_of (drop k xs)) (map value_of (drop k ys))

  item_at : from i n ≡ and_then (pair_equal nodes (value_of x) (value_of y) n) (λ same. if same then from (i + 1) else give false)
  item_at = rw (dropped xs i x in_xs is_x, dropped ys i y in_ys is_y) refl

  pub item_fault : (f : CompareFault) → Gives (Err f) m (pair_equal nodes (value_of x) (value_of y) n) → Gives (Err f) m (from i n)
  item_fault f h = rw item_at (fault_through f m _ _ h)

  pub item_differs : pair_equal nodes (value_of x) (value_of y) n ≡ answer false m → from i n ≡ answer false m
  item_differs h = item_at ∙ rw h refl

  pub item_equals : pair_equal nodes (value_of x) (value_of y) n ≡ answer true m → from i n ≡ from (i + 1) m
  item_equals h = item_at ∙ rw h refl

module _ (nodes : ℕ → ℕ → Count Bool) {K J : Type 0} (key_of : K → J) (is_key : J → J → Bool) (es : List (K × rust.Value)) (gs : List (J × Value)) (i : ℕ) (k : K) (v : rust.Value) (found : Option Value) (entry : slice_get es i ≡ Some (k, v)) (under : found ≡ value_at is_key (key_of k) gs) (n m : ℕ) where
  abbrev over : ℕ → Count Bool
  over j = entries_equal nodes is_key (map (λ e. (key_of e.0, value_of e.1)) (drop j es)) gs

  entry_at : over i n ≡ and_then (value_equal nodes (value_of v) found n) (λ same. if same then over (i + 1) else give false)
  entry_at = rw (dropped es i (k, v) (slice_get_within es i (k, v) entry) (sym (get_or_from_slice_get es i (k, v) (k, v) entry)), under) refl

  pub entry_fault : (f : CompareFault) → Gives (Err f) m (value_equal nodes (value_of v) found n) → Gives (Err f) m (over i n)
  entry_fault f h = rw entry_at (fault_through f m _ _ h)

  pub entry_differs : value_equal nodes (value_of v) found n ≡ answer false m → over i n ≡ answer false m
  entry_differs h = entry_at ∙ rw h refl

  pub entry_equals : value_equal nodes (value_of v) found n ≡ answer true m → over i n ≡ over (i + 1) m
  entry_equals h = entry_at ∙ rw h refl
