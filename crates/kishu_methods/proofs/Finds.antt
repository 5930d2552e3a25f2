-- One turn of a walk over items that are compared with a value.
use Rattle.std.proofs.Common.{◌≡◌, ◌∙◌, ap, refl, arith, ℕ, suc, ◌+◌, ◌<◌, ◌≤◌, Bool, true, false, List, length, map, drop, get_or, Option, Some, Err}
use Rattle.std.specs.Prelude.{if◌then◌else◌}
use Rattle.kishu_meaning.specs.declared.value.Value as rust
use Rattle.kishu_meaning.specs.values.Values.{Value, value_of, Node}
use Rattle.kishu_meaning.specs.moments.Counting.{Counted, Count, answer, and_then, give}
use Rattle.kishu_meaning.specs.comparing.Equal.{pair_equal, equal_nodes, room_at}
use Rattle.kishu_meaning.specs.items.Finding.{place_from, count_from}
use Rattle.kishu_heap.specs.declared.fault.CompareFault.{CompareFault}
use Rattle.kishu_heap.specs.declared.fault.CompareFault.TheVariants as faults
use Rattle.kishu_heap.specs.Compared.{Gives}
use Rattle.kishu_items.specs.Gathering.{dropped}

pub fault_through : {A B : Type 0} (f : CompareFault) (n : ℕ) (e : Counted A) (g : A → Count B) → Gives {A = A} (Err f) n e → Gives {A = B} (Err f) n (and_then e g)
fault_through faults.Unordered n e g h = h
fault_through faults.Depth n e g h = rw h refl
fault_through faults.Spent n e g h = rw h refl

module _ (ns : List Node) (depth : ℕ) (x : Value) (xs : List rust.Value) (i : ℕ) (v : rust.Value) (within : i < length xs) (is : v ≡ get_or xs i v) (n m : ℕ) where
  abbrev compared : Counted Bool
  compared = pair_equal (equal_nodes ns (room_at depth)) (value_of v) x n

  abbrev places : ℕ → ℕ → Count (Option ℕ)
  places at k = place_from ns depth x at (map value_of (drop k xs))

  place_at : (at : ℕ) → places at i n ≡ and_then compared (λ same. if same then give (Some at) else places (suc at) (i + 1))
  place_at at = rw (dropped xs i v within is) refl

  pub place_fault : (at : ℕ) (f : CompareFault) → Gives {A = Bool} (Err f) m compared → Gives {A = Option ℕ} (Err f) m (places at i n)
  place_fault at f h = rw (place_at at) (fault_through f m _ _ h)

  pub place_here : (at : ℕ) → compared ≡ answer true m → places at i n ≡ answer (Some at) m
  place_here at h = place_at at ∙ rw h refl

  pub place_further : (at : ℕ) → compared ≡ answer false m → places at i n ≡ places (at + 1) (i + 1) m
  place_further at h = (let more : suc at ≡ at + 1 = omega arith in place_at at ∙ rw h (ap (λ k. places k (i + 1) m) more))

  abbrev counts : ℕ → ℕ → Count ℕ
  counts c k = count_from ns depth x c (map value_of (drop k xs))

  count_at : (c : ℕ) → counts c i n ≡ and_then compared (λ same. counts (if same then suc c else c) (i + 1))
  count_at c = rw (dropped xs i v within is) refl

  pub count_fault : (c : ℕ) (f : CompareFault) → Gives {A = Bool} (Err f) m compared → Gives {A = ℕ} (Err f) m (counts c i n)
  count_fault c f h = rw (count_at c) (fault_through f m _ _ h)

  pub count_further : (c d : ℕ) (same : Bool) → compared ≡ answer same m → d ≡ (if same then suc c else c) → counts c i n ≡ counts d (i + 1) m
  count_further c d same h e = count_at c ∙ rw (h, e) refl

pub one_more_at_most : (same : Bool) (c d i : ℕ) → d ≡ (if same then suc c else c) → c ≤ i → d ≤ i + 1
one_more_at_most true c d i e h = omega arith
one_more_at_most false c d i e h = omega arith
