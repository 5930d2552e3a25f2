-- One turn of a walk over two lists of values by their order, and its end.
use Rattle.std.proofs.Common.{◌≡◌, ◌∙◌, refl, arith, ℕ, zero, suc, ◌+◌, ◌<◌, ◌≤◌, Bool, true, false, List, [], ◌∷◌, length, map, drop, get_or, Option, Some, Err}
use Rattle.std.specs.Prelude.{min, nat_lt, if◌then◌else◌}
use Rattle.std.proofs.lemmas.Option.{slice_get_read}
use Rattle.std.proofs.lemmas.Bool.Decides.{nat_tests}
use Rattle.kishu_meaning.specs.declared.value.Value as rust
use Rattle.kishu_meaning.specs.values.Values.{Value, value_of}
use Rattle.kishu_meaning.specs.moments.Counting.{Counted, Count, answer, and_then}
use Rattle.kishu_meaning.specs.comparing.Equal.{less_by, items_less}
use Rattle.kishu_heap.specs.declared.fault.CompareFault.{CompareFault}
use Rattle.kishu_heap.specs.declared.fault.CompareFault.TheVariants as faults
use Rattle.kishu_heap.specs.Compared.{Gives, Orders}
use Rattle.kishu_heap.proofs.Walks.{dropped}

pub one_read : {A : Type 0} (xs : List A) (i : ℕ) (x y : A) → i < length xs → x ≡ get_or xs i x → y ≡ get_or xs i y → x ≡ y
one_read xs i x y h p q =
    let a = slice_get_read xs (length xs) i x refl h p in
    let b = slice_get_read xs (length xs) i y refl h q in
    cc

fault_ordered : (f : CompareFault) (n : ℕ) (e : Counted Bool) (g : Bool → Count (Option Bool)) → Gives {A = Bool} (Err f) n e → Orders (Err f) n (and_then e g)
fault_ordered faults.Unordered n e g h = absurd h
fault_ordered faults.Depth n e g h = rw h refl
fault_ordered faults.Spent n e g h = rw h refl

module _ (pairs : Value → Value → Count Bool) (nodes : ℕ → ℕ → Count (Option Bool)) where
  module _ (xs ys : List rust.Value) (i : ℕ) (x y : rust.Value) (in_xs : i < length xs) (in_ys : i < length ys) (is_x : x ≡ get_or xs i x) (is_y : y ≡ get_or ys i y) (n m : ℕ) where
    abbrev from : ℕ → Count (Option Bool)
    from k = items_less pairs nodes (map value_of (drop k xs)) (map value_of (drop k ys))

    order_at : from i n ≡ and_then (pairs (value_of x) (value_of y) n) (λ same. if same then from (i + 1) else less_by nodes (value_of x) (value_of y))
    order_at = rw (dropped xs i x in_xs is_x, dropped ys i y in_ys is_y) refl

    pub order_fault : (f : CompareFault) → Gives {A = Bool} (Err f) m (pairs (value_of x) (value_of y) n) → Orders (Err f) m (from i n)
    order_fault f h = rw order_at (fault_ordered f m _ _ h)

    pub order_differs : pairs (value_of x) (value_of y) n ≡ answer false m → from i n ≡ less_by nodes (value_of x) (value_of y) m
    order_differs h = order_at ∙ rw h refl

    pub order_goes_on : pairs (value_of x) (value_of y) n ≡ answer true m → from i n ≡ from (i + 1) m
    order_goes_on h = order_at ∙ rw h refl

  -- where one of the lists ends
  pub order_end : (xs ys : List rust.Value) (i n : ℕ) → i ≤ min (length xs) (length ys) → min (length xs) (length ys) ≤ i
      → items_less pairs nodes (map value_of (drop i xs)) (map value_of (drop i ys)) n ≡ answer (Some (nat_lt (length xs) (length ys))) n
  order_end [] [] zero n p q = refl
  order_end [] [] (suc i) n p q = absurd (omega arith)
  order_end [] (y ∷ ys) zero n p q = let h : nat_lt 0 (length (y ∷ ys)) ≡ true = grind (arith, nat_tests) in rw h refl
  order_end [] (y ∷ ys) (suc i) n p q = absurd (omega arith)
  order_end (x ∷ xs) [] zero n p q = let h : nat_lt (length (x ∷ xs)) 0 ≡ false = grind (arith, nat_tests) in rw h refl
  order_end (x ∷ xs) [] (suc i) n p q = absurd (omega arith)
  order_end (x ∷ xs) (y ∷ ys) zero n p q = absurd (omega arith)
  order_end (x ∷ xs) (y ∷ ys) (suc i) n p q =
      let h : nat_lt (length (x ∷ xs)) (length (y ∷ ys)) ≡ nat_lt (length xs) (length ys) = grind (arith, nat_tests) in
      rw h (order_end xs ys i n (omega arith) (omega arith))
