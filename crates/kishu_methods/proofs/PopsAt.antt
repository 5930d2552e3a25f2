-- An item that is taken out of a list by its index.
use Rattle.std.proofs.Common.{◌≡◌, refl, arith, ℕ, ◌<◌, List, [], ◌∷◌, length, Some, Result}
use Rattle.std.specs.Prelude.{ℤ}
use Rattle.kishu_meaning.specs.declared.value.Value as rust
use Rattle.kishu_meaning.specs.items.Indexes.{index_of, place_of}
use Rattle.kishu_meaning.specs.calls.Methods.{list_row, pop, pop_at, take_out}
use Rattle.kishu_meaning.specs.moments.Moment.{Moment, fine, and_then}
use Rattle.kishu_meaning.specs.values.Nodes.{last_of}
use Rattle.kishu_meaning.specs.values.Values.{Value, value_of}
use Rattle.kishu_heap.specs.declared.fault.CallFault.{CallFault}
use Rattle.kishu_items.specs.Failing.{fails_through}
use Rattle.kishu_methods.specs.Called.{Fails, Gives}

last_there : (v : Value) (vs : List Value) → (last : Value) × (last_of (v ∷ vs) ≡ Some last)
last_there v [] = (v, refl)
last_there v (w ∷ ws) = last_there w ws

-- A list that isn't empty looks at the index.
looks : (i : ℕ) (vs : List Value) (z : ℤ) (s : Moment) → 0 < length vs → pop_at i vs z s ≡ and_then (place_of (length vs) z s) (take_out i vs)
looks i [] z s h = absurd (omega arith)
looks i (v ∷ vs) z s h = (let last = last_there v vs in rw last.1 refl)

module _ (at : Value) (i n : ℕ) (vs : List Value) (z : ℤ) (s : Moment) (index : index_of at s ≡ fine z s) (len : n ≡ length vs) (some : 0 < n) where
  row : list_row pop i vs (at ∷ []) s ≡ and_then (place_of n z s) (take_out i vs)
  row = rw (index, len) (looks i vs z s (omega (arith, len)))

  pub taken : (place : ℕ) (r : Result rust.Value CallFault) (t : Moment) → place_of n z s ≡ fine place s → Gives value_of r t (take_out i vs place s) → Gives value_of r t (list_row pop i vs (at ∷ []) s)
  taken place r t p h = rw (row, p) h

  pub untaken : (f : CallFault) → Fails f s (place_of n z s) → Fails f s (list_row pop i vs (at ∷ []) s)
  untaken f h = rw row (fails_through f s (place_of n z s) (take_out i vs) h)
