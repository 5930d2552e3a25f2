-- What the rules of items, slices and attributes raise is sound.
use Rattle.std.proofs.Common.{refl, ℕ}
use Rattle.std.specs.Prelude.{ℤ}
use Rattle.kishu_meaning.specs.comparing.Equal.{number_in}
use Rattle.kishu_meaning.specs.items.Indexes.{index_of, place_in, place_of, out_of_range}
use Rattle.kishu_meaning.specs.values.Kinds.{bad_index}
use Rattle.kishu_meaning.specs.items.Subscripts.{position}
use Rattle.kishu_meaning.specs.values.Values.{Value}
use Rattle.kishu_machine.specs.Raising.{RaisesSound, then_raises, or_else_raises}

module _ (n : ℕ) where
  pub bad_index_raises : {A : Type 0} (v : Value) → RaisesSound n (bad_index {A = A} v)
  bad_index_raises v = record { raises = λ s. refl }

  pub out_of_range_raises : {A : Type 0} → RaisesSound n (out_of_range {A = A})
  out_of_range_raises = record { raises = λ s. refl }

  pub index_raises : (v : Value) → RaisesSound n (index_of v)
  index_raises v = or_else_raises n (bad_index v) (number_in v) (bad_index_raises v)

  pub place_raises : (size : ℕ) (z : ℤ) → RaisesSound n (place_of size z)
  place_raises size z = or_else_raises n out_of_range (place_in size z) out_of_range_raises
