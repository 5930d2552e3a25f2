-- Places in a sequence are equal on both sides.
use Rattle.std.specs.Prelude.{ℕ, ℤ, ◌≡◌, List, codes, ◌++◌}
use Rattle.std.proofs.Common.{subst}
use Rattle.kishu_meaning.specs.comparing.Equal.{number_in}
use Rattle.kishu_meaning.specs.items.Indexes.{index_of, out_of_range, place_of, place_in}
use Rattle.kishu_meaning.specs.items.Subscripts.{position, taken, not_subscriptable}
use Rattle.kishu_meaning.specs.values.Kinds.{in_quotes}
use Rattle.kishu_meaning.specs.values.Values.{Value}
use Rattle.kishu_pairing_laws.specs.World.{World, SameValue, BothOrNeither, Is, GoQuietly, Zip}
use Rattle.kishu_pairing_laws.specs.moments.Steps.{or_else_quiet, raise_quiet, bind_is}
use Rattle.kishu_pairing_laws.specs.values.Lists.{zip_length, zip_get}
use Rattle.kishu_pairing_laws.specs.values.Nodes.{opt_is}
use Rattle.kishu_pairing_laws.specs.values.Kinds.{bad_index_quiet, by_kind}
use Rattle.kishu_pairing_laws.specs.comparing.Equal.{number_same}

module _ (W : World) where
  numbers_opt : {v w : Value} → SameValue W v w → BothOrNeither Is (number_in v) (number_in w)
  numbers_opt {v = v} vw = subst (BothOrNeither Is (number_in v)) (number_same W vw) (opt_is W (number_in v))

  pub index_quiet : {v w : Value} → SameValue W v w → GoQuietly W Is (index_of v) (index_of w)
  index_quiet vw = or_else_quiet W (bad_index_quiet W vw) (numbers_opt vw)

  pub out_of_range_quiet : {A B : Type 0} {R : A → B → Type 0} → GoQuietly W R out_of_range out_of_range
  out_of_range_quiet = raise_quiet W _ _

  pub place_of_quiet : {n m : ℕ} (z : ℤ) → n ≡ m → GoQuietly W Is (place_of n z) (place_of m z)
  place_of_quiet {n = n} z e = subst (λ k. GoQuietly W Is (place_of n z) (place_of k z)) e (or_else_quiet W out_of_range_quiet (opt_is W (place_in n z)))

  pub position_quiet : {n m : ℕ} {v w : Value} → n ≡ m → SameValue W v w → GoQuietly W Is (position n v) (position m w)
  position_quiet e vw = bind_is W (index_quiet vw) (λ z. place_of_quiet z e)

  pub taken_quiet : {A B : Type 0} {R : A → B → Type 0} {as' : List A} {bs : List B} {v w : Value} → Zip R as' bs → SameValue W v w → GoQuietly W R (taken as' v) (taken bs w)
  taken_quiet z vw = bind_is W (position_quiet (zip_length z) vw) (λ k. or_else_quiet W out_of_range_quiet (zip_get k z))

  pub not_subscriptable_quiet : {A B : Type 0} {R : A → B → Type 0} {v w : Value} → SameValue W v w → GoQuietly W R (not_subscriptable v) (not_subscriptable w)
  not_subscriptable_quiet vw = by_kind W _ (λ k. in_quotes k ++ codes " object is not subscriptable") vw
