-- Searches for an item are equal on both sides.
use Rattle.std.specs.Prelude.{ℕ, List, suc, ◌≡◌, if◌then◌else◌}
use Rattle.std.proofs.Common.{refl}
use Rattle.kishu_meaning.specs.items.Finding.{place_from, count_from, place_among, count_among}
use Rattle.kishu_meaning.specs.moments.Moment.{Moment}
use Rattle.kishu_meaning.specs.values.Values.{Value}
use Rattle.kishu_pairing_laws.specs.World.{World, SameMoment, SameValue, SameValues, nil, cons, GoQuietly, Is}
use Rattle.kishu_pairing_laws.specs.moments.Counting.{count_bind, count_if, counted_quiet}
use Rattle.kishu_pairing_laws.specs.comparing.Equal.{pair_is, rooms}

module _ (W : World) where
  module _ {s t : Moment} (st : SameMoment W s t) {x y : Value} (xy : SameValue W x y) where
    place_is : (at : ℕ) {vs ws : List Value} → SameValues W vs ws → place_from s.nodes s.depth x at vs ≡ place_from t.nodes t.depth y at ws
    place_is at nil = refl
    place_is at (cons vw z) = count_bind (pair_is W (rooms W st) vw xy) (λ b. count_if b refl (place_is (suc at) z))

    count_is : (n : ℕ) {vs ws : List Value} → SameValues W vs ws → count_from s.nodes s.depth x n vs ≡ count_from t.nodes t.depth y n ws
    count_is n nil = refl
    count_is n (cons vw z) = count_bind (pair_is W (rooms W st) vw xy) (λ b. count_is (if b then suc n else n) z)

  pub place_among_quiet : {x y : Value} {vs ws : List Value} → SameValue W x y → SameValues W vs ws → GoQuietly W Is (place_among x vs) (place_among y ws)
  place_among_quiet xy z = counted_quiet W _ _ (λ s t st. place_is st xy 0 z)

  pub count_among_quiet : {x y : Value} {vs ws : List Value} → SameValue W x y → SameValues W vs ws → GoQuietly W Is (count_among x vs) (count_among y ws)
  count_among_quiet xy z = counted_quiet W _ _ (λ s t st. count_is st xy 0 z)
